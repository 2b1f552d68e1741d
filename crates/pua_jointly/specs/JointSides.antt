-- What the code gathers of each device.
use Rattle.std.specs.Prelude.{◌≡◌, ◌+◌, ◌-◌, ◌*◌, ◌&&◌, ◌==◌, ℕ, Bool, false, List, filter, length, nat_le, nat_lt, Option, Some, None, slice_get}
use Rattle.std.specs.Prelude.{if◌then◌else◌}
use Rattle.pua_jointly.specs.JointMembers.{Each}
use Rattle.pua_jointly.specs.declared.agent.Agent.{Agent}
use Rattle.pua_jointly.specs.declared.crew.Mark.{Mark}
use Rattle.pua_jointly.specs.declared.crew.Side.{Side}
use Rattle.pua_jointly.specs.declared.crew.Watch.{Watch}
use Rattle.pua_jointly.specs.declared.mover.Mover.{Mover}
use Rattle.pua_jointly.specs.declared.parts.Parts.{Parts}

-- a directory is on a device, by the devices of directories
abbrev pub is_there : ℕ → Option ℕ → Bool
is_there device None = false
is_there device (Some on) = on == device

abbrev pub is_on_device : List ℕ → ℕ → ℕ → Bool
is_on_device devices device dir = is_there device (slice_get devices dir)

-- it is the first one of its device: the root or a mount point, which nobody takes away
abbrev pub is_top : List ℕ → ℕ → Bool
is_top devices dir = is_on_device devices dir dir

-- and so is what a row is of
abbrev pub is_seat_on : ℕ → List ℕ → ℕ → ℕ → ℕ → ℕ → Bool
is_seat_on dirs devices device first agents seat =
    if nat_lt seat dirs then is_on_device devices device seat
    else nat_le first (seat - dirs) && nat_lt (seat - dirs - first) agents

-- the rows of a process on a device
pub record IsMoverOf (agents : List Agent) (dirs hands first i : ℕ) (mover : Mover) : Type 0 where
  pub agent : Agent
  pub at : slice_get agents i ≡ Some agent
  pub place : mover.place ≡ agent.place
  pub moving : mover.moving ≡ agent.moving
  pub made : mover.made ≡ dirs + (first + i)
  pub landing : mover.landing ≡ dirs + (hands + (first + i))
  pub drops : mover.drops ≡ dirs + (hands + (hands + (first + i)))

-- the part of a device
pub record IsPartOn (parts : Parts) (side : Side) : Type 0 where
  pub many : length side.movers.items ≡ length parts.agents.now
  pub movers : Each (IsMoverOf parts.agents.now (parts.size.shape.last + 1) parts.size.shape.hands side.first) side.movers.items
  pub seats : side.seats.items
      ≡ filter (is_seat_on (parts.size.shape.last + 1) parts.devices.now side.device side.first (length parts.agents.now)) parts.seats.now
  pub marks : side.marks.items ≡ filter (λ (mark : Mark). is_on_device parts.devices.now side.device mark.dir) parts.marks.now
  pub watches : side.watches.items ≡ filter (λ (watch : Watch). is_on_device parts.devices.now side.device watch.dir) parts.watches.now

-- and of each, by its place
pub record IsPart (parts : Parts) (place : ℕ) (side : Side) : Type 0 where
  pub first : side.first ≡ place * length parts.agents.now
  pub part : IsPartOn parts side
