use Rattle.pua_jointly.proofs.Common.{◌≡◌, length, take}
use Rattle.std.specs.Prelude.{◌+◌, filter}
use Rattle.pua_jointly.specs.JointSides.{is_seat_on}
use Rattle.pua_jointly.proofs.setup.seats_on.Given as goal

abbrev pub invariant-loop-seat : goal.invariant-loop-seat
invariant-loop-seat l = record { kept : l.kept.items ≡ filter (is_seat_on (l.parts.size.shape.last + 1) l.parts.devices.now l.device l.first (length l.parts.agents.now)) (take l.seat-index l.seats) }
