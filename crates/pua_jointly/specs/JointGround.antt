-- What the words of a device's rows are worked out by.
use Rattle.std.specs.Prelude.{ℕ, List, Option}
use Rattle.pua_jointly.specs.declared.agent.Agent.{Agent}
use Rattle.pua_jointly.specs.declared.crew.Crew.{Crew}
use Rattle.pua_jointly.specs.declared.crew.Entry.{Entry}
use Rattle.pua_jointly.specs.declared.crew.Mark.{Mark}
use Rattle.pua_jointly.specs.declared.crew.Side.{Side}
use Rattle.pua_jointly.specs.declared.crew.Watch.{Watch}
use Rattle.pua_jointly.specs.declared.mover.Mover.{Mover}
use Rattle.pua_jointly.specs.declared.rounds.Ground as code

-- of the crew, and of one device: how many words a row has, the word of what is so of all, the hands before those of the device, the
-- processes and what they move there, and the seats, names with veils and watched directories of the device
pub record Ground : Type 0 where
  pub columns : ℕ
  pub common : ℕ
  pub first : ℕ
  pub agents : List Agent
  pub movers : List Mover
  pub seats : List ℕ
  pub entries : List Entry
  pub marks : List Mark
  pub watches : List Watch
  pub here : List Watch
  pub watch_columns : List (Option ℕ)
  pub devices : List ℕ

abbrev pub ground_of : Crew → Side → Ground
ground_of c side = record {
  columns = c.columns;
  common = c.shape.agents;
  first = side.first;
  agents = c.agents.items;
  movers = side.movers.items;
  seats = side.seats.items;
  entries = c.entries.items;
  marks = side.marks.items;
  watches = c.watches.items;
  here = side.watches.items;
  watch_columns = c.watch_columns.items;
  devices = c.devices.items;
}

abbrev pub ground_at : code.Ground → Ground
ground_at at = ground_of at.crew.now at.side.now
