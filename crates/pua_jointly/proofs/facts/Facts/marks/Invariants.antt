use Rattle.pua_jointly.proofs.Common.{◌≡◌, length, take}
use Rattle.pua_jointly.specs.JointFound.{AreMarked, turns_in}
use Rattle.pua_jointly.specs.JointRounds.{stays_in}
use Rattle.pua_jointly.proofs.facts.Facts.marks.Given as goal

-- each name so far is marked
abbrev pub invariant-loop-entry : goal.invariant-loop-entry
invariant-loop-entry l = record {
  held_full : length l.held.items ≡ l.count;
  turned_full : length l.turned.items ≡ l.count;
  held : AreMarked (stays_in l.self.crew.columns l.self.crew.shape.agents l.self.told.items) (take l.entry-index l.entries) l.count l.held.items;
  turned : AreMarked (turns_in l.self.crew l.self.told.items) (take l.entry-index l.entries) l.count l.turned.items;
}
