use Rattle.pua_jointly.proofs.Common.{Among, List, ProcessState, take, Tree}
use Rattle.std.specs.List.{Contains}
use Rattle.pua_jointly.specs.JointCalls.{IsOf}
use Rattle.pua_jointly.specs.JointPrograms.{StartsAt}
use Rattle.pua_jointly.specs.declared.crew.Entry.{Entry}
use Rattle.pua_jointly.proofs.facts.Facts.starts_among.Given as goal

-- on none so far
abbrev pub invariant-loop-entry : goal.invariant-loop-entry
invariant-loop-entry l = record {
  none : (t : Tree) (crew : List ProcessState) (a : ProcessState) → IsOf t l.table crew l.self a l.of →
      ((entry : Entry) → Contains l.entries entry → Contains l.self.crew.entries.items entry) → (entry : Entry) →
      Among (take l.entry-index l.entries) entry → StartsAt t l.table crew a entry → ⊥;
}
