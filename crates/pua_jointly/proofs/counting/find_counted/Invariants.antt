use Rattle.pua_jointly.proofs.Common.{◌≡◌, map}
use Rattle.std.specs.List.{AllByRecursion}
use Rattle.pua_jointly.specs.JointFound.{AreFacts}
use Rattle.pua_jointly.specs.JointPrograms.{HasProgram, IsSilent, acting_of, crew_by, kept_of, process_of}
use Rattle.pua_jointly.proofs.JointCounting.{AreSoFar, silent}
use Rattle.pua_jointly.proofs.counting.find_counted.Given as goal

-- what was said so far is so, and these are the facts by it
abbrev pub invariant-loop-facts : goal.invariant-loop-facts
invariant-loop-facts g l = record {
  so : AllByRecursion (IsSilent l.table) l.actors →
      AreSoFar (g.T.FileTree.content l.tree) l.table (map process_of l.actors) (map acting_of l.told.items);
  programs : AllByRecursion (IsSilent l.table) l.actors → AllByRecursion (HasProgram l.table) l.told.items;
  facts : AllByRecursion (HasProgram l.table) l.told.items →
      AreFacts (g.T.FileTree.content l.tree) l.table (crew_by l.table (map acting_of l.told.items)) l.facts;
  kept : map kept_of l.told.items ≡ map kept_of l.actors;
}

abbrev pub decreases-loop-facts : goal.decreases-loop-facts
decreases-loop-facts g l = silent l.told.items
