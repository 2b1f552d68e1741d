use Rattle.pua_steps.proofs.Common.{◌≡◌, ◌++◌, drop, filter, is_useful, list_of, entries_at, missing_at}
use Rattle.pua_steps.proofs.lists.Lists.add_list.Given as goal

abbrev pub invariant-loop-entry : goal.invariant-loop-entry
invariant-loop-entry l = record {
  layers : l.self.layers ≡ l.fn.self.layers;
  spans : l.self.spans ≡ l.fn.self.spans;
  so_far : l.self.entries.items ++ filter (is_useful (missing_at l.steps l.dir) l.live.bounds.items l.live.dirs l.left)
      (drop l.entry-index (entries_at l.steps l.dir)) ≡ l.fn.self.entries.items ++ list_of l.steps l.live l.left l.dir;
}
