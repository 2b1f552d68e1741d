use Rattle.pua_tree.proofs.Common.{◌≡◌, map, reverse, distinct_names}
use Rattle.pua_tree.proofs.list.name_set.Given as goal

abbrev pub invariant-loop-row : goal.invariant-loop-row
invariant-loop-row l = l.names.keys ≡ distinct_names (map (λ row. row.name) (reverse (map (λ row. row.now) l.yielded)))
