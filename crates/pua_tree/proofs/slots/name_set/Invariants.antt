use Rattle.pua_tree.proofs.Common.{◌≡◌, map, reverse, distinct_names}
use Rattle.pua_tree.proofs.slots.name_set.Given as goal

abbrev pub invariant-loop-row : goal.invariant-loop-row
invariant-loop-row l =
    map (λ name. name.now) l.names.keys ≡ distinct_names (map (λ row. row.name.now) (reverse (map (λ row. row.now) l.yielded)))
