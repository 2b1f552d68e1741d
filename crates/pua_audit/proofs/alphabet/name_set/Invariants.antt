use Rattle.pua_audit.proofs.Common.{◌≡◌, map, reverse, lent_entry, distinct_names}
use Rattle.pua_audit.proofs.alphabet.name_set.Given as goal

abbrev pub invariant-loop-row : goal.invariant-loop-row
invariant-loop-row l =
    map (λ name. name.now) l.names.keys ≡ distinct_names (map (λ row. (lent_entry row).0.1) (reverse (map (λ row. row.now) l.yielded)))
