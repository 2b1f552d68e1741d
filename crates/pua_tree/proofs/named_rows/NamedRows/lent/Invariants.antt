use Rattle.pua_tree.proofs.Common.{◌≡◌, ◌++◌, map, lent_entry}
use Rattle.pua_tree.specs.NamedRows.{AreNamed, spot_entry, tree_row}
use Rattle.pua_tree.proofs.named_rows.NamedRows.lent.Given as goal

-- the rows so far and those of the entries that are left
abbrev pub invariant-loop-key : goal.invariant-loop-key
invariant-loop-key l =
    (map lent_entry l.rows.items ++ map tree_row (map (spot_entry l.self.names) l.key-iterator) ≡ map tree_row l.self.entries)
    × AreNamed l.self.names l.key-iterator
