use Rattle.pua_ever.proofs.Common.{◌≡◌, ℕ, list_any, take}
use Rattle.std.specs.BTreeSet.{contains}
use Rattle.std.specs.Ordering.{nat_cmp}
use Rattle.pua_tree.specs.LentRows.{lent_entry}
use Rattle.pua_ever.specs.Destinations.{is_mounted_in}
use Rattle.pua_ever.proofs.destinations.mounted_among.Given as goal

-- of the rows so far those directories are in the set in which mount points stand
abbrev pub invariant-loop-row : goal.invariant-loop-row
invariant-loop-row g l = record {
  found : (dir : ℕ) → contains nat_cmp l.dirs dir
      ≡ list_any (λ row. is_mounted_in (g.T.FileTree.content l.tree) dir (lent_entry row)) (take l.row-index l.rows);
}
