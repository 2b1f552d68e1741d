use Rattle.pua_ever.proofs.Common.{◌≡◌, ◌||◌, ℕ, list_any, take}
use Rattle.std.specs.BTreeSet.{contains}
use Rattle.std.specs.Ordering.{nat_cmp}
use Rattle.pua_ever.specs.Destinations.{has_mount, holds_dir}
use Rattle.pua_ever.proofs.destinations.held_dirs.Given as goal

-- of the veils so far those directories are in the set in which something stays by them, beside those with mount points
abbrev pub invariant-loop-place : goal.invariant-loop-place
invariant-loop-place g l = record {
  found : (dir : ℕ) → contains nat_cmp l.held dir
      ≡ (has_mount (g.T.FileTree.content l.tree) dir
      || list_any (λ place. holds_dir (g.T.FileTree.content l.tree) l.process dir place.now) (take l.place-index l.places));
}
