use Rattle.pua_refused.proofs.Common.{◌∙◌, ◌≡◌, refl, empty_tree}
use Rattle.std.proofs.Common.{ap, subst, Result, Ok, Err}
use Rattle.std.specs.Prelude.{codes}
use Rattle.pua_tree.specs.Tree.{Tree}
use Rattle.pua_tree.specs.Listing.{listing}
use Rattle.pua_path.specs.Resolution.{resolution}
use Rattle.pua_path.specs.declared.errno.Errno.TheVariants.{ELOOP}
use Rattle.pua_path.specs.declared.found.Last.TheVariants.{Followed}
use Rattle.pua_path.specs.declared.text.Ending.TheVariants.{Dot}
use Rattle.pua_refused.proofs.path.named.links_33.Goals as goal

abbrev tree_or : {E : Type 0} → Result Tree E → Tree
tree_or (Ok t) = t
tree_or (Err fault) = empty_tree

too_many : (t : Tree) → listing (codes "tree 1\n0 dir\n1 link 0 a /\n2 link 0 b a/a/a/a/a/a/a\n") ≡ Ok t →
    resolution t (record { root = 0; dir = 0 }) Dot (codes "b/b/b/b/a") Followed ≡ Err ELOOP
too_many t read = subst (λ (u : Tree). resolution u (record { root = 0; dir = 0 }) Dot (codes "b/b/b/b/a") Followed ≡ Err ELOOP) (ap tree_or read) refl

-- src/path/named.rt:107:9
pub unreachable-requires-in_default-resolve : goal.unreachable-requires-in_default-resolve
unreachable-requires-in_default-resolve c =
    c.in_default-resolve.not-Err ELOOP (c.resolve.ensures.exact ∙ rw (c.new-probe.ensures.tree, c.from_top.ensures, c.in-Ok-read.ensures.1) (too_many _ c.in-Ok.ensures.ok))
