use Rattle.std.proofs.Common.{◌≤◌, ℕ, map, ap, subst, ◌∙◌}
use Rattle.std.specs.List.{AllByRecursion}
use Rattle.pua_tree.specs.LentRows.{lent_entry}
use Rattle.pua_tree.specs.Tree.{Spot}
use Rattle.pua_how.proofs.Meaning.{last_is}
use Rattle.pua_how.proofs.path_question.last_number.Goals as goal

pub returns : goal.returns
returns g c =
    last_is (g.T.FileTree.content c.args.tree.now) c.highest.result c.known.ensures
    (subst (AllByRecursion (λ (row : Spot × ℕ). row.1 ≤ c.highest.result)) (ap (map lent_entry) c.as_slice.ensures.value ∙ c.in_ok-rows.ensures)
    c.highest.ensures)
