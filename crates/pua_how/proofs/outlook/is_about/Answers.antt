use Rattle.std.proofs.Common.{ap, sym, ◌∙◌}
use Rattle.pua_ever.specs.EverList.{thing_of}
use Rattle.pua_how.specs.Outlooks.{same_target}
use Rattle.pua_how.specs.Steps.{is_some_by}
use Rattle.pua_how.proofs.Outlooking.{some_about}
use Rattle.pua_how.proofs.outlook.is_about.Goals as goal

pub returns-in-Some : goal.returns-in-Some
returns-in-Some g c =
    c.is_same.ensures
    ∙ ap (is_some_by (same_target c.args.asked.now)) (sym c.in-Some.is ∙ c.target_of.ensures)
    ∙ some_about c.args.asked.now 0 (thing_of (g.T.FileTree.content c.args.tree.now) c.args.row.now)

pub returns-in-None : goal.returns-in-None
returns-in-None g c =
    ap (is_some_by (same_target c.args.asked.now)) (sym c.in-None.is ∙ c.target_of.ensures)
    ∙ some_about c.args.asked.now 0 (thing_of (g.T.FileTree.content c.args.tree.now) c.args.row.now)
