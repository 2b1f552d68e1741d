use Rattle.pua_tree.proofs.Common.{◌∙◌, sym}
use Rattle.pua_tree.proofs.Sound.{found_says, nothing_found}
use Rattle.pua_tree.proofs.judgement.row_in.Goals as goal

pub returns-in-Some-clause-dir : goal.returns-in-Some-clause-dir
returns-in-Some-clause-dir g c found =
    sym (found_says (g.T.Judged.held c.args.tree.now) c.args.dir c.args.name.now c.in-Some.row c.is_tree.ensures
    (sym found ∙ c.in-Some.is)).0

pub returns-in-Some-clause-node : goal.returns-in-Some-clause-node
returns-in-Some-clause-node g c found =
    sym (found_says (g.T.Judged.held c.args.tree.now) c.args.dir c.args.name.now c.in-Some.row c.is_tree.ensures
    (sym found ∙ c.in-Some.is)).1

pub returns-in-Some-clause-kind : goal.returns-in-Some-clause-kind
returns-in-Some-clause-kind g c found =
    (found_says (g.T.Judged.held c.args.tree.now) c.args.dir c.args.name.now c.in-Some.row c.is_tree.ensures
    (sym found ∙ c.in-Some.is)).2

pub returns-in-None-clause-node : goal.returns-in-None-clause-node
returns-in-None-clause-node g c found =
    sym (nothing_found (g.T.Judged.held c.args.tree.now) c.args.dir c.args.name.now c.is_tree.ensures
    (sym found ∙ c.in-None.is))
