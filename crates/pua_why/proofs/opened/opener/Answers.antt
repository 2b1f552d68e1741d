use Rattle.pua_why.proofs.Common.{◌∙◌, ap}
use Rattle.std.proofs.lemmas.Result.{IfOk-weaker}
use Rattle.pua_why.specs.Openings.{opener_at, opener_on}
use Rattle.pua_why.proofs.opened.opener.Goals as goal

pub returns-in-Some : goal.returns-in-Some
returns-in-Some g c =
    let s = c.args.world.now in
    IfOk-weaker c.opener_on.result _ _ (λ promise told.
    told
    ∙ (λ i. opener_on (c.table-in-Some.ensures i) (c.tree.ensures i) c.args.action.now c.in-Some.process.now)
    ∙ ap (opener_at s.table s.tree c.args.action.now) c.in-Some.ensures) c.opener_on.ensures
