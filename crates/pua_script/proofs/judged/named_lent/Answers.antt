use Rattle.pua_script.proofs.Common.{◌∙◌}
use Rattle.pua_path.specs.Resolution.{resolution}
use Rattle.pua_script.proofs.Fronts.{named_plain}
use Rattle.pua_script.proofs.judged.named_lent.Goals as goal

pub returns-in-Ok-clause-exact : goal.returns-in-Ok-clause-exact
returns-in-Ok-clause-exact g c =
    let t = g.P.Probe.tree c.args.probe.now in
    c.resolve_lent.ensures.exact
    ∙ (λ i. resolution t c.args.from (c.in-Ok.ensures.1 i).ending (c.in-Ok.ensures.1 i).bytes c.args.last)
    ∙ named_plain c.args.table.now.whose t c.args.from c.args.ending c.args.path.now c.args.last c.in-Ok.ensures.0
