use Rattle.pua_path.proofs.Common.{rooted, Ok, Err, sym, ap, ◌∙◌}
use Rattle.std.proofs.lemmas.Result.{err_from_is_err_and}
use Rattle.pua_path.proofs.Arrival.{arrived, step_arrives}
use Rattle.pua_path.proofs.resolver.step.Goals as goal

pub returns-in_err-found-clause-exact : goal.returns-in_err-found-clause-exact
returns-in_err-found-clause-exact g c =
    let p = err_from_is_err_and c.from_residual.result c.from_residual.ensures.1 in
    rw (p.1, p.2) (step_arrives (rooted (g.P.Probe.tree c.args.probe.now) c.args.from.root) c.args.from.dir c.args.used c.args.part.now (Err c.in_err-found.field-0.0)
    c.in_err-found.ensures.exact)

pub returns-in-Whole-clause-exact : goal.returns-in-Whole-clause-exact
returns-in-Whole-clause-exact g c =
    ap (λ found. arrived (found, c.in_ok-found.left)) (sym c.in-Whole.is)
    ∙ step_arrives (rooted (g.P.Probe.tree c.args.probe.now) c.args.from.root) c.args.from.dir c.args.used c.args.part.now (Ok (c.in_ok-found.found, c.in_ok-found.left))
    c.in_ok-found.ensures.exact

pub returns-in-Slot-clause-exact : goal.returns-in-Slot-clause-exact
returns-in-Slot-clause-exact g c =
    ap (λ errno. Err errno) c.not_entered.ensures
    ∙ ap (λ found. arrived (found, c.in_ok-found.left)) (sym c.in-Slot.is)
    ∙ step_arrives (rooted (g.P.Probe.tree c.args.probe.now) c.args.from.root) c.args.from.dir c.args.used c.args.part.now (Ok (c.in_ok-found.found, c.in_ok-found.left))
    c.in_ok-found.ensures.exact
