use Rattle.std.proofs.Common.{◌≡◌, ◌∙◌, sym, subst, ap}
use Rattle.std.proofs.lemmas.Bool.{ltb-false, ltb-true}
use Rattle.std.proofs.lemmas.Option.{slice_get_past, slice_get-get_or}
use Rattle.std.specs.Prelude.{Some}
use Rattle.pua_tight.specs.Left.{arguments_left}
use Rattle.pua_tight.proofs.Trying.{beyond_left, nothing_left}
use Rattle.pua_tight.proofs.trial.has_piece.Goals as goal

pub returns-in-Some : goal.returns-in-Some
returns-in-Some c = λ lacks.
    let seen = c.in-Some.ensures.lookup in
    nothing_left c.args.requests.now c.args.trial.now.line c.args.trial.now.piece c.in-Some.request.now
    (slice_get-get_or c.args.requests.now c.args.trial.now.line c.in-Some.request.now (ltb-true _ _ (sym seen.0)) ∙ ap Some (sym seen.1))
    (subst (λ a. arguments_left c.args.trial.now.piece a ≡ a) c.of.ensures (c.have.ensures lacks))

pub returns-in-None : goal.returns-in-None
returns-in-None c = λ lacks.
    sym (beyond_left c.args.requests.now c.args.trial.now.line c.args.trial.now.piece
    (slice_get_past c.args.requests.now c.args.trial.now.line (ltb-false _ _ (sym c.in-None.ensures.lookup.0))))
