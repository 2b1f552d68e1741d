use Rattle.std.proofs.Common.{◌≡◌, ◌∙◌, sym, ap, Some, slice_get}
use Rattle.std.proofs.lemmas.Bool.{ltb-false, ltb-true}
use Rattle.std.proofs.lemmas.Option.{slice_get_past, slice_get-get_or}
use Rattle.pua_tight.specs.declared.arguments.Arguments.TheVariants.{Others}
use Rattle.pua_tight.specs.Laws.{leave_out}
use Rattle.pua_tight.specs.Left.{put_back_at, with_arguments}
use Rattle.pua_tight.proofs.Trying.{back_left, beyond_back, beyond_left, written_left}
use Rattle.pua_tight.proofs.trial.leave_out.Goals as goal

pub returns-in_default-clause-left : goal.returns-in_default-clause-left
returns-in_default-clause-left c =
    beyond_left c.args.requests.now.items c.args.trial.now.line c.args.trial.now.piece
    (slice_get_past _ _ (ltb-false _ _ (sym c.in_default.ensures.item.0)))

pub returns-in_default-clause-back : goal.returns-in_default-clause-back
returns-in_default-clause-back c =
    sym (beyond_back c.args.requests.now.items c.args.trial.now.line Others
    (slice_get_past _ _ (ltb-false _ _ (sym c.in_default.ensures.item.0))))

pub returns-clause-left : goal.returns-clause-left
returns-clause-left c =
    let seen = c.in-Some.ensures.item in
    written_left c.args.requests.now.items c.args.trial.now.line c.args.trial.now.piece c.in-Some.request.now c.give.new.request
    c.of-kept.result (slice_get-get_or _ _ _ (ltb-true _ _ (sym seen.0)) ∙ ap Some (sym seen.1)) c.of-kept.ensures
    (c.give.ensures ∙ ap (λ a. with_arguments a c.in-Some.request.now) c.without-less.ensures)

pub returns-clause-back : goal.returns-clause-back
returns-clause-back c =
    let seen = c.in-Some.ensures.item in
    let asks = c.args.requests.now.items in
    let line = c.args.trial.now.line in
    let there : slice_get asks line ≡ Some c.in-Some.request.now =
    slice_get-get_or asks line c.in-Some.request.now (ltb-true _ _ (sym seen.0)) ∙ ap Some (sym seen.1) in
    ap (put_back_at line c.of-kept.result)
    (written_left asks line c.args.trial.now.piece c.in-Some.request.now c.give.new.request c.of-kept.result there c.of-kept.ensures
    (c.give.ensures ∙ ap (λ a. with_arguments a c.in-Some.request.now) c.without-less.ensures))
    ∙ ap (λ a. put_back_at line a (leave_out line c.args.trial.now.piece asks)) c.of-kept.ensures
    ∙ back_left asks line c.args.trial.now.piece c.in-Some.request.now there
