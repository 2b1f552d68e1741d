use Rattle.std.proofs.Common.{◌≡◌, IfOk, sym, subst, ap, ◌∙◌}
use Rattle.std.proofs.lemmas.Bool.{ltb-false, ltb-true}
use Rattle.std.proofs.lemmas.Option.{slice_get_past, slice_get-get_or}
use Rattle.std.specs.Prelude.{Some, slice_get}
use Rattle.pua_tight.specs.Texts.{ended_text}
use Rattle.pua_tight.proofs.LeftOut.{nth_past, nth_plain}
use Rattle.pua_tight.proofs.text.nth_left.Goals as goal

pub returns-in-None : goal.returns-in-None
returns-in-None c =
    subst (λ l. IfOk c.copied.result (λ text. text.items ≡ l))
    (sym (nth_past c.args.rules c.args.requests.now c.args.place c.args.line.now
    (slice_get_past c.args.requests.now c.args.place (ltb-false _ _ (sym c.in-None.ensures.lookup.0))))) c.copied.ensures

pub returns-in-Some : goal.returns-in-Some
returns-in-Some c =
    let there : slice_get c.args.requests.now c.args.place ≡ Some c.in-Some.request.now =
    let seen = c.in-Some.ensures.lookup in
    slice_get-get_or c.args.requests.now c.args.place c.in-Some.request.now (ltb-true _ _ (sym seen.0)) ∙ ap Some (sym seen.1) in
    subst (λ l. IfOk c.line_left.result (λ text. text.items ≡ l))
    (ap (λ a. ended_text c.args.rules a c.args.line.now) c.action.ensures.action
    ∙ sym (nth_plain c.args.rules c.args.requests.now c.args.place c.args.line.now c.in-Some.request.now there)) c.line_left.ensures
