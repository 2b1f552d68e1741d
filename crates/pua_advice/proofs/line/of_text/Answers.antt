use Rattle.std.proofs.Common.{◌≡◌, ◌∙◌, ap, sym, subst, option_map}
use Rattle.std.specs.Prelude.{IfOk}
use Rattle.pua_advice.specs.Advice.{advice_seen, fields_advice}
use Rattle.pua_advice.proofs.LineParts.{by_form, by_fields}
use Rattle.pua_advice.proofs.line.of_text.Goals as goal

pub returns-in-None : goal.returns-in-None
returns-in-None c = c.of_form.ensures ∙ sym (by_form c.args.rules c.args.text.now c.in-None.ensures)

pub returns-in-Some : goal.returns-in-Some
returns-in-Some c =
    let fields = ap (fields_advice c.args.rules) c.as_slice.ensures ∙
    sym (by_fields c.args.rules c.args.text.now c.in-Some.fields c.in-Some.ensures) in
    subst (λ o. IfOk c.of_fields.result (λ advice. option_map advice_seen advice ≡ o)) fields c.of_fields.ensures
