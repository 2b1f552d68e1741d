use Rattle.std.proofs.Common.{◌≡◌, ◌∙◌, ap, sym, rules, tests, option_map, nat_eq}
use Rattle.std.proofs.lemmas.Iterator.Search.{find_from_yields_List}
use Rattle.std.proofs.lemmas.Iterator.Splits.{YieldsList-from_slice_split}
use Rattle.std.specs.Prelude.{not, find, option_and_then}
use Rattle.pua_tree.specs.Spelling.{fields, is_field}
use Rattle.pua_advice.specs.Advice.{advice_seen, field_advice}
use Rattle.pua_advice.proofs.LineParts.{form_behind}
use Rattle.pua_advice.proofs.line.of_form.Goals as goal

pub returns-in_err-field : goal.returns-in_err-field
returns-in_err-field c =
    let line = c.args.line.now in
    let found : option_map (λ f. f.now) c.find.result ≡ find (λ f. not (is_field f)) (fields line) =
    find_from_yields_List (λ f. not (is_field f)) _ _ c.find.result c.find.ensures.ran
    (YieldsList-from_slice_split _ (λ b. nat_eq b 32) line c.split.ensures.rest c.split.ensures.done c.split.ensures.closure
    (λ x b q k. search (rules, tests)))
    (λ x b q k. search (rules, tests)) in
    ap (option_map advice_seen) c.from_residual.ensures
    ∙ sym (form_behind line c.if-is_empty.ensures
    ∙ ap (option_and_then field_advice) (sym found ∙ ap (option_map (λ f. f.now)) c.in_err-field.was))

pub returns : goal.returns
returns c =
    let line = c.args.line.now in
    let found : option_map (λ f. f.now) c.find.result ≡ find (λ f. not (is_field f)) (fields line) =
    find_from_yields_List (λ f. not (is_field f)) _ _ c.find.result c.find.ensures.ran
    (YieldsList-from_slice_split _ (λ b. nat_eq b 32) line c.split.ensures.rest c.split.ensures.done c.split.ensures.closure
    (λ x b q k. search (rules, tests)))
    (λ x b q k. search (rules, tests)) in
    c.of_field.ensures
    ∙ sym (form_behind line c.if-is_empty.ensures
    ∙ ap (option_and_then field_advice) (sym found ∙ ap (option_map (λ f. f.now)) c.in_ok-field.was))
