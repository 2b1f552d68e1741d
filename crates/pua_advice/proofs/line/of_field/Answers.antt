use Rattle.std.proofs.Common.{◌≡◌, ◌∙◌, ap, sym, rules, tests, option_map}
use Rattle.std.proofs.lemmas.Iterator.{YieldsList-from_slice}
use Rattle.std.proofs.lemmas.Iterator.Search.{find_from_yields_List}
use Rattle.std.specs.Prelude.{not, find}
use Rattle.pua_advice.specs.Advice.{HiddenByte, advice_seen, is_visible}
use Rattle.pua_advice.proofs.LineParts.{field_behind}
use Rattle.pua_advice.proofs.line.of_field.Goals as goal

pub returns-in_err-byte : goal.returns-in_err-byte
returns-in_err-byte c =
    let field = c.args.field.now in
    let found : option_map (λ x. x.now) c.find.result ≡ find (λ b. not (is_visible b)) field =
    find_from_yields_List (λ b. not (is_visible b)) _ _ c.find.result c.find.ensures.ran (YieldsList-from_slice field cc)
    (λ x b q k. search (rules, tests)) in
    ap (option_map advice_seen) c.from_residual.ensures
    ∙ sym (field_behind field c.if-is_empty.ensures ∙ ap (option_map HiddenByte) (sym found ∙ ap (option_map (λ x. x.now)) c.in_err-byte.was))

pub returns : goal.returns
returns c =
    let field = c.args.field.now in
    let found : option_map (λ x. x.now) c.find.result ≡ find (λ b. not (is_visible b)) field =
    find_from_yields_List (λ b. not (is_visible b)) _ _ c.find.result c.find.ensures.ran (YieldsList-from_slice field cc)
    (λ x b q k. search (rules, tests)) in
    sym (field_behind field c.if-is_empty.ensures ∙ ap (option_map HiddenByte) (sym found ∙ ap (option_map (λ x. x.now)) c.in_ok-byte.was))
