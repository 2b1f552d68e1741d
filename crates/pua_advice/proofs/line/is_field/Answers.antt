use Rattle.std.proofs.Common.{◌≡◌, ◌∙◌, ap, sym, rules, tests}
use Rattle.std.proofs.lemmas.Iterator.{YieldsList-from_slice}
use Rattle.std.proofs.lemmas.Iterator.Search.{all_from_yields_List}
use Rattle.std.specs.List.{list_all}
use Rattle.std.specs.Prelude.{◌&&◌, length}
use Rattle.pua_advice.specs.Advice.{is_visible}
use Rattle.pua_advice.proofs.LineParts.{some_bytes}
use Rattle.pua_advice.proofs.line.is_field.Goals as goal

pub returns-then-not-is_empty : goal.returns-then-not-is_empty
returns-then-not-is_empty c =
    let field = c.args.field.now in
    let all : c.all.result ≡ list_all is_visible field =
    all_from_yields_List is_visible _ _ c.all.result c.all.ensures.ran (YieldsList-from_slice field cc) (λ x b q k. search (rules, tests)) in
    all ∙ ap (λ t. t && list_all is_visible field) (sym (some_bytes (length field) c.if-not-is_empty.ensures))
