use Rattle.pua_tool.proofs.Common.{◌∙◌, ap, subst, sym}
use Rattle.std.specs.List.{list_any}
use Rattle.std.specs.Prelude.{◌&&◌}
use Rattle.pua_calls.specs.CallSets.{calls_in}
use Rattle.pua_calls.specs.TmpTable.{tmp_table}
use Rattle.pua_policy.specs.States.{same_place}
use Rattle.pua_ever.specs.Comings.{IsTaking, places_under}
use Rattle.pua_texts.specs.WhyLines.{world_left}
use Rattle.pua_tool.specs.EverWhyTexts.{lets_some}
use Rattle.pua_tool.proofs.EverColumns.{lets_alike}
use Rattle.pua_tool.proofs.ever_columns.is_told.Goals as goal

pub returns-then-has : goal.returns-then-has
returns-then-has c = λ p number holder kept is.
    let t = (world_left p).tree in
    let table = tmp_table p.table in
    let veil = c.args.veil.now in
    let places = places_under t holder c.args.under.now in
    let there = ap (λ at. list_any (same_place at) places) (sym is.place)
    ∙ sym (c.has.ensures t holder (subst (λ at. IsTaking t holder at veil.taking) (sym is.place) is.taking)) ∙ c.if-has.true in
    c.has_some.ensures ∙ lets_alike table kept.1 veil.lets is.lets (calls_in c.args.calls)
    ∙ ap (λ b. b && lets_some table kept.1 (calls_in c.args.calls)) (sym there)
