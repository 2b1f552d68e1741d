use Rattle.pua_tool.proofs.Common.{◌∙◌, ap, map, sym, subst}
use Rattle.std.specs.List.{AllZip}
use Rattle.pua_texts.specs.VeilDates.{veil_dates}
use Rattle.pua_texts.proofs.ForCallers.{if_ok}
use Rattle.pua_tool.specs.EverColumns.{IsKept}
use Rattle.pua_tool.proofs.EverColumns.{shown}
use Rattle.pua_tool.proofs.ever_columns.kept_veils.Goals as goal

pub returns : goal.returns
returns g c =
    let lent = ap (map shown) c.as_slice.ensures.value ∙ c.in_ok-veils.ensures.state in
    if_ok c.kept_each.result
    (λ kept each. λ p number holder same ruled comings dated.
    subst (λ vs. AllZip (IsKept p number holder) vs kept.items) lent
    (each p number holder (c.in_ok-paths.ensures ∙ same) ruled comings (dated ∙ ap (veil_dates p number) (sym lent)))) c.kept_each.ensures
