use Rattle.pua_texts.proofs.Common.{ap, sym, ◌∙◌, map, veil_dates, veils_behind}
use Rattle.pua_texts.specs.EndingsState.{EndingsState}
use Rattle.pua_texts.proofs.States.{shown}
use Rattle.pua_texts.proofs.veil_columns.veil_columns.Goals as goal

pub returns : goal.returns
returns g c = λ p number same dated.
    let lent = ap (map shown) c.as_slice.ensures.value ∙ c.in_ok-veils.ensures.state in
    record {
      veils = ap (λ (s : EndingsState). s.veils) c.of_veils.ensures
          ∙ c.in_ok-texts.ensures p number (c.in_ok-paths.ensures ∙ same) (dated ∙ ap (veil_dates p number) (sym lent))
          ∙ ap (veils_behind p number) lent;
      unveiled = ap (λ (s : EndingsState). s.unveiled) c.of_veils.ensures;
    }
