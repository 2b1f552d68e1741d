use Rattle.pua_tool.proofs.Common.{◌∙◌, ◌≡◌, ap, Err, err_from_is_err_and, List, Ok, refl, Result, subst, sym, ToolFault, ℕ}
use Rattle.pua_tool.specs.Fronts.{script_at}
use Rattle.pua_tool.specs.Performed.{IsTextOf}
use Rattle.pua_tool.specs.Texts.{Chosen}
use Rattle.pua_words.specs.declared.command.Text.{Text}
use Rattle.pua_tool.proofs.service.write_at.Goals as goal

-- a text of what is served
of_served : (a b : Result (List ℕ) ToolFault) (text : Text) (choice : Chosen) (tree : List ℕ) (answer : Result (List ℕ) ToolFault)
    → a ≡ b → IsTextOf b text choice tree answer → IsTextOf a text choice tree answer
of_served a b text choice tree answer is =
    subst (λ (served : Result (List ℕ) ToolFault). IsTextOf served text choice tree answer) (sym is)

pub returns-in_err-script : goal.returns-in_err-script
returns-in_err-script g c =
    let p = err_from_is_err_and c.from_residual.result c.from_residual.ensures.1 in
    let fault = c.in_err-script.field-0.0 in
    rw (p.1, p.2) (
      Err fault,
      of_served _ (Err fault) _ _ _ (Err fault)
          (ap (script_at c.args.command.now.at) (sym c.as_slice.ensures.value) ∙ c.in_err-script.ensures.refused) refl,
      (λ other. refl, refl),
    )

pub returns : goal.returns
returns g c =
    let text = c.write_text.ensures in (
      text.0,
      of_served _ (Ok c.in_ok-script.script.now) _ _ _ text.0
          (ap (script_at c.args.command.now.at) (sym c.as_slice.ensures.value) ∙ c.in_ok-script.ensures.served) text.1,
      text.2,
    )
