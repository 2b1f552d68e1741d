-- How the telling of a fault ends, with what is said behind its line.
use Rattle.pua_tool.proofs.Common.{ℕ, ◌≡◌, ◌≢◌, ◌++◌, [], List, ap, refl, sym, subst, None, Option, ToolFault, OutOfMemory}
use Rattle.std.proofs.Common.{cond, inl, inr}
use Rattle.pua_calls.specs.declared.rules.Rules.TheVariants.{Standard, Openbsd}
use Rattle.pua_script.specs.declared.fault.ScriptFault.{ScriptFault}
use Rattle.pua_advice.specs.Advice.{Advised, advice_of, script_advice}
use Rattle.pua_words.specs.declared.command.Command.{Command}
use Rattle.pua_words.specs.declared.command.Text.{Text}
use Rattle.pua_tool.specs.declared.fault.ToolFault.TheVariants.{Script, Request}
use Rattle.pua_tool.specs.Statuses.{status_of}
use Rattle.pua_tool.specs.FaultTexts.{fault_line}
use Rattle.pua_tool.specs.Told.{IsLineTold}
use Rattle.pua_tool.specs.Advised.{advice_line, fault_advice, fault_said, has_advice, request_in}
use Rattle.pua_tool.specs.Ended.{IsAdvisedAs, IsBlamed, IsEndedAs}

-- nothing is said of any other fault
quiet : (text : Text) (script : List ℕ) (fault : ToolFault) → ((f : ScriptFault) → fault ≢ Script f) → ((f : ScriptFault) → fault ≢ Request f) →
    fault_advice Openbsd text script fault ≡ None
quiet text script (Script f) no_script no_request = absurd (no_script f refl)
quiet text script (Request f) no_script no_request = absurd (no_request f refl)
quiet text script fault no_script no_request = refl

module _ (status : ℕ) (old new : Option (List ℕ)) (before after : ℕ) where
  -- by OpenBSD's rules
  pub quietly_advised : (text : Text) (script : List ℕ) (fault : ToolFault) → ((f : ScriptFault) → fault ≢ Script f) →
      ((f : ScriptFault) → fault ≢ Request f) → status ≡ status_of fault → IsLineTold (fault_line fault ++ []) old new before after →
      IsAdvisedAs text script fault status old new before after
  quietly_advised text script fault no_script no_request is told = (
    fault,
    is,
    inl refl,
    subst (λ o. IsLineTold (fault_line fault ++ advice_line o) old new before after) (sym (quiet text script fault no_script no_request)) told,
  )

  pub script_advised : (text : Text) (script : List ℕ) (f : ScriptFault) (o : Option Advised) → o ≡ script_advice Openbsd script f →
      status ≡ status_of (Script f) → IsLineTold (fault_line (Script f) ++ advice_line o) old new before after →
      IsAdvisedAs text script (Script f) status old new before after
  script_advised text script f o same is told =
      (Script f, is, inl refl, subst (λ said. IsLineTold (fault_line (Script f) ++ advice_line said) old new before after) same told)

  pub request_advised : (text : Text) (script : List ℕ) (f : ScriptFault) (o : Option Advised) → o ≡ advice_of Openbsd (request_in text) →
      status ≡ status_of (Request f) → IsLineTold (fault_line (Request f) ++ advice_line o) old new before after →
      IsAdvisedAs text script (Request f) status old new before after
  request_advised text script f o same is told =
      (Request f, is, inl refl, subst (λ said. IsLineTold (fault_line (Request f) ++ advice_line said) old new before after) same told)

  pub memory_advised : (text : Text) (script : List ℕ) (fault : ToolFault) → IsBlamed fault → status ≡ status_of OutOfMemory →
      IsLineTold (fault_line OutOfMemory ++ []) old new before after → IsAdvisedAs text script fault status old new before after
  memory_advised text script fault blamed is told = (OutOfMemory, is, inr (refl, blamed), told)

  -- by the rules of a command
  pub standard_ended : (command : Command) (script : List ℕ) (fault : ToolFault) → command.rules ≡ Standard → status ≡ status_of fault →
      IsLineTold (fault_line fault ++ []) old new before after → IsEndedAs command script fault status old new before after
  standard_ended command script fault rules is told =
      let said : [] ≡ fault_said command script fault =
      sym (ap (λ r. cond (has_advice r) (advice_line (fault_advice command.rules command.text script fault)) []) rules) in
      (fault, is, inl refl, subst (λ text. IsLineTold (fault_line fault ++ text) old new before after) said told)

  pub openbsd_ended : (command : Command) (script : List ℕ) (fault : ToolFault) → command.rules ≡ Openbsd →
      IsAdvisedAs command.text script fault status old new before after → IsEndedAs command script fault status old new before after
  openbsd_ended command script fault rules advised =
      let told = advised.0 in
      let said : advice_line (fault_advice Openbsd command.text script told) ≡ fault_said command script told =
      sym (ap (λ r. cond (has_advice r) (advice_line (fault_advice r command.text script told)) []) rules) in
      (told, advised.1, advised.2, subst (λ text. IsLineTold (fault_line told ++ text) old new before after) said advised.3)
