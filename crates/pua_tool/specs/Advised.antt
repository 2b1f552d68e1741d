-- What is said behind the line of a fault: by OpenBSD's rules, what is wrong with the script or the request.
use Rattle.std.specs.Prelude.{◌≡◌, ◌⊎◌, ℕ, Bool, true, false, List, [], ◌++◌, map, Option, Some, None, codes, if◌then◌else◌}
use Rattle.pua_calls.specs.declared.rules.Rules.{Rules}
use Rattle.pua_calls.specs.declared.rules.Rules.TheVariants.{Standard, Openbsd}
use Rattle.pua_script.specs.declared.fault.ScriptFault.{ScriptFault}
use Rattle.pua_advice.specs.Advice.{Advised, advice_of, script_advice}
use Rattle.pua_advice.specs.Texts.{advice_text}
use Rattle.pua_io.specs.Held.{Held, Holds}
use Rattle.pua_words.specs.declared.command.Command.{Command}
use Rattle.pua_words.specs.declared.command.Text.{Text}
use Rattle.pua_words.specs.declared.command.Text.TheVariants.{Why}
use Rattle.pua_texts.specs.Lines.{with_end}
use Rattle.pua_tool.specs.WhyTexts.{request_line}
use Rattle.pua_tool.specs.Statuses.{fault_status}
use Rattle.pua_tool.specs.Told.{IsLineTold, IsPlain, fault_text}
use Rattle.pua_tool.specs.Performed.{IsAskedBy}
use Rattle.pua_tool.specs.declared.fault.ToolFault.{ToolFault}
use Rattle.pua_tool.specs.declared.fault.ToolFault.TheVariants.{Script, Request}
use Rattle.pua_tool.specs.declared.outcome.CommandFault.{CommandFault}
use Rattle.pua_tool.specs.declared.outcome.CommandFault.TheVariants.{Usage, Unreadable, Tool, Put}

-- the rules by which something is said
abbrev pub has_advice : Rules → Bool
has_advice Standard = false
has_advice Openbsd = true

-- the line of an advice, or no bytes
abbrev pub advice_line : Option Advised → List ℕ
advice_line None = []
advice_line (Some advice) = codes "pua: " ++ with_end (advice_text advice)

-- the line of the request that is asked about, if one is
abbrev pub request_in : Text → List ℕ
request_in (Why words) = request_line words.process (map (λ field. field.now) words.fields.items)
request_in _ = []

-- what is wrong with a script, or with the request that is asked about, where that is the fault
abbrev pub fault_advice : Rules → Text → List ℕ → ToolFault → Option Advised
fault_advice rules text script (Script fault) = script_advice rules script fault
fault_advice rules text script (Request fault) = advice_of rules (request_in text)
fault_advice rules text script _ = None

-- what is said behind the line of a command's fault, of these bytes of its script
abbrev pub fault_said : Command → List ℕ → ToolFault → List ℕ
fault_said command script fault =
    if has_advice command.rules then advice_line (fault_advice command.rules command.text script fault) else []

-- this is said behind the line of a command's fault, of the script that is held under the command's name
abbrev pub IsSaidOf : Held → Command → CommandFault → List ℕ → Type 0
IsSaidOf held command (Usage line) said = said ≡ []
IsSaidOf held command (Unreadable name) said = said ≡ []
IsSaidOf held command (Tool fault) said =
    (script : List ℕ) × ((of_script : ScriptFault) → fault ≡ Script of_script → Holds held command.script.now script) ×
    (said ≡ fault_said command script fault)
IsSaidOf held command Put said = said ≡ []

-- a command's fault was told, with what is said behind its line: whole, or a front of both before a put that failed
abbrev pub IsToldOf : Held → Command → CommandFault → Option (List ℕ) → Option (List ℕ) → ℕ → ℕ → Type 0
IsToldOf held command fault old new before after =
    (said : List ℕ) × IsSaidOf held command fault said × IsLineTold (fault_text fault ++ said) old new before after

-- a fault with which the program ends by this status was told: of a command that words ask for, or one that is no input's
abbrev pub HasTold : List (List ℕ) → Held → ℕ → Option (List ℕ) → Option (List ℕ) → ℕ → ℕ → Type 0
HasTold words held status old new before after = (fault : CommandFault) × (fault_status fault ≡ status) ×
    (((command : Command) × IsAskedBy words command × IsToldOf held command fault old new before after)
    ⊎ (IsPlain fault × IsLineTold (fault_text fault) old new before after))
