-- How the telling of a fault ends, as the code takes it.
use Rattle.std.specs.Prelude.{◌≡◌, ◌⊎◌, ⊤, ℕ, List, ◌++◌, Option}
use Rattle.pua_calls.specs.declared.rules.Rules.TheVariants.{Openbsd}
use Rattle.pua_io.specs.Held.{Held, Holds}
use Rattle.pua_words.specs.declared.command.Command.{Command}
use Rattle.pua_words.specs.declared.command.Text.{Text}
use Rattle.pua_tool.specs.declared.fault.ToolFault.{ToolFault}
use Rattle.pua_tool.specs.declared.fault.ToolFault.TheVariants.{Script, Request, OutOfMemory}
use Rattle.pua_tool.specs.declared.outcome.CommandFault.{CommandFault}
use Rattle.pua_tool.specs.declared.outcome.CommandFault.TheVariants.{Tool}
use Rattle.pua_tool.specs.declared.advised.Halt.{Halt}
use Rattle.pua_tool.specs.declared.advised.Halt.TheVariants.{Untaken, Unwritten, Put}
use Rattle.pua_tool.specs.Statuses.{fault_status, status_of}
use Rattle.pua_tool.specs.FaultTexts.{fault_line}
use Rattle.pua_tool.specs.Told.{IsLineTold}
use Rattle.pua_tool.specs.Performed.{IsCutShort, IsStopped, IsUntaken}
use Rattle.pua_tool.specs.Advised.{IsToldOf, advice_line, fault_advice, fault_said}

-- a fault behind whose line something is said
abbrev pub IsBlamed : ToolFault → Type 0
IsBlamed (Script fault) = ⊤
IsBlamed (Request fault) = ⊤
IsBlamed _ = ⊥

-- this is told of a fault: it, or that a growth was refused that its telling takes
abbrev pub IsInPlaceOf : ToolFault → ToolFault → Type 0
IsInPlaceOf told fault = (told ≡ fault) ⊎ ((told ≡ OutOfMemory) × IsBlamed fault)

-- a fault was told, with what is said behind it, by OpenBSD's rules and by those of a command
abbrev pub IsAdvisedAs : Text → List ℕ → ToolFault → ℕ → Option (List ℕ) → Option (List ℕ) → ℕ → ℕ → Type 0
IsAdvisedAs text script fault status old new before after =
    (told : ToolFault) × (status ≡ status_of told) × IsInPlaceOf told fault ×
    IsLineTold (fault_line told ++ advice_line (fault_advice Openbsd text script told)) old new before after

abbrev pub IsEndedAs : Command → List ℕ → ToolFault → ℕ → Option (List ℕ) → Option (List ℕ) → ℕ → ℕ → Type 0
IsEndedAs command script fault status old new before after =
    (told : ToolFault) × (status ≡ status_of told) × IsInPlaceOf told fault ×
    IsLineTold (fault_line told ++ fault_said command script told) old new before after

-- what stopped a command: an input was not taken, there is no text, of a script with these bytes, or a put failed
abbrev pub IsHalted : Held → Command → Halt → Option (List ℕ) → Option (List ℕ) → ℕ → ℕ → Type 0
IsHalted held command (Untaken fault) old new before after = IsUntaken held command fault × (new ≡ old)
IsHalted held command (Unwritten fault script) old new before after =
    Holds held command.script.now script.items × IsStopped held command (Tool fault) old new before after
IsHalted held command Put old new before after = IsCutShort held command old new before after

-- what stopped a command was told, whatever inputs it had and whatever its text left
abbrev pub IsEndOf : Command → Halt → ℕ → Option (List ℕ) → Option (List ℕ) → ℕ → ℕ → Type 0
IsEndOf command halt status a b n m =
    (held : Held) (old new : Option (List ℕ)) (before after : ℕ) → IsHalted held command halt old new before after →
    (fault : CommandFault) × (fault_status fault ≡ status) × IsStopped held command fault old new before after × IsToldOf held command fault a b n m
