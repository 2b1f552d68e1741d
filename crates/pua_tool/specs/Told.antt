-- What a fault's line leaves in the sink for faults.
use Rattle.std.specs.Prelude.{◌≡◌, ⊤, ℕ, List, ◌++◌, Option, Result, codes, string_bytes}
use Rattle.pua_words.specs.Usages.{usage_line_text}
use Rattle.pua_words.specs.declared.words.Stop.{Stop}
use Rattle.pua_words.specs.declared.words.Stop.TheVariants as stop
use Rattle.pua_io.specs.Sinks.{Adds, AddsFront, HasFailed, Writes}
use Rattle.pua_tool.specs.Statuses.{fault_status}
use Rattle.pua_texts.specs.Lines.{with_end}
use Rattle.pua_io.specs.declared.sink.PutFault.{PutFault}
use Rattle.pua_tool.specs.FaultTexts.{fault_line}
use Rattle.pua_tool.specs.declared.fault.ToolFault.TheVariants.{OutOfMemory}
use Rattle.pua_tool.specs.declared.outcome.CommandFault.{CommandFault}
use Rattle.pua_tool.specs.declared.outcome.CommandFault.TheVariants.{Usage, Unreadable, Tool, Put}

-- the line of a command's fault
abbrev pub fault_text : CommandFault → List ℕ
fault_text (Usage line) = with_end (usage_line_text line)
fault_text (Unreadable name) = with_end (codes "pua: cannot read " ++ name.now)
fault_text (Tool fault) = fault_line fault
fault_text Put = with_end (codes "pua: cannot write")

-- and its writing
abbrev pub TellsFault : CommandFault → Result (Unit {0}) PutFault → Option (List ℕ) → Option (List ℕ) → ℕ → ℕ → Type 0
TellsFault (Usage line) done old new before after = Writes (with_end (usage_line_text line)) done old new before after
TellsFault (Unreadable name) done old new before after = Writes (with_end (codes "pua: cannot read " ++ name.now)) done old new before after
TellsFault (Tool fault) done old new before after = Writes (fault_line fault) done old new before after
TellsFault Put done old new before after = Writes (with_end (codes "pua: cannot write")) done old new before after

-- a fault that is of no input
abbrev pub IsPlain : CommandFault → Type 0
IsPlain (Usage line) = ⊤
IsPlain (Tool OutOfMemory) = ⊤
IsPlain Put = ⊤
IsPlain fault = ⊥

-- a command's fault was told: by all of its line, or by a front of it before a put that failed
abbrev pub IsFaultTold : CommandFault → Option (List ℕ) → Option (List ℕ) → ℕ → ℕ → Type 0
IsFaultTold fault old new before after = (done : Result (Unit {0}) PutFault) × TellsFault fault done old new before after

-- a fault that is of no input, with which the program ends by this status, was told
abbrev pub TellsStatus : ℕ → Option (List ℕ) → Option (List ℕ) → ℕ → ℕ → Type 0
TellsStatus status old new before after =
    (fault : CommandFault) × (fault_status fault ≡ status) × IsPlain fault × IsFaultTold fault old new before after

-- so was a line
abbrev pub IsLineTold : List ℕ → Option (List ℕ) → Option (List ℕ) → ℕ → ℕ → Type 0
IsLineTold line old new before after = (done : Result (Unit {0}) PutFault) × Writes line done old new before after

-- the text that the words ask for was written
abbrev pub Shows : Stop → Option (List ℕ) → Option (List ℕ) → Type 0
Shows (stop.Display text) old new = Adds (string_bytes text) old new
Shows (stop.Usage line) old new = ⊥
Shows stop.OutOfMemory old new = ⊥

-- a put failed, and a front of this text was written
abbrev pub ShowsFront : Stop → Option (List ℕ) → Option (List ℕ) → ℕ → ℕ → Type 0
ShowsFront (stop.Display text) old new before after = AddsFront (string_bytes text) old new × HasFailed before after
ShowsFront (stop.Usage line) old new before after = ⊥
ShowsFront stop.OutOfMemory old new before after = ⊥

-- the line of words that are no command was told
abbrev pub TellsUsage : Stop → Option (List ℕ) → Option (List ℕ) → ℕ → ℕ → Type 0
TellsUsage (stop.Display text) old new before after = ⊥
TellsUsage (stop.Usage line) old new before after = IsLineTold (with_end (usage_line_text line)) old new before after
TellsUsage stop.OutOfMemory old new before after = ⊥
