-- What the performance of a command promises.
use Rattle.std.specs.Prelude.{◌≡◌, ◌<◌, ◌⊎◌, ⊤, ℕ, List, [], ◌∷◌, length, map, Option, Some, None, Result, Ok, Err}
use Rattle.std.specs.Borrow.{Bor}
use Rattle.std.specs.Io.KnownBytes.{Keeps}
use Rattle.pua_words.specs.Commands.{AsksSoundly}
use Rattle.pua_words.specs.Usages.{AsksAbout}
use Rattle.pua_words.specs.Plain.{IsMeantBy}
use Rattle.pua_words.specs.declared.command.Command.{Command}
use Rattle.pua_words.specs.declared.command.Text.{Text}
use Rattle.pua_words.specs.declared.command.Text.TheVariants.{Run, RunWhy, Why, Audit, How, Tree, Tight, TightWhy}
use Rattle.pua_words.specs.declared.command.Text.TheVariants as text
use Rattle.pua_tool.specs.declared.fault.ToolFault.{ToolFault}
use Rattle.pua_tool.specs.declared.fault.ToolFault.TheVariants.{OutOfMemory}
use Rattle.pua_tool.specs.declared.outcome.CommandFault.{CommandFault}
use Rattle.pua_tool.specs.declared.outcome.CommandFault.TheVariants.{Usage, Unreadable, Tool, Put}
use Rattle.pua_tool.specs.declared.status.TheConstants.{REFUSED}
use Rattle.pua_io.specs.Held.{Asked, AsksFor, AsksForFront, Held, Holds, HoldsNothing}
use Rattle.pua_io.specs.Sinks.{Adds, AddsFront, HasFailed}
use Rattle.pua_tool.specs.Statuses.{status_of}
use Rattle.pua_tool.specs.Texts.{Chosen, given_bytes, run_text, audit_text, wanted_by}
use Rattle.pua_tool.specs.Fronts.{script_at}
use Rattle.pua_tool.specs.HowTexts.{IsHowText, way_wanted}
use Rattle.pua_tool.specs.ListTexts.{IsListText}
use Rattle.pua_tool.specs.WhyTexts.{run_why_text, why_text}
use Rattle.pua_tool.specs.TightTexts.{tight_text, tight_why_text}
use Rattle.pua_tool.specs.TreeTexts.{tree_text}

-- this is the text that is asked for, of a table, a listing and a script, or what refuses it; of a way, and of
-- the list with the steps of ways, it is one of several, as which way is found is in no contract
abbrev pub IsTextAsked : Text → Chosen → List ℕ → List ℕ → Result (List ℕ) ToolFault → Type 0
IsTextAsked Run choice tree script answer = run_text choice tree script ≡ answer
IsTextAsked RunWhy choice tree script answer = run_why_text choice tree script ≡ answer
IsTextAsked (Why words) choice tree script answer =
    why_text choice tree script words.process (map (λ field. field.now) words.fields.items) ≡ answer
IsTextAsked (Audit words) choice tree script answer = audit_text choice tree script (wanted_by words) ≡ answer
IsTextAsked (text.List words) choice tree script answer = IsListText choice tree script words answer
IsTextAsked (How words) choice tree script answer = IsHowText choice tree script (way_wanted words) answer
IsTextAsked Tree choice tree script answer = tree_text choice tree script ≡ answer
IsTextAsked Tight choice tree script answer = tight_text choice tree script ≡ answer
IsTextAsked TightWhy choice tree script answer = tight_why_text choice tree script ≡ answer

-- the same of the part of the script that is served, or there is no such part
abbrev pub IsTextOf : Result (List ℕ) ToolFault → Text → Chosen → List ℕ → Result (List ℕ) ToolFault → Type 0
IsTextOf (Ok served) text choice tree answer = IsTextAsked text choice tree served answer
IsTextOf (Err fault) text choice tree answer = Err fault ≡ answer

abbrev pub IsTextAt : Option ℕ → Text → Chosen → List ℕ → List ℕ → Result (List ℕ) ToolFault → Type 0
IsTextAt at text choice tree script answer = IsTextOf (script_at at script) text choice tree answer

-- the table's bytes are held under its name, or no table is named and there are none
abbrev pub HoldsTable : Held → Option (Bor (List ℕ)) → Option (List ℕ) → Type 0
HoldsTable held None None = ⊤
HoldsTable held None (Some bytes) = ⊥
HoldsTable held (Some name) None = ⊥
HoldsTable held (Some name) (Some bytes) = Holds held name.now bytes

-- the names of a command's inputs, in the order in which they are asked for: the tree's, the script's, and the table's if one is named
abbrev pub table_names : Option (Bor (List ℕ)) → List (List ℕ)
table_names None = []
table_names (Some name) = name.now ∷ []

abbrev pub inputs_of : Command → List (List ℕ)
inputs_of command = command.tree.now ∷ command.script.now ∷ table_names command.table

-- what is asked for, of the bytes that are held under the command's names
pub record Asks (held : Held) (command : Command) (answer : Result (List ℕ) ToolFault) : Type 0 where
  pub table : Option (List ℕ)
  pub tree : List ℕ
  pub script : List ℕ
  pub table_held : HoldsTable held command.table table
  pub tree_held : Holds held command.tree.now tree
  pub script_held : Holds held command.script.now script
  pub answers : IsTextAt command.at command.text (record { rules = command.rules; rows = table }) tree script answer

-- the whole text that is asked for was written
pub record IsDone (held : Held) (command : Command) (old new : Option (List ℕ)) : Type 0 where
  pub text : List ℕ
  pub asks : Asks held command (Ok text)
  pub adds : Adds text old new

-- a put failed, and a front of the text that is asked for was written
pub record IsCutShort (held : Held) (command : Command) (old new : Option (List ℕ)) (before after : ℕ) : Type 0 where
  pub text : List ℕ
  pub asks : Asks held command (Ok text)
  pub adds : AddsFront text old new
  pub failed : HasFailed before after

-- what is asked for is refused by the texts of the inputs
pub record IsRefused (held : Held) (command : Command) : Type 0 where
  pub fault : ToolFault
  pub asks : Asks held command (Err fault)
  pub status : status_of fault ≡ REFUSED

-- nothing is held under the script's name, where the tree's is there
pub record LacksScript (held : Held) (command : Command) : Type 0 where
  pub tree : List ℕ
  pub tree_held : Holds held command.tree.now tree
  pub nothing : HoldsNothing held command.script.now

-- nothing is held under the name of the table, where the tree's input and the script's are there
pub record LacksTable (held : Held) (command : Command) (name : List ℕ) : Type 0 where
  pub tree : List ℕ
  pub script : List ℕ
  pub tree_held : Holds held command.tree.now tree
  pub script_held : Holds held command.script.now script
  pub named : given_bytes command.table ≡ Some name
  pub nothing : HoldsNothing held name

-- one of the inputs is missing: the tree's, or else the script's, or else the table's
abbrev pub LacksInput : Held → Command → Type 0
LacksInput held command = HoldsNothing held command.tree.now ⊎ (LacksScript held command ⊎ ((name : List ℕ) × LacksTable held command name))

-- this is the name of the first input that is missing
abbrev pub Lacks : Held → Command → List ℕ → Type 0
Lacks held command name =
    ((name ≡ command.tree.now) × HoldsNothing held command.tree.now)
    ⊎ (((name ≡ command.script.now) × LacksScript held command)
    ⊎ LacksTable held command name)

-- why one input was not taken
abbrev pub IsUnheld : Held → List ℕ → CommandFault → Type 0
IsUnheld held name (Usage line) = ⊥
IsUnheld held name (Unreadable other) = (other.now ≡ name) × HoldsNothing held name
IsUnheld held name (Tool fault) = fault ≡ OutOfMemory
IsUnheld held name Put = ⊥

-- why the table's input, which is named so, was not taken
abbrev pub IsTableUnheld : Held → Option (List ℕ) → CommandFault → Type 0
IsTableUnheld held name (Usage line) = ⊥
IsTableUnheld held name (Unreadable other) = (name ≡ Some other.now) × HoldsNothing held other.now
IsTableUnheld held name (Tool fault) = fault ≡ OutOfMemory
IsTableUnheld held name Put = ⊥

-- why the inputs were not taken
abbrev pub IsUntaken : Held → Command → CommandFault → Type 0
IsUntaken held command (Usage line) = ⊥
IsUntaken held command (Unreadable name) = Lacks held command name.now
IsUntaken held command (Tool fault) = fault ≡ OutOfMemory
IsUntaken held command Put = ⊥

-- what the fault of a text says of the inputs, but for `OutOfMemory`
abbrev pub IsFaultOf : Held → Command → ToolFault → Type 0
IsFaultOf held command OutOfMemory = ⊤
IsFaultOf held command fault = Asks held command (Err fault)

-- what a command's fault says of the inputs and of the output
abbrev pub IsStopped : Held → Command → CommandFault → Option (List ℕ) → Option (List ℕ) → ℕ → ℕ → Type 0
IsStopped held command (Usage line) old new before after = ⊥
IsStopped held command (Unreadable name) old new before after = Lacks held command name.now × (new ≡ old)
IsStopped held command (Tool fault) old new before after = IsFaultOf held command fault × (new ≡ old)
IsStopped held command Put old new before after = IsCutShort held command old new before after

-- words ask for a command: its numbers are those of processes, and of words in a plain form it is the one that they name
pub record IsAskedBy (words : List (List ℕ)) (command : Command) : Type 0 where
  pub sound : AsksSoundly command.text
  pub meant : IsMeantBy words command

-- what words ask for of the inputs: those of a command that they name, or the first of these, or none
abbrev pub HasAsked : List (List ℕ) → Asked → Asked → Type 0
HasAsked words old new =
    ((command : Command) × IsAskedBy words command × AsksForFront old new (inputs_of command)) ⊎ AsksFor old new []

-- what words that are done have written: the whole text of a command or, where one of the words asks for that, a text of
-- some bytes about the program
abbrev pub HasAnswered : List (List ℕ) → Held → Option (List ℕ) → Option (List ℕ) → Type 0
HasAnswered words held old new = ((command : Command) × IsAskedBy words command × IsDone held command old new)
    ⊎ (AsksAbout words × ((text : List ℕ) × (0 < length text) × Adds text old new))

-- why words ended with a device's status: a command's input is missing and nothing was written, or a put failed and a
-- front of a command's text was written, or of one about the program where one of the words asks for that
abbrev pub HasHalted : List (List ℕ) → Held → Option (List ℕ) → Option (List ℕ) → ℕ → ℕ → Type 0
HasHalted words held old new before after =
    ((command : Command) × IsAskedBy words command ×
    ((LacksInput held command × (new ≡ old)) ⊎ IsCutShort held command old new before after))
    ⊎ (AsksAbout words × ((text : List ℕ) × AddsFront text old new × HasFailed before after))

-- the same after the output was handed on, or could not be: where nothing was written, known bytes stay, and a front may be the whole text
abbrev pub HasEnded : List (List ℕ) → Held → Option (List ℕ) → Option (List ℕ) → ℕ → ℕ → Type 0
HasEnded words held old new before after =
    ((command : Command) × IsAskedBy words command ×
    ((LacksInput held command × Keeps old new) ⊎ IsCutShort held command old new before after))
    ⊎ (AsksAbout words × ((text : List ℕ) × AddsFront text old new × HasFailed before after))
