-- What the words of a command line may ask for.
use Rattle.std.specs.Prelude.{ℕ, ◌≡◌, ◌≤◌, ◌==◌, ⊤, Bool, true, false, List, [], ◌∷◌, map, Option, Some, None, codes}
use Rattle.std.specs.Prelude.{option_map, unwrap_or}
use Rattle.std.specs.List.{All, slice_split}
use Rattle.std.specs.Str.Parse.{IsNumeral, digits_value, without_leading_plus}
use Rattle.clap.specs.Matches.{matched_of, raw_values}
use Rattle.clap.specs.declared.parser.matches.Found.{Found}
use Rattle.pua_words.specs.declared.command.Text.{Text}
use Rattle.pua_words.specs.declared.command.Text.TheVariants.{Run, RunWhy, Why, Audit, Tree, Tight, TightWhy, How}
use Rattle.pua_words.specs.declared.command.Text.TheVariants as text
use Rattle.pua_words.specs.declared.command.Columns.{Columns}
use Rattle.pua_words.specs.declared.command.Columns.TheVariants as columns
use Rattle.pua_words.specs.declared.command.Processes.{Processes}
use Rattle.pua_words.specs.declared.command.Processes.TheVariants.{One, Named}
use Rattle.pua_words.specs.declared.command.Processes.TheVariants as processes
use Rattle.pua_words.specs.declared.command.Time.{Time}
use Rattle.pua_words.specs.declared.command.Time.TheVariants.{Now, Ever}
use Rattle.pua_tree.specs.Spelling.{number_within}
use Rattle.pua_words.specs.declared.words.TheConstants.{MOST_NUMBER}

-- a process has a number from 1 to 999,999
abbrev pub IsProcessNumber : ℕ → Type 0
IsProcessNumber n = (1 ≤ n) × (n ≤ MOST_NUMBER)

-- a list is asked of processes that may have been made, or of all
abbrev pub MayBeAsked : Processes → Type 0
MayBeAsked (One process) = IsProcessNumber process
MayBeAsked (Named numbers) = All IsProcessNumber numbers.items
MayBeAsked processes.All = ⊤

-- and so it is of those with whose help it is, if that of some is asked for
abbrev pub MayHelp : Option Processes → Type 0
MayHelp None = ⊤
MayHelp (Some processes) = MayBeAsked processes

-- the text has these numbers in decimal, with commas between them
abbrev pub AreIn : Option (List ℕ) → List ℕ → Type 0
AreIn None numbers = ⊥
AreIn (Some text) numbers = map (number_within 1 MOST_NUMBER) (slice_split (λ b. b == 44) text) ≡ map Some numbers

-- the text has the number of the process in decimal digits, or the numbers with commas between them, or means all
abbrev pub IsTextOf : Option (List ℕ) → Processes → Type 0
IsTextOf None processes = ⊥
IsTextOf (Some text) (One process) = digits_value 10 (without_leading_plus text) ≡ process
IsTextOf (Some text) (Named numbers) = AreIn (Some text) numbers.items
IsTextOf (Some text) processes.All = text ≡ codes "all"

-- the text has a number that a process may have, in decimal digits, of which zeros and a plus may stand first
abbrev pub IsNumberText : Option (List ℕ) → ℕ → Type 0
IsNumberText None process = ⊥
IsNumberText (Some text) process =
    IsNumeral 10 (without_leading_plus text) × (digits_value 10 (without_leading_plus text) ≡ process) × IsProcessNumber process

-- the text, without a minus, has the limit in decimal digits
abbrev pub IsLimitText : Option (List ℕ) → ℕ → Type 0
IsLimitText None limit = ⊥
IsLimitText (Some text) limit = digits_value 10 (without_leading_plus text) ≡ limit

-- the line after which a script is looked at, where a text has the number of one; none of any other text
abbrev pub at_read : Option (List ℕ) → Option (Option ℕ)
at_read None = Some None
at_read (Some text) = option_map Some (number_within 0 MOST_NUMBER text)

-- the values that were found of an id, in their order; none where it has no entry
abbrev pub values_found : Found → List ℕ → List (List ℕ)
values_found found id = unwrap_or (option_map raw_values (matched_of found id)) []

-- the fields of a request are its call, and behind it its arguments
abbrev pub AreFieldsOf : Option (List ℕ) → List (List ℕ) → List (List ℕ) → Type 0
AreFieldsOf None arguments fields = ⊥
AreFieldsOf (Some call) arguments fields = fields ≡ call ∷ arguments

-- the text has no such numbers
abbrev pub HasNoNumbers : Option (List ℕ) → Type 0
HasNoNumbers text = (numbers : List ℕ) → AreIn text numbers → ⊥

-- an audit, a way and a single request are asked of a process that may have been made, and a list of such processes or of all, with
-- the help of such
abbrev pub AsksSoundly : Text → Type 0
AsksSoundly Run = ⊤
AsksSoundly RunWhy = ⊤
AsksSoundly (Why words) = IsProcessNumber words.process
AsksSoundly (Audit words) = IsProcessNumber words.process
AsksSoundly (text.List words) = MayBeAsked words.whose × MayHelp words.beside
AsksSoundly Tree = ⊤
AsksSoundly Tight = ⊤
AsksSoundly TightWhy = ⊤
AsksSoundly (How words) = IsProcessNumber words.process

-- the text of a run that is asked for, with reasons or without
abbrev pub run_asked : Bool → Text
run_asked false = Run
run_asked true = RunWhy

-- the script without what none of its answers needs, or what each word of it is needed by
abbrev pub tight_asked : Bool → Text
tight_asked false = Tight
tight_asked true = TightWhy

-- a list is of now, or for ever
abbrev pub span_meant : Bool → Time
span_meant false = Now
span_meant true = Ever

-- behind its calls stands nothing, what they rest on, or the steps of ways; not both
abbrev pub columns_meant : Bool → Bool → Option Columns
columns_meant false false = Some columns.Plain
columns_meant false true = Some columns.Why
columns_meant true false = Some columns.How
columns_meant true true = None
