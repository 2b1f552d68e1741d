-- What is asked for by what `clap` found.
use Rattle.std.specs.Prelude.{ℕ, ◌≡◌, ◌↔◌, Bool, List, Option, Some, None, codes, map, option_map, if◌then◌else◌}
use Rattle.std.specs.Borrow.{Bor}
use Rattle.clap.specs.Matches.{first_value, one_text}
use Rattle.clap.specs.Simple.{subcommand_rows_of}
use Rattle.clap.specs.Walk.{rows_of}
use Rattle.clap.specs.declared.parser.matches.ArgMatches.{ArgMatches}
use Rattle.clap.specs.declared.parser.matches.Found.{Found}
use Rattle.pua_audit.specs.declared.Base.TheVariants.{Cwd}
use Rattle.pua_calls.specs.Calls.{rules_named}
use Rattle.pua_objects.specs.Lines.{kind_word}
use Rattle.pua_words.specs.Commands.{AreFieldsOf, IsLimitText, IsNumberText, IsTextOf, at_read, columns_meant, run_asked, span_meant}
use Rattle.pua_words.specs.Commands.{tight_asked, values_found}
use Rattle.pua_words.specs.declared.command.AuditWords.{AuditWords}
use Rattle.pua_words.specs.declared.command.Command.{Command}
use Rattle.pua_words.specs.declared.command.HowWords.{HowWords}
use Rattle.pua_words.specs.declared.command.Processes.{Processes}
use Rattle.pua_words.specs.declared.command.Processes.TheVariants.{One, Named, All}
use Rattle.pua_words.specs.declared.command.Text.{Text}
use Rattle.pua_words.specs.declared.command.Text.TheVariants.{Audit, How, Tree, Why}
use Rattle.pua_words.specs.declared.command.Text.TheVariants as text
use Rattle.pua_words.specs.declared.command.WhyWords.{WhyWords}

-- an option without a value was given, or was not
abbrev pub IsFlag : Found → List ℕ → Bool → Type 0
IsFlag found id given = one_text found id ≡ Some (if given then codes "true" else codes "false")

-- the text has the number of the process in decimal digits, or is `all`; of several numbers see `IsTextOf`
abbrev pub IsListText : Option (List ℕ) → Processes → Type 0
IsListText text (One process) = IsNumberText text process
IsListText text (Named numbers) = ⊥
IsListText text All = text ≡ Some (codes "all")

-- with whose help: with nobody's where there is no text, or that of the processes that it names
abbrev pub IsBesideOf : Option (List ℕ) → Option Processes → Type 0
IsBesideOf None beside = beside ≡ None
IsBesideOf (Some text) None = ⊥
IsBesideOf (Some text) (Some processes) = IsTextOf (Some text) processes

-- the path at or below which a list's lines are asked for, if one is
abbrev pub below_of : Option Text → Option (Bor (List ℕ))
below_of (Some (text.List words)) = words.below
below_of _ = None

-- the list of these processes: of now or for ever, with the steps of ways or without, with reasons or without, of what they were
-- before each program that they started or not, of all lines or of those at or below a path, and with whose help
abbrev pub list_meant : Bool → Bool → Bool → Bool → Option (Bor (List ℕ)) → Option Processes → Processes → Option Text
list_meant ever how why images below beside processes =
    option_map (λ columns. text.List (record {
      whose = processes;
      span = span_meant ever;
      columns = columns;
      images = images;
      beside = beside;
      below = below;
    })) (columns_meant how why)

-- a list is of now or for ever, with the steps of ways, with reasons, and with what processes were before, as it was asked, of the
-- lines at or below a path that is given, with the help of the processes that one text has, and of those that the other has
abbrev pub IsListOf : Bool → Bool → Bool → Bool → Option (List ℕ) → Option (List ℕ) → Option (List ℕ) → Text → Type 0
IsListOf ever how why images below help given (text.List words) =
    (words.span ≡ span_meant ever) × (Some words.columns ≡ columns_meant how why) × (words.images ≡ images) × IsBesideOf help words.beside
    × IsTextOf given words.whose × (option_map (λ path. path.now) words.below ≡ below)
IsListOf ever how why images below help given _ = ⊥

-- the same, and where each text is one number or `all`, or there is none of helpers, it is this list and no other
abbrev pub IsListRead : Bool → Bool → Bool → Bool → Option (List ℕ) → Option (List ℕ) → Option (List ℕ) → Text → Type 0
IsListRead ever how why images below help given asked =
    IsListOf ever how why images below help given asked
    × (help ≡ None → (processes : Processes) → IsListText given processes →
    Some asked ≡ list_meant ever how why images (below_of (Some asked)) None processes)
    × ((beside : Processes) → IsListText help beside → (processes : Processes) → IsListText given processes →
    Some asked ≡ list_meant ever how why images (below_of (Some asked)) (Some beside) processes)

abbrev pub IsWhyOf : Found → WhyWords → Type 0
IsWhyOf found words =
    IsNumberText (first_value found (codes "process")) words.process
    × AreFieldsOf (first_value found (codes "call")) (values_found found (codes "arguments")) (map (λ field. field.now) words.fields.items)

abbrev pub IsHowOf : Found → HowWords → Type 0
IsHowOf found words =
    IsNumberText (first_value found (codes "process")) words.process
    × (Some words.call.now ≡ first_value found (codes "call")) × (Some words.path.now ≡ first_value found (codes "path"))
    × (option_map kind_word words.kind ≡ first_value found (codes "kind"))

abbrev pub IsAuditOf : Found → AuditWords → Type 0
IsAuditOf found words =
    IsNumberText (first_value found (codes "process")) words.process
    × IsLimitText (one_text found (codes "limit")) words.limit
    × ((words.base ≡ Cwd) ↔ (first_value found (codes "base") ≡ Some (codes "cwd")))
    × (option_map (λ pair. pair.now) words.after ≡ first_value found (codes "after"))
    × (map (λ name. name.now) words.names.items ≡ values_found found (codes "names"))

-- the text is that of the command of this name, as its options and operands were found
pub record IsReadAs (name : List ℕ) (found : Found) (text : Text) : Type 0 where
  pub run : name ≡ codes "run" → (why : Bool) → IsFlag found (codes "why") why → text ≡ run_asked why
  pub tree : name ≡ codes "tree" → text ≡ Tree
  pub tight : name ≡ codes "tight" → (why : Bool) → IsFlag found (codes "why") why → text ≡ tight_asked why
  pub objects : name ≡ codes "objects" → (ever how why images : Bool) → IsFlag found (codes "ever") ever → IsFlag found (codes "how") how
      → IsFlag found (codes "why") why → IsFlag found (codes "images") images
      → IsListRead ever how why images (first_value found (codes "below")) (first_value found (codes "beside"))
      (first_value found (codes "process")) text
  pub why : name ≡ codes "why" → (words : WhyWords) × (text ≡ Why words) × IsWhyOf found words
  pub how : name ≡ codes "how" → (words : HowWords) × (text ≡ How words) × IsHowOf found words
  pub audit : name ≡ codes "audit" → (words : AuditWords) × (text ≡ Audit words) × IsAuditOf found words

-- the inputs are those that were found
pub record HasInputsOf (found : Found) (command : Command) : Type 0 where
  pub tree : Some command.tree.now ≡ first_value found (codes "tree")
  pub script : Some command.script.now ≡ first_value found (codes "script")
  pub at : at_read (first_value found (codes "at")) ≡ Some command.at
  pub rules : command.rules ≡ rules_named (first_value found (codes "rules"))
  pub table : option_map (λ name. name.now) command.table ≡ first_value found (codes "table")

-- the command is that of the name that was met, as its options and operands were found
pub record IsCommandOf (matches : ArgMatches) (command : Command) : Type 0 where
  pub name : List ℕ
  pub found : Found
  pub is_met : subcommand_rows_of matches ≡ Some (name, rows_of found)
  pub text : IsReadAs name found command.text
  pub inputs : HasInputsOf found command
