-- Exact words, and the command that they are: the inputs, and the options of which each stands in its place.
use Rattle.std.specs.Prelude.{ℕ, ◌≡◌, ◌==◌, Bool, true, false, not, List, [], ◌∷◌, Option, Some, None, codes, map}
use Rattle.pua_calls.specs.declared.Rules.TheVariants.{Standard}
use Rattle.pua_words.specs.Commands.{at_read, run_asked, tight_asked}
use Rattle.pua_words.specs.Reading.{IsListRead, list_meant}
use Rattle.pua_words.specs.declared.command.Command.{Command}
use Rattle.pua_words.specs.declared.command.HowWords.{HowWords}
use Rattle.pua_words.specs.declared.command.Processes.TheVariants.{One}
use Rattle.pua_words.specs.declared.command.Text.TheVariants.{Audit, How, Tree, Why}
use Rattle.pua_words.specs.declared.command.AuditWords.{AuditWords}
use Rattle.pua_audit.specs.declared.Base.TheVariants.{Root}
use Rattle.std.specs.Str.Parse.{digits_value, without_leading_plus}
use Rattle.pua_words.specs.declared.command.WhyWords.{WhyWords}
use Rattle.std.specs.List.{list_all}

-- a word that does not begin with a hyphen is no option
abbrev pub is_operand : List ℕ → Bool
is_operand [] = true
is_operand (b ∷ more) = not (b == 45)

-- an option before the other words, where it is given
abbrev pub option_if : Bool → List ℕ → List (List ℕ) → List (List ℕ)
option_if true word words = word ∷ words
option_if false word words = words

-- an option with its value before the other words, where it is given
abbrev pub value_if : Option (List ℕ) → List ℕ → List (List ℕ) → List (List ℕ)
value_if None word words = words
value_if (Some value) word words = word ∷ value ∷ words

-- a value that is given begins with no hyphen
abbrev pub is_value : Option (List ℕ) → Bool
is_value None = true
is_value (Some value) = is_operand value

-- the command is made of these inputs, up to this line of the script if one is named, by the standard rules
abbrev pub IsMadeOf : List ℕ → List ℕ → Option (List ℕ) → Command → Type 0
IsMadeOf tree script at command =
    (command.tree.now ≡ tree) × (command.script.now ≡ script) × (at_read at ≡ Some command.at) × (command.rules ≡ Standard)
    × (command.table ≡ None)

-- of words of these forms the command is the one that they name
pub record Meanings (words : List (List ℕ)) (command : Command) : Type 0 where
  pub run : (why : Bool) (at : Option (List ℕ)) (tree script : List ℕ)
      → words ≡ codes "run" ∷ option_if why (codes "--why") (value_if at (codes "--at") (tree ∷ script ∷ []))
      → is_value at ≡ true → is_operand tree ≡ true → is_operand script ≡ true
      → IsMadeOf tree script at command × (command.text ≡ run_asked why)
  pub tree : (at : Option (List ℕ)) (tree script : List ℕ)
      → words ≡ codes "tree" ∷ value_if at (codes "--at") (tree ∷ script ∷ [])
      → is_value at ≡ true → is_operand tree ≡ true → is_operand script ≡ true
      → IsMadeOf tree script at command × (command.text ≡ Tree)
  pub tight : (why : Bool) (tree script : List ℕ) → words ≡ codes "tight" ∷ option_if why (codes "--why") (tree ∷ script ∷ [])
      → is_operand tree ≡ true → is_operand script ≡ true → IsMadeOf tree script None command × (command.text ≡ tight_asked why)
  pub objects : (ever how why : Bool) (at : Option (List ℕ)) (tree script : List ℕ)
      → words
      ≡ codes "objects"
      ∷ option_if ever (codes "--ever") (option_if how (codes "--how") (option_if why (codes "--why") (value_if at (codes "--at") (tree ∷ script ∷ []))))
      → is_value at ≡ true → is_operand tree ≡ true → is_operand script ≡ true
      → IsMadeOf tree script at command × (Some command.text ≡ list_meant ever how why false None None (One 1))
  pub of_process : (ever how why : Bool) (process : List ℕ) (at : Option (List ℕ)) (tree script : List ℕ)
      → words
      ≡ codes "objects"
      ∷ option_if ever (codes "--ever")
      (option_if how (codes "--how")
      (option_if why (codes "--why") (codes "--process" ∷ process ∷ value_if at (codes "--at") (tree ∷ script ∷ []))))
      → is_operand process ≡ true → is_value at ≡ true → is_operand tree ≡ true → is_operand script ≡ true
      → IsMadeOf tree script at command × IsListRead ever how why false None None (Some process) command.text
  pub images : (process : List ℕ) (at : Option (List ℕ)) (tree script : List ℕ)
      → words
      ≡ codes "objects" ∷ codes "--images" ∷ codes "--process" ∷ process ∷ value_if at (codes "--at") (tree ∷ script ∷ [])
      → is_operand process ≡ true → is_value at ≡ true → is_operand tree ≡ true → is_operand script ≡ true
      → IsMadeOf tree script at command × IsListRead false false false true None None (Some process) command.text
  pub beside : (process help : List ℕ) (at : Option (List ℕ)) (tree script : List ℕ)
      → words
      ≡ codes "objects"
      ∷ codes "--ever" ∷ codes "--process" ∷ process ∷ codes "--beside" ∷ help ∷ value_if at (codes "--at") (tree ∷ script ∷ [])
      → is_operand process ≡ true → is_operand help ≡ true → is_value at ≡ true → is_operand tree ≡ true → is_operand script ≡ true
      → IsMadeOf tree script at command × IsListRead true false false false None (Some help) (Some process) command.text
  pub below : (process path : List ℕ) (at : Option (List ℕ)) (tree script : List ℕ)
      → words
      ≡ codes "objects"
      ∷ codes "--ever" ∷ codes "--how"
      ∷ codes "--process" ∷ process ∷ codes "--below" ∷ path ∷ value_if at (codes "--at") (tree ∷ script ∷ [])
      → is_operand process ≡ true → is_operand path ≡ true → is_value at ≡ true → is_operand tree ≡ true → is_operand script ≡ true
      → IsMadeOf tree script at command × IsListRead true true false false (Some path) None (Some process) command.text
  pub how : (at : Option (List ℕ)) (tree script call path : List ℕ)
      → words ≡ codes "how" ∷ value_if at (codes "--at") (tree ∷ script ∷ call ∷ path ∷ []) → is_value at ≡ true
      → is_operand tree ≡ true → is_operand script ≡ true → is_operand call ≡ true → is_operand path ≡ true
      → IsMadeOf tree script at command × ((w : HowWords) × (command.text ≡ How w) × (w.process ≡ 1) × (w.call.now ≡ call)
      × (w.path.now ≡ path) × (w.kind ≡ None))
  pub why : (at : Option (List ℕ)) (tree script call : List ℕ) (arguments : List (List ℕ))
      → words ≡ codes "why" ∷ value_if at (codes "--at") (tree ∷ script ∷ call ∷ arguments) → is_value at ≡ true
      → is_operand tree ≡ true → is_operand script ≡ true → is_operand call ≡ true → list_all is_operand arguments ≡ true
      → IsMadeOf tree script at command × ((w : WhyWords) × (command.text ≡ Why w) × (w.process ≡ 1)
      × (map (λ field. field.now) w.fields.items ≡ call ∷ arguments))
  pub audit : (limit : List ℕ) (at : Option (List ℕ)) (tree script : List ℕ) (names : List (List ℕ))
      → words ≡ codes "audit" ∷ codes "--limit" ∷ limit ∷ value_if at (codes "--at") (tree ∷ script ∷ names)
      → is_operand limit ≡ true → is_value at ≡ true → is_operand tree ≡ true → is_operand script ≡ true
      → list_all is_operand names ≡ true
      → IsMadeOf tree script at command × ((w : AuditWords) × (command.text ≡ Audit w) × (w.process ≡ 1)
      × (digits_value 10 (without_leading_plus limit) ≡ w.limit) × (w.base ≡ Root) × (w.after ≡ None)
      × (map (λ name. name.now) w.names.items ≡ names))

-- one fact, so that a proof which doesn't ask what words mean has nothing to try of it
pub data IsMeantBy (words : List (List ℕ)) (command : Command) : Type 0 where
  means : Meanings words command → IsMeantBy words command
