-- What a script is as a text: lines, each of which spells a request by its fields, or has none but a comment.
use Rattle.std.specs.Prelude.{◌≡◌, ◌≢◌, ℕ, ◌≤◌, List, [], ◌∷◌, length, Option, Some, None, Ok, Err, codes, decimal, IsTrue, IsFalse, nat_lt}
use Rattle.std.specs.Prelude.{◌↔◌, ◌==◌, ◌||◌, ◌++◌}
use Rattle.std.specs.List.{list_all, list_any, slice_split}
use Rattle.std.specs.Str.Lines.{lines}
use Rattle.pua_tree.specs.Names.{has_byte}
use Rattle.pua_tree.specs.Spelling.{spelling, fields, is_field}
use Rattle.pua_calls.specs.Promises.{holds, error, promises_of, perms_of}
use Rattle.pua_calls.specs.Calls.{call_named_by}
use Rattle.pua_calls.specs.Neighbours.{call_asked_by}
use Rattle.pua_calls.specs.declared.rules.Rules.{Rules}
use Rattle.pua_calls.specs.declared.rules.Rules.TheVariants.{Openbsd}
use Rattle.pua_path.specs.declared.errno.Errno.{Errno}
use Rattle.pua_calls.specs.declared.call.Call.{Call}
use Rattle.pua_script.specs.Limits.{most_descriptor, most_script_lines, most_number}
use Rattle.pua_script.specs.Requests.{Asked, comment, is_open, is_symlink, has_no_nul}
use Rattle.pua_script.specs.Scripts.{has_empty_word, is_blank, text_in, script_by}
use Rattle.pua_script.specs.declared.request.Given.{Given}
use Rattle.pua_script.specs.declared.request.Given.TheVariants.{Null, Good, Unknown}
use Rattle.pua_script.specs.declared.request.Action.{Action}
use Rattle.pua_script.specs.declared.request.Action.TheVariants.{OnPath, Symlink, Rename, Link, Pledge, Unveil, Lock, Fork, Exit, Uses}
use Rattle.pua_script.specs.declared.request.Action.TheVariants.{Hold, Close, Fchdir, Chroot, Take}

-- a path or a target: `=` is the empty text, and anything else spells bytes without NUL
pub data SpellsPath (field : List ℕ) : List ℕ → Type 0 where
  empty : field ≡ codes "=" → SpellsPath field []
  spelled : {text : List ℕ} → field ≢ codes "=" → IsTrue (list_all (λ b. nat_lt b 256) text) → IsTrue (has_no_nul text) →
      field ≡ spelling text → SpellsPath field text

-- keywords between commas, none of them empty, and neither `-` nor `=`
pub record IsList (field : List ℕ) : Type 0 where
  pub no_dash : field ≢ codes "-"
  pub no_equals : field ≢ codes "="
  pub words : IsFalse (has_empty_word field)

-- an argument of pledge: `-` is NULL, `=` is the empty text, and anything else is a list of keywords
pub data SpellsGiven (field : List ℕ) : Given → Type 0 where
  null : field ≡ codes "-" → SpellsGiven field Null
  nothing : field ≡ codes "=" → SpellsGiven field (Good 0)
  known : {set : ℕ} → IsList field → promises_of field ≡ Ok set → SpellsGiven field (Good set)
  unknown : {errno : Errno} → IsList field → promises_of field ≡ Err errno → SpellsGiven field Unknown

-- the letters of an unveil: `=` is no letter, and anything else is letters, of which one may be unknown
pub data SpellsPerms (field : List ℕ) : Option ℕ → Type 0 where
  no_letter : field ≡ codes "=" → SpellsPerms field (Some 0)
  letters : {set : ℕ} → field ≢ codes "=" → perms_of field ≡ Ok set → SpellsPerms field (Some set)
  unknown_letter : {errno : Errno} → field ≢ codes "=" → perms_of field ≡ Err errno → SpellsPerms field None

-- one keyword that is not `error`, and its set
pub record IsKeyword (word : List ℕ) (set : ℕ) : Type 0 where
  pub one : IsFalse (length word == 0 || has_byte 44 word)
  pub names : promises_of word ≡ Ok set
  pub other : IsFalse (holds set error)

-- further keywords: each is none of those before it
abbrev pub SpellSets : List ℕ → List (List ℕ) → List ℕ → Type 0
SpellSets before [] sets = before ≡ sets
SpellSets before (word ∷ words) sets =
    (set : ℕ) × IsKeyword word set × IsFalse (list_any (λ other. holds other set) before) × SpellSets (before ++ set ∷ []) words sets

-- keywords with `|` between them
abbrev pub SpellsSets : List ℕ → List ℕ → Type 0
SpellsSets field sets = SpellSets [] (slice_split (λ b. b == 124) field) sets

-- the decimal of a descriptor
pub record SpellsDescriptor (field : List ℕ) (number : ℕ) : Type 0 where
  pub is : field ≡ decimal number
  pub high : number ≤ most_descriptor

-- the fields of a call and its arguments
pub data SpellsAction (rules : Rules) : List (List ℕ) → Action → Type 0 where
  on_path : {word a path : List ℕ} {call : Call} → IsFalse (is_symlink call) → call_asked_by rules word ≡ Some call → SpellsPath a path →
      SpellsAction rules (word ∷ a ∷ []) (OnPath call path)
  symlink : {word a b target path : List ℕ} → word ≡ codes "symlink" → SpellsPath a target → SpellsPath b path →
      SpellsAction rules (word ∷ a ∷ b ∷ []) (Symlink target path)
  rename : {word a b old new : List ℕ} → word ≡ codes "rename" → SpellsPath a old → SpellsPath b new →
      SpellsAction rules (word ∷ a ∷ b ∷ []) (Rename old new)
  link : {word a b old new : List ℕ} → word ≡ codes "link" → SpellsPath a old → SpellsPath b new →
      SpellsAction rules (word ∷ a ∷ b ∷ []) (Link old new)
  pledge : {word a b : List ℕ} {promises execpromises : Given} → word ≡ codes "pledge" → SpellsGiven a promises →
      SpellsGiven b execpromises → SpellsAction rules (word ∷ a ∷ b ∷ []) (Pledge promises execpromises)
  unveil : {word a b path : List ℕ} {perms : Option ℕ} → word ≡ codes "unveil" → a ≢ codes "-" → b ≢ codes "-" → SpellsPath a path →
      SpellsPerms b perms → SpellsAction rules (word ∷ a ∷ b ∷ []) (Unveil path perms)
  lock : {word a b : List ℕ} → word ≡ codes "unveil" → a ≡ codes "-" → b ≡ codes "-" → SpellsAction rules (word ∷ a ∷ b ∷ []) Lock
  fork : {word a : List ℕ} {new : ℕ} → word ≡ codes "fork" → a ≡ decimal new → 1 ≤ new → new ≤ most_number →
      SpellsAction rules (word ∷ a ∷ []) (Fork new)
  exit : {word : List ℕ} → word ≡ codes "exit" → SpellsAction rules (word ∷ []) Exit
  uses : {word a sets : List ℕ} → rules ≡ Openbsd → word ≡ codes "uses" → SpellsSets a sets → SpellsAction rules (word ∷ a ∷ []) (Uses sets)
  hold : {word a b c path : List ℕ} {number : ℕ} {call : Call} → rules ≡ Openbsd → word ≡ codes "hold" → SpellsDescriptor a number →
      IsTrue (is_open call) → call_named_by Openbsd b ≡ Some call → SpellsPath c path →
      SpellsAction rules (word ∷ a ∷ b ∷ c ∷ []) (Hold number call path)
  close : {word a : List ℕ} {number : ℕ} → rules ≡ Openbsd → word ≡ codes "close" → SpellsDescriptor a number →
      SpellsAction rules (word ∷ a ∷ []) (Close number)
  fchdir : {word a : List ℕ} {number : ℕ} → rules ≡ Openbsd → word ≡ codes "fchdir" → SpellsDescriptor a number →
      SpellsAction rules (word ∷ a ∷ []) (Fchdir number)
  chroot : {word a path : List ℕ} → rules ≡ Openbsd → word ≡ codes "chroot" → SpellsPath a path →
      SpellsAction rules (word ∷ a ∷ []) (Chroot path)
  take : {word a b c : List ℕ} {number from theirs : ℕ} → rules ≡ Openbsd → word ≡ codes "take" → SpellsDescriptor a number →
      b ≡ decimal from → 1 ≤ from → from ≤ most_number → SpellsDescriptor c theirs →
      SpellsAction rules (word ∷ a ∷ b ∷ c ∷ []) (Take number from theirs)

-- a text: the decimal of the process, and the fields of what it asks for, with single spaces between fields
pub record SpellsRequest (rules : Rules) (text : List ℕ) (ask : Asked) : Type 0 where
  pub visible : IsTrue (list_all is_field (fields text))
  pub more : List (List ℕ)
  pub split : fields text ≡ decimal ask.process ∷ more
  pub low : 1 ≤ ask.process
  pub high : ask.process ≤ most_number
  pub spells : SpellsAction rules more ask.action

-- a line without a text, or one whose text spells a request
pub data SpellsLine (rules : Rules) (line : List ℕ) : Asked → Type 0 where
  blank : IsTrue (is_blank rules (text_in rules line)) → SpellsLine rules line comment
  request : {ask : Asked} → SpellsRequest rules (text_in rules line) ask → SpellsLine rules line ask

-- each line spells its request
abbrev pub SpellRequests : Rules → List (List ℕ) → List Asked → Type 0
SpellRequests rules [] [] = Unit {0}
SpellRequests rules [] (ask ∷ asks) = ⊥
SpellRequests rules (line ∷ lines) [] = ⊥
SpellRequests rules (line ∷ lines) (ask ∷ asks) = SpellsLine rules line ask × SpellRequests rules lines asks

-- the bytes are a script of these requests
abbrev pub IsScript : Rules → List ℕ → List Asked → Type 0
IsScript rules bytes asks = (length (lines bytes) ≤ most_script_lines) × SpellRequests rules (lines bytes) asks

-- the reader accepts exactly the scripts of a list of requests
abbrev pub ScriptsAreRead : Rules → Type 0
ScriptsAreRead rules = (bytes : List ℕ) (asks : List Asked) → (script_by rules bytes ≡ Ok asks) ↔ IsScript rules bytes asks
