-- Which bytes are a script of which requests, and else which fault comes first.
use Rattle.std.specs.Prelude.{◌≡◌, ◌≢◌, MatchResult, ℕ, suc, Bool, true, false, not, ◌||◌, ◌&&◌, if◌then◌else◌, List, [], ◌∷◌, ◌++◌, length, take}
use Rattle.std.specs.Prelude.{nat_lt, ◌==◌, Option}
use Rattle.std.specs.Prelude.{Some, None, Result, Ok, Err, codes, ok_or, option_map}
use Rattle.std.specs.List.{list_all, list_any, slice_split}
use Rattle.std.specs.Option.{option_or, unwrap_or}
use Rattle.std.specs.Result.{result_ok}
use Rattle.std.specs.Str.Lines.{lines}
use Rattle.pua_tree.specs.Names.{same_bytes, has_byte}
use Rattle.pua_tree.specs.Spelling.{bytes_spelled, fields, is_field, number_within}
use Rattle.pua_tree.specs.Steps.{◌>>=◌}
use Rattle.pua_tree.specs.Listing.{only_if}
use Rattle.pua_calls.specs.Promises.{holds, error, promises_of, perms_of}
use Rattle.pua_calls.specs.Calls.{call_named_by}
use Rattle.pua_calls.specs.Neighbours.{call_asked_by}
use Rattle.pua_calls.specs.declared.rules.Rules.{Rules}
use Rattle.pua_calls.specs.declared.rules.Rules.TheVariants.{Standard, Openbsd}
use Rattle.pua_script.specs.Limits.{most_descriptor, most_script_lines, most_number}
use Rattle.pua_script.specs.Requests.{Asked, comment, is_open, is_symlink, has_no_nul}
use Rattle.pua_path.specs.declared.errno.Errno.{Errno}
use Rattle.pua_calls.specs.declared.call.Call.{Call}
use Rattle.pua_script.specs.declared.request.Given.{Given}
use Rattle.pua_script.specs.declared.request.Given.TheVariants.{Null, Good, Unknown}
use Rattle.pua_script.specs.declared.request.Action.{Action}
use Rattle.pua_script.specs.declared.request.Action.TheVariants.{OnPath, Symlink, Rename, Link, Pledge, Unveil, Lock, Fork, Exit, Uses}
use Rattle.pua_script.specs.declared.request.Action.TheVariants.{Hold, Close, Fchdir, Chroot, Take}
use Rattle.pua_script.specs.declared.fault.ScriptFault.{ScriptFault}
use Rattle.pua_script.specs.declared.fault.ScriptFault.TheVariants.{BadLine, BadCall, BadPath, BadList, TooMany, OutOfMemory}

-- the fields `-` and `=`
abbrev pub is_dash : List ℕ → Bool
is_dash field = same_bytes field (codes "-")

abbrev pub is_equals : List ℕ → Bool
is_equals field = same_bytes field (codes "=")

-- the bytes of a path or a target; `=` is the empty text
abbrev pub path_in : List ℕ → Option (List ℕ)
path_in field = if is_equals field then Some [] else only_if has_no_nul (bytes_spelled field)

-- a list of keywords with an empty word
abbrev pub has_empty_word : List ℕ → Bool
has_empty_word field = list_any (λ word. length word == 0) (slice_split (λ b. b == 44) field)

abbrev pub good_or_unknown : Result ℕ Errno → Given
good_or_unknown (Ok set) = Good set
good_or_unknown (Err errno) = Unknown

-- an argument of pledge: `-` is NULL and `=` the empty text
abbrev pub given_in : List ℕ → Option Given
given_in field =
    if is_dash field then Some Null
    else (if is_equals field then Some (Good 0)
    else (if has_empty_word field then None else Some (good_or_unknown (promises_of field))))

abbrev pub perms_in : List ℕ → Option ℕ
perms_in field = if is_equals field then Some 0 else result_ok (perms_of field)

-- the set of one keyword that is not `error`
abbrev pub set_of_keyword : List ℕ → Option ℕ
set_of_keyword word = if length word == 0 || has_byte 44 word then None
    else only_if (λ set. not (holds set error)) (result_ok (promises_of word))

-- the set of a keyword that is none of those before it
abbrev pub further_set : List ℕ → List ℕ → Option ℕ
further_set before word = only_if (λ set. not (list_any (λ other. holds other set) before)) (set_of_keyword word)

-- the sets of further keywords, after those of the keywords before them
abbrev pub sets_of : ℕ → List ℕ → List (List ℕ) → Result (List ℕ) ScriptFault
sets_of n before [] = Ok before
sets_of n before (word ∷ words) = ok_or (further_set before word) (BadList n) >>= λ set. sets_of n (before ++ set ∷ []) words

-- the sets of keywords with `|` between them, each of one promise: none twice, and none `error`
abbrev pub sets_in : ℕ → List ℕ → Result (List ℕ) ScriptFault
sets_in n field = sets_of n [] (slice_split (λ b. b == 124) field)

-- by OpenBSD's rules alone a line may ask for promises
abbrev pub asks_promises : Rules → List ℕ → Bool
asks_promises Standard word = false
asks_promises Openbsd word = same_bytes word (codes "uses")

-- a call with its fields, still to be read
pub data Form : Type 0 where
  PathForm : Call → List ℕ → Form
  SymlinkForm : List ℕ → List ℕ → Form
  RenameForm : List ℕ → List ℕ → Form
  LinkForm : List ℕ → List ℕ → Form
  PledgeForm : List ℕ → List ℕ → Form
  UnveilForm : List ℕ → List ℕ → Form
  ForkForm : ℕ → Form
  ExitForm : Form
  UsesForm : List ℕ → Form
  HoldForm : ℕ → Call → List ℕ → Form
  CloseForm : ℕ → Form
  FchdirForm : ℕ → Form
  ChrootForm : List ℕ → Form
  TakeForm : ℕ → ℕ → ℕ → Form

-- the number of a descriptor
abbrev pub descriptor_in : List ℕ → Option ℕ
descriptor_in field = number_within 0 most_descriptor field

-- the number of a process
abbrev pub number_in : List ℕ → Option ℕ
number_in field = number_within 1 most_number field

-- the call by which a path is opened and kept
abbrev pub open_named : List ℕ → Option Call
open_named word = only_if is_open (call_named_by Openbsd word)

abbrev pub hold_form : Option ℕ → Option Call → List ℕ → Option Form
hold_form (Some number) (Some call) path = Some (HoldForm number call path)
hold_form _ _ path = None

abbrev pub take_form : Option ℕ → Option ℕ → Option ℕ → Option Form
take_form (Some number) (Some from) (Some theirs) = Some (TakeForm number from theirs)
take_form _ _ _ = None

-- the forms of lines about descriptors and the root, with one argument and with three
abbrev pub file_form : List ℕ → List ℕ → Option Form
file_form word a =
    if same_bytes word (codes "close") then option_map CloseForm (descriptor_in a)
    else (if same_bytes word (codes "fchdir") then option_map FchdirForm (descriptor_in a)
    else (if same_bytes word (codes "chroot") then Some (ChrootForm a) else None))

abbrev pub files_form : List ℕ → List ℕ → List ℕ → List ℕ → Option Form
files_form word a b c =
    if same_bytes word (codes "hold") then hold_form (descriptor_in a) (open_named b) c
    else (if same_bytes word (codes "take") then take_form (descriptor_in a) (number_in b) (descriptor_in c) else None)

-- by OpenBSD's rules alone a line may be about descriptors and the root
abbrev pub if_openbsd : Rules → Option Form → Option Form
if_openbsd Standard form = None
if_openbsd Openbsd form = form

-- the form of a line, if its call is known, has that many arguments, and its numbers are such
abbrev pub form_of : Rules → List ℕ → List (List ℕ) → Option Form
form_of rules word [] = if same_bytes word (codes "exit") then Some ExitForm else None
form_of rules word (a ∷ []) =
    if same_bytes word (codes "fork") then option_map ForkForm (number_within 1 most_number a)
    else (if asks_promises rules word then Some (UsesForm a)
    else option_or (option_map (λ call. PathForm call a) (only_if (λ call. not (is_symlink call)) (call_asked_by rules word)))
    (if_openbsd rules (file_form word a)))
form_of rules word (a ∷ b ∷ []) =
    if same_bytes word (codes "symlink") then Some (SymlinkForm a b)
    else (if same_bytes word (codes "rename") then Some (RenameForm a b)
    else (if same_bytes word (codes "link") then Some (LinkForm a b)
    else (if same_bytes word (codes "pledge") then Some (PledgeForm a b)
    else (if same_bytes word (codes "unveil") then Some (UnveilForm a b) else None))))
form_of rules word (a ∷ b ∷ c ∷ []) = if_openbsd rules (files_form word a b c)
form_of rules word (a ∷ b ∷ c ∷ d ∷ more) = None

-- two paths, both read or the line's fault
abbrev pub with_paths : ℕ → (List ℕ → List ℕ → Action) → List ℕ → List ℕ → Result Action ScriptFault
with_paths n make a b = do
  first ← ok_or (path_in a) (BadPath n)
  second ← ok_or (path_in b) (BadPath n)
  Ok (make first second)

-- unveil has two NULLs or none
abbrev pub unveil_of : ℕ → List ℕ → List ℕ → Result Action ScriptFault
unveil_of n path perms =
    if is_dash path then (if is_dash perms then Ok Lock else Err (BadList n))
    else (ok_or (path_in path) (BadPath n) >>= λ text. if is_dash perms then Err (BadList n) else Ok (Unveil text (perms_in perms)))

-- what the form of line n asks for, or the fault of an argument
abbrev pub action_of : ℕ → Form → Result Action ScriptFault
action_of n (PathForm call a) = ok_or (path_in a) (BadPath n) >>= λ path. Ok (OnPath call path)
action_of n (SymlinkForm a b) = with_paths n Symlink a b
action_of n (RenameForm a b) = with_paths n Rename a b
action_of n (LinkForm a b) = with_paths n Link a b
action_of n (PledgeForm a b) = do
  promises ← ok_or (given_in a) (BadList n)
  execpromises ← ok_or (given_in b) (BadList n)
  Ok (Pledge promises execpromises)
action_of n (UnveilForm a b) = unveil_of n a b
action_of n (ForkForm new) = Ok (Fork new)
action_of n ExitForm = Ok Exit
action_of n (UsesForm a) = sets_in n a >>= λ sets. Ok (Uses sets)
action_of n (HoldForm number call c) = ok_or (path_in c) (BadPath n) >>= λ path. Ok (Hold number call path)
action_of n (CloseForm number) = Ok (Close number)
action_of n (FchdirForm number) = Ok (Fchdir number)
action_of n (ChrootForm a) = ok_or (path_in a) (BadPath n) >>= λ path. Ok (Chroot path)
action_of n (TakeForm number from theirs) = Ok (Take number from theirs)

-- the fields after the process's number: the call and its arguments, and what they ask for
abbrev pub form_in : Rules → List (List ℕ) → Option Form
form_in rules [] = None
form_in rules (word ∷ arguments) = form_of rules word arguments

abbrev pub action_by : ℕ → Option Form → Result Action ScriptFault
action_by n form = ok_or form (BadCall n) >>= action_of n

abbrev pub action_in : Rules → ℕ → List (List ℕ) → Result Action ScriptFault
action_in rules n more = action_by n (form_in rules more)

abbrev pub request_of_fields : Rules → ℕ → List (List ℕ) → Result Asked ScriptFault
request_of_fields rules n [] = Err (BadLine n)
request_of_fields rules n (process ∷ more) = do
  number ← ok_or (number_within 1 most_number process) (BadLine n)
  action ← action_in rules n more
  Ok (record { process = number; action = action })

-- a byte before the rest of a text, before whose end a blank doesn't count
abbrev pub before_rest : ℕ → List ℕ → List ℕ
before_rest b [] = if b == 32 then [] else b ∷ []
before_rest b (next ∷ more) = b ∷ next ∷ more

-- what stands before a comment and the blanks before that, where a `#` begins one: as a line's first byte, or behind a blank
abbrev pub before_comment : Bool → List ℕ → Option (List ℕ)
before_comment may_begin [] = None
before_comment may_begin (b ∷ more) =
    if may_begin && b == 35 then Some [] else option_map (before_rest b) (before_comment (b == 32) more)

-- by OpenBSD's rules alone a line may have a comment
abbrev pub text_in : Rules → List ℕ → List ℕ
text_in Standard line = line
text_in Openbsd line = unwrap_or (before_comment true line) line

-- by OpenBSD's rules alone a line may have no text, or blanks alone
abbrev pub is_blank : Rules → List ℕ → Bool
is_blank Standard text = false
is_blank Openbsd text = list_all (λ b. b == 32) text

abbrev pub request_of_text : Rules → ℕ → List ℕ → Result Asked ScriptFault
request_of_text rules n text = if list_all is_field (fields text) then request_of_fields rules n (fields text) else Err (BadLine n)

-- what line n asks for, or its first fault
abbrev pub request_by : Rules → ℕ → List ℕ → Result Asked ScriptFault
request_by rules n line = if is_blank rules (text_in rules line) then Ok comment else request_of_text rules n (text_in rules line)

-- by the standard rules
abbrev pub request_of : ℕ → List ℕ → Result Asked ScriptFault
request_of n text = request_by Standard n text

-- the requests of lines, of which the first is line n, or the fault of the first line that has one
abbrev pub requests_of : Rules → ℕ → List (List ℕ) → Result (List Asked) ScriptFault
requests_of rules n [] = Ok []
requests_of rules n (text ∷ texts) =
    request_by rules n text >>= λ request. requests_of rules (suc n) texts >>= λ requests. Ok (request ∷ requests)

-- the requests of which the bytes are a script, or their first fault
abbrev pub script_by : Rules → List ℕ → Result (List Asked) ScriptFault
script_by rules bytes = requests_of rules 1 (take most_script_lines (lines bytes)) >>= λ requests. if nat_lt most_script_lines (length (lines bytes)) then
    Err TooMany else Ok requests

-- by the standard rules, which have the fourteen calls
abbrev pub script : List ℕ → Result (List Asked) ScriptFault
script bytes = script_by Standard bytes

-- a reader answers as the definition does, unless a growth was refused
abbrev pub IsReadAs : {A : Type 0} → Result A ScriptFault → Result A ScriptFault → Type 0
IsReadAs rule read = MatchResult read (λ x. rule ≡ Ok x) (λ fault. fault ≢ OutOfMemory → rule ≡ Err fault)
