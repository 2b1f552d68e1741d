-- What is said of a line of a script that is refused, beside its fault.
use Rattle.std.specs.Prelude.{ℕ, ◌-◌, ◌==◌, ◌&&◌, ◌||◌, Bool, not, if◌then◌else◌, List, [], ◌∷◌, ◌++◌, length, nat_le, codes, Option, Some, None}
use Rattle.std.specs.Prelude.{Result, Ok, Err, is_some, find, option_and_then, option_map, slice_get}
use Rattle.std.specs.List.{slice_split}
use Rattle.std.specs.Option.{option_or}
use Rattle.std.specs.Str.Lines.{lines}
use Rattle.pua_tree.specs.Names.{has_byte, same_bytes}
use Rattle.pua_tree.specs.Spelling.{bytes_spelled, fields, is_field, number_within}
use Rattle.pua_path.specs.declared.errno.Errno.{Errno}
use Rattle.pua_calls.specs.Promises.{holds, error, promises_of}
use Rattle.pua_calls.specs.Neighbours.{call_asked_by}
use Rattle.pua_calls.specs.declared.rules.Rules.{Rules}
use Rattle.pua_calls.specs.declared.rules.Rules.TheVariants.{Standard, Openbsd}
use Rattle.pua_calls.specs.declared.call.Call.{Call}
use Rattle.pua_script.specs.Limits.{most_number}
use Rattle.pua_script.specs.Requests.{is_symlink}
use Rattle.pua_script.specs.Scripts.{asks_promises, descriptor_in, further_set, given_in, is_blank, is_dash, open_named, path_in, text_in}
use Rattle.pua_script.specs.FaultTexts.{script_told}
use Rattle.pua_script.specs.declared.fault.ScriptFault.{ScriptFault}
use Rattle.pua_advice.specs.declared.arguments.Arguments.{Arguments}
use Rattle.pua_advice.specs.declared.arguments.Arguments.TheVariants.{Nothing, Number, Path, TargetAndPath, TwoPaths, Promises, PathAndLetters, AnyPromises}
use Rattle.pua_advice.specs.declared.arguments.Arguments.TheVariants.{Descriptor, ToHold, ToTake}
use Rattle.pua_advice.specs.declared.advice.Advice.{Advice}
use Rattle.pua_advice.specs.declared.advice.Advice.TheVariants as lent

-- an advice, with the word of the line that it is about
pub data Advised : Type 0 where
  EmptyLine : Advised
  ExtraBlank : Advised
  HiddenByte : ℕ → Advised
  NoNumber : List ℕ → Advised
  NoCall : Advised
  UnknownCall : List ℕ → Advised
  Takes : List ℕ → Arguments → Advised
  NoPath : List ℕ → Advised
  HasNul : List ℕ → Advised
  EmptyPromise : List ℕ → Advised
  UnknownPromise : List ℕ → Advised
  UnneededPromise : List ℕ → Advised
  RepeatedPromise : List ℕ → Advised
  NoDescriptor : List ℕ → Advised
  NoOpening : List ℕ → Advised

-- the same, its word lent
abbrev pub advice_seen : Advice → Advised
advice_seen lent.EmptyLine = EmptyLine
advice_seen lent.ExtraBlank = ExtraBlank
advice_seen (lent.HiddenByte byte) = HiddenByte byte
advice_seen (lent.NoNumber word) = NoNumber word.now
advice_seen lent.NoCall = NoCall
advice_seen (lent.UnknownCall word) = UnknownCall word.now
advice_seen (lent.Takes word what) = Takes word.now what
advice_seen (lent.NoPath word) = NoPath word.now
advice_seen (lent.HasNul word) = HasNul word.now
advice_seen (lent.EmptyPromise word) = EmptyPromise word.now
advice_seen (lent.UnknownPromise word) = UnknownPromise word.now
advice_seen (lent.UnneededPromise word) = UnneededPromise word.now
advice_seen (lent.RepeatedPromise word) = RepeatedPromise word.now
advice_seen (lent.NoDescriptor word) = NoDescriptor word.now
advice_seen (lent.NoOpening word) = NoOpening word.now

-- a byte that a field may have
abbrev pub is_visible : ℕ → Bool
is_visible b = nat_le 33 b && nat_le b 126

-- what makes bytes no field
abbrev pub field_advice : List ℕ → Option Advised
field_advice [] = Some ExtraBlank
field_advice (b ∷ more) = option_map HiddenByte (find (λ b. not (is_visible b)) (b ∷ more))

-- what makes a line no fields: the first between its blanks that is none
abbrev pub form_advice : List ℕ → Option Advised
form_advice [] = Some EmptyLine
form_advice (b ∷ more) = option_and_then field_advice (find (λ field. not (is_field field)) (fields (b ∷ more)))

-- what a call with a path takes
abbrev pub call_takes : Call → Arguments
call_takes call = if is_symlink call then TargetAndPath else Path

-- and one about descriptors or the root, which there is by OpenBSD's rules alone
abbrev pub files_taken : Rules → List ℕ → Option Arguments
files_taken Standard word = None
files_taken Openbsd word =
    if same_bytes word (codes "close") then Some Descriptor
    else (if same_bytes word (codes "fchdir") then Some Descriptor
    else (if same_bytes word (codes "chroot") then Some Path
    else (if same_bytes word (codes "hold") then Some ToHold
    else (if same_bytes word (codes "take") then Some ToTake else None))))

-- what stands behind this word in a line by rules, if it is the word of a call by these
abbrev pub arguments_of : Rules → List ℕ → Option Arguments
arguments_of rules word =
    if same_bytes word (codes "exit") then Some Nothing
    else (if same_bytes word (codes "fork") then Some Number
    else (if same_bytes word (codes "rename") then Some TwoPaths
    else (if same_bytes word (codes "link") then Some TwoPaths
    else (if same_bytes word (codes "pledge") then Some Promises
    else (if same_bytes word (codes "unveil") then Some PathAndLetters
    else (if asks_promises rules word then Some AnyPromises
    else option_or (option_map call_takes (call_asked_by rules word)) (files_taken rules word)))))))

-- of a call with other arguments, and of none
abbrev pub misuse : List ℕ → Option Arguments → Option Advised
misuse word (Some what) = Some (Takes word what)
misuse word None = Some (UnknownCall word)

-- what makes a field no number of a process
abbrev pub number_advice : List ℕ → Option Advised
number_advice field = if is_some (number_within 1 most_number field) then None else Some (NoNumber field)

-- and no path: it spells nothing, or bytes with a NUL
abbrev pub unspelled_advice : List ℕ → Option (List ℕ) → Option Advised
unspelled_advice field None = Some (NoPath field)
unspelled_advice field (Some bytes) = Some (HasNul field)

abbrev pub path_advice : List ℕ → Option Advised
path_advice field = if is_some (path_in field) then None else unspelled_advice field (bytes_spelled field)

-- and no number of a descriptor, and no call that opens and makes nothing
abbrev pub descriptor_advice : List ℕ → Option Advised
descriptor_advice field = if is_some (descriptor_in field) then None else Some (NoDescriptor field)

abbrev pub opening_advice : List ℕ → Option Advised
opening_advice field = if is_some (open_named field) then None else Some (NoOpening field)

-- and no list of promises
abbrev pub list_advice : List ℕ → Option Advised
list_advice field = if is_some (given_in field) then None else Some (EmptyPromise field)

-- and an unveil's arguments none: one NULL stands alone
abbrev pub unveil_advice : List ℕ → List ℕ → List ℕ → Option Advised
unveil_advice word path letters =
    if is_dash path then (if is_dash letters then None else Some (Takes word PathAndLetters))
    else option_or (path_advice path) (if is_dash letters then Some (Takes word PathAndLetters) else None)

-- and a word no promise, or none that no call needs; or it stands among those before it
abbrev pub promise_advice : List ℕ → Result ℕ Errno → Advised
promise_advice word (Err errno) = UnknownPromise word
promise_advice word (Ok set) = if holds set error then UnneededPromise word else RepeatedPromise word

abbrev pub keyword_advice : List ℕ → List ℕ → Advised
keyword_advice call word = if length word == 0 || has_byte 44 word then Takes call AnyPromises else promise_advice word (promises_of word)

-- nothing more than this, where there is no set
abbrev pub unless_set : Option ℕ → Advised → (ℕ → Option Advised) → Option Advised
unless_set None advice next = Some advice
unless_set (Some set) advice next = next set

-- of words behind those of these sets: of the first that has no further set
abbrev pub keywords_advice : List ℕ → List ℕ → List (List ℕ) → Option Advised
keywords_advice call before [] = None
keywords_advice call before (word ∷ words) =
    unless_set (further_set before word) (keyword_advice call word) (λ set. keywords_advice call (before ++ set ∷ []) words)

-- of the promises of which a call needs one
abbrev pub uses_advice : List ℕ → List ℕ → Option Advised
uses_advice call field = keywords_advice call [] (slice_split (λ b. b == 124) field)

-- of a call that takes this, with these arguments
abbrev pub alone_advice : List ℕ → Option Arguments → Option Advised
alone_advice word (Some Nothing) = None
alone_advice word what = misuse word what

abbrev pub one_advice : List ℕ → Option Arguments → List ℕ → Option Advised
one_advice word (Some Number) a = number_advice a
one_advice word (Some Path) a = path_advice a
one_advice word (Some AnyPromises) a = uses_advice word a
one_advice word (Some Descriptor) a = descriptor_advice a
one_advice word what a = misuse word what

abbrev pub two_advice : List ℕ → Option Arguments → List ℕ → List ℕ → Option Advised
two_advice word (Some TargetAndPath) a b = option_or (path_advice a) (path_advice b)
two_advice word (Some TwoPaths) a b = option_or (path_advice a) (path_advice b)
two_advice word (Some Promises) a b = option_or (list_advice a) (list_advice b)
two_advice word (Some PathAndLetters) a b = unveil_advice word a b
two_advice word what a b = misuse word what

abbrev pub three_advice : List ℕ → Option Arguments → List ℕ → List ℕ → List ℕ → Option Advised
three_advice word (Some ToHold) a b c = option_or (descriptor_advice a) (option_or (opening_advice b) (path_advice c))
three_advice word (Some ToTake) a b c = option_or (descriptor_advice a) (option_or (number_advice b) (descriptor_advice c))
three_advice word what a b c = misuse word what

abbrev pub arguments_advice : List ℕ → Option Arguments → List (List ℕ) → Option Advised
arguments_advice word what [] = alone_advice word what
arguments_advice word what (a ∷ []) = one_advice word what a
arguments_advice word what (a ∷ b ∷ []) = two_advice word what a b
arguments_advice word what (a ∷ b ∷ c ∷ []) = three_advice word what a b c
arguments_advice word what (a ∷ b ∷ c ∷ d ∷ more) = misuse word what

-- of the fields behind the process's number
abbrev pub action_advice : Rules → List (List ℕ) → Option Advised
action_advice rules [] = Some NoCall
action_advice rules (word ∷ arguments) = arguments_advice word (arguments_of rules word) arguments

-- of the fields of a line
abbrev pub fields_advice : Rules → List (List ℕ) → Option Advised
fields_advice rules [] = Some EmptyLine
fields_advice rules (process ∷ more) = option_or (number_advice process) (action_advice rules more)

-- what is said of a line by rules: of the first thing in it that is wrong, and None where nothing is
abbrev pub text_advice : Rules → List ℕ → Option Advised
text_advice rules text = if is_some (form_advice text) then form_advice text else fields_advice rules (fields text)

-- a comment is no part of the text, and a line that has no text may stand there by OpenBSD's rules
abbrev pub advice_of : Rules → List ℕ → Option Advised
advice_of rules line = if is_blank rules (text_in rules line) then None else text_advice rules (text_in rules line)

-- the line of a script with a number, which counts from 1
abbrev pub line_at : List ℕ → ℕ → Option (List ℕ)
line_at script number = slice_get (lines script) (number - 1)

-- what is said of the line of a script that is to blame for its fault, if a line is
abbrev pub script_advice : Rules → List ℕ → ScriptFault → Option Advised
script_advice rules script fault = option_and_then (advice_of rules) (option_and_then (line_at script) (script_told fault).0)
