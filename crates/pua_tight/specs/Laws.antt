-- What a thinned script that is answered as the given one leaves to its processes.
use Rattle.std.specs.Prelude.{Option, Some, None, Result, Ok, Err, ◌≡◌, ◌≢◌, ◌≤◌, ℕ, zero, suc, List, [], ◌∷◌, map, bit_and, bit_or, length, nat_lt, IsTrue, ◌⊎◌, Bool, true}
use Rattle.std.specs.Prelude.{false, find, if◌then◌else◌}
use Rattle.pua_tree.specs.Tree.{Tree, WellFormed}
use Rattle.pua_path.specs.declared.errno.Errno.{Errno}
use Rattle.pua_calls.specs.Calls.{CallTable, Rule, rule_of, table_by_rules, openbsd_table, about_rules}
use Rattle.pua_calls.specs.declared.rules.Rules.{Rules}
use Rattle.pua_calls.specs.declared.rules.Rules.TheVariants.{Standard}
use Rattle.pua_calls.specs.Promises.{error, no_promises, promises_of}
use Rattle.pua_calls.specs.declared.call.Call.{Call}
use Rattle.pua_calls.specs.declared.call.Call.TheVariants as call
use Rattle.pua_policy.specs.States.{ProcessState}
use Rattle.std.specs.List.{Contains, list_any}
use Rattle.pua_calls.specs.Tables.{NoCallNeedsError}
use Rattle.pua_objects.specs.Objects as objects
use Rattle.pua_ever.specs.Ever.{EverLine, ever}
use Rattle.pua_ever.specs.Through.{bound_of, ever_lasting}
use Rattle.pua_policy.specs.Verdict.{verdict_on, is_allowed}
use Rattle.pua_script.specs.Requests.{Asked}
use Rattle.pua_script.specs.Openings.{Opening, openings, opens_call}
use Rattle.pua_script.specs.Replay.{World, new_world, apply, answers_to, world_after}
use Rattle.pua_script.specs.declared.answer.Answer.TheVariants.{Okay}
use Rattle.pua_script.specs.declared.request.Action.{Action}
use Rattle.pua_script.specs.declared.request.Action.TheVariants.{OnPath, Symlink, Rename, Link, Uses, Hold}
use Rattle.pua_tight.specs.Narrower.{WorldWithin, StateWithin, AskWithin, AsksWithin}
use Rattle.pua_script.specs.Scripts.{script_by}
use Rattle.pua_tight.specs.Texts.{thinned_text, tight_text}
use Rattle.pua_tight.specs.Tight.{Piece, InPromises, InExecpromises, InVeil, Line, asks_of, lines_of, without, tight, union, asked_in, all_used}

-- one request that is answered alike in both worlds leaves the one within the other
abbrev pub RequestKeepsWithin : Type 0
RequestKeepsWithin = (table : CallTable) (tight given : World) (x y : Asked) → WorldWithin tight given → AskWithin x y →
    (apply table tight x).0 ≡ (apply table given y).0 → WorldWithin (apply table tight x).1 (apply table given y).1

-- so does a script that is answered alike
abbrev pub ScriptsKeepWithin : Type 0
ScriptsKeepWithin = (table : CallTable) (tight given : World) (xs ys : List Asked) → WorldWithin tight given → AsksWithin xs ys →
    answers_to table tight xs ≡ answers_to table given ys → WorldWithin (world_after table tight xs) (world_after table given ys)

-- a call that is allowed to a process is allowed to one that it lies within: over each tree, on each path
abbrev pub WithinAllowsNoMore : Type 0
WithinAllowsNoMore = (table : CallTable) (tight given : ProcessState) → StateWithin tight given → (t : Tree) (call : Call) (text : List ℕ) →
    IsTrue (is_allowed (verdict_on t table tight call text)) → IsTrue (is_allowed (verdict_on t table given call text))

-- a line of one list of objects has one in the other: by the same names, about the same thing, with all of its calls
pub record IsListed (t : Tree) (table : CallTable) (h : ProcessState) (line : objects.Line) : Type 0 where
  pub other : objects.Line
  pub listed : Contains (objects.objects t table h) other
  pub word : other.word ≡ line.word
  pub subject : other.subject ≡ line.subject
  pub calls : (call : Call) → Contains line.calls call → Contains other.calls call

abbrev pub WithinListsNoMore : Type 0
WithinListsNoMore = (table : CallTable) (tight given : ProcessState) → StateWithin tight given → (t : Tree) (line : objects.Line) →
    Contains (objects.objects t table tight) line → IsListed t table given line

-- so of the list for ever of one's own doing: by the same names, about the same thing, with all of its calls
pub record IsListedForEver (lines : List EverLine) (line : EverLine) : Type 0 where
  pub other : EverLine
  pub listed : Contains lines other
  pub word : other.word ≡ line.word
  pub thing : other.thing ≡ line.thing
  pub calls : (call : Call) → Contains line.calls call → Contains other.calls call

abbrev pub WithinListsNoMoreForEver : Type 0
WithinListsNoMoreForEver = (table : CallTable) (tight given : ProcessState) → StateWithin tight given → (t : Tree) → WellFormed t →
    (line : EverLine) → Contains (ever t table tight) line → IsListedForEver (ever t table given) line

-- and of the list that holds longest, unless what is started is bounded in the inner one alone, which then has what that can touch too
abbrev pub WithinLastsNoMore : Type 0
WithinLastsNoMore = (table : CallTable) → NoCallNeedsError table → (tight given : ProcessState) → StateWithin tight given →
    (t : Tree) → WellFormed t → (bound_of table given ≡ None → bound_of table tight ≡ None) →
    (line : EverLine) → Contains (ever_lasting t table tight) line → IsListedForEver (ever_lasting t table given) line

-- whatever is asked next and is granted in the one world is granted in the other, and leaves them so: also unveil, pledge, fork,
-- rename, link and exec
abbrev pub WithinGrantsNoMore : Type 0
WithinGrantsNoMore = (table : CallTable) (tight given : World) (ask : Asked) → WorldWithin tight given →
    (apply table tight ask).0 ≡ Okay →
    ((apply table given ask).0 ≡ Okay) × WorldWithin (apply table tight ask).1 (apply table given ask).1

-- so whatever its processes, and those that they fork, come to do later, each of it granted, those of the given world can do
abbrev pub FuturesAreWithin : Type 0
FuturesAreWithin = (table : CallTable) (tight given : World) (later : List Asked) → WorldWithin tight given →
    answers_to table tight later ≡ map (λ ask. Okay) later →
    (answers_to table given later ≡ map (λ ask. Okay) later) × WorldWithin (world_after table tight later) (world_after table given later)

-- a tightened script is the given one but for what was left out, is answered as it, and leaves a world within the given one's
pub record IsTightened (table : CallTable) (w : World) (lines : List Line) : Type 0 where
  pub within : AsksWithin (tight table w lines) (asks_of lines)
  pub same : answers_to table w (tight table w lines) ≡ answers_to table w (asks_of lines)
  pub narrower : WorldWithin (world_after table w (tight table w lines)) (world_after table w (asks_of lines))

abbrev pub TightensScripts : Type 0
TightensScripts = (table : CallTable) (w : World) (lines : List Line) → IsTightened table w lines

-- a piece may be left out of the line at this index
abbrev pub IsPieceOf : List Piece → Piece → Type 0
IsPieceOf [] piece = ⊥
IsPieceOf (other ∷ pieces) piece = (other ≡ piece) ⊎ IsPieceOf pieces piece

abbrev pub MayLeaveOut : List Line → ℕ → Piece → Type 0
MayLeaveOut [] index piece = ⊥
MayLeaveOut (line ∷ lines) zero piece = IsPieceOf line.pieces piece
MayLeaveOut (line ∷ lines) (suc index) piece = MayLeaveOut lines index piece

-- requests that are those of lines without some of their pieces
abbrev pub without_all : List Piece → Asked → Asked
without_all [] ask = ask
without_all (piece ∷ pieces) ask = without_all pieces (without piece ask)

abbrev pub LeavesOut : List Asked → List Line → Type 0
LeavesOut [] [] = Unit {0}
LeavesOut (ask ∷ asks) (line ∷ lines) =
    ((pieces : List Piece) × ((piece : Piece) → IsPieceOf pieces piece → IsPieceOf line.pieces piece) × (ask ≡ without_all pieces line.ask))
    × LeavesOut asks lines
LeavesOut [] (line ∷ lines) = ⊥
LeavesOut (ask ∷ asks) [] = ⊥

-- only of lines that are answered ok something may be left out
abbrev pub AreOkay : CallTable → World → List Line → Type 0
AreOkay table w [] = Unit {0}
AreOkay table w (line ∷ lines) =
    ((piece : Piece) → IsPieceOf line.pieces piece → (apply table w line.ask).0 ≡ Okay) × AreOkay table (apply table w line.ask).1 lines

-- a script without a piece of the line at this index
abbrev pub leave_out : ℕ → Piece → List Asked → List Asked
leave_out index piece [] = []
leave_out zero piece (ask ∷ more) = without piece ask ∷ more
leave_out (suc index) piece (ask ∷ more) = ask ∷ leave_out index piece more

-- without any one piece more that may be left out and is left, some line is answered otherwise
abbrev pub TightIsMinimal : Type 0
TightIsMinimal = (table : CallTable) (w : World) (lines : List Line) (index : ℕ) (piece : Piece) → AreOkay table w lines →
    MayLeaveOut lines index piece → leave_out index piece (tight table w lines) ≢ tight table w lines →
    answers_to table w (leave_out index piece (tight table w lines)) ≢ answers_to table w (asks_of lines)

-- one set of promises, or none, by which nothing is ever allowed
abbrev pub HasOneSet : Rule → Type 0
HasOneSet rule = length rule.alternatives ≤ 1

-- what is asked for rests on one set of promises, if it is ever allowed: of two names each on one
abbrev pub RestsOnOne : CallTable → Action → Type 0
RestsOnOne table (OnPath call path) = HasOneSet (rule_of table call)
RestsOnOne table (Symlink target path) = HasOneSet (rule_of table call.Symlink)
RestsOnOne table (Rename old new) = HasOneSet table.rename.old.needs × HasOneSet table.rename.new.needs
RestsOnOne table (Link old new) = HasOneSet table.link.old.needs × HasOneSet table.link.new.needs
RestsOnOne table (Uses sets) = length sets ≤ 1
RestsOnOne table (Hold number call path) = HasOneSet (rule_of table call)
RestsOnOne table action = Unit {0}

-- so does each request of a script
abbrev pub RestOnOne : CallTable → List Asked → Type 0
RestOnOne table [] = Unit {0}
RestOnOne table (ask ∷ asks) = RestsOnOne table ask.action × RestOnOne table asks

-- the row of openings that has a call on a path, by a table's rules
abbrev pub row_of : CallTable → Call → List ℕ → Option Opening
row_of table call path = if (about_rules table.whose).has_openings then find (opens_call call path) openings else None

-- the promise that it names
abbrev pub named_in : Result ℕ Errno → ℕ
named_in (Ok set) = set
named_in (Err errno) = no_promises

abbrev pub promise_in : Option Opening → ℕ
promise_in None = no_promises
promise_in (Some o) = named_in (promises_of o.promise)

-- the promise that opens what is asked for by itself
abbrev pub opener_of : CallTable → Action → ℕ
opener_of table (OnPath call path) = promise_in (row_of table call path)
opener_of table (Hold number call path) = promise_in (row_of table call path)
opener_of table action = no_promises

-- those that open what some request of a script asks for
abbrev pub openers : CallTable → List Asked → ℕ
openers table asks = union (map (λ ask. opener_of table ask.action) asks)

-- none of these promises may be left out
abbrev pub promise_left : Piece → ℕ
promise_left (InPromises bit) = bit
promise_left (InExecpromises bit) = bit
promise_left (InVeil bit) = no_promises

abbrev pub Stay : ℕ → List Line → Type 0
Stay set [] = Unit {0}
Stay set (line ∷ lines) = ((piece : Piece) → IsPieceOf line.pieces piece → bit_and (promise_left piece) set ≡ 0) × Stay set lines

-- where each request rests on one set of promises, and `error` stays, and what opens a path by itself, it is the least of all:
-- whatever else is left out of the given one, as long as it is answered as before, has all that the tightened one has
abbrev pub TightIsLeast : Type 0
TightIsLeast = (table : CallTable) (w : World) (lines : List Line) (less : List Asked) → RestOnOne table (asks_of lines) →
    AreOkay table w lines → Stay (bit_or error (openers table (asks_of lines))) lines → LeavesOut less lines →
    answers_to table w less ≡ answers_to table w (asks_of lines) → AsksWithin (tight table w lines) less

-- so of a script each of whose requests rests on one set of promises, where no promise that may be left out opens a path by itself
abbrev pub HasOneWay : CallTable → List Asked → Type 0
HasOneWay table asks = RestOnOne table asks × (bit_and (asked_in table asks) (openers table asks) ≡ 0)

-- by OpenBSD's rules an owner is changed by either of two promises, and a call without a path may ask for one of several
abbrev pub is_by_either : Call → Bool
is_by_either call.Chown = true
is_by_either call.Fchown = true
is_by_either _ = false

abbrev pub has_choice : Action → Bool
has_choice (OnPath call path) = is_by_either call
has_choice (Hold number call path) = is_by_either call
has_choice (Uses sets) = nat_lt 1 (length sets)
has_choice action = false

-- no such request, and none without a path that asks for a promise which opens another one's path by itself
abbrev pub HasNoChoice : List Asked → Type 0
HasNoChoice asks = (list_any (λ ask. has_choice ask.action) asks ≡ false) × (bit_and (all_used asks) (openers openbsd_table asks) ≡ 0)

-- by the rules that a command names each script is such a one: by the standard ones each, by OpenBSD's each without such requests
abbrev pub RulesRestOnOne : Type 0
RulesRestOnOne = (rules : Rules) (bytes : List ℕ) (asks : List Asked) → script_by rules bytes ≡ Ok asks →
    (rules ≡ Standard) ⊎ HasNoChoice asks → HasOneWay (table_by_rules rules) asks

-- what may be left out of a script's requests meets what these laws ask of lines
pub record IsScriptOfLines (table : CallTable) (w : World) (more : List Asked) : Type 0 where
  pub asks : asks_of (lines_of table w more) ≡ more
  pub okay : AreOkay table w (lines_of table w more)
  pub stay : bit_and (asked_in table more) (openers table more) ≡ 0 → Stay (bit_or error (openers table more)) (lines_of table w more)

abbrev pub ScriptsAreTightened : Type 0
ScriptsAreTightened = (table : CallTable) (w : World) (more : List Asked) → IsScriptOfLines table w more

-- the bytes that are written for requests that have less than those that were read are a script of these
abbrev pub TextsAreRead : Type 0
TextsAreRead = (rules : Rules) (bytes : List ℕ) (given less : List Asked) → script_by rules bytes ≡ Ok given → AsksWithin less given →
    script_by rules (thinned_text rules less bytes) ≡ Ok less

-- so the text of a tightened script is a script of the tightened requests, of which all that stands above is proved
abbrev pub TightTextsAreRead : Type 0
TightTextsAreRead = (rules : Rules) (table : CallTable) (t : Tree) (bytes text : List ℕ) → tight_text rules table t bytes ≡ Ok text →
    (given : List Asked) × (script_by rules bytes ≡ Ok given)
    × (script_by rules text ≡ Ok (tight table (new_world t) (lines_of table (new_world t) given)))
