-- What is true of all that can ever be touched.
use Rattle.std.specs.Prelude.{◌≡◌, ◌⊎◌, ⊤, ◌<◌, ◌≤◌, ◌++◌, ℕ, Bool, false, List, [], ◌∷◌, Some, None, Result, Ok, IsTrue, IsFalse}
use Rattle.std.specs.List.{Contains}
use Rattle.pua_tree.specs.Tree.{Tree, WellFormed, Spot, look, kind_at}
use Rattle.pua_tree.specs.declared.node.Kind.TheVariants as kind
use Rattle.pua_tree.specs.declared.node.FileType.TheVariants as file_type
use Rattle.pua_path.specs.Resolution.{resolution_of_text}
use Rattle.pua_path.specs.declared.errno.Errno.{Errno}
use Rattle.pua_path.specs.declared.found.Way.{Way}
use Rattle.pua_path.specs.declared.found.Found.{Found}
use Rattle.pua_path.specs.declared.found.Found.TheVariants.{Whole, Slot}
use Rattle.pua_calls.specs.Promises.{holds, creating}
use Rattle.pua_calls.specs.Calls.{CallTable, table_by_rules, rule_of, ending_of, last_of}
use Rattle.pua_calls.specs.TmpTable.{tmp_table}
use Rattle.pua_calls.specs.declared.rules.Rules.{Rules}
use Rattle.pua_policy.specs.States.{ProcessState, perms_kept, is_ended}
use Rattle.pua_policy.specs.Verdict.{IsProg, cover, covered_verdict, object_named, verdict_of}
use Rattle.pua_policy.specs.declared.answer.Verdict.TheVariants.{Allowed}
use Rattle.pua_calls.specs.declared.call.Call.{Call}
use Rattle.pua_calls.specs.declared.call.Call.TheVariants as call
use Rattle.pua_policy.specs.declared.place.Place.{Place}
use Rattle.pua_policy.specs.declared.place.Place.TheVariants as place
use Rattle.pua_script.specs.Requests.{Asked}
use Rattle.pua_tree.specs.Listing.{listing}
use Rattle.pua_script.specs.Scripts.{script_by}
use Rattle.pua_script.specs.Replay.{World, apply, new_world, kept_at, world_after}
use Rattle.pua_script.specs.Laws.{IsConfined}
use Rattle.pua_script.specs.Family.{family, family_then, is_done, is_member, none_done, members_alone, is_exec, HasKept}
use Rattle.pua_script.specs.Tightening.{NoCallNeedsError, Tightens}
use Rattle.pua_script.specs.Confinement.{TreesAlong, changes_names}
use Rattle.pua_script.specs.Bytes.{are_in_bytes}
use Rattle.pua_script.specs.OpeningLaws.{may_open}
use Rattle.pua_script.specs.declared.request.Action.TheVariants.{OnPath}
use Rattle.pua_script.specs.declared.answer.Answer.TheVariants.{Okay}
use Rattle.pua_objects.specs.Objects.{At, Others, Line, objects, own_way}
use Rattle.pua_ever.specs.Ever.{NewDir, NewOthers, NewFile, NewLink, NewSock, NewFifo, may_start_at, Thing, Stands, Comes, EverLine, turning_calls, is_turned_there, ever}
use Rattle.pua_path.specs.declared.found.Start.{Start}

-- the calls that make a name or take one away need `c`, and so do both names of rename and the new one of link: its old
-- name stays, whatever it needs
pub record EditsNeedC (table : CallTable) : Type 0 where
  pub calls : (edit : Call) → IsTrue (changes_names edit) → IsTrue (holds (rule_of table edit).perms creating)
  pub rename_old : IsTrue (holds table.rename.old.needs.perms creating)
  pub rename_new : IsTrue (holds table.rename.new.needs.perms creating)
  pub link_new : IsTrue (holds table.link.new.needs.perms creating)

-- each veil stands on a directory, or in one, whose number was given
abbrev pub dir_of_place : Place → ℕ
dir_of_place (place.Dir dir) = dir
dir_of_place (place.Slot dir name) = dir

abbrev pub VeilsStand : Tree → ProcessState → Type 0
VeilsStand t h = (at : Place) (perms : ℕ) → perms_kept h at ≡ Some perms → dir_of_place at < t.next

-- the line of what a path named in a later tree, by what stood in the tree `t` of the beginning:
-- a directory of then has its own; a file, program or link of then that of the row in which it stands, where it stood
-- there then, and else that of one in which it stood;
-- a missing name its own, where a veil is kept at it, and else that of its directory's further names.
-- What has a number that was not given then is new, and its line is that of its kind
pub data IsLineOf (t later : Tree) (h : ProcessState) : Thing → Found → Type 0 where
  of_dir : {dir : ℕ} {way : Way} →
      dir < t.next → IsLineOf t later h (Stands (At (Whole dir (own_way t dir)))) (Whole dir way)
  of_row : {dir : ℕ} {name : List ℕ} {node : ℕ} →
      (row : Spot) → look t row.0 row.1 ≡ Some node → (look t dir name ≡ Some node → row ≡ (dir, name)) →
      IsLineOf t later h (Stands (At (Slot row.0 row.1 (Some node)))) (Slot dir name (Some node))
  of_name : {dir : ℕ} {name : List ℕ} →
      (perms : ℕ) → perms_kept h (place.Slot dir name) ≡ Some perms →
      IsLineOf t later h (Stands (At (Slot dir name None))) (Slot dir name None)
  of_others : {dir : ℕ} {name : List ℕ} →
      dir < t.next → perms_kept h (place.Slot dir name) ≡ None →
      IsLineOf t later h (Stands (Others dir)) (Slot dir name None)
  of_new_dir : {dir : ℕ} {way : Way} →
      t.next ≤ dir → IsLineOf t later h (Comes NewDir) (Whole dir way)
  of_new_file : {dir : ℕ} {name : List ℕ} {node : ℕ} →
      t.next ≤ node → IsTrue (may_start_at (kind_at later node)) →
      IsLineOf t later h (Comes NewFile) (Slot dir name (Some node))
  of_new_link : {dir : ℕ} {name : List ℕ} {node : ℕ} →
      t.next ≤ node → kind_at later node ≡ Some kind.Link →
      IsLineOf t later h (Comes NewLink) (Slot dir name (Some node))
  of_new_sock : {dir : ℕ} {name : List ℕ} {node : ℕ} →
      t.next ≤ node → kind_at later node ≡ Some (kind.Known file_type.Sock) →
      IsLineOf t later h (Comes NewSock) (Slot dir name (Some node))
  of_new_fifo : {dir : ℕ} {name : List ℕ} {node : ℕ} →
      t.next ≤ node → kind_at later node ≡ Some (kind.Known file_type.Fifo) →
      IsLineOf t later h (Comes NewFifo) (Slot dir name (Some node))
  of_new_others : {dir : ℕ} {name : List ℕ} →
      t.next ≤ dir → IsLineOf t later h (Comes NewOthers) (Slot dir name None)

-- what a path named has a line in a list, and the line has the call
pub record IsForeseenIn (lines : List EverLine) (t : Tree) (h : ProcessState)
    (later : Tree) (call : Call) (named : Result Found Errno) : Type 0 where
  pub object : Found
  pub names : named ≡ Ok object
  pub line : EverLine
  pub listed : Contains lines line
  pub about : IsLineOf t later h line.thing object
  pub allows : Contains line.calls call

abbrev pub IsForeseen : Tree → CallTable → ProcessState → Tree → Call → Result Found Errno → Type 0
IsForeseen t table h later call named = IsForeseenIn (ever t table h) t h later call named

-- over a later tree: whatever path is spelled, of any number of components, from whatever directory, if a call is allowed on it to a
-- process, the line of what it names has the call; a path of more bytes than a request can have names nothing
abbrev pub ForeseesIn : List EverLine → Tree → CallTable → ProcessState → Tree → ProcessState → Type 0
ForeseesIn lines t table now later last =
    (from : Start) (call : Call) (text : List ℕ) →
    let named = resolution_of_text later from (ending_of call) text (last_of call) in
    verdict_of later table last call named ≡ Allowed → IsForeseenIn lines t now later call named

abbrev pub Foresees : Tree → CallTable → ProcessState → Tree → ProcessState → Type 0
Foresees t table now later last = ForeseesIn (ever t table now) t table now later last

-- a process that can put no veil any more, and what it forks from now on: whatever they alone ask for, as
-- long as no exec of a member is answered ok, each call that is then allowed to a member has its line now.
-- Each list begins with its own shorter ones, so this is of every moment on the way. The requests go by the table, and
-- the list by the one that has `tmppath` as one more set of some calls, since a promise can open these: so what is allowed
-- by that one has its line too
abbrev pub EverComplete : Type 0
EverComplete =
    (table : CallTable) → NoCallNeedsError table → EditsNeedC table →
    (w : World) (asks : List Asked) (process : ℕ) (now : ProcessState) →
    kept_at w process ≡ Some now → IsConfined now → VeilsStand w.tree now → TreesAlong table w asks →
    IsTrue (none_done is_exec table w asks (process ∷ [])) →
    IsTrue (members_alone table w asks (process ∷ [])) →
    (member : ℕ) → IsTrue (is_member (family table w asks (process ∷ [])) member) →
    let after = world_after table w asks in
    HasKept after member (Foresees w.tree (tmp_table table) now after.tree)

-- each request is a member's, or leaves the tree as it was
abbrev pub MembersEdit : CallTable → World → List Asked → List ℕ → Type 0
MembersEdit table w [] members = ⊤
MembersEdit table w (ask ∷ asks) members =
    (IsTrue (is_member members ask.process) ⊎ ((apply table w ask).1.tree ≡ w.tree))
    × MembersEdit table (apply table w ask).1 asks (family_then table w ask members)

-- no line has `exec`
abbrev pub NoLineHasExec : Tree → CallTable → ProcessState → Type 0
NoLineHasExec t table h =
    (line : EverLine) → Contains (ever t table h) line → Contains line.calls call.Exec → ⊥

-- then no exec of a member can be answered ok, whatever others ask for that leaves the tree as it is: what the laws ask for is so by
-- itself
abbrev pub WithoutExec : Type 0
WithoutExec =
    (table : CallTable) → NoCallNeedsError table → EditsNeedC table →
    (w : World) (asks : List Asked) (process : ℕ) (now : ProcessState) →
    kept_at w process ≡ Some now → IsConfined now → VeilsStand w.tree now → TreesAlong table w asks →
    MembersEdit table w asks (process ∷ []) → NoLineHasExec w.tree (tmp_table table) now →
    IsTrue (none_done is_exec table w asks (process ∷ []))

-- a process holds what a path named so that it can be written, or its mode be set
abbrev pub is_turned_found : ProcessState → Found → Bool
is_turned_found h (Slot dir name node) = is_turned_there h node
is_turned_found h (Whole dir way) = false

-- over a later tree: whatever path names a file that may be a plain one, and on which exec would be allowed to a process, were it a program. It has a
-- line: that of a file of then has exec where it has a call by which the file can come to be a program, and that of a new
-- file has it in any case. One that a holder of then held open, so that it could be written or its mode be set, has exec too
pub record IsStartForeseenIn (lines : List EverLine) (t : Tree) (h holder : ProcessState) (later : Tree) (object : Found) : Type 0 where
  pub thing : Thing
  pub about : IsLineOf t later h thing object
  pub turned : (line : EverLine) → Contains lines line → line.thing ≡ thing →
      (turning : Call) → Contains turning_calls turning → Contains line.calls turning → Contains line.calls call.Exec
  pub held : IsTrue (is_turned_found holder object) →
      (line : EverLine) × Contains lines line × (line.thing ≡ thing) × Contains line.calls call.Exec
  pub made : thing ≡ Comes NewFile →
      (line : EverLine) × Contains lines line × (line.thing ≡ Comes NewFile) × Contains line.calls call.Exec

abbrev pub IsStartForeseen : Tree → CallTable → ProcessState → Tree → Found → Type 0
IsStartForeseen t table h later object = IsStartForeseenIn (ever t table h) t h h later object

abbrev pub ForeseesStartsIn : List EverLine → Tree → CallTable → (now holder : ProcessState) → Tree → ProcessState → Type 0
ForeseesStartsIn lines t table now holder later last =
    (from : Start) (text : List ℕ) (dir : ℕ) (name : List ℕ) (node : ℕ) →
    resolution_of_text later from (ending_of call.Exec) text (last_of call.Exec) ≡ Ok (Slot dir name (Some node)) →
    IsTrue (may_start_at (kind_at later node)) →
    covered_verdict later table last call.Exec (cover later last (Slot dir name (Some node))) IsProg ≡ Allowed →
    IsStartForeseenIn lines t now holder later (Slot dir name (Some node))

abbrev pub ForeseesStarts : Tree → CallTable → ProcessState → Tree → ProcessState → Type 0
ForeseesStarts t table now later last = ForeseesStartsIn (ever t table now) t table now now later last

-- several processes that act together: each has the veils of one state, no promise beyond it but `error`,
-- and is ended where that is. Such are a process and those that it forked before now, if none has put a
-- veil since
abbrev pub ActsWithin : World → ProcessState → List ℕ → Type 0
ActsWithin w now members =
    (member : ℕ) → IsTrue (is_member members member) →
    HasKept w member (λ h. Tightens now h × (IsFalse (is_ended h) → IsFalse (is_ended now)))

-- the same of them, and of what they fork
abbrev pub EverOfMany : Type 0
EverOfMany =
    (table : CallTable) → NoCallNeedsError table → EditsNeedC table →
    (w : World) (asks : List Asked) (members : List ℕ) (now : ProcessState) →
    ActsWithin w now members → VeilsStand w.tree now → TreesAlong table w asks →
    IsTrue (none_done is_exec table w asks members) → IsTrue (members_alone table w asks members) →
    (member : ℕ) → IsTrue (is_member (family table w asks members) member) →
    let after = world_after table w asks in
    HasKept after member (Foresees w.tree (tmp_table table) now after.tree)

-- an exec of a member that is answered ok leaves it within a state: with its veils, no promise beyond it but `error`, and
-- no way to put veils. So it is where execpromises were set that the state holds, since veils and lock then stay
abbrev pub LoosensNone : CallTable → ProcessState → World → Asked → List ℕ → Type 0
LoosensNone table now w ask members =
    IsTrue (is_done is_exec table w ask members) →
    HasKept (apply table w ask).1 ask.process (λ h. Tightens now h × (IsFalse (is_ended h) → IsFalse (is_ended now)))

abbrev pub NoExecLoosens : CallTable → ProcessState → World → List Asked → List ℕ → Type 0
NoExecLoosens table now w [] members = ⊤
NoExecLoosens table now w (ask ∷ asks) members =
    LoosensNone table now w ask members × NoExecLoosens table now (apply table w ask).1 asks (family_then table w ask members)

-- the same of them where others may ask for anything that leaves the tree as it is, and members may become other
-- programs, if these may do no more
abbrev pub EverWithExecs : Type 0
EverWithExecs =
    (table : CallTable) → NoCallNeedsError table → EditsNeedC table →
    (w : World) (asks : List Asked) (members : List ℕ) (now : ProcessState) →
    ActsWithin w now members → VeilsStand w.tree now → TreesAlong table w asks →
    NoExecLoosens table now w asks members → MembersEdit table w asks members →
    (member : ℕ) → IsTrue (is_member (family table w asks members) member) →
    let after = world_after table w asks in
    HasKept after member (Foresees w.tree (tmp_table table) now after.tree)

-- so a call on a path that a member is then answered ok has its line, or the text is one that a promise opens which the state holds,
-- pledged or not: such a text has a line of its own in the state, and none of its thing
abbrev pub IsAccountedFor : Tree → CallTable → ProcessState → Tree → ProcessState → Call → List ℕ → Type 0
IsAccountedFor t table now later last call text =
    IsForeseen t (tmp_table table) now later call (object_named later last call text) ⊎ IsTrue (may_open now call text)

abbrev pub OkaysAreForeseen : Type 0
OkaysAreForeseen =
    (table : CallTable) → NoCallNeedsError table → EditsNeedC table →
    (w : World) (asks : List Asked) (members : List ℕ) (now : ProcessState) →
    ActsWithin w now members → VeilsStand w.tree now → TreesAlong table w asks →
    NoExecLoosens table now w asks members → MembersEdit table w asks members →
    (member : ℕ) → IsTrue (is_member (family table w asks members) member) →
    let after = world_after table w asks in
    HasKept after member (λ last. (call : Call) (text : List ℕ) →
    (apply table after (record { process = member; action = OnPath call text })).0 ≡ Okay →
    IsAccountedFor w.tree table now after.tree last call text)

-- the same of them where others may ask for anything that leaves the tree as it is
abbrev pub EverBeside : Type 0
EverBeside =
    (table : CallTable) → NoCallNeedsError table → EditsNeedC table →
    (w : World) (asks : List Asked) (members : List ℕ) (now : ProcessState) →
    ActsWithin w now members → VeilsStand w.tree now → TreesAlong table w asks →
    IsTrue (none_done is_exec table w asks members) → MembersEdit table w asks members →
    (member : ℕ) → IsTrue (is_member (family table w asks members) member) →
    let after = world_after table w asks in
    HasKept after member (Foresees w.tree (tmp_table table) now after.tree)

-- so where a kernel makes programs of what they make, write or set the mode of, it starts none whose line has no exec
abbrev pub StartsForeseen : Type 0
StartsForeseen =
    (table : CallTable) → NoCallNeedsError table → EditsNeedC table →
    (w : World) (asks : List Asked) (members : List ℕ) (now : ProcessState) →
    ActsWithin w now members → VeilsStand w.tree now → TreesAlong table w asks →
    IsTrue (none_done is_exec table w asks members) → MembersEdit table w asks members →
    (member : ℕ) → IsTrue (is_member (family table w asks members) member) →
    let after = world_after table w asks in
    HasKept after member (ForeseesStarts w.tree (tmp_table table) now after.tree)

-- each veil of each process stands on a number that was given: so it is in each world that a replay leaves
abbrev pub PlacesStand : World → Type 0
PlacesStand w = (process : ℕ) (h : ProcessState) → kept_at w process ≡ Some h → VeilsStand w.tree h

-- and so it is before the first request
abbrev pub NewPlacesStand : Type 0
NewPlacesStand = (t : Tree) → PlacesStand (new_world t)

abbrev pub ReplaysKeepPlaces : Type 0
ReplaysKeepPlaces =
    (table : CallTable) → EditsNeedC table → (w : World) (asks : List Asked) →
    TreesAlong table w asks → PlacesStand w → PlacesStand (world_after table w asks)

-- a listing and a script as a command reads them by any rules, cut anywhere: the first lines left a world, in which some
-- process can put no veil any more, and its family alone asks the further ones
abbrev pub EverAsRead : Type 0
EverAsRead =
    (table : CallTable) → NoCallNeedsError table → EditsNeedC table →
    (rules : Rules) (tree_bytes script_bytes : List ℕ) (t : Tree) (first asks : List Asked) →
    listing tree_bytes ≡ Ok t → script_by rules script_bytes ≡ Ok (first ++ asks) →
    let w = world_after table (new_world t) first in
    (process : ℕ) (now : ProcessState) → kept_at w process ≡ Some now → IsConfined now →
    IsTrue (none_done is_exec table w asks (process ∷ [])) →
    IsTrue (members_alone table w asks (process ∷ [])) →
    (member : ℕ) → IsTrue (is_member (family table w asks (process ∷ [])) member) →
    let after = world_after table w asks in
    HasKept after member (Foresees w.tree (tmp_table table) now after.tree)

-- a listing and a script as a command reads them by any rules, and behind them any list of requests in bytes, however long,
-- in which others than the family leave the tree as it is
abbrev pub EverAfterRead : Type 0
EverAfterRead =
    (table : CallTable) → NoCallNeedsError table → EditsNeedC table →
    (rules : Rules) (tree_bytes script_bytes : List ℕ) (t : Tree) (first asks : List Asked) →
    listing tree_bytes ≡ Ok t → script_by rules script_bytes ≡ Ok first → IsTrue (are_in_bytes asks) →
    let w = world_after table (new_world t) first in
    (process : ℕ) (now : ProcessState) → kept_at w process ≡ Some now → IsConfined now →
    IsTrue (none_done is_exec table w asks (process ∷ [])) → MembersEdit table w asks (process ∷ []) →
    (member : ℕ) → IsTrue (is_member (family table w asks (process ∷ [])) member) →
    let after = world_after table w asks in
    HasKept after member (Foresees w.tree (tmp_table table) now after.tree)

-- a line of now has one in a list: by the same names, about the same thing, with all of its calls
pub record IsWithinLines (lines : List EverLine) (line : Line) : Type 0 where
  pub later : EverLine
  pub listed : Contains lines later
  pub word : later.word ≡ line.word
  pub about : later.thing ≡ Stands line.subject
  pub allows : (call : Call) → Contains line.calls call → Contains later.calls call

abbrev pub IsWithinEver : Tree → CallTable → ProcessState → Line → Type 0
IsWithinEver t table h line = IsWithinLines (ever t table h) line

-- so the list of the objects of now lies within the list for ever, by any table, of any process
abbrev pub NowWithinEver : Type 0
NowWithinEver =
    (t : Tree) (table : CallTable) (h : ProcessState) → WellFormed t →
    (line : Line) → Contains (objects t table h) line → IsWithinEver t (tmp_table table) h line

-- the rules that a command names, whichever they are, are tables that the laws speak of
abbrev pub RulesEditByC : Type 0
RulesEditByC = (rules : Rules) → NoCallNeedsError (table_by_rules rules) × EditsNeedC (table_by_rules rules)
