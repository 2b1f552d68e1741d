-- What several processes with veils and promises of their own can ever touch, all of them together: the least facts of what can come
-- to stand where, and under which covers. The **crew** is the list of these processes, and of what they start. What covers a directory,
-- or a name in it, is asked of each of them by itself: what one may move, another may read where it comes.
use Rattle.std.specs.Prelude.{true, false, ◌≡◌, ◌≢◌, ◌⊎◌, ⊤, ◌&&◌, ◌||◌, not, ℕ, Bool, if◌then◌else◌, List, [], ◌∷◌, ◌++◌, map, filter, flat_map}
use Rattle.std.specs.Prelude.{is_some, Option, Some, None, Result, Ok, IsTrue, IsFalse}
use Rattle.std.specs.List.{AllByRecursion, Contains, list_any}
use Rattle.pua_tree.specs.Tree.{Tree, Spot, device, is_dir, is_mount, look, kind_at, empty_tree}
use Rattle.pua_tree.specs.declared.node.Kind.{Kind}
use Rattle.pua_path.specs.Fits.{is_link_kind}
use Rattle.pua_path.specs.Resolution.{resolution_of_text}
use Rattle.pua_path.specs.declared.errno.Errno.{Errno}
use Rattle.pua_path.specs.declared.found.Way.{Way}
use Rattle.pua_path.specs.declared.found.Found.{Found}
use Rattle.pua_path.specs.declared.found.Found.TheVariants.{Whole, Slot}
use Rattle.pua_audit.specs.Reach.{Word}
use Rattle.pua_calls.specs.Calls.{calls, CallTable, rule_of, ending_of, is_known, last_of}
use Rattle.pua_calls.specs.CallSets.{keeps_link}
use Rattle.pua_calls.specs.Promises.{fattr, holds, recvfd, sendfd}
use Rattle.pua_calls.specs.TmpTable.{tmp_table}
use Rattle.pua_calls.specs.declared.call.Call.{Call}
use Rattle.pua_calls.specs.declared.call.Call.TheVariants as call
use Rattle.pua_calls.specs.declared.rules.Rules.{Rules}
use Rattle.pua_policy.specs.States.{ProcessState, has_veil, held_set, is_ended, may_any, perms_kept, veils}
use Rattle.pua_policy.specs.Verdict.{Object, cover, Is, IsProg, IsLink, IsMissing, object_of_kind, covered_verdict, is_allowed}
use Rattle.pua_policy.specs.Verdict.{verdict_of}
use Rattle.pua_policy.specs.declared.answer.Cover.{Cover}
use Rattle.pua_policy.specs.declared.answer.Cover.TheVariants.{All, Nothing, Only}
use Rattle.pua_policy.specs.declared.answer.Verdict.TheVariants.{Allowed}
use Rattle.pua_policy.specs.declared.place.Place.TheVariants as place
use Rattle.pua_script.specs.Requests.{Asked}
use Rattle.pua_script.specs.Replay.{World, apply, new_world, kept_at, world_after}
use Rattle.pua_script.specs.Scripts.{script_by}
use Rattle.pua_script.specs.Bytes.{are_in_bytes}
use Rattle.pua_tree.specs.Listing.{listing}
use Rattle.pua_script.specs.Family.{family, family_then, is_member, HasKept}
use Rattle.pua_script.specs.Tightening.{NoCallNeedsError, Tightens}
use Rattle.pua_script.specs.Confinement.{TreesAlong, has_c}
use Rattle.pua_objects.specs.Objects.{At, Others, Item, Subject, items}
use Rattle.pua_ever.specs.Ever.{EverLine, all_new, has_ever_calls, own_spot, New, NewDir, NewOthers, NewFile, NewLink, NewSock, NewFifo, Thing, Stands, Comes}
use Rattle.pua_ever.specs.Ever.{may_start, may_start_at, new_kind, new_object, is_made_by, is_yes, can_move, can_link, is_exec_call, is_turned_by, lasting_dir, removable_dir, turning_calls}
use Rattle.pua_ever.specs.Through.{is_bounded, GoAlong}
use Rattle.pua_ever.specs.Laws.{ForeseesIn, EditsNeedC, VeilsStand, ActsWithin, NoExecLoosens, IsLineOf}
use Rattle.pua_path.specs.declared.found.Start.{Start}

-- a process on a device: what it makes there, and what it moves there, stays there
abbrev pub Hand : Type 0
Hand = ProcessState × ℕ

-- a directory: one of the beginning, or any that this process makes on this device
pub data Seat : Type 0 where
  Old : ℕ → Seat
  Made : Hand → Seat

-- what is no directory, by where it comes from: what stood in a row at the beginning, or any that this process makes on this device
pub data Source : Type 0 where
  Row : Spot → Source
  Maker : New → Hand → Source

-- the device of a directory, and that of what is none: no request takes it off there
abbrev pub seat_device : Tree → Seat → ℕ
seat_device t (Old dir) = device t dir
seat_device t (Made by) = by.1

abbrev pub source_device : Tree → Source → ℕ
source_device t (Row spot) = device t spot.0
source_device t (Maker new by) = by.1

-- what can come to be
pub data Fact : Type 0 where
  -- a directory can come to stand in another
  StandsIn : Seat → Seat → Fact
  -- the first directory can come to be neither the second nor above it
  NotAbove : Seat → Seat → Fact
  -- a cover that can come over a directory by the veils of a process, and over a name in it at which no directory stands
  DirCover : ProcessState → Seat → Cover → Fact
  NameCover : ProcessState → Seat → List ℕ → Cover → Fact
  -- a name that can come to be free
  Free : Seat → List ℕ → Fact
  -- a directory into which a process can come to put another, and a name at which it can come to put anything else
  WayIn : ProcessState → Seat → Fact
  Writes : ProcessState → Seat → List ℕ → Fact
  -- it can come to make such a thing on this device
  Makes : Hand → New → Fact
  -- something else can come to stand at a name
  StandsAt : Source → Seat → List ℕ → Fact

-- the veils of a directory and of a name in it: what is made has none
abbrev pub own_veil : ProcessState → Seat → Option ℕ
own_veil a (Old dir) = perms_kept a (place.Dir dir)
own_veil a (Made by) = None

abbrev pub name_veil : ProcessState → Seat → List ℕ → Option ℕ
name_veil a (Old dir) name = perms_kept a (place.Slot dir name)
name_veil a (Made by) name = None

-- whether it stands: a directory of the beginning may have been removed before, with a veil that is kept still
abbrev pub is_standing : Tree → Seat → Bool
is_standing t (Old dir) = is_dir t dir
is_standing t (Made by) = true

abbrev pub kind_of_source : Tree → CallTable → Source → Option Kind
kind_of_source t table (Maker new by) = Some (new_kind table new)
kind_of_source t table (Row spot) = by (look t spot.0 spot.1)
  where
    by : Option ℕ → Option Kind
    by None = None
    by (Some node) = kind_at t node

-- by what it holds it may take a name away: by rmdir or unlink, or by rename, from the old name or at the new one
abbrev pub may_take : CallTable → ProcessState → Bool
may_take table h =
    is_yes (may_any h table.rename.new.needs.alternatives)
    || (is_yes (may_any h (rule_of table call.Rmdir).alternatives) || is_yes (may_any h (rule_of table call.Unlink).alternatives))

-- the least facts that follow from the tree of the beginning
pub data Can (t : Tree) (table : CallTable) (crew : List ProcessState) : Fact → Type 0 where
  -- where it stood, where a process moves it on its device that enters there, or where one makes it
  stays_in : {dir d : ℕ} (name : List ℕ) → look t dir name ≡ Some d → IsTrue (is_dir t d) → Can t table crew (StandsIn (Old d) (Old dir))
  moved_in : {d p : Seat} (a : ProcessState) (k : Cover) → Contains crew a → Can t table crew (DirCover a d k) → IsTrue (can_move table a k) →
      Can t table crew (WayIn a p) → Can t table crew (NotAbove d p) → seat_device t d ≡ seat_device t p → Can t table crew (StandsIn d p)
  born_in : {by : Hand} {p : Seat} → Contains crew by.0 → Can t table crew (Makes by NewDir) → Can t table crew (WayIn by.0 p) →
      seat_device t p ≡ by.1 → Can t table crew (StandsIn (Made by) p)
  -- up from the second leads to the root, and not through the first
  not_above_root : {y : ℕ} → y ≢ 0 → Can t table crew (NotAbove (Old y) (Old 0))
  not_above_up : {y : ℕ} {d : Seat} (p : Seat) → d ≢ Old y → Can t table crew (StandsIn d p) → Can t table crew (NotAbove (Old y) p) →
      Can t table crew (NotAbove (Old y) d)
  not_above_made : {maker : Hand} {d : Seat} → Can t table crew (NotAbove (Made maker) d)
  -- its own veil, or what covers that in which it stands
  dir_own : {a : ProcessState} {d : Seat} {perms : ℕ} → IsTrue (is_standing t d) → own_veil a d ≡ Some perms →
      Can t table crew (DirCover a d (Only perms))
  dir_root : {a : ProcessState} → perms_kept a (place.Dir 0) ≡ None →
      Can t table crew (DirCover a (Old 0) (if has_veil a.veils then Nothing else All))
  dir_within : {a : ProcessState} {d : Seat} {k : Cover} (p : Seat) → own_veil a d ≡ None → Can t table crew (StandsIn d p) →
      Can t table crew (DirCover a p k) → Can t table crew (DirCover a d k)
  name_own : {a : ProcessState} {d : Seat} {name : List ℕ} {perms : ℕ} → IsTrue (is_standing t d) → name_veil a d name ≡ Some perms →
      Can t table crew (NameCover a d name (Only perms))
  name_within : {a : ProcessState} {d : Seat} {name : List ℕ} {k : Cover} → name_veil a d name ≡ None → Can t table crew (DirCover a d k) →
      Can t table crew (NameCover a d name k)
  -- nothing stood there, or some process that may take names away comes to have `c` on what did, and that is no mount point
  free_none : {dir : ℕ} {name : List ℕ} → look t dir name ≡ None → Can t table crew (Free (Old dir) name)
  free_made : {maker : Hand} {name : List ℕ} → Can t table crew (Free (Made maker) name)
  free_dir : {dir : ℕ} {name : List ℕ} (a : ProcessState) (d : ℕ) (k : Cover) → Contains crew a → IsTrue (may_take table a) →
      look t dir name ≡ Some d → IsTrue (is_dir t d) → IsFalse (is_mount t d) → Can t table crew (DirCover a (Old d) k) → IsTrue (has_c k) →
      Can t table crew (Free (Old dir) name)
  free_other : {dir : ℕ} {name : List ℕ} (a : ProcessState) (x : ℕ) (k : Cover) → Contains crew a → IsTrue (may_take table a) →
      look t dir name ≡ Some x → IsFalse (is_dir t x) → Can t table crew (NameCover a (Old dir) name k) → IsTrue (has_c k) →
      Can t table crew (Free (Old dir) name)
  -- by `c`, by a name that has a veil with `c`, or in the place of a directory of the same device that has one, can be emptied and come
  -- there
  way_in_by_c : {a : ProcessState} {d : Seat} (k : Cover) → Can t table crew (DirCover a d k) → IsTrue (has_c k) → Can t table crew (WayIn a d)
  way_in_by_name : {a : ProcessState} {d : Seat} (name : List ℕ) (perms : ℕ) → IsTrue (is_standing t d) → name_veil a d name ≡ Some perms →
      IsTrue (has_c (Only perms)) → Can t table crew (Free d name) → Can t table crew (WayIn a d)
  way_in_by_turn : {a : ProcessState} {d : Seat} (y perms : ℕ) (other : Seat) (k : Cover) → Can t table crew (StandsIn (Old y) d) →
      perms_kept a (place.Dir y) ≡ Some perms → IsTrue (has_c (Only perms)) →
      ((name : List ℕ) (x : ℕ) → look t y name ≡ Some x → Can t table crew (Free (Old y) name)) →
      Can t table crew (DirCover a other k) → IsTrue (can_move table a k) → other ≢ Old y → Can t table crew (NotAbove (Old y) other) →
      seat_device t d ≡ device t y → seat_device t other ≡ device t y → Can t table crew (WayIn a d)
  writes_at : {a : ProcessState} {d : Seat} {name : List ℕ} (k : Cover) → Can t table crew (NameCover a d name k) → IsTrue (has_c k) →
      Can t table crew (Free d name) → Can t table crew (Writes a d name)
  makes_at : {by : Hand} {new : New} (d : Seat) (name : List ℕ) (k : Cover) → Can t table crew (NameCover by.0 d name k) →
      Can t table crew (Free d name) →
      IsTrue (is_made_by (λ maker. is_allowed (covered_verdict empty_tree table by.0 maker k IsMissing)) new) →
      seat_device t d ≡ by.1 → Can t table crew (Makes by new)
  -- where it stood, where a process moves it on its device or gives it a further name there, or where one makes it
  stays_at : {dir : ℕ} {name : List ℕ} (x : ℕ) → look t dir name ≡ Some x → IsFalse (is_dir t x) →
      Can t table crew (StandsAt (Row (dir, name)) (Old dir) name)
  moved_at : {r : Source} {p : Seat} {other : List ℕ} (a : ProcessState) (d : Seat) (name : List ℕ) (k : Cover) → Contains crew a →
      Can t table crew (StandsAt r d name) → Can t table crew (NameCover a d name k) →
      IsTrue (can_move table a k || can_link table a (kind_of_source t table r) k) → Can t table crew (Writes a p other) →
      source_device t r ≡ seat_device t p → Can t table crew (StandsAt r p other)
  born_at : {by : Hand} {new : New} {d : Seat} {name : List ℕ} → Contains crew by.0 → Can t table crew (Makes by new) →
      Can t table crew (Writes by.0 d name) → seat_device t d ≡ by.1 → Can t table crew (StandsAt (Maker new by) d name)

-- a thing can come under a cover by the veils of this process, and be such an object then
pub data Shows (t : Tree) (table : CallTable) (crew : List ProcessState) (a : ProcessState) : Thing → Cover → Object → Type 0 where
  shows_dir : {d : ℕ} {way : Way} {k : Cover} → Can t table crew (DirCover a (Old d) k) →
      Shows t table crew a (Stands (At (Whole d way))) k lasting_dir
  shows_emptied : {d : ℕ} {way : Way} {k : Cover} → d ≢ 0 → IsFalse (is_mount t d) → Can t table crew (DirCover a (Old d) k) →
      ((name : List ℕ) (x : ℕ) → look t d name ≡ Some x → Can t table crew (Free (Old d) name)) →
      Shows t table crew a (Stands (At (Whole d way))) k removable_dir
  shows_others : {d : ℕ} {k : Cover} → Can t table crew (DirCover a (Old d) k) → Shows t table crew a (Stands (Others d)) k IsMissing
  shows_row : {dir : ℕ} {name : List ℕ} {x : ℕ} {k : Cover} (d : Seat) (other : List ℕ) → look t dir name ≡ Some x →
      Can t table crew (StandsAt (Row (dir, name)) d other) → Can t table crew (NameCover a d other k) →
      Shows t table crew a (Stands (At (Slot dir name (Some x)))) k (object_of_kind (kind_at t x))
  shows_name : {d : ℕ} {name : List ℕ} {perms : ℕ} → IsTrue (is_dir t d) → perms_kept a (place.Slot d name) ≡ Some perms →
      Can t table crew (Free (Old d) name) →
      Shows t table crew a (Stands (At (Slot d name None))) (Only perms) IsMissing
  shows_new_dir : {k : Cover} (maker : Hand) → Can t table crew (DirCover a (Made maker) k) →
      Shows t table crew a (Comes NewDir) k removable_dir
  shows_new_others : {k : Cover} (maker : Hand) → Can t table crew (DirCover a (Made maker) k) →
      Shows t table crew a (Comes NewOthers) k IsMissing
  shows_new_file : {k : Cover} (maker : Hand) (d : Seat) (name : List ℕ) → Can t table crew (StandsAt (Maker NewFile maker) d name) →
      Can t table crew (NameCover a d name k) → Shows t table crew a (Comes NewFile) k (new_object table NewFile)
  shows_new_link : {k : Cover} (maker : Hand) (d : Seat) (name : List ℕ) → Can t table crew (StandsAt (Maker NewLink maker) d name) →
      Can t table crew (NameCover a d name k) → Shows t table crew a (Comes NewLink) k IsLink
  shows_new_sock : {k : Cover} (maker : Hand) (d : Seat) (name : List ℕ) → Can t table crew (StandsAt (Maker NewSock maker) d name) →
      Can t table crew (NameCover a d name k) → Shows t table crew a (Comes NewSock) k (new_object table NewSock)
  shows_new_fifo : {k : Cover} (maker : Hand) (d : Seat) (name : List ℕ) → Can t table crew (StandsAt (Maker NewFifo maker) d name) →
      Can t table crew (NameCover a d name k) → Shows t table crew a (Comes NewFifo) k (new_object table NewFifo)

-- a link has the calls alone that keep it
abbrev pub is_link_thing : Tree → Thing → Bool
is_link_thing t (Stands (At (Slot dir name (Some node)))) = is_link_kind (kind_at t node)
is_link_thing t (Comes NewLink) = true
is_link_thing t _ = false

-- with the help of all, a call can ever be allowed to one of them on a thing
pub record IsJointlyAllowed (t : Tree) (table : CallTable) (crew : List ProcessState) (a : ProcessState) (thing : Thing) (call : Call) : Type 0 where
  pub cover : Cover
  pub object : Object
  pub shows : Shows t table crew a thing cover object
  pub named : IsTrue (keeps_link call || not (is_link_thing t thing))
  pub allowed : IsTrue (is_allowed (covered_verdict empty_tree table a call cover object))

-- a file that is a plain one or may be can come under a cover by which exec is allowed on a program: so it has exec where it can be
-- made one
pub record IsJointlyStarted (t : Tree) (table : CallTable) (crew : List ProcessState) (a : ProcessState) (thing : Thing) : Type 0 where
  pub cover : Cover
  pub is : Kind
  pub starts : IsTrue (may_start is)
  pub shows : Shows t table crew a thing cover (Is is)
  pub allowed : IsTrue (is_allowed (covered_verdict empty_tree table a call.Exec cover IsProg))

-- what a process has open it can send to another one, which sets its mode; no veil is asked for that, and no letter
abbrev pub sets_received : ProcessState → Bool
sets_received h = holds (held_set h) recvfd && holds (held_set h) fattr

-- so it can where fchmod is a call by the table
abbrev pub can_send : CallTable → ProcessState → Bool
can_send table h = is_known table call.Fchmod && holds (held_set h) sendfd

-- and one of the crew is such another
abbrev pub sends_to_set : CallTable → List ProcessState → ProcessState → Bool
sends_to_set table crew h = can_send table h && list_any sets_received crew

-- the calls by which a file can come to be a program: who can send what it has open so may also open it to read it
abbrev pub turning_by : Bool → List Call
turning_by sends = if sends then call.OpenRead ∷ turning_calls else turning_calls

-- and what is open so that it can
abbrev pub is_turned_open : Bool → ProcessState → ℕ → Bool
is_turned_open sends h node = list_any (is_turned_by (holds (held_set h) fattr || sends) node) h.files

-- such a call can ever be allowed to a process at a name of the file
pub record IsTurnedByCall (t : Tree) (table : CallTable) (crew : List ProcessState) (agent : ProcessState) (row : Spot) (node : ℕ) : Type 0 where
  pub call : Call
  pub turns : Contains (turning_by (sends_to_set table crew agent)) call
  pub allowed : IsJointlyAllowed t table crew agent (Stands (At (Slot row.0 row.1 (Some node)))) call

-- a file that stands can come to be a program: by such a call to some process of the crew, or by what that holds open
pub record IsTurned (t : Tree) (table : CallTable) (crew : List ProcessState) (node : ℕ) : Type 0 where
  pub agent : ProcessState
  pub among : Contains crew agent
  pub row : Spot
  pub at : look t row.0 row.1 ≡ Some node
  pub file : IsTrue (may_start_at (kind_at t node))
  pub by : IsTurnedByCall t table crew agent row node ⊎ IsTrue (is_turned_open (sends_to_set table crew agent) agent node)

-- a file that is made is made with any mode
abbrev pub CanTurn : Tree → CallTable → List ProcessState → Thing → Type 0
CanTurn t table crew (Stands (At (Slot dir name (Some node)))) = IsTurned t table crew node
CanTurn t table crew (Comes NewFile) = ⊤
CanTurn t table crew _ = ⊥

-- what the list of one of them has: each call that can ever be allowed to it, and exec on a file that can be made a program
abbrev pub IsJointlyListed : Tree → CallTable → List ProcessState → ProcessState → Thing → Call → Type 0
IsJointlyListed t table crew a thing call =
    IsJointlyAllowed t table crew a thing call
    ⊎ (IsTrue (is_exec_call call) × IsJointlyStarted t table crew a thing × CanTurn t table crew thing)

-- a test that tells this
pub record TellsJointly (t : Tree) (table : CallTable) (crew : List ProcessState) (a : ProcessState) (test : Thing → Call → Bool) : Type 0 where
  pub all : (thing : Thing) (call : Call) → IsJointlyListed t table crew a thing call → IsTrue (test thing call)
  pub only : (thing : Thing) (call : Call) → IsTrue (test thing call) → IsJointlyListed t table crew a thing call

-- the list of one of them as lines, by such a test: each item, then the name at which it stands, if that has a veil of its own; and
-- what can be made
abbrev pub named_too : ProcessState → Option Spot → List Subject
named_too a None = []
named_too a (Some spot) = if is_some (perms_kept a (place.Slot spot.0 spot.1)) then At (Slot spot.0 spot.1 None) ∷ [] else []

abbrev pub joint_subjects : ProcessState → Item → List (Word × Subject)
joint_subjects a item = (item.word, item.subject) ∷ map (λ subject. (item.word, subject)) (named_too a (own_spot item.subject))

abbrev pub joint_line : (Thing → Call → Bool) → Word → Thing → EverLine
joint_line test word thing = record { word = word; thing = thing; calls = filter (test thing) calls }

abbrev pub joint_lines : Tree → ProcessState → (Thing → Call → Bool) → List EverLine
joint_lines t a test =
    filter has_ever_calls
    (map (λ (about : Word × Subject). joint_line test about.0 (Stands about.1)) (flat_map (joint_subjects a) (items t (veils a)))
    ++ map (λ new. joint_line test [] (Comes new)) all_new)

-- The laws. Requests go by a table, and the facts by the one that has `tmppath` as one more set of some calls, as in the list of one.

-- a process that was started holds what was handed down, under the same veils and the same lock
abbrev pub as_started : ProcessState → ℕ → ProcessState
as_started h given = record h { promises = Some given; execpromises = None }

-- a group of processes acts by some processes: at any time each of them has the veils of one of these, no promise beyond it but
-- `error`, can put no veil, and is ended where that is
pub record IsWithinOne (agents : List ProcessState) (h : ProcessState) : Type 0 where
  pub agent : ProcessState
  pub among : Contains agents agent
  pub tightens : Tightens agent h
  pub ended : IsFalse (is_ended h) → IsFalse (is_ended agent)

abbrev pub AreWithinOne : World → List ProcessState → List ℕ → Type 0
AreWithinOne w agents members = (member : ℕ) → IsTrue (is_member members member) → HasKept w member (IsWithinOne agents)

abbrev pub StayWithinOne : CallTable → World → List Asked → List ProcessState → List ℕ → Type 0
StayWithinOne table w [] agents members = AreWithinOne w agents members
StayWithinOne table w (ask ∷ asks) agents members =
    AreWithinOne w agents members × StayWithinOne table (apply table w ask).1 asks agents (family_then table w ask members)

-- groups, each with the numbers of its members
abbrev pub groups_then : {X : Type 0} → CallTable → World → Asked → List (X × List ℕ) → List (X × List ℕ)
groups_then table w ask groups = map (λ g. (g.0, family_then table w ask g.1)) groups

-- each request is one of a member's of some group, or leaves the tree as it was
pub record ByMember {X : Type 0} (groups : List (X × List ℕ)) (process : ℕ) : Type 0 where
  pub group : X × List ℕ
  pub among : Contains groups group
  pub member : IsTrue (is_member group.1 process)

abbrev pub GroupsEdit : {X : Type 0} → CallTable → World → List Asked → List (X × List ℕ) → Type 0
GroupsEdit table w [] groups = ⊤
GroupsEdit table w (ask ∷ asks) groups =
    (ByMember groups ask.process ⊎ ((apply table w ask).1.tree ≡ w.tree))
    × GroupsEdit table (apply table w ask).1 asks (groups_then table w ask groups)

-- what a path named has a line by the facts of the beginning, and the line has the call
pub record IsJointlyForeseen (t : Tree) (table : CallTable) (crew : List ProcessState) (a : ProcessState)
    (later : Tree) (call : Call) (named : Result Found Errno) : Type 0 where
  pub object : Found
  pub names : named ≡ Ok object
  pub thing : Thing
  pub about : IsLineOf t later a thing object
  pub can : IsJointlyAllowed t table crew a thing call

abbrev pub ForeseesJointly : Tree → CallTable → List ProcessState → ProcessState → Tree → ProcessState → Type 0
ForeseesJointly t table crew now later last =
    (from : Start) (call : Call) (text : List ℕ) →
    let named = resolution_of_text later from (ending_of call) text (last_of call) in
    verdict_of later table last call named ≡ Allowed → IsJointlyForeseen t table crew now later call named

-- and where a kernel makes programs of what they make, write or set the mode of, it starts none whose line has no exec
abbrev pub ForeseesStartsJointly : Tree → CallTable → List ProcessState → ProcessState → Tree → ProcessState → Type 0
ForeseesStartsJointly t table crew now later last =
    (from : Start) (text : List ℕ) (dir : ℕ) (name : List ℕ) (node : ℕ) →
    resolution_of_text later from (ending_of call.Exec) text (last_of call.Exec) ≡ Ok (Slot dir name (Some node)) →
    IsTrue (may_start_at (kind_at later node)) →
    IsTrue (is_allowed (covered_verdict later table last call.Exec (cover later last (Slot dir name (Some node))) IsProg)) →
    (thing : Thing) × IsLineOf t later now thing (Slot dir name (Some node)) × IsJointlyStarted t table crew now thing

-- the same of one of some processes
pub record ForeseenByOne (t : Tree) (table : CallTable) (crew agents : List ProcessState) (later : Tree) (last : ProcessState) : Type 0 where
  pub agent : ProcessState
  pub among : Contains agents agent
  pub foresees : ForeseesJointly t table crew agent later last
  pub listed : (test : Thing → Call → Bool) → TellsJointly t table crew agent test →
      ForeseesIn (joint_lines t agent test) t table agent later last
  pub starts : ForeseesStartsJointly t table crew agent later last

-- groups of processes that can put no veil any more, each with veils and promises of its own: whatever they ask for, all of them
-- together, as long as others leave the tree as it is, each call that is then allowed to a member of one has its line in the list of
-- that one
abbrev pub JointlyWithin : Type 0
JointlyWithin =
    (table : CallTable) → NoCallNeedsError table → EditsNeedC table →
    (w : World) (asks : List Asked) (groups : List (List ProcessState × List ℕ)) →
    let crew = flat_map (λ (g : List ProcessState × List ℕ). g.0) groups in
    AllByRecursion (λ g. StayWithinOne table w asks g.0 g.1) groups → AllByRecursion (VeilsStand w.tree) crew →
    TreesAlong table w asks → GroupsEdit table w asks groups →
    (g : List ProcessState × List ℕ) → Contains groups g → (member : ℕ) → IsTrue (is_member (family table w asks g.1) member) →
    let after = world_after table w asks in
    HasKept after member (ForeseenByOne w.tree (tmp_table table) crew g.0 after.tree)

-- so it is of processes and what they fork, as long as no exec of theirs lets them do more
abbrev pub JointlyComplete : Type 0
JointlyComplete =
    (table : CallTable) → NoCallNeedsError table → EditsNeedC table →
    (w : World) (asks : List Asked) (groups : List (ProcessState × List ℕ)) →
    AllByRecursion (λ g. ActsWithin w g.0 g.1) groups → AllByRecursion (λ g. VeilsStand w.tree g.0) groups → TreesAlong table w asks →
    AllByRecursion (λ g. NoExecLoosens table g.0 w asks g.1) groups → GroupsEdit table w asks groups →
    (g : ProcessState × List ℕ) → Contains groups g → (member : ℕ) → IsTrue (is_member (family table w asks g.1) member) →
    let after = world_after table w asks in
    HasKept after member (ForeseenByOne w.tree (tmp_table table) (map (λ g. g.0) groups) (g.0 ∷ []) after.tree)

-- and through execs, where all that they start is bounded by what they hand down: who was started is one more of the crew, beside who
-- started it
abbrev pub both_agents : (ProcessState × ℕ) → List ProcessState
both_agents who = who.0 ∷ as_started who.0 who.1 ∷ []

abbrev pub crew_through : List ((ProcessState × ℕ) × List ℕ) → List ProcessState
crew_through groups = flat_map (λ (g : (ProcessState × ℕ) × List ℕ). both_agents g.0) groups

abbrev pub JointlyThrough : Type 0
JointlyThrough =
    (table : CallTable) → NoCallNeedsError table → EditsNeedC table →
    (w : World) (asks : List Asked) (groups : List ((ProcessState × ℕ) × List ℕ)) →
    AllByRecursion (λ g. IsTrue (is_bounded table g.0.1) × GoAlong table w g.0.0 g.0.1 g.1 × VeilsStand w.tree g.0.0) groups →
    TreesAlong table w asks → GroupsEdit table w asks groups →
    (g : (ProcessState × ℕ) × List ℕ) → Contains groups g → (member : ℕ) → IsTrue (is_member (family table w asks g.1) member) →
    let after = world_after table w asks in
    HasKept after member (ForeseenByOne w.tree (tmp_table table) (crew_through groups) (both_agents g.0) after.tree)

-- a listing and a script as a command reads them by any rules, and behind them any list of requests in bytes
abbrev pub JointlyAfterRead : Type 0
JointlyAfterRead =
    (table : CallTable) → NoCallNeedsError table → EditsNeedC table →
    (rules : Rules) (tree_bytes script_bytes : List ℕ) (t : Tree) (before asks : List Asked) →
    listing tree_bytes ≡ Ok t → script_by rules script_bytes ≡ Ok before → IsTrue (are_in_bytes asks) →
    let w = world_after table (new_world t) before in
    (groups : List ((ProcessState × ℕ) × List ℕ)) →
    AllByRecursion (λ g. IsTrue (is_bounded table g.0.1) × GoAlong table w g.0.0 g.0.1 g.1 ×
    ((process : ℕ) × (kept_at w process ≡ Some g.0.0))) groups →
    GroupsEdit table w asks groups →
    (g : (ProcessState × ℕ) × List ℕ) → Contains groups g → (member : ℕ) → IsTrue (is_member (family table w asks g.1) member) →
    let after = world_after table w asks in
    HasKept after member (ForeseenByOne w.tree (tmp_table table) (crew_through groups) (both_agents g.0) after.tree)

-- the same where only some start programs. A group acts by a process, and by what that hands down, if what it starts is bounded by that;
-- or by the process alone, if its list has no exec: then it starts none. Its list is by the crew that these make
abbrev pub agents_of : (ProcessState × Option ℕ) → List ProcessState
agents_of (now, None) = now ∷ []
agents_of (now, Some given) = now ∷ as_started now given ∷ []

abbrev pub crew_of : List ((ProcessState × Option ℕ) × List ℕ) → List ProcessState
crew_of groups = flat_map (λ (g : (ProcessState × Option ℕ) × List ℕ). agents_of g.0) groups

abbrev pub StartsAsSaid : CallTable → World → List ProcessState → (ProcessState × Option ℕ) → List ℕ → Type 0
StartsAsSaid table w crew (now, None) members =
    ActsWithin w now members × ((thing : Thing) → IsJointlyAllowed w.tree (tmp_table table) crew now thing call.Exec → ⊥)
StartsAsSaid table w crew (now, Some given) members = IsTrue (is_bounded table given) × GoAlong table w now given members

abbrev pub JointlyLasts : Type 0
JointlyLasts =
    (table : CallTable) → NoCallNeedsError table → EditsNeedC table →
    (w : World) (asks : List Asked) (groups : List ((ProcessState × Option ℕ) × List ℕ)) →
    AllByRecursion (λ g. StartsAsSaid table w (crew_of groups) g.0 g.1) groups → AllByRecursion (λ g. VeilsStand w.tree g.0.0) groups →
    TreesAlong table w asks → GroupsEdit table w asks groups →
    (g : (ProcessState × Option ℕ) × List ℕ) → Contains groups g → (member : ℕ) → IsTrue (is_member (family table w asks g.1) member) →
    let after = world_after table w asks in
    HasKept after member (ForeseenByOne w.tree (tmp_table table) (crew_of groups) (agents_of g.0) after.tree)

-- who has more help has no less in its list
abbrev pub JointlyGrows : Type 0
JointlyGrows =
    (t : Tree) (table : CallTable) (crew more : List ProcessState) → ((a : ProcessState) → Contains crew a → Contains more a) →
    (a : ProcessState) (thing : Thing) (call : Call) → IsJointlyAllowed t table crew a thing call → IsJointlyAllowed t table more a thing call

-- and so it is with exec on what is made a program
abbrev pub JointListsGrow : Type 0
JointListsGrow =
    (t : Tree) (table : CallTable) (crew more : List ProcessState) → ((a : ProcessState) → Contains crew a → Contains more a) →
    (a : ProcessState) (thing : Thing) (call : Call) → IsJointlyListed t table crew a thing call → IsJointlyListed t table more a thing call
