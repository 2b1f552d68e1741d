-- What the guards of a change had: which checks a granted request passed.
use Rattle.std.specs.Prelude.{◌≡◌, ℕ, true, false, ◌||◌, List, [], ◌∷◌, ◌⊎◌, Option, Some, None, Ok, IsOk, IsTrue, IsFalse, is_some}
use Rattle.pua_tree.specs.Tree.{Tree, Spot, is_dir, is_living, look, target_fits}
use Rattle.pua_tree.specs.Edits.{is_same_node, cut, shift}
use Rattle.pua_path.specs.Paths.{path_fault}
use Rattle.pua_path.specs.Resolution.{resolution_of_text}
use Rattle.pua_path.specs.Fits.{spot_named, node_named}
use Rattle.pua_calls.specs.Promises.{id, proc, recvfd, unveil}
use Rattle.pua_calls.specs.Calls.{CallTable, PairRule, rule_of}
use Rattle.pua_calls.specs.TmpTable.{tmp_table}
use Rattle.pua_policy.specs.States.{ProcessState, Pledged, Unveiled, Locked, Moved, ToDir, Ended, Filed, start, is_locked, pledge_fault}
use Rattle.pua_policy.specs.States.{file_at, is_directory, may_any, unveil_fault}
use Rattle.pua_policy.specs.declared.open_file.OpenFile.{OpenFile}
use Rattle.pua_policy.specs.Verdict.{place_of, cover, cover_fault, object_named, object_fault, object_of}
use Rattle.pua_script.specs.Decide.{link_node, is_whole, kinds_fault, inside_fault, unveil_errno, given_set, is_unknown, Change, NoChange}
use Rattle.pua_script.specs.Decide.{AddNode, CutRow, ShiftRow, TieRow, AddEvent, CopyAs, TakeFile, adding, change_by, shifting, tying, ways_fault}
use Rattle.pua_script.specs.Decide.{named_by, decide, asker_of, cover_past, holding, is_elsewhere, rooting, Sole}
use Rattle.pua_script.specs.Openings.{Opening, opening_of}
use Rattle.pua_path.specs.declared.text.Ending.{Ending}
use Rattle.pua_path.specs.declared.text.Ending.TheVariants as ending
use Rattle.pua_path.specs.declared.found.Last.TheVariants.{Followed}
use Rattle.pua_path.specs.declared.found.Found.{Found}
use Rattle.pua_calls.specs.declared.rules.Rules.{Rules}
use Rattle.pua_calls.specs.declared.call.Call.{Call}
use Rattle.pua_calls.specs.declared.call.Call.TheVariants as call
use Rattle.pua_policy.specs.declared.answer.May.TheVariants as may
use Rattle.pua_script.specs.declared.request.Given.{Given}
use Rattle.pua_script.specs.declared.request.Action.{Action}
use Rattle.pua_script.specs.declared.request.Action.TheVariants.{OnPath, Symlink, Rename, Link, Pledge, Unveil, Lock, Fork, Exit, Uses, Comment}
use Rattle.pua_script.specs.declared.request.Action.TheVariants.{Hold, Close, Fchdir, Chroot, Take}

-- a call on what its path named: its promises, its letters, and the kind that it is for
pub record OnOne (table : CallTable) (t : Tree) (h : ProcessState) (call : Call) (path : List ℕ) (object : Found) : Type 0 where
  pub promised : may_any h (rule_of table call).alternatives ≡ may.Yes
  pub found : object_named t h call path ≡ Ok object
  pub covered : cover_fault (cover t h object) (rule_of table call).perms ≡ None
  pub fitting : object_fault table.whose t call (object_of t object) ≡ None

-- a call that a promise opens: its opening, what its path names, the letters where the veils are asked, and the kind that it is for
pub record IsOpened (table : CallTable) (t : Tree) (h : ProcessState) (call : Call) (path : List ℕ) (object : Found) : Type 0 where
  pub opening : Opening
  pub opened : opening_of table h call path ≡ Some opening
  pub found : object_named t h call path ≡ Ok object
  pub covered : cover_past opening.asks_veils (asker_of h).cover Sole t object (rule_of table call).perms ≡ None
  pub fitting : object_fault table.whose t call (object_of t object) ≡ None

-- two paths: the promises and the letters of both names, and the node that the old one named
pub record OnTwo (pair : PairRule) (t : Tree) (h : ProcessState) (ending : Ending) (old_path new_path : List ℕ) (old new : Found) (x : ℕ) : Type
    0 where
  pub promised_old : may_any h pair.old.needs.alternatives ≡ may.Yes
  pub promised_new : may_any h pair.new.needs.alternatives ≡ may.Yes
  pub found_old : named_by pair.old t h ending old_path ≡ Ok old
  pub found_new : named_by pair.new t h ending new_path ≡ Ok new
  pub covered_old : cover_fault (cover t h old) pair.old.needs.perms ≡ None
  pub covered_new : cover_fault (cover t h new) pair.new.needs.perms ≡ None
  pub named : node_named old ≡ Some x

-- a row that moves is of another node than what stands at its new spot, not beneath itself, and of its kind
pub record IsShift (t : Tree) (old new : Found) (x : ℕ) (change : Change) : Type 0 where
  pub other : is_same_node x (node_named new) ≡ false
  pub inside : inside_fault t x (spot_named new) ≡ None
  pub kinds : kinds_fault t x old new ≡ None
  pub is : change ≡ shifting (spot_named old) (spot_named new)

pub record IsRename (pair : PairRule) (t : Tree) (h : ProcessState) (old_path new_path : List ℕ) (change : Change) : Type 0 where
  pub old : Found
  pub new : Found
  pub node : ℕ
  pub two : OnTwo pair t h ending.Dropped old_path new_path old new node
  pub ways : ways_fault old new ≡ None
  pub moves : (change ≡ NoChange) ⊎ IsShift t old new node change

pub record IsLink (pair : PairRule) (t : Tree) (h : ProcessState) (old_path new_path : List ℕ) (change : Change) : Type 0 where
  pub old : Found
  pub new : Found
  pub node : ℕ
  pub two : OnTwo pair t h ending.Dot old_path new_path old new node
  pub no_dir : is_whole old ≡ false
  pub free : is_some (node_named new) ≡ false
  pub near : is_elsewhere t old new ≡ false
  pub is : change ≡ tying node (spot_named new)

pub record IsVeil (t : Tree) (h : ProcessState) (path : List ℕ) (letters : Option ℕ) (change : Change) : Type 0 where
  pub object : Found
  pub perms : ℕ
  pub promised : may_any h (unveil ∷ []) ≡ may.Yes
  pub unlocked : is_locked h ≡ false
  pub known : letters ≡ Some perms
  pub found : resolution_of_text t (start h) ending.Dot path Followed ≡ Ok object
  pub room : unveil_errno (unveil_fault h (place_of object) perms) ≡ None
  pub is : change ≡ AddEvent (Unveiled (place_of object) perms)

pub record IsPledge (whose : Rules) (h : ProcessState) (promises execpromises : Given) (change : Change) : Type 0 where
  pub known : is_unknown promises || is_unknown execpromises ≡ false
  pub within : pledge_fault whose h (given_set promises) (given_set execpromises) ≡ None
  pub is : change ≡ AddEvent (Pledged (given_set promises) (given_set execpromises))

-- a descriptor that is made the working directory is of a directory
pub record IsEntered (h : ProcessState) (number : ℕ) (change : Change) : Type 0 where
  pub file : OpenFile
  pub held : file_at h.files number ≡ Some file
  pub directory : is_directory file ≡ true
  pub is : change ≡ AddEvent (Moved (ToDir file.node))

-- a root: its promise, what its path names, the letters and the kind of a chdir
pub record IsRooted (table : CallTable) (t : Tree) (h : ProcessState) (path : List ℕ) (change : Change) : Type 0 where
  pub object : Found
  pub promised : may_any h (id ∷ []) ≡ may.Yes
  pub found : object_named t h call.Chdir path ≡ Ok object
  pub covered : cover_fault (cover t h object) (rule_of table call.Chdir).perms ≡ None
  pub fitting : object_fault table.whose t call.Chdir (object_of t object) ≡ None
  pub is : change ≡ rooting object

-- which checks a request passed that changes this
abbrev pub IsDecided : CallTable → Tree → ProcessState → Action → Change → Type 0
IsDecided table t h (OnPath call path) change =
    (object : Found) × (OnOne table t h call path object ⊎ IsOpened table t h call path object) × (change ≡ change_by table call object)
IsDecided table t h (Symlink target path) change = (object : Found) × OnOne table t h call.Symlink path object × (path_fault target ≡ None)
    × (change ≡ adding (link_node target) object)
IsDecided table t h (Rename old new) change = IsRename table.rename t h old new change
IsDecided table t h (Link old new) change = IsLink table.link t h old new change
IsDecided table t h (Pledge promises execpromises) change = IsPledge table.whose h promises execpromises change
IsDecided table t h (Unveil path perms) change = IsVeil t h path perms change
IsDecided table t h Lock change = (may_any h (unveil ∷ []) ≡ may.Yes) × (change ≡ AddEvent Locked)
IsDecided table t h (Fork new) change = (may_any h (proc ∷ []) ≡ may.Yes) × (change ≡ CopyAs new)
IsDecided table t h Exit change = change ≡ AddEvent Ended
IsDecided table t h (Uses sets) change = (may_any h sets ≡ may.Yes) × (change ≡ NoChange)
IsDecided table t h (Hold number call path) change =
    (object : Found) × (OnOne table t h call path object ⊎ IsOpened table t h call path object) × (change ≡ holding t number call object)
IsDecided table t h (Close number) change =
    (file : OpenFile) × (file_at h.files number ≡ Some file) × (change ≡ AddEvent (Filed number None))
IsDecided table t h (Fchdir number) change = IsEntered h number change
IsDecided table t h (Chroot path) change = IsRooted table t h path change
IsDecided table t h (Take number from theirs) change = (may_any h (recvfd ∷ []) ≡ may.Yes) × (change ≡ TakeFile number from theirs)
IsDecided table t h Comment change = change ≡ NoChange

-- what a change passed, whatever opened it: a call on a path passed all checks of this table, or it changes nothing, and an open
-- that is kept changes no more than a descriptor; else its guards
abbrev pub IsGranted : CallTable → Tree → ProcessState → Action → Change → Type 0
IsGranted table t h (OnPath call path) change =
    ((object : Found) × OnOne table t h call path object × (change ≡ change_by table call object)) ⊎ (change ≡ NoChange)
IsGranted table t h (Hold number call path) change = (object : Found) × (change ≡ holding t number call object)
IsGranted table t h action change = IsDecided table t h action change

-- each decision had its guards
abbrev pub DecisionsAreGuarded : Type 0
DecisionsAreGuarded = (table : CallTable) (t : Tree) (h : ProcessState) (action : Action) (change : Change) →
    decide table t h action ≡ Ok change → IsDecided table t h action change

-- and each change is one that passes the checks of the table by which lists for ever go, also where a promise opened it
abbrev pub ChangesAreGranted : Type 0
ChangesAreGranted = (table : CallTable) (t : Tree) (h : ProcessState) (action : Action) (change : Change) →
    decide table t h action ≡ Ok change → IsGranted (tmp_table table) t h action change

-- a spot at which nothing stands
abbrev pub IsFree : Tree → Spot → Type 0
IsFree t spot = IsTrue (is_dir t spot.0) × (look t spot.0 spot.1 ≡ None)

-- want of room is the only fault of the edits of a change: what it takes away may be taken, and what it adds may stand where it is to
abbrev pub IsPossible : Tree → Change → Type 0
IsPossible t (AddNode spot node) = IsFree t spot × IsTrue (target_fits node.kind node.target)
IsPossible t (CutRow spot) = IsOk (cut t spot.0 spot.1)
IsPossible t (ShiftRow old new) = IsOk (shift t old.0 old.1 new.0 new.1)
IsPossible t (TieRow spot x) = IsFree t spot × IsTrue (is_living t x) × IsFalse (is_dir t x)
IsPossible t _ = Unit {0}
