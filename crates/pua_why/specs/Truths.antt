-- What a fault of a request says, as a fact about the world of the moment.
use Rattle.std.specs.Prelude.{◌≡◌, ◌⊎◌, ◌||◌, ℕ, true, false, List, [], ◌∷◌, length, nat_le, Option, Some, None, Result, Ok, Err, is_some}
use Rattle.pua_tree.specs.Tree.{Tree, Spot, WellFormed, is_empty}
use Rattle.pua_tree.specs.Edits.{is_inside}
use Rattle.pua_path.specs.Fits.{spot_named, node_named}
use Rattle.pua_path.specs.declared.errno.Errno.TheVariants.{ENOSPC}
use Rattle.pua_path.specs.declared.text.Ending.{Ending}
use Rattle.pua_path.specs.declared.text.Ending.TheVariants as ending
use Rattle.pua_path.specs.declared.found.Last.TheVariants.{Followed}
use Rattle.pua_path.specs.declared.found.Way.{Way}
use Rattle.pua_path.specs.declared.found.Way.TheVariants as way
use Rattle.pua_path.specs.declared.found.Found.{Found}
use Rattle.pua_path.specs.declared.found.Found.TheVariants.{Whole}
use Rattle.pua_path.specs.Traces.{text_fault, trace_of_text}
use Rattle.pua_path.specs.declared.traced.PathFault.{PathFault}
use Rattle.pua_calls.specs.Promises.{holds, id, proc, recvfd, sendfd, unveil}
use Rattle.pua_policy.specs.declared.open_file.OpenFile.{OpenFile}
use Rattle.pua_policy.specs.States.{file_at, held_set, is_directory, is_pledged}
use Rattle.pua_policy.specs.ReasonLaws.{LackSome}
use Rattle.pua_calls.specs.Calls.{CallTable, PairRule}
use Rattle.pua_calls.specs.declared.rules.Rules.{Rules}
use Rattle.pua_policy.specs.States.{ProcessState, error_frees_exec, pledged_set, held_for_exec, has_error, is_within, is_ended, is_locked, perms_kept, veils}
use Rattle.pua_policy.specs.States.{start, most_places}
use Rattle.pua_calls.specs.declared.call.Call.TheVariants as call
use Rattle.pua_script.specs.Limits.{most_processes}
use Rattle.pua_script.specs.Decide.{Change, CopyAs, TakeFile, Side, Sole, Old, New, given_set, is_elsewhere, is_unknown, is_whole}
use Rattle.pua_calls.specs.declared.fits.Misfit.{Misfit}
use Rattle.pua_calls.specs.declared.fits.Misfit.TheVariants.{Missing, Exists, IsDirectory, IsNoFile, IsNoDirectory, IsNotEmpty, ByDot}
use Rattle.pua_calls.specs.declared.fits.Misfit.TheVariants.{ByDotDot, ByNothing, IsElsewhere}
use Rattle.pua_script.specs.Replay.{World, Fails, kept_at, change_effect}
use Rattle.pua_script.specs.Laws.{LacksRoom}
use Rattle.pua_script.specs.declared.request.Given.{Given}
use Rattle.pua_script.specs.declared.request.Action.{Action}
use Rattle.pua_script.specs.declared.request.Action.TheVariants.{OnPath, Symlink, Rename, Link, Pledge, Unveil, Lock, Fork, Exit, Uses, Comment}
use Rattle.pua_script.specs.declared.request.Action.TheVariants.{Hold, Close, Fchdir, Chroot, Take}
use Rattle.pua_calls.specs.Promises.{lacking}
use Rattle.pua_policy.specs.declared.reason.Covering.TheVariants.{NoneOver, By}
use Rattle.pua_policy.specs.Reasons.{covering}
use Rattle.pua_why.specs.Reasons.{Fault, Ends, LacksPromises, BadTarget, BadPath, NoRoot, Uncovered, LacksLetters, Unfit, Inside}
use Rattle.pua_why.specs.Reasons.{UnknownPromise, AsksPromises, IsLocked, UnknownLetter, AsksLetters, NoPlaceLeft, NumberTaken, NoProcessLeft, NoRoom}
use Rattle.pua_why.specs.Reasons.{WrongFile, NotOpen, OpenNoDirectory, NotSent, MayNotSend, SendsDirectory}
use Rattle.pua_why.specs.Reasons.{beyond, change_or_fault, outcome_in, request_fault}
use Rattle.pua_why.specs.Facts.{name_trace}
use Rattle.pua_why.specs.Laws.{CallFaultHolds, FaultHoldsBy, IsFromNoRoot, PathFaultHolds}

-- the promises that a request other than a call of the table needs
abbrev pub PromiseFaultHolds : ProcessState → List ℕ → Fault → Type 0
PromiseFaultHolds h sets Ends = is_ended h ≡ true
PromiseFaultHolds h sets (LacksPromises error lacks) = LackSome h sets lacks
PromiseFaultHolds h sets _ = ⊥

abbrev pub SymlinkFaultHolds : CallTable → Tree → ProcessState → List ℕ → List ℕ → Fault → Type 0
SymlinkFaultHolds table t h target path (BadTarget fault) = text_fault target ≡ Some fault
SymlinkFaultHolds table t h target path fault = CallFaultHolds t table h call.Symlink path fault

-- what a side of two paths named, or why it named nothing, and the permissions that it needs
abbrev pub side_outcome : PairRule → Tree → ProcessState → Ending → List ℕ → List ℕ → Side → Result Found PathFault
side_outcome pair t h ending old new New = (name_trace pair.new t h ending new).outcome
side_outcome pair t h ending old new _ = (name_trace pair.old t h ending old).outcome

abbrev pub side_perms : PairRule → Side → ℕ
side_perms pair New = pair.new.needs.perms
side_perms pair _ = pair.old.needs.perms

-- what is told of an object of two paths is so
abbrev pub PairMisfitHolds : Tree → Found → Misfit → Type 0
PairMisfitHolds t object Missing = node_named object ≡ None
PairMisfitHolds t object Exists = is_some (node_named object) ≡ true
PairMisfitHolds t object IsDirectory = is_whole object ≡ true
PairMisfitHolds t object IsNoFile = is_whole object ≡ true
PairMisfitHolds t object IsNoDirectory = (is_whole object ≡ false) × (is_some (node_named object) ≡ true)
PairMisfitHolds t object IsNotEmpty = (dir : ℕ) × (by : Way) × (object ≡ Whole dir by) × (is_empty t dir ≡ false)
PairMisfitHolds t object ByDot = (dir : ℕ) × (object ≡ Whole dir way.Dot)
PairMisfitHolds t object ByDotDot = (dir : ℕ) × (object ≡ Whole dir way.DotDot)
PairMisfitHolds t object ByNothing = (dir : ℕ) × (object ≡ Whole dir way.Top)
PairMisfitHolds t object _ = ⊥

-- the new name is in the directory that the old path named, or beneath it
pub record IsInside (t : Tree) (old new : Found) : Type 0 where
  pub node : ℕ
  pub spot : Spot
  pub is_node : node_named old ≡ Some node
  pub is_spot : spot_named new ≡ Some spot
  pub inside : is_inside t node spot.0 ≡ true

abbrev pub side_text : List ℕ → List ℕ → Side → List ℕ
side_text old new New = new
side_text old new _ = old

-- the same by rules
abbrev pub side_named : Rules → PairRule → Tree → ProcessState → Ending → List ℕ → List ℕ → Side → Result Found PathFault
side_named whose pair t h ending old new side =
    outcome_in whose t (start h) (side_text old new side) (side_outcome pair t h ending old new side)

-- the new name is on another file system than what the old path named, or what has it is
pub record IsNewElsewhere (pair : PairRule) (t : Tree) (h : ProcessState) (ending : Ending) (old new : List ℕ) (object : Found) : Type 0 where
  pub from : Found
  pub led_old : side_outcome pair t h ending old new Old ≡ Ok from
  pub led_new : side_outcome pair t h ending old new New ≡ Ok object
  pub elsewhere : is_elsewhere t from object ≡ true

abbrev pub PairFaultHolds : Rules → PairRule → Tree → ProcessState → Ending → List ℕ → List ℕ → Fault → Type 0
PairFaultHolds whose pair t h ending old new Ends = is_ended h ≡ true
PairFaultHolds whose pair t h ending old new (LacksPromises error lacks) =
    LackSome h pair.old.needs.alternatives lacks ⊎ LackSome h pair.new.needs.alternatives lacks
PairFaultHolds whose pair t h ending old new (BadPath side fault) =
    PathFaultHolds (side_text old new side) (side_named whose pair t h ending old new side) fault
PairFaultHolds whose pair t h ending old new (NoRoot side) =
    IsFromNoRoot (side_text old new side) (side_named whose pair t h ending old new side)
PairFaultHolds whose pair t h ending old new (Uncovered side object) = (side_outcome pair t h ending old new side ≡ Ok object) ×
    (covering t h object ≡ NoneOver)
PairFaultHolds whose pair t h ending old new (LacksLetters side place given lacks) =
    (object : Found) × (side_outcome pair t h ending old new side ≡ Ok object) × (covering t h object ≡ By place given)
    × (holds given (side_perms pair side) ≡ false) × (lacks ≡ lacking given (side_perms pair side))
PairFaultHolds whose pair t h ending old new (Unfit side object IsElsewhere) = IsNewElsewhere pair t h ending old new object
PairFaultHolds whose pair t h ending old new (Unfit side object wrong) = (side_outcome pair t h ending old new side ≡ Ok object) ×
    PairMisfitHolds t object wrong
PairFaultHolds whose pair t h ending old new (Inside a b) =
    (side_outcome pair t h ending old new Old ≡ Ok a) × (side_outcome pair t h ending old new New ≡ Ok b) × IsInside t a b
PairFaultHolds whose pair t h ending old new _ = ⊥

abbrev pub PledgeFaultHolds : Rules → ProcessState → Given → Given → Fault → Type 0
PledgeFaultHolds whose h promises execpromises (UnknownPromise false) = is_unknown promises ≡ true
PledgeFaultHolds whose h promises execpromises (UnknownPromise true) = is_unknown execpromises ≡ true
PledgeFaultHolds whose h promises execpromises (AsksPromises false lacks) =
    (has_error h ≡ false) × (is_within (given_set promises) (pledged_set h) ≡ false) × (lacks ≡ beyond (given_set promises) (pledged_set h))
PledgeFaultHolds whose h promises execpromises (AsksPromises true lacks) =
    (error_frees_exec whose (has_error h) ≡ false) × (is_within (given_set execpromises) (held_for_exec h) ≡ false) ×
    (lacks ≡ beyond (given_set execpromises) (held_for_exec h))
PledgeFaultHolds whose h promises execpromises _ = ⊥

abbrev pub UnveilFaultHolds : Rules → Tree → ProcessState → List ℕ → Option ℕ → Fault → Type 0
UnveilFaultHolds whose t h path letters IsLocked = is_locked h ≡ true
UnveilFaultHolds whose t h path letters UnknownLetter = letters ≡ None
UnveilFaultHolds whose t h path letters (BadPath Sole fault) =
    PathFaultHolds path (outcome_in whose t (start h) path (trace_of_text t (start h) ending.Dot path Followed).outcome) fault
UnveilFaultHolds whose t h path letters (NoRoot Sole) =
    IsFromNoRoot path (outcome_in whose t (start h) path (trace_of_text t (start h) ending.Dot path Followed).outcome)
UnveilFaultHolds whose t h path letters (AsksLetters place given lacks) =
    (perms : ℕ) × (letters ≡ Some perms) × (perms_kept h place ≡ Some given) × (holds given perms ≡ false) × (lacks ≡ lacking given perms)
UnveilFaultHolds whose t h path letters NoPlaceLeft = nat_le most_places (length (veils h)) ≡ true
UnveilFaultHolds whose t h path letters fault = PromiseFaultHolds h (unveil ∷ []) fault

-- a descriptor of the process that asks
abbrev pub FileFaultHolds : ProcessState → ℕ → Fault → Type 0
FileFaultHolds h number (WrongFile (NotOpen n)) = (n ≡ number) × (file_at h.files number ≡ None)
FileFaultHolds h number _ = ⊥

abbrev pub DirFaultHolds : ProcessState → ℕ → Fault → Type 0
DirFaultHolds h number (WrongFile (OpenNoDirectory n)) =
    (n ≡ number) × (file : OpenFile) × (file_at h.files number ≡ Some file) × (is_directory file ≡ false)
DirFaultHolds h number fault = FileFaultHolds h number fault

-- what a fault of a check says is so
abbrev pub CheckFaultHolds : CallTable → Tree → ProcessState → Action → Fault → Type 0
CheckFaultHolds table t h (OnPath call path) fault = CallFaultHolds t table h call path fault
CheckFaultHolds table t h (Symlink target path) fault = SymlinkFaultHolds table t h target path fault
CheckFaultHolds table t h (Rename old new) fault = PairFaultHolds table.whose table.rename t h ending.Dropped old new fault
CheckFaultHolds table t h (Link old new) fault = PairFaultHolds table.whose table.link t h ending.Dot old new fault
CheckFaultHolds table t h (Pledge promises execpromises) fault = PledgeFaultHolds table.whose h promises execpromises fault
CheckFaultHolds table t h (Unveil path letters) fault = UnveilFaultHolds table.whose t h path letters fault
CheckFaultHolds table t h Lock fault = PromiseFaultHolds h (unveil ∷ []) fault
CheckFaultHolds table t h (Fork new) fault = PromiseFaultHolds h (proc ∷ []) fault
CheckFaultHolds table t h Exit fault = ⊥
CheckFaultHolds table t h (Uses sets) fault = PromiseFaultHolds h sets fault
CheckFaultHolds table t h (Hold number call path) fault = CallFaultHolds t table h call path fault
CheckFaultHolds table t h (Close number) fault = FileFaultHolds h number fault
CheckFaultHolds table t h (Fchdir number) fault = DirFaultHolds h number fault
CheckFaultHolds table t h (Chroot path) fault = FaultHoldsBy (id ∷ []) t table h call.Chdir path fault
CheckFaultHolds table t h (Take number from theirs) fault = PromiseFaultHolds h (recvfd ∷ []) fault
CheckFaultHolds table t h Comment fault = ⊥

abbrev pub CheckFaultsHold : Type 0
CheckFaultsHold = (table : CallTable) (t : Tree) (h : ProcessState) (action : Action) (fault : Fault) →
    change_or_fault table t h action ≡ Err fault → CheckFaultHolds table t h action fault

-- what another process has as a descriptor is not there, or is not sent
pub record HasOpen (w : World) (from theirs : ℕ) (P : ProcessState → OpenFile → Type 0) : Type 0 where
  pub sender : ProcessState
  pub made : kept_at w from ≡ Some sender
  pub lives : is_ended sender ≡ false
  pub file : OpenFile
  pub held : file_at sender.files theirs ≡ Some file
  pub so : P sender file

abbrev pub SentFaultHolds : World → ProcessState → ℕ → ℕ → Fault → Type 0
SentFaultHolds w h from theirs (WrongFile (NotSent n m)) = (n ≡ from) × (m ≡ theirs) × (HasOpen w from theirs (λ sender file. Unit {0}) → ⊥)
SentFaultHolds w h from theirs (WrongFile (MayNotSend n)) =
    (n ≡ from) × HasOpen w from theirs (λ sender file. holds (held_set sender) sendfd ≡ false)
SentFaultHolds w h from theirs (WrongFile (SendsDirectory n m)) = (n ≡ from) × (m ≡ theirs) ×
    HasOpen w from theirs (λ sender file. (is_directory file ≡ true) × (is_pledged h || is_pledged sender ≡ true))
SentFaultHolds w h from theirs _ = ⊥

-- what a fault of a change says is so
abbrev pub RoomFaultHolds : World → ProcessState → Change → Fault → Type 0
RoomFaultHolds w h (CopyAs new) (NumberTaken n) = (n ≡ new) × (is_some (kept_at w new) ≡ true)
RoomFaultHolds w h (CopyAs new) NoProcessLeft = nat_le most_processes (length w.processes) ≡ true
RoomFaultHolds w h (CopyAs new) _ = ⊥
RoomFaultHolds w h (TakeFile number from theirs) fault = SentFaultHolds w h from theirs fault
RoomFaultHolds w h change NoRoom = change_effect w h change ≡ Fails ENOSPC
RoomFaultHolds w h _ _ = ⊥

-- of a change that was granted
pub record ChangeFaultHolds (table : CallTable) (w : World) (h : ProcessState) (action : Action) (fault : Fault) : Type 0 where
  pub change : Change
  pub granted : change_or_fault table w.tree h action ≡ Ok change
  pub holds : RoomFaultHolds w h change fault

abbrev pub RequestFaultHolds : CallTable → World → ProcessState → Action → Fault → Type 0
RequestFaultHolds table w h action fault = CheckFaultHolds table w.tree h action fault ⊎ ChangeFaultHolds table w h action fault

-- what a fault says is so, and a request has no other faults than its own
abbrev pub RequestFaultsHold : Type 0
RequestFaultsHold = (table : CallTable) (w : World) (h : ProcessState) (action : Action) (fault : Fault) →
    request_fault table w h action ≡ Some fault → RequestFaultHolds table w h action fault

-- a tree that is told to be full lacks the room that the change wants
abbrev pub FullTreesAreFull : Type 0
FullTreesAreFull = (table : CallTable) (w : World) (h : ProcessState) (action : Action) → WellFormed w.tree →
    request_fault table w h action ≡ Some NoRoom → LacksRoom table w.tree h action
