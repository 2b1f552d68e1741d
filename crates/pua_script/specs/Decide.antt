-- What a request decides to change, by the tree and what the one that asks keeps: all checks in their order. Of other
-- processes, and of the room that a change needs, nothing is known here.
use Rattle.std.specs.Prelude.{ℕ, Bool, true, false, not, ◌&&◌, ◌||◌, if◌then◌else◌, List, [], ◌∷◌, Option, Some, None, option_map, Result, Ok}
use Rattle.std.specs.Prelude.{Err, is_some, suc, zero, ◌+◌, ◌==◌, take, ok_or}
use Rattle.pua_tree.specs.Tree.{Tree, Node, Spot, is_empty, device, kind_at}
use Rattle.pua_tree.specs.Edits.{is_inside, is_same_node}
use Rattle.pua_tree.specs.Limits.{most_name}
use Rattle.pua_path.specs.Paths.{path_fault, text_fault, ends_in_slash}
use Rattle.pua_path.specs.Resolution.{resolution_of_text}
use Rattle.pua_path.specs.Fits.{spot_named, node_named}
use Rattle.pua_calls.specs.Promises.{id, proc, recvfd, unveil}
use Rattle.pua_calls.specs.Calls.{CallTable, NameRule, PairRule, rule_of, last_of, ending_of, effect_of, execpromises_by, file_by_rules}
use Rattle.pua_policy.specs.States.{ProcessState, Event, Pledged, Unveiled, Locked, Moved, ToDir, ToRoot, Ended, Filed, start, may_any}
use Rattle.pua_policy.specs.States.{file_at, is_directory, pledge_fault, unveil_fault}
use Rattle.pua_policy.specs.Verdict.{place_of, cover, cover_fault, or_fault, object_of, refusal_of}
use Rattle.pua_policy.specs.Misfits.{misfit, misfit_errno}
use Rattle.pua_calls.specs.declared.fits.Misfit.{Misfit}
use Rattle.pua_calls.specs.declared.fits.Misfit.TheVariants.{Missing, Exists, IsDirectory, IsNoFile, IsNoDirectory, IsNotEmpty, ByDot}
use Rattle.pua_calls.specs.declared.fits.Misfit.TheVariants.{ByDotDot, ByNothing, IsElsewhere}
use Rattle.pua_tree.specs.declared.node.Kind.{Kind}
use Rattle.pua_tree.specs.declared.node.Kind.TheVariants as kind
use Rattle.pua_path.specs.declared.traced.PathTextFault.{PathTextFault}
use Rattle.pua_path.specs.declared.traced.PathTextFault.TheVariants.{LongComponent}
use Rattle.pua_path.specs.declared.errno.Errno.{Errno}
use Rattle.pua_path.specs.declared.errno.Errno.TheVariants.{EPERM, E2BIG, EBADF, EINVAL, ENOTDIR}
use Rattle.pua_path.specs.declared.text.Ending.{Ending}
use Rattle.pua_path.specs.declared.text.Ending.TheVariants as ending
use Rattle.pua_path.specs.declared.found.Last.TheVariants.{Followed}
use Rattle.pua_path.specs.declared.found.Way.TheVariants as way
use Rattle.pua_path.specs.declared.found.Found.{Found}
use Rattle.pua_path.specs.declared.found.Found.TheVariants.{Whole, Slot}
use Rattle.pua_path.specs.declared.found.Last.{Last}
use Rattle.pua_path.specs.declared.found.Start.{Start}
use Rattle.pua_calls.specs.declared.rules.ExecPromises.{ExecPromises}
use Rattle.pua_calls.specs.declared.rules.Rules.{Rules}
use Rattle.pua_calls.specs.declared.rules.Rules.TheVariants.{Standard, Openbsd}
use Rattle.pua_policy.specs.declared.open_file.OpenFile.{OpenFile}
use Rattle.pua_policy.specs.declared.place.Place.{Place}
use Rattle.pua_calls.specs.declared.effect.Effect.{Effect}
use Rattle.pua_calls.specs.declared.effect.Effect.TheVariants as effect
use Rattle.pua_calls.specs.declared.call.Call.{Call}
use Rattle.pua_calls.specs.declared.call.Call.TheVariants as call
use Rattle.pua_policy.specs.declared.answer.UnveilFault.{UnveilFault}
use Rattle.pua_policy.specs.declared.answer.UnveilFault.TheVariants.{NotPermitted, TooManyPlaces}
use Rattle.pua_policy.specs.declared.answer.UnveilFault.TheVariants as unveil_faults
use Rattle.pua_policy.specs.declared.answer.May.{May}
use Rattle.pua_policy.specs.declared.answer.Refusal.{Refusal}
use Rattle.pua_policy.specs.declared.answer.Refusal.TheVariants.{Failed}
use Rattle.pua_script.specs.Openings.{Opening, opening_of}
use Rattle.pua_script.specs.Requests.{letters_opened}
use Rattle.pua_script.specs.declared.request.Given.{Given}
use Rattle.pua_script.specs.declared.request.Given.TheVariants.{Good, Unknown}
use Rattle.pua_script.specs.declared.request.Action.{Action}
use Rattle.pua_script.specs.declared.request.Action.TheVariants.{OnPath, Symlink, Rename, Link, Pledge, Unveil, Lock, Fork, Exit, Uses, Comment}
use Rattle.pua_script.specs.declared.request.Action.TheVariants.{Hold, Close, Fchdir, Take, Chroot}

-- what a request that is granted changes: nothing, a row of the tree, the program with what it leaves of execpromises,
-- the state by an event, the number of processes, or for which open file a descriptor stands, by what another process has as one
pub data Change : Type 0 where
  NoChange : Change
  AddNode : Spot → Node → Change
  CutRow : Spot → Change
  ShiftRow : Spot → Spot → Change
  TieRow : Spot → ℕ → Change
  BeginProgram : ExecPromises → Change
  AddEvent : Event → Change
  CopyAs : ℕ → Change
  TakeFile : ℕ → ℕ → ℕ → Change

-- what a request is to change, or what is told of the check at which it is refused
abbrev pub Outcome : Type 0 → Type 0
Outcome R = Result Change R

abbrev pub Decision : Type 0
Decision = Outcome Refusal

-- of two paths, which one; or the only one
pub data Side : Type 0 where
  Sole : Side
  Old : Side
  New : Side

-- what is told of each check that fails, whichever process asks: R of the request, and E of the check
pub record Telling (E R : Type 0) : Type 0 where
  -- a fault behind the promises, as what is told of the request
  pub failed : E → R
  -- the target of a link is no path
  pub target : List ℕ → Option E
  -- an object is wrong in this way
  pub misfit : Side → Found → Misfit → E
  -- the new name is inside what the old one names
  pub inside : Found → Found → E
  -- an argument of pledge is unknown: of the two, whether it is execpromises
  pub unknown_promise : Bool → E
  -- the letters of an unveil are unknown
  pub unknown_letter : E
  -- a descriptor is of no directory
  pub no_directory : ℕ → E

-- the checks that rest on the process that asks
pub record Asker (E R : Type 0) : Type 0 where
  -- none of these sets of promises is held
  pub promises : List ℕ → Option R
  -- by these rules a path names nothing
  pub path : Rules → Side → Tree → Ending → List ℕ → Last → Result Found E
  -- the veils leave an object less than these permissions
  pub cover : Side → Tree → Found → ℕ → Option E
  -- by these rules a pledge asks for more than was given
  pub beyond : Rules → Option ℕ → Option ℕ → Option E
  -- the veils are locked
  pub locked : Option E
  -- a place may not have these permissions
  pub place : Place → ℕ → Option E
  -- a descriptor stands for no open file
  pub file : ℕ → Result OpenFile E

-- further checks where nothing refuses
abbrev pub unless_refused : {R : Type 0} → Option R → Outcome R → Outcome R
unless_refused None further = further
unless_refused (Some refusal) further = Err refusal

-- further checks where there is no fault
abbrev pub unless_failed : {E R : Type 0} → (E → R) → Option E → Outcome R → Outcome R
unless_failed failed None further = further
unless_failed failed (Some fault) further = Err (failed fault)

-- further checks of what paths named, where they named something
abbrev pub on_named : {X E R : Type 0} → (E → R) → Result X E → (X → Outcome R) → Outcome R
on_named failed (Ok x) further = further x
on_named failed (Err fault) further = Err (failed fault)

abbrev pub plain_node : Kind → Node
plain_node k = record { kind = k; target = None; mount = false }

abbrev pub link_node : List ℕ → Node
link_node target = record { kind = kind.Link; target = Some target; mount = false }

-- a node at a spot where nothing stands
abbrev pub placing : Node → Option Spot → Option ℕ → Change
placing node (Some spot) None = AddNode spot node
placing node _ _ = NoChange

-- the row of what stands at a spot
abbrev pub cutting : Option Spot → Option ℕ → Change
cutting (Some spot) (Some x) = CutRow spot
cutting _ _ = NoChange

abbrev pub adding : Node → Found → Change
adding node object = placing node (spot_named object) (node_named object)

abbrev pub removing : Found → Change
removing object = cutting (spot_named object) (node_named object)

abbrev pub going : Found → Change
going (Whole dir way) = AddEvent (Moved (ToDir dir))
going _ = NoChange

-- the root that a process gets
abbrev pub rooting : Found → Change
rooting (Whole dir way) = AddEvent (Moved (ToRoot dir))
rooting _ = NoChange

-- the kind of the node that a call makes by its path alone: a link needs a target too
abbrev pub made_in : Effect → Option Kind
made_in (effect.Makes kind.File) = Some kind.File
made_in (effect.Makes kind.Dir) = Some kind.Dir
made_in (effect.Makes (kind.Known type)) = Some (kind.Known type)
made_in _ = None

abbrev pub made_by : Call → Option Kind
made_by call = made_in (effect_of call)

-- as which kind it is made: of a file rules may know its type
abbrev pub made_as : Rules → Kind → Kind
made_as whose kind.File = file_by_rules whose
made_as whose made = made

-- such a node at a spot, if the call makes one
abbrev pub making : Rules → Option Kind → Option Spot → Option ℕ → Change
making whose (Some made) spot there = placing (plain_node (made_as whose made)) spot there
making whose None spot there = NoChange

-- what an allowed call changes, by what was found
abbrev pub change_in : CallTable → Effect → Found → Change
change_in table effect.Removes object = removing object
change_in table effect.Enters object = going object
change_in table effect.Starts object = BeginProgram (execpromises_by table.whose)
change_in table does object = making table.whose (made_in does) (spot_named object) (node_named object)

abbrev pub change_by : CallTable → Call → Found → Change
change_by table call object = change_in table (effect_of call) object

abbrev pub is_whole : Found → Bool
is_whole (Whole dir way) = true
is_whole (Slot dir name _) = false

abbrev pub fault_if : {E : Type 0} → Bool → E → Option E
fault_if test fault = if test then Some fault else None

-- an object that was named by `.` or `..`
abbrev pub dots_by : {E : Type 0} → (Misfit → E) → Found → Option E
dots_by tell (Whole dir way.Dot) = Some (tell ByDot)
dots_by tell (Whole dir way.DotDot) = Some (tell ByDotDot)
dots_by tell _ = None

-- the root, by no component
abbrev pub top_by : {E : Type 0} → (Misfit → E) → Found → Option E
top_by tell (Whole dir way.Top) = Some (tell ByNothing)
top_by tell _ = None

-- what is wrong with the ways by which two paths were named: no `.`, no `..`, and not the root
abbrev pub ways_by : {E : Type 0} → (Side → Found → Misfit → E) → Found → Found → Option E
ways_by tell old new =
    or_fault (dots_by (tell Old old) old)
    (or_fault (dots_by (tell New new) new) (or_fault (top_by (tell Old old) old) (top_by (tell New new) new)))

-- the device of what was found: a directory is on its own, anything else on that of its name
abbrev pub device_of : Tree → Found → ℕ
device_of t (Whole dir way) = device t dir
device_of t (Slot dir name _) = device t dir

-- the device of the name by which it was found
abbrev pub device_over : Tree → Found → ℕ
device_over t (Whole dir (way.Named parent name)) = device t parent
device_over t object = device_of t object

-- what gets a name stays on its file system, and what has the name is on that too
abbrev pub is_elsewhere : Tree → Found → Found → Bool
is_elsewhere t old new = not (device_of t old == device_over t new && device_of t new == device_over t new)

-- what is wrong with the new name of a rename, by the kinds of both
abbrev pub fits_by : {E : Type 0} → (Misfit → E) → Tree → Found → Found → Option E
fits_by tell t old (Whole y way) =
    or_fault (fault_if (not (is_whole old)) (tell IsDirectory)) (fault_if (not (is_empty t y)) (tell IsNotEmpty))
fits_by tell t old (Slot dir name None) = None
fits_by tell t old (Slot dir name (Some y)) = fault_if (is_whole old) (tell IsNoDirectory)

-- by their devices, and then by their kinds
abbrev pub kinds_by : {E : Type 0} → (Misfit → E) → Tree → Found → Found → Option E
kinds_by tell t old new = or_fault (fault_if (is_elsewhere t old new) (tell IsElsewhere)) (fits_by tell t old new)

-- a directory would come to stand in itself or beneath itself
abbrev pub inside_by : {E : Type 0} → E → Tree → ℕ → Option Spot → Option E
inside_by fault t x None = None
inside_by fault t x (Some spot) = fault_if (is_inside t x spot.0) fault

-- what is wrong with a link's names: a directory gets none, and the new one is free, and on the file system of the old one
abbrev pub names_by : {E : Type 0} → (Side → Found → Misfit → E) → Tree → Found → Found → Option E
names_by tell t old new =
    or_fault (fault_if (is_whole old) (tell Old old IsNoFile))
    (or_fault (fault_if (is_some (node_named new)) (tell New new Exists))
    (fault_if (is_elsewhere t old new) (tell New new IsElsewhere)))

-- the open file of a node, where a call opens it
abbrev pub file_of : ℕ → Option Kind → Option ℕ → Option OpenFile
file_of x (Some k) (Some letters) = Some (record { node = x; kind = k; letters = letters })
file_of x _ _ = None

abbrev pub file_opened : Tree → Call → Option ℕ → Option OpenFile
file_opened t call None = None
file_opened t call (Some x) = file_of x (kind_at t x) (letters_opened call)

-- a descriptor that stands for what was opened
abbrev pub filing : ℕ → Option OpenFile → Change
filing number None = NoChange
filing number (Some file) = AddEvent (Filed number (Some file))

abbrev pub holding : Tree → ℕ → Call → Found → Change
holding t number call object = filing number (file_opened t call (node_named object))

abbrev pub shifting : Option Spot → Option Spot → Change
shifting (Some old) (Some new) = ShiftRow old new
shifting _ _ = NoChange

abbrev pub tying : ℕ → Option Spot → Change
tying x None = NoChange
tying x (Some spot) = TieRow spot x

abbrev pub given_set : Given → Option ℕ
given_set (Good set) = Some set
given_set _ = None

abbrev pub is_unknown : Given → Bool
is_unknown Unknown = true
is_unknown _ = false

-- what a call on a path changes, whose promises are held
abbrev pub object_by : {E R : Type 0} → Telling E R → CallTable → Tree → Asker E R → Call → List ℕ → (Found → Outcome R) → Outcome R
object_by told table t asker call path further =
    on_named told.failed (asker.path table.whose Sole t (ending_of call) path (last_of call)) λ object.
    unless_failed told.failed (or_fault (asker.cover Sole t object (rule_of table call).perms)
    (option_map (told.misfit Sole object) (misfit table.whose t call (object_of t object)))) (further object)

abbrev pub call_by : {E R : Type 0} → Telling E R → CallTable → Tree → Asker E R → Call → List ℕ → Outcome R
call_by told table t asker call path =
    unless_refused (asker.promises (rule_of table call).alternatives)
    (object_by told table t asker call path (λ object. Ok (change_by table call object)))

-- the promise, then the target's text, then the path
abbrev pub symlink_by : {E R : Type 0} → Telling E R → CallTable → Tree → Asker E R → List ℕ → List ℕ → Outcome R
symlink_by told table t asker target path =
    unless_refused (asker.promises (rule_of table call.Symlink).alternatives)
    (unless_failed told.failed (told.target target)
    (object_by told table t asker call.Symlink path (λ object. Ok (adding (link_node target) object))))

-- whether a slash at the end of either text of a rename asks for a directory: by OpenBSD's rules alone
abbrev pub asks_directory : Rules → List ℕ → List ℕ → Bool
asks_directory Standard old new = false
asks_directory Openbsd old new = ends_in_slash old || ends_in_slash new

-- a rename of what both paths named, once both are covered, where a directory is asked for or not
abbrev pub rename_by : {E R : Type 0} → Telling E R → Tree → Bool → Found → Found → Option ℕ → Outcome R
rename_by told t asks old new None = Err (told.failed (told.misfit Old old Missing))
rename_by told t asks old new (Some x) =
    unless_failed told.failed (ways_by told.misfit old new)
    (unless_failed told.failed (fault_if (asks && not (is_whole old)) (told.misfit Old old IsNoDirectory))
    (if is_same_node x (node_named new) then Ok NoChange
    else unless_failed told.failed (or_fault (inside_by (told.inside old new) t x (spot_named new))
    (kinds_by (told.misfit New new) t old new))
    (Ok (shifting (spot_named old) (spot_named new)))))

-- a further name for what the old path named, once both are covered
abbrev pub link_by : {E R : Type 0} → Telling E R → Tree → Found → Found → Option ℕ → Outcome R
link_by told t old new None = Err (told.failed (told.misfit Old old Missing))
link_by told t old new (Some x) = unless_failed told.failed (names_by told.misfit t old new) (Ok (tying x (spot_named new)))

-- what is wrong with the covers of two objects
abbrev pub covers_by : {E R : Type 0} → PairRule → Tree → Asker E R → Found → Found → Option E
covers_by pair t asker old new = or_fault (asker.cover Old t old pair.old.needs.perms) (asker.cover New t new pair.new.needs.perms)

-- what two paths named, where the veils leave enough of both: the old path first each time
abbrev pub objects_by : {E R : Type 0} → Telling E R → Rules → PairRule → Tree → Asker E R → Ending → List ℕ → List ℕ →
    (Found → Found → Outcome R) → Outcome R
objects_by told whose pair t asker ending old_path new_path further =
    on_named told.failed (asker.path whose Old t ending old_path pair.old.last) λ old.
    on_named told.failed (asker.path whose New t ending new_path pair.new.last) λ new.
    unless_failed told.failed (covers_by pair t asker old new) (further old new)

-- two paths: the promises of both names first
abbrev pub pair_by : {E R : Type 0} → Telling E R → Rules → PairRule → Tree → Asker E R → Ending → List ℕ → List ℕ →
    (Found → Found → Outcome R) → Outcome R
pair_by told whose pair t asker ending old_path new_path further =
    unless_refused (asker.promises pair.old.needs.alternatives)
    (unless_refused (asker.promises pair.new.needs.alternatives) (objects_by told whose pair t asker ending old_path new_path further))

-- a veil on a place, after the veils kept so far
abbrev pub veiling_by : {E R : Type 0} → Telling E R → Asker E R → Place → ℕ → Outcome R
veiling_by told asker place perms = unless_failed told.failed (asker.place place perms) (Ok (AddEvent (Unveiled place perms)))

-- the letters of an unveil, then its path, then the place
abbrev pub veil_by : {E R : Type 0} → Telling E R → Rules → Tree → Asker E R → List ℕ → Option ℕ → Outcome R
veil_by told whose t asker path None = Err (told.failed told.unknown_letter)
veil_by told whose t asker path (Some perms) =
    on_named told.failed (asker.path whose Sole t ending.Dot path Followed) λ object. veiling_by told asker (place_of object) perms

-- an unveil of a path: the promise and the lock first
abbrev pub unveil_by : {E R : Type 0} → Telling E R → Rules → Tree → Asker E R → List ℕ → Option ℕ → Outcome R
unveil_by told whose t asker path perms =
    unless_refused (asker.promises (unveil ∷ [])) (unless_failed told.failed asker.locked
    (veil_by told whose t asker path perms))

abbrev pub lock_by : {E R : Type 0} → Asker E R → Outcome R
lock_by asker = unless_refused (asker.promises (unveil ∷ [])) (Ok (AddEvent Locked))

abbrev pub fork_by : {E R : Type 0} → Asker E R → ℕ → Outcome R
fork_by asker new = unless_refused (asker.promises (proc ∷ [])) (Ok (CopyAs new))

-- a call without a path, which asks for one of these sets and changes nothing
abbrev pub uses_by : {E R : Type 0} → Asker E R → List ℕ → Outcome R
uses_by asker sets = unless_refused (asker.promises sets) (Ok NoChange)

-- an open whose file is kept
abbrev pub hold_by : {E R : Type 0} → Telling E R → CallTable → Tree → Asker E R → ℕ → Call → List ℕ → Outcome R
hold_by told table t asker number call path =
    unless_refused (asker.promises (rule_of table call).alternatives)
    (object_by told table t asker call path (λ object. Ok (holding t number call object)))

-- a descriptor is closed, or becomes the working directory: neither a promise nor a veil is asked
abbrev pub close_by : {E R : Type 0} → Telling E R → Asker E R → ℕ → Outcome R
close_by told asker number = on_named told.failed (asker.file number) (λ file. Ok (AddEvent (Filed number None)))

abbrev pub fchdir_by : {E R : Type 0} → Telling E R → Asker E R → ℕ → Outcome R
fchdir_by told asker number =
    on_named told.failed (asker.file number) λ file.
    unless_failed told.failed (fault_if (not (is_directory file)) (told.no_directory number)) (Ok (AddEvent (Moved (ToDir file.node))))

-- a chroot: its promise, and then its path, which is judged as that of a chdir
abbrev pub chroot_by : {E R : Type 0} → Telling E R → CallTable → Tree → Asker E R → List ℕ → Outcome R
chroot_by told table t asker path =
    unless_refused (asker.promises (id ∷ [])) (object_by told table t asker call.Chdir path (λ object. Ok (rooting object)))

-- what another process has as a descriptor, which it sent: of it nothing is known here
abbrev pub take_by : {E R : Type 0} → Asker E R → ℕ → ℕ → ℕ → Outcome R
take_by asker number from theirs = unless_refused (asker.promises (recvfd ∷ [])) (Ok (TakeFile number from theirs))

-- what is given and given up, after what was before
abbrev pub pledging_by : {E R : Type 0} → Telling E R → Asker E R → Rules → Option ℕ → Option ℕ → Outcome R
pledging_by told asker whose promises execpromises =
    unless_failed told.failed (asker.beyond whose promises execpromises) (Ok (AddEvent (Pledged promises execpromises)))

abbrev pub pledge_by : {E R : Type 0} → Telling E R → Asker E R → Rules → Given → Given → Outcome R
pledge_by told asker whose promises execpromises =
    unless_failed told.failed (fault_if (is_unknown promises || is_unknown execpromises) (told.unknown_promise (not (is_unknown promises))))
    (pledging_by told asker whose (given_set promises) (given_set execpromises))

-- what a living process's request changes, or what is told of why it is refused: all checks in their order
abbrev pub decide_by : {E R : Type 0} → Telling E R → CallTable → Tree → Asker E R → Action → Outcome R
decide_by told table t asker (OnPath call path) = call_by told table t asker call path
decide_by told table t asker (Symlink target path) = symlink_by told table t asker target path
decide_by told table t asker (Rename old new) =
    pair_by told table.whose table.rename t asker ending.Dropped old new
    (λ a b. rename_by told t (asks_directory table.whose old new) a b (node_named a))
decide_by told table t asker (Link old new) =
    pair_by told table.whose table.link t asker ending.Dot old new (λ a b. link_by told t a b (node_named a))
decide_by told table t asker (Pledge promises execpromises) = pledge_by told asker table.whose promises execpromises
decide_by told table t asker (Unveil path perms) = unveil_by told table.whose t asker path perms
decide_by told table t asker Lock = lock_by asker
decide_by told table t asker (Fork new) = fork_by asker new
decide_by told table t asker Exit = Ok (AddEvent Ended)
decide_by told table t asker (Uses sets) = uses_by asker sets
decide_by told table t asker (Hold number call path) = hold_by told table t asker number call path
decide_by told table t asker (Close number) = close_by told asker number
decide_by told table t asker (Fchdir number) = fchdir_by told asker number
decide_by told table t asker (Chroot path) = chroot_by told table t asker path
decide_by told table t asker (Take number from theirs) = take_by asker number from theirs
decide_by told table t asker Comment = Ok NoChange

-- an errno is told of a check that fails, and of promises whether the process ends
abbrev pub unveil_errno : Option UnveilFault → Option Errno
unveil_errno None = None
unveil_errno (Some NotPermitted) = Some EPERM
unveil_errno (Some TooManyPlaces) = Some E2BIG
unveil_errno (Some unveil_faults.OutOfMemory) = None

abbrev pub refusals : Telling Errno Refusal
refusals = record {
  failed = λ errno. Failed errno;
  target = path_fault;
  misfit = λ side object wrong. misfit_errno wrong;
  inside = λ old new. EINVAL;
  unknown_promise = λ of_exec. EINVAL;
  unknown_letter = EINVAL;
  no_directory = λ number. ENOTDIR;
}

-- how many bytes stand before a text's first component that is too long, of which `start` stand before the component of whose bytes
-- `run` were read; all of them before the last component where none is too long
abbrev pub component_start : ℕ → ℕ → List ℕ → ℕ
component_start start run [] = start
component_start start run (b ∷ more) =
    if b == 47 then component_start (suc (start + run)) zero more
    else (if run == most_name then start else component_start start (suc run) more)

-- a text, or one dot where it has no byte
abbrev pub or_dot : List ℕ → List ℕ
or_dot [] = 46 ∷ []
or_dot (b ∷ more) = b ∷ more

-- what stands before a component that is too long, where that is the text's fault: a directory's path
abbrev pub before_long : List ℕ → Option (List ℕ)
before_long text = by (text_fault text)
  where
    by : Option PathTextFault → Option (List ℕ)
    by (Some LongComponent) = Some (or_dot (take (component_start 0 0 text) text))
    by _ = None

-- the errno of what stands before it, if that names no directory
abbrev pub front_errno : {X : Type 0} → Errno → Result X Errno → Errno
front_errno errno (Ok directory) = errno
front_errno errno (Err front) = front

abbrev pub errno_behind : Tree → Start → Errno → Option (List ℕ) → Errno
errno_behind t from errno None = errno
errno_behind t from errno (Some front) = front_errno errno (resolution_of_text t from ending.Dot front Followed)

-- the errno of a path that names nothing: by OpenBSD's rules a component that is too long is judged where it stands, behind the faults
-- of what stands before it
abbrev pub errno_by : Rules → Tree → Start → List ℕ → Errno → Errno
errno_by Standard t from text errno = errno
errno_by Openbsd t from text errno = errno_behind t from errno (before_long text)

-- what a path names by these rules, by what its text names
abbrev pub named_in : Rules → Tree → Start → List ℕ → Result Found Errno → Result Found Errno
named_in whose t from text (Ok object) = Ok object
named_in whose t from text (Err errno) = Err (errno_by whose t from text errno)

abbrev pub path_named : Rules → Tree → Start → Ending → List ℕ → Last → Result Found Errno
path_named whose t from ending text last = named_in whose t from text (resolution_of_text t from ending text last)

abbrev pub Requester : Type 0
Requester = Asker Errno Refusal

-- a process that asks, by what it keeps
abbrev pub asker_of : ProcessState → Requester
asker_of p = record {
  promises = λ sets. refusal_of (may_any p sets);
  path = λ whose side t ending text last. path_named whose t p.start ending text last;
  cover = λ side t object perms. cover_fault (cover t p object) perms;
  beyond = λ whose promises execpromises. pledge_fault whose p promises execpromises;
  locked = fault_if p.locked EPERM;
  place = λ place perms. unveil_errno (unveil_fault p place perms);
  file = λ number. ok_or (file_at p.files number) EBADF;
}

-- the checks of a decision, by names of their own
abbrev pub fails : Errno → Decision
fails errno = Err (Failed errno)

abbrev pub if_may : May → Decision → Decision
if_may may further = unless_refused (refusal_of may) further

abbrev pub unless_fault : Option Errno → Decision → Decision
unless_fault fault further = unless_failed (λ errno. Failed errno) fault further

abbrev pub if_named : {X : Type 0} → Result X Errno → (X → Decision) → Decision
if_named found further = on_named (λ errno. Failed errno) found further

abbrev pub dots_fault : Found → Option Errno
dots_fault object = dots_by (λ wrong. misfit_errno wrong) object

abbrev pub top_fault : Found → Option Errno
top_fault object = top_by (λ wrong. misfit_errno wrong) object

abbrev pub ways_fault : Found → Found → Option Errno
ways_fault old new = ways_by (λ side object wrong. misfit_errno wrong) old new

abbrev pub kinds_fault : Tree → ℕ → Found → Found → Option Errno
kinds_fault t x old new = kinds_by (λ wrong. misfit_errno wrong) t old new

abbrev pub fits_fault : Tree → Found → Found → Option Errno
fits_fault t old new = fits_by (λ wrong. misfit_errno wrong) t old new

abbrev pub inside_fault : Tree → ℕ → Option Spot → Option Errno
inside_fault t x spot = inside_by EINVAL t x spot

-- what a path names of which this is needed
abbrev pub named_by : NameRule → Tree → ProcessState → Ending → List ℕ → Result Found Errno
named_by name t h ending path = resolution_of_text t (start h) ending path name.last

abbrev pub decide_object : CallTable → Tree → Requester → Call → List ℕ → (Found → Decision) → Decision
decide_object table t asker call path further = object_by refusals table t asker call path further

abbrev pub decide_call : CallTable → Tree → Requester → Call → List ℕ → Decision
decide_call table t asker call path = call_by refusals table t asker call path

abbrev pub decide_symlink : CallTable → Tree → Requester → List ℕ → List ℕ → Decision
decide_symlink table t asker target path = symlink_by refusals table t asker target path

abbrev pub decide_rename : Tree → Bool → Found → Found → Option ℕ → Decision
decide_rename t asks old new node = rename_by refusals t asks old new node

abbrev pub decide_link : Tree → Found → Found → Option ℕ → Decision
decide_link t old new node = link_by refusals t old new node

abbrev pub decide_objects : Rules → PairRule → Tree → Requester → Ending → List ℕ → List ℕ → (Found → Found → Decision) → Decision
decide_objects whose pair t asker ending old_path new_path further = objects_by refusals whose pair t asker ending old_path new_path further

abbrev pub decide_pair : Rules → PairRule → Tree → Requester → Ending → List ℕ → List ℕ → (Found → Found → Decision) → Decision
decide_pair whose pair t asker ending old_path new_path further = pair_by refusals whose pair t asker ending old_path new_path further

abbrev pub veiling : Requester → Place → ℕ → Decision
veiling asker place perms = veiling_by refusals asker place perms

abbrev pub decide_veil : Rules → Tree → Requester → List ℕ → Option ℕ → Decision
decide_veil whose t asker path perms = veil_by refusals whose t asker path perms

abbrev pub decide_unveil : Rules → Tree → Requester → List ℕ → Option ℕ → Decision
decide_unveil whose t asker path perms = unveil_by refusals whose t asker path perms

abbrev pub decide_lock : Requester → Decision
decide_lock asker = lock_by asker

abbrev pub decide_fork : Requester → ℕ → Decision
decide_fork asker new = fork_by asker new

abbrev pub decide_uses : Requester → List ℕ → Decision
decide_uses asker sets = uses_by asker sets

abbrev pub decide_hold : CallTable → Tree → Requester → ℕ → Call → List ℕ → Decision
decide_hold table t asker number call path = hold_by refusals table t asker number call path

abbrev pub decide_close : Requester → ℕ → Decision
decide_close asker number = close_by refusals asker number

abbrev pub decide_fchdir : Requester → ℕ → Decision
decide_fchdir asker number = fchdir_by refusals asker number

abbrev pub decide_chroot : CallTable → Tree → Requester → List ℕ → Decision
decide_chroot table t asker path = chroot_by refusals table t asker path

abbrev pub decide_take : Requester → ℕ → ℕ → ℕ → Decision
decide_take asker number from theirs = take_by asker number from theirs

abbrev pub pledging : Requester → Rules → Option ℕ → Option ℕ → Decision
pledging asker whose promises execpromises = pledging_by refusals asker whose promises execpromises

abbrev pub decide_pledge : Requester → Rules → Given → Given → Decision
decide_pledge asker whose promises execpromises = pledge_by refusals asker whose promises execpromises

-- the cover that an opened request is asked for: where the veils aren't asked, none
abbrev pub cover_past : {E : Type 0} → Bool → (Side → Tree → Found → ℕ → Option E) → Side → Tree → Found → ℕ → Option E
cover_past true asked = asked
cover_past false asked = λ side t object perms. None

-- an opened request is asked for no promises, and past the veils for no cover
abbrev pub past_promises : {E R : Type 0} → Bool → Asker E R → Asker E R
past_promises asks_veils asker = record asker { promises = λ sets. None; cover = cover_past asks_veils asker.cover }

abbrev pub asker_past : {E R : Type 0} → Option Opening → Asker E R → Asker E R
asker_past None asker = asker
asker_past (Some o) asker = past_promises o.asks_veils asker

-- the checks that a process's request meets: an opening is looked for before all others
abbrev pub asker_for : {E R : Type 0} → CallTable → ProcessState → Action → Asker E R → Asker E R
asker_for table p (OnPath call path) asker = asker_past (opening_of table p call path) asker
asker_for table p (Hold number call path) asker = asker_past (opening_of table p call path) asker
asker_for table p action asker = asker

-- what a process's request changes, or why it is refused, by what the process keeps
abbrev pub decide : CallTable → Tree → ProcessState → Action → Decision
decide table t p action = decide_by refusals table t (asker_for table p action (asker_of p)) action
