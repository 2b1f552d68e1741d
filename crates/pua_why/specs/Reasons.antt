-- Why a request is answered as it is: what is told of the check at which it is refused, and of the room that its change lacks.
use Rattle.std.specs.Prelude.{ℕ, Bool, true, false, not, if◌then◌else◌, List, length, nat_le, Option, Some, None, option_map, Result, Ok}
use Rattle.std.specs.Prelude.{Err, is_some, ok_or, unwrap_or}
use Rattle.pua_tree.specs.Tree.{Tree}
use Rattle.pua_path.specs.declared.errno.Errno.TheVariants.{EPERM, ENOENT, E2BIG, EBADF, EACCES, EAGAIN, EINVAL, ENOSPC, ENOSYS, ENOTDIR}
use Rattle.pua_path.specs.declared.errno.Errno.{Errno}
use Rattle.pua_policy.specs.declared.open_file.OpenFile.{OpenFile}
use Rattle.pua_path.specs.declared.found.Found.{Found}
use Rattle.pua_path.specs.declared.found.Last.TheVariants.{Followed}
use Rattle.pua_path.specs.declared.found.Start.{Start}
use Rattle.pua_path.specs.Paths.{is_absolute}
use Rattle.pua_path.specs.declared.text.Ending.TheVariants as ending
use Rattle.pua_path.specs.Traces.{text_errno, text_fault, path_errno, trace_of_text}
use Rattle.pua_path.specs.declared.traced.PathTextFault.{PathTextFault}
use Rattle.pua_path.specs.declared.traced.PathFault.{PathFault}
use Rattle.pua_path.specs.declared.traced.PathFault.TheVariants.{NoStart}
use Rattle.pua_calls.specs.Promises.{holds}
use Rattle.pua_calls.specs.declared.rules.Rules.{Rules}
use Rattle.pua_calls.specs.Calls.{CallTable}
use Rattle.pua_calls.specs.declared.rules.Rules.TheVariants.{Standard, Openbsd}
use Rattle.pua_policy.specs.States.{ProcessState, file_at, has_error, error_frees_exec, is_within, is_ended, is_pledged, perms_kept}
use Rattle.pua_policy.specs.States.{most_places}
use Rattle.pua_policy.specs.Verdict.{or_fault}
use Rattle.pua_policy.specs.declared.place.Place.{Place}
use Rattle.pua_policy.specs.declared.answer.Refusal.{Refusal}
use Rattle.pua_policy.specs.declared.answer.Refusal.TheVariants as refusal
use Rattle.pua_calls.specs.Promises.{lacking}
use Rattle.pua_policy.specs.declared.reason.Covering.{Covering}
use Rattle.pua_policy.specs.declared.reason.Covering.TheVariants.{InView, NoneOver, By}
use Rattle.pua_policy.specs.Reasons.{Promising, Holds, HasEnded, Lacks, promising, covering}
use Rattle.pua_script.specs.Limits.{most_processes}
use Rattle.pua_script.specs.Requests.{Asked}
use Rattle.pua_script.specs.Decide.{Change, CopyAs, TakeFile, Outcome, Side, Telling, Asker, fault_if, decide_by, asker_for, before_long}
use Rattle.pua_policy.specs.Misfits.{misfit_errno}
use Rattle.pua_calls.specs.declared.fits.Misfit.{Misfit}
use Rattle.pua_script.specs.Replay.{World, Effect, Fails, kept_at, change_effect, sent_by}
use Rattle.pua_script.specs.declared.request.Action.{Action}
use Rattle.pua_script.specs.declared.answer.Answer.{Answer}
use Rattle.pua_script.specs.declared.answer.Answer.TheVariants.{Okay, Failed, Killed, Gone}

-- what is wrong with a descriptor: with one's own, or with one of another process
pub data FileFault : Type 0 where
  NotOpen : ℕ → FileFault
  OpenNoDirectory : ℕ → FileFault
  NotSent : ℕ → ℕ → FileFault
  MayNotSend : ℕ → FileFault
  SendsDirectory : ℕ → ℕ → FileFault

-- and what errno the request is answered for it
abbrev pub file_errno : FileFault → Errno
file_errno (NotOpen number) = EBADF
file_errno (OpenNoDirectory number) = ENOTDIR
file_errno (NotSent from theirs) = EBADF
file_errno (MayNotSend from) = EPERM
file_errno (SendsDirectory from theirs) = EINVAL

-- why a living process does not get what it asks for
pub data Fault : Type 0 where
  Ends : Fault
  LacksPromises : Bool → List ℕ → Fault
  BadTarget : PathTextFault → Fault
  BadPath : Side → PathFault → Fault
  NoRoot : Side → Fault
  Uncovered : Side → Found → Fault
  LacksLetters : Side → Place → ℕ → ℕ → Fault
  Unfit : Side → Found → Misfit → Fault
  Inside : Found → Found → Fault
  UnknownPromise : Bool → Fault
  AsksPromises : Bool → ℕ → Fault
  IsLocked : Fault
  UnknownLetter : Fault
  AsksLetters : Place → ℕ → ℕ → Fault
  NoPlaceLeft : Fault
  NumberTaken : ℕ → Fault
  NoProcessLeft : Fault
  NoRoom : Fault
  WrongFile : FileFault → Fault

-- what becomes of the request for it
abbrev pub fault_refusal : Fault → Refusal
fault_refusal Ends = refusal.Killed
fault_refusal (LacksPromises true sets) = refusal.Failed ENOSYS
fault_refusal (LacksPromises false sets) = refusal.Killed
fault_refusal (BadTarget fault) = refusal.Failed (text_errno fault)
fault_refusal (BadPath side fault) = refusal.Failed (path_errno fault)
fault_refusal (NoRoot side) = refusal.Failed ENOENT
fault_refusal (Uncovered side object) = refusal.Failed ENOENT
fault_refusal (LacksLetters side place given lacks) = refusal.Failed EACCES
fault_refusal (Unfit side object misfit) = refusal.Failed (misfit_errno misfit)
fault_refusal (Inside old new) = refusal.Failed EINVAL
fault_refusal (UnknownPromise of_exec) = refusal.Failed EINVAL
fault_refusal (AsksPromises of_exec lacks) = refusal.Failed EPERM
fault_refusal IsLocked = refusal.Failed EPERM
fault_refusal UnknownLetter = refusal.Failed EINVAL
fault_refusal (AsksLetters place given lacks) = refusal.Failed EPERM
fault_refusal NoPlaceLeft = refusal.Failed E2BIG
fault_refusal (NumberTaken n) = refusal.Failed EAGAIN
fault_refusal NoProcessLeft = refusal.Failed EAGAIN
fault_refusal NoRoom = refusal.Failed ENOSPC
fault_refusal (WrongFile fault) = refusal.Failed (file_errno fault)

-- promises that are not held
abbrev pub unpromised_fault : Promising → Option Fault
unpromised_fault (Holds set) = None
unpromised_fault HasEnded = Some Ends
unpromised_fault (Lacks error sets) = Some (LacksPromises error sets)

-- why a path names nothing: by OpenBSD's rules the fault of what stands before a component that is too long, if that names no directory
abbrev pub front_fault : PathFault → Result Found PathFault → PathFault
front_fault fault (Ok directory) = fault
front_fault fault (Err front) = front

abbrev pub fault_behind : Tree → Start → PathFault → Option (List ℕ) → PathFault
fault_behind t from fault None = fault
fault_behind t from fault (Some front) = front_fault fault (trace_of_text t from ending.Dot front Followed).outcome

abbrev pub fault_by : Rules → Tree → Start → List ℕ → PathFault → PathFault
fault_by Standard t from text fault = fault
fault_by Openbsd t from text fault = fault_behind t from fault (before_long text)

-- what a path names by these rules, or why it names nothing, by the outcome of its text
abbrev pub outcome_in : Rules → Tree → Start → List ℕ → Result Found PathFault → Result Found PathFault
outcome_in whose t from text (Ok object) = Ok object
outcome_in whose t from text (Err fault) = Err (fault_by whose t from text fault)

-- that a path starts at what was removed: the root, where it begins with a slash, and else the working directory
abbrev pub no_start : Side → Bool → Fault
no_start side true = NoRoot side
no_start side false = BadPath side NoStart

abbrev pub bad_path : Side → List ℕ → PathFault → Fault
bad_path side text NoStart = no_start side (is_absolute text)
bad_path side text fault = BadPath side fault

-- what a path of this text names, or why it names nothing
abbrev pub told_path : Side → List ℕ → Result Found PathFault → Result Found Fault
told_path side text (Ok object) = Ok object
told_path side text (Err fault) = Err (bad_path side text fault)

-- what the veils leave is less than these permissions
abbrev pub uncovered_fault : Side → Found → ℕ → Covering → Option Fault
uncovered_fault side object perms InView = None
uncovered_fault side object perms NoneOver = Some (Uncovered side object)
uncovered_fault side object perms (By place given) =
    if holds given perms then None else Some (LacksLetters side place given (lacking given perms))

-- what is asked for beyond what was given
abbrev pub beyond : Option ℕ → Option ℕ → ℕ
beyond request given = lacking (unwrap_or given 0) (unwrap_or request 0)

abbrev pub asks_beyond : Bool → Option ℕ → Option ℕ → Option Fault
asks_beyond of_exec request given = fault_if (not (is_within request given)) (AsksPromises of_exec (beyond request given))

-- a fault that nothing lets pass
abbrev pub unless : Bool → Option Fault → Option Fault
unless lets fault = if lets then None else fault

-- a pledge that asks for more than `error` lets it: its promises first
abbrev pub pledge_beyond : Rules → ProcessState → Option ℕ → Option ℕ → Option Fault
pledge_beyond whose p promises execpromises =
    or_fault (unless (has_error p) (asks_beyond false promises p.promises))
    (unless (error_frees_exec whose (has_error p)) (asks_beyond true execpromises p.execpromises))

-- permissions at a place, by what is kept there and by the number of places
abbrev pub place_beyond : Place → Option ℕ → ℕ → ℕ → Option Fault
place_beyond place (Some given) places perms = if holds given perms then None else Some (AsksLetters place given (lacking given perms))
place_beyond place None places perms = if nat_le most_places places then Some NoPlaceLeft else None

abbrev pub unveil_beyond : ProcessState → Place → ℕ → Option Fault
unveil_beyond p place perms = if p.locked then Some IsLocked else place_beyond place (perms_kept p place) (length p.veils) perms

-- a fault is told of each check that fails
abbrev pub faults : Telling Fault Fault
faults = record {
  failed = λ fault. fault;
  target = λ text. option_map BadTarget (text_fault text);
  misfit = λ side object wrong. Unfit side object wrong;
  inside = λ old new. Inside old new;
  unknown_promise = λ of_exec. UnknownPromise of_exec;
  unknown_letter = UnknownLetter;
  no_directory = λ number. WrongFile (OpenNoDirectory number);
}

-- and of a process, by what it keeps
abbrev pub faults_of : ProcessState → Asker Fault Fault
faults_of p = record {
  promises = λ sets. unpromised_fault (promising p sets);
  path = λ whose side t ending text last.
      told_path side text (outcome_in whose t p.start text (trace_of_text t p.start ending text last).outcome);
  cover = λ side t object perms. uncovered_fault side object perms (covering t p object);
  beyond = λ whose promises execpromises. pledge_beyond whose p promises execpromises;
  locked = fault_if p.locked IsLocked;
  place = unveil_beyond p;
  file = λ number. ok_or (file_at p.files number) (WrongFile (NotOpen number));
}

-- what a living process's request changes, or the fault for which it is refused
abbrev pub change_or_fault : CallTable → Tree → ProcessState → Action → Outcome Fault
change_or_fault table t h action = decide_by faults table t (asker_for table h action (faults_of h)) action

-- of a change, that there is no room for it
abbrev pub no_room : Effect → Option Fault
no_room (Fails errno) = Some NoRoom
no_room _ = None

-- of what another process has as a descriptor, that it is not sent
abbrev pub errno_sent : ℕ → ℕ → Errno → FileFault
errno_sent from theirs EPERM = MayNotSend from
errno_sent from theirs EINVAL = SendsDirectory from theirs
errno_sent from theirs _ = NotSent from theirs

abbrev pub sent_fault : ℕ → ℕ → Result OpenFile Errno → Option Fault
sent_fault from theirs (Ok file) = None
sent_fault from theirs (Err errno) = Some (WrongFile (errno_sent from theirs errno))

abbrev pub take_fault : World → ProcessState → ℕ → ℕ → Option Fault
take_fault w h from theirs = sent_fault from theirs (sent_by (is_pledged h) (kept_at w from) theirs)

abbrev pub room_fault : World → ProcessState → Change → Option Fault
room_fault w h (CopyAs new) =
    or_fault (fault_if (is_some (kept_at w new)) (NumberTaken new)) (fault_if (nat_le most_processes (length w.processes)) NoProcessLeft)
room_fault w h (TakeFile number from theirs) = take_fault w h from theirs
room_fault w h change = no_room (change_effect w h change)

abbrev pub outcome_fault : World → ProcessState → Outcome Fault → Option Fault
outcome_fault w h (Ok change) = room_fault w h change
outcome_fault w h (Err fault) = Some fault

-- the fault of a living process's request, if it has one
abbrev pub request_fault : CallTable → World → ProcessState → Action → Option Fault
request_fault table w h action = outcome_fault w h (change_or_fault table w.tree h action)

-- why a request is answered as it is: the process was never made, or has ended, or it is refused, or granted
pub data Reason : Type 0 where
  NeverMade : Reason
  Ended : Reason
  Refused : Fault → Reason
  Granted : Reason

abbrev pub reason_of : Option Fault → Reason
reason_of None = Granted
reason_of (Some fault) = Refused fault

abbrev pub reason_by : CallTable → World → Action → Option ProcessState → Reason
reason_by table w action None = NeverMade
reason_by table w action (Some h) = if is_ended h then Ended else reason_of (request_fault table w h action)

abbrev pub reason : CallTable → World → Asked → Reason
reason table w ask = reason_by table w ask.action (kept_at w ask.process)

-- the answer that a reason gives
abbrev pub refusal_answer : Refusal → Answer
refusal_answer (refusal.Failed errno) = Failed errno
refusal_answer refusal.Killed = Killed

abbrev pub answer_of : Reason → Answer
answer_of NeverMade = Gone
answer_of Ended = Gone
answer_of (Refused fault) = refusal_answer (fault_refusal fault)
answer_of Granted = Okay
