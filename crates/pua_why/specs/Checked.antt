-- What the checks of a request tell, before its change is made: all but whether the tree has room for it.
use Rattle.std.specs.Prelude.{◌≡◌, if◌then◌else◌, length, nat_le, Option, Some, None, Ok, Err, is_some}
use Rattle.pua_path.specs.declared.errno.Errno.TheVariants.{ENOSPC}
use Rattle.pua_calls.specs.Calls.{CallTable}
use Rattle.pua_policy.specs.States.{ProcessState, is_ended}
use Rattle.pua_policy.specs.Verdict.{or_fault}
use Rattle.pua_script.specs.Limits.{most_processes}
use Rattle.pua_script.specs.Requests.{Asked}
use Rattle.pua_script.specs.Decide.{Change, CopyAs, TakeFile, Outcome, fault_if}
use Rattle.pua_script.specs.Replay.{World, kept_at, apply}
use Rattle.pua_script.specs.declared.request.Action.{Action}
use Rattle.pua_script.specs.declared.answer.Answer.{Answer}
use Rattle.pua_script.specs.declared.answer.Answer.TheVariants.{Failed}
use Rattle.pua_why.specs.Reasons.{Fault, NumberTaken, NoProcessLeft, NoRoom, Reason, NeverMade, Ended, Refused, Granted, reason_of, reason}
use Rattle.pua_why.specs.Reasons.{change_or_fault, take_fault}

-- the check that refused
abbrev pub refused_by : Outcome Fault → Option Fault
refused_by (Ok _) = None
refused_by (Err fault) = Some fault

-- of a change, that no further process is made, and that another process doesn't send what is asked for
abbrev pub process_fault : World → ProcessState → Change → Option Fault
process_fault w h (CopyAs new) =
    or_fault (fault_if (is_some (kept_at w new)) (NumberTaken new)) (fault_if (nat_le most_processes (length w.processes)) NoProcessLeft)
process_fault w h (TakeFile number from theirs) = take_fault w h from theirs
process_fault w h _ = None

abbrev pub checks_fault : World → ProcessState → Outcome Fault → Option Fault
checks_fault w h (Ok change) = process_fault w h change
checks_fault w h (Err fault) = Some fault

abbrev pub checked_by : CallTable → World → Action → Option ProcessState → Reason
checked_by table w action None = NeverMade
checked_by table w action (Some h) = if is_ended h then Ended else reason_of (checks_fault w h (change_or_fault table w.tree h action))

abbrev pub reason_checked : CallTable → World → Asked → Reason
reason_checked table w ask = checked_by table w ask.action (kept_at w ask.process)

-- the reason of an answer, by what the checks tell: what they granted lacked room, where the answer says so
abbrev pub granted_by : Answer → Reason
granted_by (Failed ENOSPC) = Refused NoRoom
granted_by _ = Granted

abbrev pub told_by : Answer → Reason → Reason
told_by answer NeverMade = NeverMade
told_by answer Ended = Ended
told_by answer (Refused fault) = Refused fault
told_by answer Granted = granted_by answer

-- so the reason is what the checks tell, and the answer
abbrev pub ChecksTell : Type 0
ChecksTell = (table : CallTable) (w : World) (ask : Asked) → told_by (apply table w ask).0 (reason_checked table w ask) ≡ reason table w ask
