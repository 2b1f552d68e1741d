-- What the checks tell, and what is told beside it.
use Rattle.pua_why.proofs.Common.{◌≡◌, ℕ, Bool, true, false, Some, None, refl, ap, ◌∙◌, Result, Ok, Err, Option, sym, if◌then◌else◌, ◌||◌}
use Rattle.pua_why.proofs.Common.{is_some, nat_le, Tree, add, cut, tie, shift, TreeFault, ProcessState, is_ended, or_fault, most_processes}
use Rattle.pua_why.proofs.Common.{Change, NoChange, AddNode, CutRow, ShiftRow, TieRow, BeginProgram, AddEvent, CopyAs, TakeFile, Outcome}
use Rattle.pua_why.proofs.Common.{fault_if}
use Rattle.pua_why.proofs.Common.{World, kept_at, change_effect, come_of, edit_effect, edited_tree, Answer, Fault, NumberTaken}
use Rattle.pua_why.proofs.Common.{NoProcessLeft, change_or_fault, no_room, room_fault, outcome_fault, decision_of}
use Rattle.std.specs.Prelude.{length}
use Rattle.pua_path.specs.declared.errno.Errno.{Errno}
use Rattle.pua_path.specs.declared.errno.Errno.TheVariants.{EAGAIN}
use Rattle.pua_policy.specs.States.{is_pledged}
use Rattle.pua_policy.specs.declared.open_file.OpenFile.{OpenFile}
use Rattle.pua_script.specs.Decide.{decide}
use Rattle.pua_script.specs.Replay as replay
use Rattle.pua_script.specs.Replay.{answer_to, left_by, sent_by, take_effect}
use Rattle.pua_script.specs.Replay.{answer_and_world}
use Rattle.pua_script.specs.declared.answer.Answer.TheVariants.{Gone}
use Rattle.pua_why.specs.Reasons as reasons
use Rattle.pua_why.specs.Reasons.{reason_of, sent_fault}
use Rattle.pua_why.specs.Reasons.{reason_by}
use Rattle.pua_why.specs.Checked.{process_fault, checks_fault, checked_by, told_by, ChecksTell}
use Rattle.pua_why.proofs.Decisions.{reasons_give_decisions}

edited_room : (h : ProcessState) (r : Result (ℕ × Tree) TreeFault) →
    told_by (answer_to (edit_effect h r)) reasons.Granted ≡ reason_of (no_room (edit_effect h r))
edited_room h (Ok x) = refl
edited_room h (Err fault) = refl

edited_tree_room : (h : ProcessState) (r : Result Tree TreeFault) →
    told_by (answer_to (edited_tree h r)) reasons.Granted ≡ reason_of (no_room (edited_tree h r))
edited_tree_room h (Ok x) = refl
edited_tree_room h (Err fault) = refl

made_room : (w : World) (h : ProcessState) (change : Change) →
    told_by (answer_to (change_effect w h change)) (reason_of (process_fault w h change)) ≡ reason_of (room_fault w h change)
made_room w h NoChange = refl
made_room w h (AddNode spot node) = edited_room h (add w.tree spot.0 spot.1 node)
made_room w h (CutRow spot) = edited_room h (cut w.tree spot.0 spot.1)
made_room w h (ShiftRow old new) = edited_tree_room h (shift w.tree old.0 old.1 new.0 new.1)
made_room w h (TieRow spot x) = edited_tree_room h (tie w.tree spot.0 spot.1 x)
made_room w h (BeginProgram left) = refl
made_room w h (AddEvent event) = refl
made_room w h (CopyAs new) = by (is_some (kept_at w new)) (nat_le most_processes (length w.processes))
  where
    by : (u v : Bool) → told_by (answer_to (if u || v then replay.Fails EAGAIN else replay.Copies new))
        (reason_of (or_fault (fault_if u (NumberTaken new)) (fault_if v NoProcessLeft)))
        ≡ reason_of (or_fault (fault_if u (NumberTaken new)) (fault_if v NoProcessLeft))
    by true v = refl
    by false true = refl
    by false false = refl
made_room w h (TakeFile number from theirs) = by (sent_by (is_pledged h) (kept_at w from) theirs)
  where
    by : (r : Result OpenFile Errno) →
        told_by (answer_to (take_effect w h number r)) (reason_of (sent_fault from theirs r)) ≡ reason_of (sent_fault from theirs r)
    by (Ok file) = refl
    by (Err errno) = refl

outcome_room : (w : World) (h : ProcessState) (d : Outcome Fault) →
    told_by (answer_to (come_of w h (decision_of d))) (reason_of (checks_fault w h d)) ≡ reason_of (outcome_fault w h d)
outcome_room w h (Ok change) = made_room w h change
outcome_room w h (Err fault) = refl

pub checks_tell : ChecksTell
checks_tell table w ask = by (kept_at w ask.process)
  where
    living : (h : ProcessState) (v : Bool) →
        told_by (if◌then◌else◌ {A = Answer × World} v (Gone, w) (
          answer_to (come_of w h (decide table w.tree h ask.action)),
          left_by w ask.process h (come_of w h (decide table w.tree h ask.action)),
        )).0
        (if v then reasons.Ended else reason_of (checks_fault w h (change_or_fault table w.tree h ask.action)))
        ≡ (if v then reasons.Ended else reason_of (outcome_fault w h (change_or_fault table w.tree h ask.action)))
    living h true = refl
    living h false =
        ap (λ d. told_by (answer_to (come_of w h d)) (reason_of (checks_fault w h (change_or_fault table w.tree h ask.action))))
        (sym (reasons_give_decisions table w.tree h ask.action))
        ∙ outcome_room w h (change_or_fault table w.tree h ask.action)

    by : (o : Option ProcessState) → told_by (answer_and_world table w ask o).0 (checked_by table w ask.action o) ≡ reason_by table w ask.action
        o
    by None = refl
    by (Some h) = living h (is_ended h)
