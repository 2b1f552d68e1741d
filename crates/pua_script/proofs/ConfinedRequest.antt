-- What a request of a process that can put no veil any more adds to its state.
use Rattle.pua_script.proofs.Common.{state_after, ◌≡◌, ℕ, [], ◌∷◌, Bool, true, false, cond, refl, sym, ap, ◌∙◌, inl, inr, ◌⊎◌, lit<, ◌||◌, true≢false}
use Rattle.pua_script.proofs.Common.{Result, Ok, Err, Some, IsTrue, is_some, nat_le, Tree, Errno, EAGAIN, TreeFault, unveil, CallTable, ProcessState}
use Rattle.pua_script.proofs.Common.{Event, Pledged, Unveiled, Locked, Moved, Ended, Filed, OpenFile, is_locked, is_ended, has_error, may_any, Action}
use Rattle.pua_script.proofs.Common.{Change, NoChange, AddNode, CutRow, ShiftRow, TieRow, BeginProgram, AddEvent, CopyAs, TakeFile, decide, World}
use Rattle.pua_script.proofs.Common.{Effect, Fails, Kills, Leaves, Copies, kept_at, effect, edit_effect, edited_tree, change_effect, sent_by, take_effect, is_pledged}
use Rattle.pua_script.proofs.Common.{most_processes, Refusal, Failed, Killed, is_exec, is_chdir, is_chroot, IsConfined}
use Rattle.pua_policy.specs.States.{ToDir, ToRoot}
use Rattle.std.proofs.lemmas.Bool.{false_from_ne_true}
use Rattle.std.specs.Prelude.{length}
use Rattle.pua_policy.proofs.ForCallers.{state_never_grows}
use Rattle.pua_policy.specs.declared.answer.May.TheVariants as may
use Rattle.pua_script.specs.Replay.{refusal_effect}
use Rattle.pua_script.proofs.Guarding.{decisions_are_guarded, grounds}
use Rattle.pua_script.proofs.Grounds.{Grounds}
use Rattle.pua_script.proofs.Applied.{by_decision}

-- an event that is no unveil, and no move of the working directory or of the root unless there may be one
abbrev pub is_step : Bool × Bool → Event → Bool
is_step moves (Unveiled place perms) = false
is_step moves (Moved (ToDir dir)) = moves.0
is_step moves (Moved (ToRoot dir)) = moves.1
is_step moves _ = true

-- the state as it was, or with one such event
abbrev pub GoesOn : Bool × Bool → ProcessState → ProcessState → Type 0
GoesOn moves h after = (after ≡ h) ⊎ ((event : Event) × IsTrue (is_step moves event) × (after ≡ state_after event h))

-- an effect that leaves the process such a state, if it succeeds
pub data Fine (moves : Bool × Bool) (h : ProcessState) : Effect → Type 0 where
  fails : {errno : Errno} → Fine moves h (Fails errno)
  kills : Fine moves h Kills
  leaves : {t : Tree} {after : ProcessState} → GoesOn moves h after → Fine moves h (Leaves t after)
  copies : {new : ℕ} → Fine moves h (Copies new)

-- a change that is no exec, and adds no event but such
abbrev StepsOn : Bool × Bool → Change → Type 0
StepsOn m (BeginProgram left) = ⊥
StepsOn m (AddEvent event) = IsTrue (is_step m event)
StepsOn m _ = Unit {0}

module _ (m : Bool × Bool) (w : World) (h : ProcessState) where
  fine_edited : (r : Result (ℕ × Tree) TreeFault) → Fine m h (edit_effect h r)
  fine_edited (Ok x) = leaves (inl refl)
  fine_edited (Err fault) = fails

  fine_edited_tree : (r : Result Tree TreeFault) → Fine m h (edited_tree h r)
  fine_edited_tree (Ok x) = leaves (inl refl)
  fine_edited_tree (Err fault) = fails

  fine_made : (c : Change) → StepsOn m c → Fine m h (change_effect w h c)
  fine_made NoChange steps = leaves (inl refl)
  fine_made (AddNode spot node) steps = fine_edited _
  fine_made (CutRow spot) steps = fine_edited _
  fine_made (ShiftRow old new) steps = fine_edited_tree _
  fine_made (TieRow spot x) steps = fine_edited_tree _
  fine_made (BeginProgram left) steps = absurd steps
  fine_made (AddEvent event) steps = leaves (inr (event, steps, refl))
  fine_made (CopyAs new) steps = by (is_some (kept_at w new) || nat_le most_processes (length w.processes))
    where
      by : (full : Bool) → Fine m h (cond full (Fails EAGAIN) (Copies new))
      by true = fails
      by false = copies
  fine_made (TakeFile number from theirs) steps = by (sent_by (is_pledged h) (kept_at w from) theirs)
    where
      by : (r : Result OpenFile Errno) → Fine m h (take_effect w h number r)
      by (Ok file) = leaves (inr (Filed number (Some file), refl, refl))
      by (Err errno) = fails

  fine_refused : (r : Refusal) → Fine m h (refusal_effect r)
  fine_refused (Failed errno) = fails
  fine_refused Killed = kills

module _ (m : Bool × Bool) (t : Tree) (h : ProcessState) where
  -- a process that can put no veil may not unveil
  no_unveil : IsConfined h → may_any h (unveil ∷ []) ≡ may.Yes → is_locked h ≡ false → ⊥
  no_unveil (inl locked) says unlocked = true≢false (sym locked ∙ unlocked)
  no_unveil (inr lacking) says unlocked =
      by (is_ended h) (has_error h)
      (ap (λ b. cond (is_ended h) may.Death (cond (b || false) may.Yes (cond (has_error h) may.Enosys may.Death))) (sym lacking) ∙ says)
    where
      by : (a b : Bool) → cond a may.Death (cond false may.Yes (cond b may.Enosys may.Death)) ≡ may.Yes → ⊥
      by true b e = cc
      by false true e = cc
      by false false e = cc

  steps_by : (table : CallTable) (action : Action) (c : Change) → Grounds table t h action c → IsConfined h → is_exec action ≡ false →
      (IsTrue (is_chdir action) → IsTrue m.0) → (IsTrue (is_chroot action) → IsTrue m.1) → StepsOn m c
  steps_by table action (BeginProgram left) g confined other moving rooting = absurd (true≢false (sym g ∙ other))
  steps_by table action (AddEvent (Unveiled place perms)) g confined other moving rooting = absurd (no_unveil confined g.0 g.1)
  steps_by table action (AddEvent (Moved (ToDir dir))) g confined other moving rooting = moving g
  steps_by table action (AddEvent (Moved (ToRoot dir))) g confined other moving rooting = rooting g
  steps_by table action (AddEvent _) g confined other moving rooting = refl
  steps_by table action _ g confined other moving rooting = tt

locked_after : (event : Event) (h : ProcessState) → is_locked h ≡ true → is_locked (state_after event h) ≡ true
locked_after Locked h locked = refl
locked_after (Pledged p e) h locked = locked
locked_after (Unveiled place perms) h locked = locked
locked_after (Moved dir) h locked = locked
locked_after Ended h locked = locked
locked_after (Filed number file) h locked = locked

pub confined_after : (event : Event) (h : ProcessState) → IsConfined h → IsConfined (state_after event h)
confined_after event h (inl locked) = inl (locked_after event h locked)
confined_after event h (inr lacking) =
    inr (false_from_ne_true _ (λ holding. let again = state_never_grows event h unveil (lit< tt) refl holding in cc (again, lacking)))

pub fine_effect : (m : Bool × Bool) (table : CallTable) (w : World) (h : ProcessState) (action : Action) → IsConfined h → is_exec action ≡ false →
    (IsTrue (is_chdir action) → IsTrue m.0) → (IsTrue (is_chroot action) → IsTrue m.1) → Fine m h (effect table w h action)
fine_effect m table w h action confined other moving rooting = by_decision w h (Fine m h) (decide table w.tree h action) (fine_refused m w h)
    (λ c is. fine_made m w h c
    (steps_by m w.tree h table action c (grounds table w.tree h action c (decisions_are_guarded table w.tree h action c is)) confined
    other moving rooting))
