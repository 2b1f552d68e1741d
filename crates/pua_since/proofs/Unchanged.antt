-- A request that can't have changed a world leaves it as it is.
use Rattle.pua_since.proofs.Common.{◌≡◌, false, Some, Ok, refl, sym, ap, ◌∙◌}
use Rattle.pua_since.proofs.Common.{Found, CallTable, ProcessState, Call, Refusal, Asked, Change, NoChange, change_by}
use Rattle.pua_since.proofs.Common.{decide, World, apply, Effect, Fails, Kills, Leaves, Copies, kept_at, answer_to, left_by, Answer}
use Rattle.pua_since.proofs.Common.{Action, OnPath, Symlink, Rename, Link, Pledge, Unveil, Lock, Fork, Exit, Uses, Hold, Close, Fchdir}
use Rattle.pua_since.proofs.Common.{Chroot, Take, Comment, by_request}
use Rattle.pua_since.proofs.Common.{has_changed}
use Rattle.pua_calls.specs.declared.call.Call.TheVariants as call
use Rattle.pua_policy.specs.declared.answer.Refusal.TheVariants.{Failed, Killed}
use Rattle.pua_script.specs.Replay.{change_effect, refusal_effect}
use Rattle.pua_script.proofs.ForCallers.{put_back}
use Rattle.pua_script.proofs.ForCallers.{by_decision, decisions_are_guarded}
use Rattle.pua_since.specs.Changes.{call_changes, action_changes, LeavesAsIs}

-- the calls that change nothing
no_change : (table : CallTable) (c : Call) (object : Found) → call_changes c ≡ false → change_by table c object ≡ NoChange
no_change table call.Create object e = cc
no_change table _ object e = cc

module _ (table : CallTable) (w : World) (ask : Asked) (h : ProcessState) (here : kept_at w ask.process ≡ Some h) where
  kept : left_by w ask.process h (change_effect w h NoChange) ≡ w
  kept = ap (λ processes. record w { processes = processes }) (put_back ask.process h w.processes here)

  by_action : (action : Action) (c : Change) → decide table w.tree h action ≡ Ok c → action_changes action ≡ false →
      left_by w ask.process h (change_effect w h c) ≡ w
  by_action (OnPath asked path) c is e =
      let guarded = decisions_are_guarded table w.tree h (OnPath asked path) c is in
      ap (λ d. left_by w ask.process h (change_effect w h d)) (guarded.2 ∙ no_change table asked guarded.0 e) ∙ kept
  by_action (Symlink target path) c is e = cc
  by_action (Rename old new) c is e = cc
  by_action (Link old new) c is e = cc
  by_action (Pledge promises execpromises) c is e = cc
  by_action (Unveil path perms) c is e = cc
  by_action Lock c is e = cc
  by_action (Fork new) c is e = cc
  by_action Exit c is e = cc
  by_action (Uses sets) c is e =
      let guarded = decisions_are_guarded table w.tree h (Uses sets) c is in
      ap (λ d. left_by w ask.process h (change_effect w h d)) guarded.1 ∙ kept
  by_action (Hold number asked path) c is e = cc
  by_action (Close number) c is e = cc
  by_action (Fchdir number) c is e = cc
  by_action (Chroot path) c is e = cc
  by_action (Take number from theirs) c is e = cc
  by_action Comment c is e =
      ap (λ d. left_by w ask.process h (change_effect w h d)) (decisions_are_guarded table w.tree h Comment c is) ∙ kept

  by_effect : (e : Effect) → (action_changes ask.action ≡ false → left_by w ask.process h e ≡ w) →
      has_changed ask.action (answer_to e) ≡ false → left_by w ask.process h e ≡ w
  by_effect (Fails errno) okay none = refl
  by_effect Kills okay none = cc
  by_effect (Leaves t after) okay none = okay none
  by_effect (Copies new) okay none = okay none

  refusing : (r : Refusal) → has_changed ask.action (answer_to (refusal_effect r)) ≡ false → left_by w ask.process h (refusal_effect r) ≡ w
  refusing (Failed errno) none = refl
  refusing Killed none = cc

unchanged : (table : CallTable) (w : World) (ask : Asked) → has_changed ask.action (apply table w ask).0 ≡ false → (apply table w ask).1 ≡ w
unchanged table w ask =
    by_request table w ask (λ done. has_changed ask.action done.0 ≡ false → done.1 ≡ w) (λ none. refl)
    λ h here. by_decision w h (λ e. has_changed ask.action (answer_to e) ≡ false → left_by w ask.process h e ≡ w)
    (decide table w.tree h ask.action)
    (refusing table w ask h here)
    (λ c is. by_effect table w ask h here (change_effect w h c) (by_action table w ask h here ask.action c is))

-- a request that can't have changed a world leaves it as it is
pub unchanged_stay : (action : Action) (answer : Answer) → has_changed action answer ≡ false → LeavesAsIs action answer
unchanged_stay action answer none table w process told =
    unchanged table w (record { process = process; action = action }) (ap (has_changed action) (sym told) ∙ none)
