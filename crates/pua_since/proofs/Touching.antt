-- A request changes no more than what it touches.
use Rattle.pua_since.proofs.Common.{◌≡◌, ℕ, Bool, true, false, cond, length, Some, refl, sym, ap, subst, ◌∙◌}
use Rattle.pua_since.proofs.Common.{is_some, false≢true, eqb-true, Found, CallTable, ProcessState, Refusal, Call, Asked, Change}
use Rattle.pua_since.proofs.Common.{change_by, decide, World, Effect, Fails, Kills, Leaves, Copies, apply, kept_at, answer_to}
use Rattle.pua_since.proofs.Common.{left_by, Answer, Okay, Action, OnPath, Symlink, Rename, Link, Pledge, Unveil, Lock, Fork, Exit, Uses}
use Rattle.pua_since.proofs.Common.{Hold, Close, Fchdir, Chroot, Take, Comment}
use Rattle.pua_since.proofs.Common.{by_request, has_forked, TouchesOnly}
use Rattle.std.proofs.Common.{eq-eqb}
use Rattle.std.specs.Prelude.{nat_eq, Result, Ok, Err}
use Rattle.std.proofs.lemmas.Map.{length-set_value}
use Rattle.pua_calls.specs.declared.call.Call.TheVariants as call
use Rattle.pua_policy.specs.States.{Ended, is_pledged, state_after}
use Rattle.pua_policy.specs.declared.open_file.OpenFile.{OpenFile}
use Rattle.pua_path.specs.declared.errno.Errno.{Errno}
use Rattle.pua_policy.specs.declared.answer.Refusal.TheVariants.{Failed, Killed}
use Rattle.pua_path.specs.Fits.{node_named}
use Rattle.pua_script.specs.Decide.{file_opened}
use Rattle.pua_script.specs.Guards.{IsDecided}
use Rattle.pua_script.specs.Replay.{with_process, change_effect, refusal_effect, sent_by, take_effect}
use Rattle.pua_script.specs.declared.answer.Answer.TheVariants as answers
use Rattle.pua_script.proofs.ForCallers.{by_decision, by_filing, by_going, by_rooting, decisions_are_guarded}
use Rattle.pua_script.proofs.ForCallers.{found_put, found_elsewhere, put_there}
use Rattle.pua_since.specs.Concerns.{ChangesOnly, ChangesProcess, MakesNone, call_is_own, is_own, touched_by, touched_if}
use Rattle.pua_since.specs.declared.touched.Touched.TheVariants.{Process}
use Rattle.pua_since.proofs.Watching.{came_itself}

stays_same : (process : ℕ) (w : World) → ChangesProcess process w w
stays_same process w = record { tree = refl; others = λ other differs. refl; there = λ other. refl; count = refl }

-- an effect that leaves the tree, and makes no process
abbrev IsOwn : World → Effect → Type 0
IsOwn w (Leaves t after) = t ≡ w.tree
IsOwn w (Copies new) = ⊥
IsOwn w _ = Unit {0}

module _ (table : CallTable) (w : World) (process : ℕ) (h : ProcessState) (here : kept_at w process ≡ Some h) where
  -- another state of the process that asks
  own_change : (after : ProcessState) → ChangesProcess process w (with_process w process after)
  own_change after = record {
    tree = refl;
    others = λ other differs. found_elsewhere other process after w.processes (λ same. false≢true (sym differs ∙ eq-eqb other process same));
    there = λ other. ap is_some (found_put other process after w.processes) ∙ by other (nat_eq process other) refl;
    count = ap length (put_there process after w.processes (ap is_some here)) ∙ length-set_value (nat_eq process) w.processes after;
  }
    where
      by : (other : ℕ) (b : Bool) → nat_eq process other ≡ b → is_some (cond b (Some after) (kept_at w other)) ≡ is_some (kept_at w other)
      by other true same = sym (ap is_some here) ∙ ap (λ q. is_some (kept_at w q)) (eqb-true process other same)
      by other false differs = refl

  by_call : (asked : Call) (object : Found) → call_is_own asked ≡ true → IsOwn w (change_effect w h (change_by table asked object))
  by_call call.Chdir object own = by_going (λ c. IsOwn w (change_effect w h c)) refl object (λ dir. refl)
  by_call _ object own = cc

  by_action : (action : Action) (c : Change) → IsDecided table w.tree h action c → is_own action ≡ true →
      IsOwn w (change_effect w h c)
  by_action (OnPath asked path) c decided own =
      subst (λ d. IsOwn w (change_effect w h d)) (sym decided.2) (by_call asked decided.0 own)
  by_action (Pledge promises execpromises) c decided own = subst (λ d. IsOwn w (change_effect w h d)) (sym decided.is) refl
  by_action (Unveil path perms) c decided own = subst (λ d. IsOwn w (change_effect w h d)) (sym decided.is) refl
  by_action Lock c decided own = subst (λ d. IsOwn w (change_effect w h d)) (sym decided.1) refl
  by_action Exit c decided own = subst (λ d. IsOwn w (change_effect w h d)) (sym decided) refl
  by_action (Uses sets) c decided own = subst (λ d. IsOwn w (change_effect w h d)) (sym decided.1) refl
  by_action (Hold number asked path) c decided own =
      subst (λ d. IsOwn w (change_effect w h d)) (sym decided.2)
      (by_filing (λ c. IsOwn w (change_effect w h c)) refl number (file_opened w.tree asked (node_named decided.0)) (λ file. refl))
  by_action (Close number) c decided own = subst (λ d. IsOwn w (change_effect w h d)) (sym decided.2) refl
  by_action (Fchdir number) c decided own = subst (λ d. IsOwn w (change_effect w h d)) (sym decided.is) refl
  by_action (Chroot path) c decided own =
      subst (λ d. IsOwn w (change_effect w h d)) (sym decided.is)
      (by_rooting (λ c. IsOwn w (change_effect w h c)) refl decided.object (λ dir. refl))
  by_action (Take number from theirs) c decided own =
      subst (λ d. IsOwn w (change_effect w h d)) (sym decided.1) (sent (sent_by (is_pledged h) (kept_at w from) theirs))
    where
      sent : (r : Result OpenFile Errno) → IsOwn w (take_effect w h number r)
      sent (Ok file) = refl
      sent (Err errno) = tt
  by_action Comment c decided own = subst (λ d. IsOwn w (change_effect w h d)) (sym decided) refl
  by_action _ c decided own = absurd (false≢true own)

  -- by what an effect is answered
  by_effect : (action : Action) (e : Effect) → (is_own action ≡ true → IsOwn w e) →
      ChangesOnly (touched_by (record { process = process; action = action }) (answer_to e)) w (left_by w process h e)
  by_effect action (Fails errno) own = stays_same process w
  by_effect action Kills own = own_change (state_after Ended h)
  by_effect action (Leaves t after) own = by (is_own action) own
    where
      by : (b : Bool) → (b ≡ true → t ≡ w.tree) → ChangesOnly (touched_if b process) w (left_by w process h (Leaves t after))
      by true same =
          subst (λ u. ChangesProcess process w (left_by w process h (Leaves u after))) (sym (same refl)) (own_change after)
      by false same = tt
  by_effect action (Copies new) own = by (is_own action) own
    where
      by : (b : Bool) → (b ≡ true → ⊥) → ChangesOnly (touched_if b process) w (left_by w process h (Copies new))
      by true none = absurd (none refl)
      by false none = tt

  by_refusal : (action : Action) (r : Refusal) →
      ChangesOnly (touched_by (record { process = process; action = action }) (answer_to (refusal_effect r))) w
      (left_by w process h (refusal_effect r))
  by_refusal action (Failed errno) = stays_same process w
  by_refusal action Killed = own_change (state_after Ended h)

-- who each process was stays, where no process was made
makes_none : (table : CallTable) (w : World) (ask : Asked) (answer : Answer) → answer ≡ (apply table w ask).0 →
    MakesNone (touched_by ask answer) table w ask
makes_none table w ask answer told = by ask.action answer (λ none other. came_itself table w ask other
    (ap (has_forked ask.action) (sym told) ∙ none))
  where
    by : (action : Action) (answer : Answer) → (has_forked action answer ≡ false → MakesNone (Process ask.process) table w ask) →
        MakesNone (touched_by (record ask { action = action }) answer) table w ask
    by (OnPath asked path) Okay itself = own (call_is_own asked)
      where
        own : (b : Bool) → MakesNone (touched_if b ask.process) table w ask
        own true = itself refl
        own false = tt
    by (Symlink target path) Okay itself = tt
    by (Rename old new) Okay itself = tt
    by (Link old new) Okay itself = tt
    by (Fork new) Okay itself = tt
    by _ Okay itself = itself refl
    by action (answers.Failed errno) itself = itself refl
    by action answers.Killed itself = itself refl
    by action answers.Gone itself = itself refl

pub touches_only : (table : CallTable) (w : World) (ask : Asked) →
    TouchesOnly table w ask (touched_by ask (apply table w ask).0)
touches_only table w ask = record {
  changes = by_request table w ask (λ done. ChangesOnly (touched_by ask done.0) w done.1) (stays_same ask.process w)
      λ h here. by_decision w h (λ e. ChangesOnly (touched_by ask (answer_to e)) w (left_by w ask.process h e))
      (decide table w.tree h ask.action)
      (by_refusal table w ask.process h here ask.action)
      (λ c is. by_effect table w ask.process h here ask.action (change_effect w h c)
      (by_action table w ask.process h here ask.action c (decisions_are_guarded table w.tree h ask.action c is)));
  makes_none = makes_none table w ask (apply table w ask).0 refl;
}
