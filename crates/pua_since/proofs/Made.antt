-- A process that was made stays made, so whoever asks in its name later on is itself.
use Rattle.pua_since.proofs.Common.{◌≡◌, ℕ, List, [], ◌∷◌, Bool, true, false, cond, refl, ap, ◌∙◌, is_some, ◌==◌}
use Rattle.pua_since.proofs.Common.{eqb-true, CallTable, ProcessState, CopyAs, decide}
use Rattle.pua_since.proofs.Common.{is_okay, World, Effect, Fails, Kills, Leaves, Copies, kept_at, apply, left_by, answer_to, Asked}
use Rattle.pua_since.proofs.Common.{Action, Fork, by_request, parent_by, came_from, forebear}
use Rattle.std.proofs.Common.{◌||◌}
use Rattle.std.specs.Prelude.{Ok, Some, nat_eq, nat_le, length}
use Rattle.std.specs.Map.{lookup}
use Rattle.pua_path.specs.declared.errno.Errno.TheVariants.{EAGAIN}
use Rattle.pua_policy.specs.States.{may_any}
use Rattle.pua_calls.specs.Promises.{proc}
use Rattle.pua_policy.specs.declared.answer.May.{May}
use Rattle.pua_policy.specs.declared.answer.May.TheVariants as may
use Rattle.pua_script.specs.Decide.{if_may}
use Rattle.pua_script.specs.Limits.{most_processes}
use Rattle.pua_script.specs.Replay.{come_of, do_decided, put_at}
use Rattle.pua_script.proofs.ForCallers.{found_put}

-- a process of this number was made
abbrev pub IsMade : World → ℕ → Type 0
IsMade w process = is_some (kept_at w process) ≡ true

put_keeps : (process at : ℕ) (h : ProcessState) (w : World) → IsMade w process →
    is_some (lookup (nat_eq process) (put_at at h w.processes)) ≡ true
put_keeps process at h w made = ap is_some (found_put process at h w.processes) ∙ by (nat_eq at process)
  where
    by : (b : Bool) → is_some (cond b (Some h) (kept_at w process)) ≡ true
    by true = refl
    by false = made

effect_keeps : (w : World) (asker process : ℕ) (h : ProcessState) (e : Effect) → IsMade w process → IsMade (left_by w asker h e) process
effect_keeps w asker process h (Fails errno) made = made
effect_keeps w asker process h Kills made = put_keeps process asker _ w made
effect_keeps w asker process h (Leaves t after) made = put_keeps process asker after w made
effect_keeps w asker process h (Copies new) made = put_keeps process new h w made

pub request_keeps : (table : CallTable) (w : World) (ask : Asked) (process : ℕ) → IsMade w process → IsMade (apply table w ask).1 process
request_keeps table w ask process made =
    by_request table w ask (λ done. IsMade done.1 process) made
    (λ h _. effect_keeps w ask.process process h (come_of w h (decide table w.tree h ask.action)) made)

-- a number that is taken is given to no new process
module _ (table : CallTable) (w : World) (asker new : ℕ) (made : IsMade w new) where
  taken : (h : ProcessState) (m : May) → is_okay (do_decided w asker h (if_may m (Ok (CopyAs new)))).0 ≡ false
  taken h may.Yes = ap (λ b. is_okay (answer_to (cond (b || nat_le most_processes (length w.processes)) (Fails EAGAIN) (Copies new)))) made
  taken h may.Enosys = refl
  taken h may.Death = refl

  pub fork_fails : is_okay (apply table w (record { process = asker; action = Fork new })).0 ≡ false
  fork_fails = by_request table w (record { process = asker; action = Fork new }) (λ done. is_okay done.0 ≡ false) refl
      (λ h _. taken h (may_any h (proc ∷ [])))

itself : (table : CallTable) (w : World) (ask : Asked) (process : ℕ) → IsMade w process → came_from table w ask process ≡ process
itself table w ask process made = by ask.action refl
  where
    same : (b : Bool) → cond b process process ≡ process
    same true = refl
    same false = refl

    forked : (new : ℕ) → ask.action ≡ Fork new → (b : Bool) → (new == process) ≡ b →
        cond (is_okay (apply table w ask).0) (cond b ask.process process) process ≡ process
    forked new e false apart = same (is_okay (apply table w ask).0)
    forked new e true is =
        ap (λ b. cond b ask.process process)
        ((λ i. is_okay (apply table w (record { process = ask.process; action = e i })).0)
        ∙ fork_fails table w ask.process new (ap (λ q. is_some (kept_at w q)) (eqb-true new process is) ∙ made))

    by : (action : Action) → ask.action ≡ action → cond (is_okay (apply table w ask).0) (parent_by action ask.process process) process
        ≡ process
    by (Fork new) e = forked new e (new == process) refl
    by _ e = same (is_okay (apply table w ask).0)

pub stays_itself : (table : CallTable) (asks : List Asked) (w : World) (process : ℕ) → IsMade w process →
    forebear table w asks process ≡ process
stays_itself table [] w process made = refl
stays_itself table (ask ∷ asks) w process made =
    ap (came_from table w ask) (stays_itself table asks (apply table w ask).1 process (request_keeps table w ask process made))
    ∙ itself table w ask process made
