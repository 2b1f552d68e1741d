-- Where as many processes were made as may be, no other one is.
use Rattle.pua_refused.proofs.Common.{◌∷◌, ◌≡◌, false, None, Some}
use Rattle.std.proofs.Common.{◌||◌, ◌≢◌, ◌≤◌, [], Bool, length, Ok, Option, subst, true, ℕ}
use Rattle.std.proofs.lemmas.Bool.{le-leb}
use Rattle.std.specs.Prelude.{nat_le, is_some, if◌then◌else◌}
use Rattle.pua_calls.specs.Calls.{CallTable}
use Rattle.pua_calls.specs.Promises.{proc}
use Rattle.pua_policy.specs.States.{ProcessState, is_ended, may_any}
use Rattle.pua_policy.specs.Verdict.{refusal_of}
use Rattle.pua_policy.specs.declared.answer.Refusal.{Refusal}
use Rattle.pua_policy.specs.declared.answer.Refusal.TheVariants.{Failed, Killed}
use Rattle.pua_path.specs.declared.errno.Errno.TheVariants.{EAGAIN}
use Rattle.pua_script.specs.Decide.{CopyAs, decide, unless_refused}
use Rattle.pua_script.specs.Limits.{most_processes}
use Rattle.pua_script.specs.Replay.{World, Fails, Copies, answer_and_world, answer_to, apply, come_of, do_decided, kept_at}
use Rattle.pua_script.specs.Requests.{Asked}
use Rattle.pua_script.specs.declared.answer.Answer.TheVariants.{Okay, Gone}
use Rattle.pua_script.specs.declared.request.Action.TheVariants.{Fork}

module _ (table : CallTable) (w : World) (process new : ℕ) (full : nat_le most_processes (length w.processes) ≡ true) where
  no_copy : (made : Bool) → answer_to (if made || nat_le most_processes (length w.processes) then Fails EAGAIN else Copies new) ≢ Okay
  no_copy true e = cc
  no_copy false e = let told = rw full at e in cc

  by_promise : (h : ProcessState) (refused : Option Refusal) → answer_to (come_of w h (unless_refused refused (Ok (CopyAs new)))) ≢ Okay
  by_promise h (Some (Failed errno)) e = cc
  by_promise h (Some Killed) e = cc
  by_promise h None e = no_copy (is_some (kept_at w new)) e

  by_end : (h : ProcessState) (ended : Bool) → (if ended then (Gone, w) else do_decided w process h (decide table w.tree h (Fork new))).0 ≢ Okay
  by_end h true e = cc
  by_end h false e = by_promise h (refusal_of (may_any h (proc ∷ []))) e

  by_kept : (made : Option ProcessState) → (answer_and_world table w (record { process = process; action = Fork new }) made).0 ≢ Okay
  by_kept None e = cc
  by_kept (Some h) e = by_end h (is_ended h) e

-- a fork is not answered `ok`
pub full_worlds_fork_none : (table : CallTable) (w : World) (ask : Asked) (new : ℕ) → most_processes ≤ length w.processes → ask.action ≡ Fork new →
    (apply table w ask).0 ≢ Okay
full_worlds_fork_none table w ask new many forks e =
    by_kept table w ask.process new (le-leb _ _ many) (kept_at w ask.process)
    (subst (λ action. (apply table w (record { process = ask.process; action = action })).0 ≡ Okay) forks e)
