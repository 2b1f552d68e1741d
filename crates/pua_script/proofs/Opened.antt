-- Openings are by held promises, so that they narrow as these do.
use Rattle.pua_script.proofs.Common.{◌≡◌, ℕ, List, [], ◌∷◌, Bool, true, false, cond, refl, ap, ◌∙◌, ◌||◌, and_from, and_parts}
use Rattle.pua_script.proofs.Common.{list_any, AllByRecursion, Some, Result, Ok, Err, Errno, holds, Call}
use Rattle.pua_script.proofs.Common.{held_set, is_ended, false≢true, inl, inr, ◌⊎◌, Decision, decide}
use Rattle.pua_script.proofs.Common.{Okay, OnPath, or_fault}
use Rattle.pua_script.proofs.Common.{Refusal, Failed, Killed, lit<}
use Rattle.std.specs.Prelude.{find, unwrap_or, not}
use Rattle.pua_script.specs.Guards.{IsDecided, IsOpened, OnOne}
use Rattle.pua_calls.specs.Promises.{promises_of, no_promises}
use Rattle.pua_calls.specs.Tables.{NamesNoError}
use Rattle.pua_policy.specs.States.{pledged_set}
use Rattle.pua_policy.specs.Verdict.{allowed_unless, if_promised, verdict_of, is_allowed}
use Rattle.pua_calls.specs.Calls.{about_rules}
use Rattle.pua_script.specs.Openings.{Opening, openings, is_opening, opens_call, holds_named}
use Rattle.pua_script.specs.Replay.{do_decided}
use Rattle.pua_script.specs.OpeningLaws.{OpeningsAreHeld, OpeningsNarrow, Accounted, by_verdict, by_opening, OkaysAreAccounted}
use Rattle.pua_script.proofs.Applied.{by_living}
use Rattle.pua_script.proofs.Guarding.{decisions_are_guarded}
use Rattle.pua_script.proofs.Widened.{opened_found, pledged_holds}

-- what is found is one of them
found_any : {A : Type 0} (test : A → Bool) (rows : List A) (x : A) → find test rows ≡ Some x → list_any test rows ≡ true
found_any test [] x e = cc
found_any test (row ∷ rows) x e = by (test row) (found_any test rows x) e
  where
    by : (b : Bool) → (find test rows ≡ Some x → list_any test rows ≡ true) → cond b (Some row) (find test rows) ≡ Some x →
        (b || list_any test rows) ≡ true
    by true more e = refl
    by false more e = more e

-- no promise of a row is `error`
abbrev NoError : Result ℕ Errno → Type 0
NoError (Ok set) = NamesNoError set
NoError (Err errno) = Unit {0}

module _ (a b : ℕ) (call : Call) (text : List ℕ) (more : (set : ℕ) → NamesNoError set → holds a set ≡ true → holds b set ≡ true) where
  named_more : (wanted : Result ℕ Errno) → NoError wanted → holds_named a wanted ≡ true → holds_named b wanted ≡ true
  named_more (Ok set) sound e = more set sound e
  named_more (Err errno) sound e = absurd (false≢true e)

  row_more : (o : Opening) → NoError (promises_of o.promise) → is_opening a call text o ≡ true → is_opening b call text o ≡ true
  row_more o sound e =
      let two = and_parts (opens_call call text o) (holds_named a (promises_of o.promise)) e in
      and_from (opens_call call text o) (holds_named b (promises_of o.promise)) two.0 (named_more (promises_of o.promise) sound two.1)

  any_more : (rows : List Opening) → AllByRecursion (λ o. NoError (promises_of o.promise)) rows →
      list_any (is_opening a call text) rows ≡ true → list_any (is_opening b call text) rows ≡ true
  any_more [] sound e = e
  any_more (o ∷ rows) sound e = by (is_opening a call text o) refl (any_more rows sound.1) e
    where
      or_right : (u : Bool) {v : Bool} → v ≡ true → (u || v) ≡ true
      or_right true e = refl
      or_right false e = e

      by : (u : Bool) → is_opening a call text o ≡ u →
          (list_any (is_opening a call text) rows ≡ true → list_any (is_opening b call text) rows ≡ true) →
          (u || list_any (is_opening a call text) rows) ≡ true → (is_opening b call text o || list_any (is_opening b call text) rows) ≡ true
      by true is rest _ = ap (λ v. v || list_any (is_opening b call text) rows) (row_more o sound.0 is)
      by false is rest e = or_right (is_opening b call text o) (rest e)

no_errors : AllByRecursion (λ o. NoError (promises_of o.promise)) openings
no_errors = ((lit< tt, refl), ((lit< tt, refl), ((lit< tt, refl), ((lit< tt, refl), ((lit< tt, refl), ((lit< tt, refl), ((lit< tt, refl), ((lit< tt, refl), ((lit< tt, refl), ((lit< tt, refl), ((lit< tt, refl), ((lit< tt, refl), ((lit< tt, refl), ((lit< tt, refl), tt))))))))))))))

pub openings_narrow : OpeningsNarrow
openings_narrow before after tight call text e =
    any_more (held_set after) (held_set before) call text tight.promises openings no_errors e

pub openings_are_held : OpeningsAreHeld
openings_are_held table h call text o is =
    let given : ℕ = unwrap_or (pledged_set h) no_promises in
    any_more given (held_set h) call text (pledged_holds (pledged_set h)) openings no_errors
    (found_any (is_opening given call text) openings o (opened_found
    (about_rules table.whose).has_openings (not (is_ended h)) (find (is_opening given call text) openings) o is).2)

pub okays_are_accounted : OkaysAreAccounted
okays_are_accounted table w process call text h here =
    by_living table w (record { process = process; action = OnPath call text }) h here
    (λ done. done.0 ≡ Okay → Accounted table w.tree h call text) (λ e. cc) (by (decide table w.tree h (OnPath call text)) refl)
  where
    by : (d : Decision) → decide table w.tree h (OnPath call text) ≡ d → (do_decided w process h d).0 ≡ Okay →
        Accounted table w.tree h call text
    by (Err r) is e = refused r e
      where
        refused : (r : Refusal) → (do_decided w process h (Err r)).0 ≡ Okay → Accounted table w.tree h call text
        refused (Failed errno) e = cc
        refused Killed e = cc
    by (Ok c) is e = told (decisions_are_guarded table w.tree h (OnPath call text) c is)
      where
        told : IsDecided table w.tree h (OnPath call text) c → Accounted table w.tree h call text
        told d = either d.1
          where
            either : OnOne table w.tree h call text d.0 ⊎ IsOpened table w.tree h call text d.0 → Accounted table w.tree h call text
            either (inr opened) = by_opening opened.opening opened.opened
            either (inl one) = by_verdict (ap (λ r. is_allowed (verdict_of w.tree table h call r)) one.found
                ∙ (λ i. is_allowed (if_promised (one.promised i) (allowed_unless (or_fault (one.covered i) (one.fitting i))))))
