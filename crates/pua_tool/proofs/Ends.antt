-- How commands end, after the faults that they tell and the flush of the output.
use Rattle.pua_tool.proofs.Common.{ℕ, ◌≡◌, ◌≢◌, List, Ok, Err, arith, sym, ◌∙◌, subst, Adds, AddsFront}
use Rattle.std.proofs.Common.{◌<◌, ◌⊎◌, length, take, Option, Result, OnErr, OnOk, inl, inr}
use Rattle.std.proofs.Common.{take_all}
use Rattle.std.proofs.lemmas.Bool.{cases_order}
use Rattle.std.specs.Io.KnownBytes.{Keeps}
use Rattle.std.proofs.KnownBytes.{Appends-kept}
use Rattle.pua_io.specs.Held.{Held}
use Rattle.pua_tool.specs.Performed.{HasAnswered, HasEnded, HasHalted}
use Rattle.pua_io.specs.Sinks.{HasFailed, next_count}
use Rattle.pua_io.specs.declared.sink.PutFault.{PutFault}
use Rattle.pua_tool.specs.declared.status.TheConstants.{DONE, DEVICE}
use Rattle.pua_io.proofs.ForCallers.{counted_has_failed}

-- a count of failures that rose stays so after a flush
failed_still : (flushed : Result (Unit {0}) PutFault) (before between after : ℕ) → OnOk flushed (after ≡ between) →
    OnErr flushed (after ≡ next_count between) → HasFailed before between → HasFailed before after
failed_still (Ok done) before between after same rises failed = subst (λ k. HasFailed before k) (sym same) failed
failed_still (Err fault) before between after same rises (inl less) = by_counted (counted_has_failed between)
  where
    by_counted : HasFailed between (next_count between) → HasFailed before after
    by_counted (inl more) = inl (omega (arith, rises, less, more))
    by_counted (inr most) = inr (rises ∙ most)
failed_still (Err fault) before between after same rises (inr most) = inr (omega (arith, rises, most))

-- a front stays a front where its bytes are kept
front_still : (text : List ℕ) (a b c : Option (List ℕ)) → AddsFront text a b → Keeps b c → AddsFront text a c
front_still text a b c front keeps = (front.0, front.1, Appends-kept a b c (take front.0 text) front.2 keeps)

-- a whole text is a front of it
whole_front : (text : List ℕ) (a b c : Option (List ℕ)) → Adds text a b → Keeps b c → AddsFront text a c
whole_front text a b c adds keeps = (
  length text,
  omega arith,
  subst (λ t. Adds t a c) (sym (take_all (length text) text (omega arith))) (Appends-kept a b c text adds keeps),
)

-- a command that halted, and a flush after it
pub ended_by_halt : (words : List (List ℕ)) (held : Held) (flushed : Result (Unit {0}) PutFault) (a b c : Option (List ℕ)) (before between after : ℕ)
    → OnOk flushed (after ≡ between) → OnErr flushed (after ≡ next_count between) → Keeps b c → HasHalted words held a b before between →
    HasEnded words held a c before after
ended_by_halt words held flushed a b c before between after same rises keeps (inl (command, sound, inl (lacks, unwritten))) =
    inl (command, sound, inl (lacks, subst (λ x. Keeps x c) unwritten keeps))
ended_by_halt words held flushed a b c before between after same rises keeps (inl (command, sound, inr cut)) =
    inl (
      command,
      sound,
      inr
          (record {
            text = cut.text;
            asks = cut.asks;
            adds = front_still cut.text a b c cut.adds keeps;
            failed = failed_still flushed before between after same rises cut.failed;
          }),
    )
ended_by_halt words held flushed a b c before between after same rises keeps (inr (asks, (text, front, failed))) =
    inr (asks, (text, front_still text a b c front keeps, failed_still flushed before between after same rises failed))

-- a command that was done, and a flush after it
kept_answer : (words : List (List ℕ)) (held : Held) (a b c : Option (List ℕ)) → Keeps b c → HasAnswered words held a b → HasAnswered words held a c
kept_answer words held a b c keeps (inl (command, sound, done)) =
    inl (
      command,
      sound,
      record { text = done.text; asks = done.asks; adds = Appends-kept a b c done.text done.adds keeps },
    )
kept_answer words held a b c keeps (inr (asks, (text, some, adds))) = inr (asks, (text, some, Appends-kept a b c text adds keeps))

-- a result that is done is that of a command that was
pub answered_by_status : (words : List (List ℕ)) (held : Held) (status result : ℕ) (a b c : Option (List ℕ))
    → (status ≢ DONE → result ≡ status) → Keeps b c → (status ≡ DONE → HasAnswered words held a b) → result ≡ DONE → HasAnswered words held a c
answered_by_status words held status result a b c stopped keeps answered same =
    kept_answer words held a b c keeps (answered (by_order (cases_order status 0)))
  where
    by_order : (status ≡ 0) ⊎ ((status < 0) ⊎ (0 < status)) → status ≡ 0
    by_order (inl done) = done
    by_order (inr (inl less)) = absurd (omega (arith, less))
    by_order (inr (inr more)) = sym (stopped (λ done. omega (arith, more, done))) ∙ same

-- a command that was done, and a flush that failed
pub ended_by_flush : (words : List (List ℕ)) (held : Held) (a b c : Option (List ℕ)) (before between after : ℕ)
    → between ≡ before → after ≡ next_count between → Keeps b c → HasAnswered words held a b → HasEnded words held a c before after
ended_by_flush words held a b c before between after same rises keeps answered = by_answer answered
  where
    failed : HasFailed before after
    failed = subst (λ k. HasFailed before k) (sym rises) (subst (λ k. HasFailed k (next_count between)) same (counted_has_failed between))

    by_answer : HasAnswered words held a b → HasEnded words held a c before after
    by_answer (inl (command, sound, done)) =
        inl (
          command,
          sound,
          inr
              (record { text = done.text; asks = done.asks; adds = whole_front done.text a b c done.adds keeps; failed = failed }),
        )
    by_answer (inr (asks, (text, some, adds))) = inr (asks, (text, whole_front text a b c adds keeps, failed))

-- an output that was flushed when a command ended with a device's status, or after one that was done
pub ended_by_status : (words : List (List ℕ)) (held : Held) (flushed : Result (Unit {0}) PutFault) (status result : ℕ) (a b c : Option (List ℕ))
    (before between after : ℕ)
    → OnOk flushed (result ≡ status) → (status ≢ DONE → result ≡ status) → OnOk flushed (after ≡ between) →
    OnErr flushed (after ≡ next_count between) → Keeps b c
    → (status ≡ DONE → HasAnswered words held a b) → (status ≡ DONE → between ≡ before)
    → (status ≡ DEVICE → HasHalted words held a b before between) → result ≡ DEVICE → HasEnded words held a c before after
ended_by_status words held (Ok done) status result a b c before between after kept stopped same rises keeps answered unfailed halted device =
    ended_by_halt words held (Ok done) a b c before between after same rises keeps (halted (sym kept ∙ device))
ended_by_status words held (Err fault) status result a b c before between after kept stopped same rises keeps answered unfailed halted device =
    by_order (cases_order status 0)
  where
    by_order : (status ≡ 0) ⊎ ((status < 0) ⊎ (0 < status)) → HasEnded words held a c before after
    by_order (inl done) = ended_by_flush words held a b c before between after (unfailed done) rises keeps (answered done)
    by_order (inr (inl less)) = absurd (omega (arith, less))
    by_order (inr (inr more)) =
        let other : status ≢ DONE = λ done. omega (arith, more, done) in
        ended_by_halt words held (Err fault) a b c before between after same rises keeps (halted (sym (stopped other) ∙ device))

-- what is told of a command, or else of the flush after it; T says that a status was told
pub told_by_status : {E : Type 0} (T : ℕ → E → E → Type 0) (status result : ℕ) (a b c : E)
    → (status ≢ DONE → result ≡ status) → (status ≢ DONE → c ≡ b) → (status ≡ DONE → b ≡ a)
    → (status ≢ DONE → T status a b) → (result ≢ status → T result b c) → result ≢ DONE → T result a c
told_by_status T status result a b c stopped untold quiet told failed other = by_order (cases_order status 0)
  where
    by_more : status ≢ DONE → T result a c
    by_more more = subst (λ s. T s a c) (sym (stopped more)) (subst (λ e. T status a e) (sym (untold more)) (told more))

    by_order : (status ≡ 0) ⊎ ((status < 0) ⊎ (0 < status)) → T result a c
    by_order (inl done) = subst (λ e. T result e c) (quiet done) (failed (λ same. other (same ∙ done)))
    by_order (inr (inl less)) = absurd (omega (arith, less))
    by_order (inr (inr more)) = by_more (λ done. omega (arith, more, done))
