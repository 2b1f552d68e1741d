-- What is written of an answer with its reason.
use Rattle.pua_since.proofs.Common.{◌≡◌, ◌++◌, List, ℕ, refl, sym, ap, ◌∙◌, append_assoc, append-nil, Option, CallTable, Refusal, Asked, World, apply}
use Rattle.pua_since.proofs.Common.{Answer, Okay, Ended, reason, date_of, reason_tail, answer_words}
use Rattle.std.specs.Prelude.{codes, None}
use Rattle.pua_policy.specs.declared.answer.Refusal.TheVariants as refusal
use Rattle.pua_script.specs.AnswerTexts.{answer_text}
use Rattle.pua_script.specs.declared.answer.Answer.TheVariants.{Failed, Killed, Gone}
use Rattle.pua_why.specs.Reasons.{Reason, NeverMade, Refused, Granted, answer_of, fault_refusal, refusal_answer}
use Rattle.pua_why.specs.Openings.{if_okay, opener, opener_text}
use Rattle.pua_why.specs.Texts.{reason_text, since_text, spaced_words}
use Rattle.pua_why.proofs.ForCallers.{reasons_give_answers}

refused_not_okay : (r : Refusal) → refusal_answer r ≡ Okay → ⊥
refused_not_okay (refusal.Failed errno) e = cc
refused_not_okay refusal.Killed e = cc

granted_only : (r : Reason) → answer_of r ≡ Okay → r ≡ Granted
granted_only NeverMade e = cc
granted_only Ended e = cc
granted_only (Refused fault) e = absurd (refused_not_okay (fault_refusal fault) e)
granted_only Granted e = refl

-- what is answered `ok` is granted
pub okay_is_granted : (table : CallTable) (w : World) (ask : Asked) → Okay ≡ (apply table w ask).0 → reason table w ask ≡ Granted
okay_is_granted table w ask e = granted_only (reason table w ask) (reasons_give_answers table w ask ∙ sym e)

-- and only what opened it is told behind it
pub okay_told : (table : CallTable) (w : World) (ask : Asked) (line : Option ℕ) → Okay ≡ (apply table w ask).0 →
    answer_words table w ask ++ reason_tail table w ask (date_of (reason table w ask) line)
    ≡ codes "ok" ++ opener_text (opener table w ask)
okay_told table w ask line e =
    (λ i. (answer_text (answer_of (okay_is_granted table w ask e i)) ++ spaced_words (reason_text w.tree (okay_is_granted table w ask e i)))
    ++ (since_text (date_of (okay_is_granted table w ask e i) line) ++ opener_text (if_okay (sym e i) (opener table w ask))))

-- `ok`, and behind it what opened it
pub okay_pushed : (before with_answer after : List ℕ) (promise opens : Option (List ℕ)) → with_answer ≡ before ++ codes "ok" →
    after ≡ with_answer ++ opener_text promise → promise ≡ opens → after ≡ before ++ (codes "ok" ++ opener_text opens)
okay_pushed before with_answer after promise opens answered told is =
    told ∙ (λ i. answered i ++ opener_text (is i)) ∙ append_assoc before (codes "ok") (opener_text opens)

-- an answer, the words of its reason and the line behind it, one after another
pub told_in_parts : (table : CallTable) (w : World) (ask : Asked) (line : Option ℕ) (answer : Answer) (r : Reason)
    (before with_answer with_words after : List ℕ) → answer ≡ (apply table w ask).0 → r ≡ reason table w ask →
    with_answer ≡ before ++ answer_text answer → with_words ≡ with_answer ++ spaced_words (reason_text w.tree r) →
    after ≡ with_words ++ since_text (date_of r line) →
    after ≡ before ++ (answer_words table w ask ++ since_text (date_of (reason table w ask) line))
told_in_parts table w ask line answer r before with_answer with_words after told is answered worded dated =
    let same : answer ≡ answer_of (reason table w ask) = told ∙ sym (reasons_give_answers table w ask) in
    dated
    ∙ (λ i. worded i ++ since_text (date_of r line))
    ∙ (λ i. (answered i ++ spaced_words (reason_text w.tree r)) ++ since_text (date_of r line))
    ∙ (λ i. ((before ++ answer_text (same i)) ++ spaced_words (reason_text w.tree (is i))) ++ since_text (date_of (is i) line))
    ∙ simp append_assoc

-- what is not `ok` was not opened
undone : (answer : Answer) (promise : Option (List ℕ)) → (answer ≡ Okay → ⊥) → if_okay answer promise ≡ None
undone Okay promise other = absurd (other refl)
undone (Failed errno) promise other = refl
undone Killed promise other = refl
undone Gone promise other = refl

-- so nothing is told behind it of what opened it
pub undone_told : (table : CallTable) (w : World) (ask : Asked) (date : Option ℕ) (answer : Answer) → (answer ≡ Okay → ⊥) →
    answer ≡ (apply table w ask).0 → answer_words table w ask ++ since_text date ≡ answer_words table w ask ++ reason_tail table w ask date
undone_told table w ask date answer other told =
    ap (λ more. answer_words table w ask ++ more)
    (sym (append-nil (since_text date))
    ∙ ap (λ (o : Option (List ℕ)). since_text date ++ opener_text o) (sym (undone answer (opener table w ask) other)
    ∙ ap (λ a. if_okay a (opener table w ask)) told))
