-- What the calls that write a text answer, step by step.
use Rattle.pua_tool.proofs.Common.{◌≡◌, ◌≢◌, ℕ, List, ap, refl, subst, sym, Option, Result, ◌>>=◌, Adds, ToolFault, OutOfMemory, Answers, AnswersTo}
use Rattle.pua_tool.proofs.Common.{NoText}
use Rattle.std.proofs.Common.{◌⊎◌, inl, inr}
use Rattle.std.specs.Prelude.{Ok, Err}
use Rattle.pua_tool.specs.declared.fault.WriteFault.{WriteFault}

-- a text that is told whole
pub all_told : (text : List ℕ) (a b : Option (List ℕ)) (n m : ℕ) → Adds text a b → m ≡ n → Answers (Ok text) (Ok tt) a b n m
all_told text a b n m adds same = record { text = text; is = refl; adds = adds; unfailed = same }

memory_or_other : (fault : ToolFault) → (fault ≡ OutOfMemory) ⊎ (fault ≢ OutOfMemory)
memory_or_other OutOfMemory = inl refl
memory_or_other fault = inr (λ same. cc)

module _ {A : Type 0} (written : A → Option (List ℕ)) (failed : A → ℕ) where
  -- a fault before anything is written
  pub answers_refused : (answer : Result (List ℕ) ToolFault) (fault : ToolFault) (s : A) → (fault ≢ OutOfMemory → answer ≡ Err fault) →
      AnswersTo written failed answer (Err (NoText fault)) s s
  answers_refused answer fault s refuses = (refuses, refl)

  -- a fault of one of several answers: the first one, or that of some answer where there was no memory
  pub some_refused : (Is : Result (List ℕ) ToolFault → Type 0) → ((answer : Result (List ℕ) ToolFault) × Is answer) → (fault : ToolFault) (s : A) →
      (fault ≢ OutOfMemory → Is (Err fault)) →
      (answer : Result (List ℕ) ToolFault) × Is answer × AnswersTo written failed answer (Err (NoText fault)) s s
  some_refused Is some fault s refused = by (memory_or_other fault)
    where
      by : (fault ≡ OutOfMemory) ⊎ (fault ≢ OutOfMemory) →
          (answer : Result (List ℕ) ToolFault) × Is answer × AnswersTo written failed answer (Err (NoText fault)) s s
      by (inl memory) = (some.0, some.1, answers_refused some.0 fault s (λ other. absurd (other memory)))
      by (inr other) = (Err fault, refused other, answers_refused (Err fault) fault s (λ again. refl))

  -- a text that is told is the answer
  pub answers_told : (answer : Result (List ℕ) ToolFault) (text : List ℕ) (r : Result (Unit {0}) WriteFault) (s t : A) → answer ≡ Ok text →
      AnswersTo written failed (Ok text) r s t → AnswersTo written failed answer r s t
  answers_told answer text r s t is = subst (λ (other : Result (List ℕ) ToolFault). AnswersTo written failed other r s t) (sym is)

  module _ {X : Type 0} (first : Result X ToolFault) (next : X → Result (List ℕ) ToolFault) where
    -- what refuses the first step is the answer
    pub first_refuses : (fault : ToolFault) (s : A) → (fault ≢ OutOfMemory → first ≡ Err fault) →
        AnswersTo written failed (first >>= next) (Err (NoText fault)) s s
    first_refuses fault s refuses = answers_refused (first >>= next) fault s (λ other. ap (λ step. step >>= next) (refuses other))

    -- after it the next one's answer is the answer
    pub next_answers : (x : X) (r : Result (Unit {0}) WriteFault) (s t : A) → first ≡ Ok x → AnswersTo written failed (next x) r s t →
        AnswersTo written failed (first >>= next) r s t
    next_answers x r s t is = subst (λ (step : Result X ToolFault). AnswersTo written failed (step >>= next) r s t) (sym is)
