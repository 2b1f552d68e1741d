-- Covers as bits, one bit after another.
use Rattle.pua_jointly.proofs.Common.{◌≡◌, ◌≢◌, ◌<◌, ◌≤◌, ◌⊎◌, ◌∙◌, ◌||◌, ◌==◌, ◌∷◌, [], ℕ, zero, suc, Bool, true, false, refl, sym, ap}
use Rattle.pua_jointly.proofs.Common.{inl, inr, arith, Cover, All, Only, list_any, false≢true, eqb-true, eq-eqb}
use Rattle.std.proofs.lemmas.List.Folds.{list_any-append}
use Rattle.std.specs.Prelude.{◌+◌, ◌^◌}
use Rattle.std.specs.Int.{bit_at}
use Rattle.std.specs.Int.Bits.{bit_or}
use Rattle.std.proofs.Common.{add-one}
use Rattle.std.proofs.lemmas.Bool.{cases_lt}
use Rattle.std.proofs.lemmas.Nat.Bits.{bit_at-pow_other, bit_at-pow_same, bit_at-zero}
use Rattle.pua_policy.specs.declared.answer.Cover.TheVariants.{Nothing}
use Rattle.pua_jointly.specs.Closing.{has_bit}
use Rattle.pua_jointly.specs.JointCovers.{cover_of, numbered}
use Rattle.pua_jointly.specs.JointPlace.{cover_bit}
use Rattle.pua_jointly.specs.JointRounds.{flag}
use Rattle.pua_jointly.specs.JointWords.{AreCovers}
use Rattle.pua_jointly.proofs.Gaining.{has_or}

pub cover_back : (k : Cover) → cover_of (cover_bit k) ≡ k
cover_back All = refl
cover_back Nothing = refl
cover_back (Only perms) = refl

pub bit_back : (bit : ℕ) → cover_bit (cover_of bit) ≡ bit
bit_back zero = refl
bit_back (suc zero) = refl
bit_back (suc (suc perms)) = refl

pub or_none : (x : Bool) → (x || false) ≡ x
or_none true = refl
or_none false = refl

-- one bit alone
flag_is : (set : Bool) (bit : ℕ) → (bit_at (flag set bit) bit == 1) ≡ set
flag_is true bit = ap (λ n. n == 1) (bit_at-pow_same bit)
flag_is false bit = ap (λ n. n == 1) (bit_at-zero bit)

flag_other : (set : Bool) (bit b : ℕ) → b ≢ bit → (bit_at (flag set bit) b == 1) ≡ false
flag_other true bit b apart = ap (λ n. n == 1) (bit_at-pow_other bit b apart)
flag_other false bit b apart = ap (λ n. n == 1) (bit_at-zero b)

-- the bits so far are those of covers that pass
pub record AreSoFar (test : Cover → Bool) (word bit : ℕ) : Type 0 where
  pub all : (k : Cover) → cover_bit k < bit → (bit_at word (cover_bit k) == 1) ≡ test k
  pub only : (b : ℕ) → has_bit word b → b < bit

pub none_so_far : (test : Cover → Bool) → AreSoFar test 0 0
none_so_far test = record {
  all = λ k low. absurd (omega (arith, low));
  only = λ b held. absurd (false≢true (sym (ap (λ n. n == 1) (bit_at-zero b)) ∙ held));
}

module _ (test : Cover → Bool) (word bit : ℕ) (so_far : AreSoFar test word bit) where
  next_of : {x : ℕ} → x < suc bit → (x < bit) ⊎ (x ≡ bit)
  next_of {x = x} low = by (cases_lt x bit)
    where
      by : (x < bit) ⊎ (bit ≤ x) → (x < bit) ⊎ (x ≡ bit)
      by (inl less) = inl less
      by (inr more) = inr (omega (arith, low, more))

  is_last : (k : Cover) → cover_bit k ≡ bit → test (cover_of bit) ≡ test k
  is_last k same = ap (λ b. test (cover_of b)) (sym same) ∙ ap test (cover_back k)

  not_yet : (bit_at word bit == 1) ≡ false
  not_yet = by (bit_at word bit == 1) refl
    where
      by : (b : Bool) → (bit_at word bit == 1) ≡ b → (bit_at word bit == 1) ≡ false
      by true e = let low = so_far.only bit e in absurd (omega (arith, low))
      by false e = e

  pub one_more : AreSoFar test (bit_or word (flag (test (cover_of bit)) bit)) (suc bit)
  one_more = record {
    all = λ k low. elim (next_of low) [
      | inl less ↦
          (let apart : cover_bit k ≢ bit = λ same. omega (arith, same, less) in
          has_or word (flag (test (cover_of bit)) bit) (cover_bit k)
          ∙ ap (λ b. (bit_at word (cover_bit k) == 1) || b) (flag_other (test (cover_of bit)) bit (cover_bit k) apart)
          ∙ or_none (bit_at word (cover_bit k) == 1) ∙ so_far.all k less)
      | inr same ↦
          has_or word (flag (test (cover_of bit)) bit) (cover_bit k)
          ∙ ap (λ b. (bit_at word b == 1) || (bit_at (flag (test (cover_of bit)) bit) b == 1)) same
          ∙ ap (λ b. b || (bit_at (flag (test (cover_of bit)) bit) bit == 1)) not_yet
          ∙ flag_is (test (cover_of bit)) bit ∙ is_last k same
    ];
    only = λ b held. by b (sym (has_or word (flag (test (cover_of bit)) bit) b) ∙ held);
  }
    where
      by : (b : ℕ) → ((bit_at word b == 1) || (bit_at (flag (test (cover_of bit)) bit) b == 1)) ≡ true → b < suc bit
      by b either = two (bit_at word b == 1) refl (b == bit) refl either
        where
          two : (x : Bool) → (bit_at word b == 1) ≡ x → (same : Bool) → (b == bit) ≡ same →
              (x || (bit_at (flag (test (cover_of bit)) bit) b == 1)) ≡ true → b < suc bit
          two true held same e either = let low = so_far.only b held in omega (arith, low)
          two false held true e either = let here = eqb-true b bit e in omega (arith, here)
          two false held false e either =
              let apart : b ≢ bit = λ same. false≢true (sym e ∙ eq-eqb b bit same) in
              absurd (false≢true (sym (flag_other (test (cover_of bit)) bit b apart) ∙ either))

pub covers_all : (test : Cover → Bool) (word : ℕ) → AreSoFar test word 18 → word < 2 ^ 32 → AreCovers word test
covers_all test word so_far small = record { all = so_far.all; only = so_far.only; small = small }

-- one bit more
pub any_more : (p : ℕ → Bool) (bit : ℕ) → list_any p (numbered (bit + 1)) ≡ (list_any p (numbered bit) || p bit)
any_more p bit =
    ap (λ n. list_any p (numbered n)) (add-one bit) ∙ list_any-append p (numbered bit) (bit ∷ [])
    ∙ ap (λ b. list_any p (numbered bit) || b) (or_none (p bit))

-- bits of which none passes change nothing
pub any_still : (p : ℕ → Bool) (from more : ℕ) → ((i : ℕ) → from ≤ i → i < from + more → p i ≡ false) →
    list_any p (numbered (from + more)) ≡ list_any p (numbered from)
any_still p from zero none = let same : from + 0 ≡ from = omega arith in ap (λ n. list_any p (numbered n)) same
any_still p from (suc more) none =
    let same : from + suc more ≡ from + more + 1 = omega arith in
    ap (λ n. list_any p (numbered n)) same ∙ any_more p (from + more)
    ∙ ap (λ b. list_any p (numbered (from + more)) || b) (none (from + more) (omega arith) (omega arith))
    ∙ or_none (list_any p (numbered (from + more))) ∙ any_still p from more (λ i least most. none i least (omega (arith, most)))
