-- Sets of calls as lists.
use Rattle.std.proofs.Math.Bool.{and-false, and-true}
use Rattle.pua_steps.proofs.Common.{call_count, ℕ, zero, suc, ◌+◌, ◌<◌, ◌≤◌, ◌≡◌, [], ◌∷◌, Bool, true, false, cond, ◌==◌, ◌&&◌, nat_lt, refl, ap, arith}
use Rattle.pua_steps.proofs.Common.{sym, ◌∙◌, filter, inl, inr, bit_at, range_with_len, cases_eq, cases_lt, lt-ltb, le-ltb, has_call}
use Rattle.pua_steps.proofs.Common.{calls_of}
use Rattle.std.specs.Prelude.{◌≢◌, ◌*◌, ◌/◌, ◌%◌, ◌^◌}
use Rattle.std.proofs.lemmas.Nat.Bits.{bit_at_cat_low}

module _ (f g : ℕ → Bool) where
  same_from : (k n : ℕ) → ((i : ℕ) → k ≤ i → i < k + n → g i ≡ f i) → filter f (range_with_len k n) ≡ filter g (range_with_len k n)
  same_from k zero same = refl
  same_from k (suc n) same =
      ap (λ b. cond b (k ∷ filter f (range_with_len (k + 1) n)) (filter f (range_with_len (k + 1) n)))
      (sym (same k (omega arith) (omega arith)))
      ∙ ap (λ xs. cond (g k) (k ∷ xs) xs) (same_from (k + 1) n (λ i low high. same i (omega (arith, low)) (omega (arith, high))))

  -- the first member that passes is taken, and the others stay
  first_from : (t k n : ℕ) → k ≤ t → t < k + n → ((i : ℕ) → i < t → f i ≡ false) → f t ≡ true → g t ≡ false →
      ((i : ℕ) → i < k + n → i ≢ t → g i ≡ f i)
      → filter f (range_with_len k n) ≡ t ∷ filter g (range_with_len k n)
  first_from t k zero low high before here gone others = absurd (omega (arith, low, high))
  first_from t k (suc n) low high before here gone others =
      elim (cases_eq k t) [
        | inl e ↦
            let yes : f k ≡ true = ap f e ∙ here in
            let no : g k ≡ false = ap g e ∙ gone in
            ap (λ b. cond b (k ∷ filter f (range_with_len (k + 1) n)) (filter f (range_with_len (k + 1) n))) yes
            ∙ ap (λ i. i ∷ filter f (range_with_len (k + 1) n)) e
            ∙ ap (λ xs. t ∷ xs) (same_from (k + 1) n (λ i from to. others i (omega (arith, to)) (λ same. omega (arith, same, from, e))))
            ∙ ap (λ b. t ∷ cond b (k ∷ filter g (range_with_len (k + 1) n)) (filter g (range_with_len (k + 1) n))) (sym no)
        | inr apart ↦
            let less : k < t = omega (arith, low, apart) in
            let no : f k ≡ false = before k less in
            let none : g k ≡ false = others k (omega arith) apart ∙ no in
            ap (λ b. cond b (k ∷ filter f (range_with_len (k + 1) n)) (filter f (range_with_len (k + 1) n))) no
            ∙ first_from t (k + 1) n (omega (arith, less)) (omega (arith, high)) before here gone
            (λ i within other. others i (omega (arith, within)) other)
            ∙ ap (λ b. t ∷ cond b (k ∷ filter g (range_with_len (k + 1) n)) (filter g (range_with_len (k + 1) n))) (sym none)
      ]

pub first_taken : (set rest call : ℕ) → call < call_count → bit_at set call ≡ 1 → ((i : ℕ) → i < call → bit_at set i ≡ 0) → bit_at rest call ≡ 0 →
    ((i : ℕ) → i < call_count → i ≢ call → bit_at rest i ≡ bit_at set i)
    → calls_of set ≡ call ∷ calls_of rest
unfolding calls_of
first_taken set rest call within here before gone others =
    first_from (has_call set) (has_call rest) call 0 call_count (omega arith) (omega (arith, within)) (λ i less. ap (λ b. b == 1) (before i less))
    (ap (λ b. b == 1) here) (ap (λ b. b == 1) gone)
    (λ i low other. ap (λ b. b == 1) (others i (omega (arith, low)) other))

-- no bit but those of calls counts
pub low_calls : (set : ℕ) → calls_of (set % (2 ^ call_count)) ≡ calls_of set
unfolding calls_of
low_calls set = same_from (has_call (set % (2 ^ call_count))) (has_call set) 0 call_count (λ i low high. ap (λ b. b == 1) (sym (bit_low i (omega (arith, high)))))
  where
    whole : set / (2 ^ call_count) * 2 ^ call_count + set % (2 ^ call_count) ≡ set
    whole = omega arith

    bit_low : (i : ℕ) → i < call_count → bit_at (set % (2 ^ call_count)) i ≡ bit_at set i
    bit_low i low = sym (bit_at_cat_low (set / (2 ^ call_count)) call_count (set % (2 ^ call_count)) i low) ∙ ap (λ n. bit_at n i) whole

pub no_calls : calls_of 0 ≡ []
unfolding calls_of
no_calls = refl

-- members that fail a second test are taken out
kept_from : (p q h : ℕ → Bool) (k n : ℕ) → ((i : ℕ) → k ≤ i → i < k + n → h i ≡ (p i && q i)) →
    filter h (range_with_len k n) ≡ filter q (filter p (range_with_len k n))
kept_from p q h k zero same = refl
kept_from p q h k (suc n) same =
    ap (λ b. cond b (k ∷ filter h (range_with_len (k + 1) n)) (filter h (range_with_len (k + 1) n))) (same k (omega arith) (omega arith))
    ∙ ap (λ xs. cond (p k && q k) (k ∷ xs) xs) (kept_from p q h (k + 1) n (λ i low high. same i (omega (arith, low)) (omega (arith, high))))
    ∙ elim (p k) as (λ b. cond (b && q k) (k ∷ filter q (filter p (range_with_len (k + 1) n)))
    (filter q (filter p (range_with_len (k + 1) n)))
    ≡ filter q (cond b (k ∷ filter p (range_with_len (k + 1) n)) (filter p (range_with_len (k + 1) n)))) [ true ↦ refl | false ↦ refl ]

-- the calls up to one are taken out of a set
pub calls_dropped : (set rest call : ℕ) → ((i : ℕ) → i ≤ call → bit_at rest i ≡ 0) →
    ((i : ℕ) → i < call_count → call < i → bit_at rest i ≡ bit_at set i) → calls_of rest ≡ filter (λ other. nat_lt call other) (calls_of set)
unfolding calls_of
calls_dropped set rest call low high =
    kept_from (has_call set) (λ other. nat_lt call other) (has_call rest) 0 call_count (λ i from to. elim (cases_lt call i) [
      | inl h ↦ ap (λ b. b == 1) (high i (omega (arith, to)) h) ∙ sym (ap (λ b. has_call set i && b) (lt-ltb call i h) ∙
          and-true (has_call set i))
      | inr h ↦ ap (λ b. b == 1) (low i h) ∙ sym (ap (λ b. has_call set i && b) (le-ltb call i h) ∙ and-false (has_call set i))
    ])
