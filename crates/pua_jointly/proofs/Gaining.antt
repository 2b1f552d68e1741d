-- A word of a table gains what a step adds to it.
use Rattle.pua_jointly.proofs.Common.{◌≡◌, ◌≢◌, ◌<◌, ◌⊎◌, ◌||◌, ℕ, zero, suc, Bool, true, false, List, length, refl, sym, ap, subst, ◌∙◌, inl}
use Rattle.pua_jointly.proofs.Common.{inr, arith, eqb-true, eq-eqb, false≢true}
use Rattle.std.proofs.Common.{max, get_or, set, ◌==◌, ◌^◌, ◌-◌, ◌+◌, ◌≤◌}
use Rattle.std.specs.Int.{bit_at}
use Rattle.std.specs.Int.Bits.{bit_or}
use Rattle.std.specs.List.{sum_by}
use Rattle.std.proofs.lemmas.List.{get_or-set_same, get_or-set_other, length-set}
use Rattle.std.proofs.lemmas.List.Sums.{sum_by-set}
use Rattle.std.proofs.lemmas.Nat.{le_or_l}
use Rattle.std.proofs.lemmas.Nat.Bits.{bit_at_or, bit_at-lt, bit_at-zero}
use Rattle.std.proofs.Math.Nat.{div-lt_iff_lt-mul, mod-lt, mul-zero}
use Rattle.std.proofs.lemmas.Nat.{div-add-mod'}
use Rattle.std.specs.Prelude.{◌*◌, ◌/◌, ◌%◌}
use Rattle.pua_jointly.specs.Closing.{has_bit, knows, Step, Reached, reached, AreReached, IsClosedAt, room}

-- a bit of either is one of both
one_of : (x y : ℕ) → x < 2 → y < 2 → (max x y == 1) ≡ ((x == 1) || (y == 1))
one_of zero zero low high = refl
one_of zero (suc zero) low high = refl
one_of (suc zero) zero low high = refl
one_of (suc zero) (suc zero) low high = refl
one_of (suc (suc x)) y low high = absurd (omega (arith, low))
one_of x (suc (suc y)) low high = absurd (omega (arith, high))

pub has_or : (a b bit : ℕ) → (bit_at (bit_or a b) bit == 1) ≡ ((bit_at a bit == 1) || (bit_at b bit == 1))
has_or a b bit = ap (λ n. n == 1) (bit_at_or a b bit) ∙ one_of (bit_at a bit) (bit_at b bit) (bit_at-lt a bit) (bit_at-lt b bit)

either : (x y : Bool) → (x || y) ≡ true → (x ≡ true) ⊎ (y ≡ true)
either true y e = inl refl
either false y e = inr e

module _ (follows : Step) (told : List ℕ) (at word : ℕ) (low : at < length told) where
  abbrev pub gained : List ℕ
  gained = set told at (bit_or (get_or told at 0) word)

  same_length : length gained ≡ length told
  same_length = length-set told at (bit_or (get_or told at 0) word)

  gained_here : get_or gained at 0 ≡ bit_or (get_or told at 0) word
  gained_here = get_or-set_same told at (bit_or (get_or told at 0) word) 0 low

  by_step : ((bit : ℕ) → has_bit word bit → follows told at bit) → AreReached follows told → (a bit : ℕ) → knows gained a bit →
      Reached follows (length told) a bit
  by_step only all a bit known = by (a == at) refl
    where
      by : (b : Bool) → (a == at) ≡ b → Reached follows (length told) a bit
      by true e =
          let here : a ≡ at = eqb-true a at e in
          let both = sym (has_or (get_or told at 0) word bit)
          ∙ ap (λ w. bit_at w bit == 1) (sym gained_here) ∙ ap (λ n. bit_at (get_or gained n 0) bit == 1) (sym here) ∙ known in
          subst (λ n. Reached follows (length told) n bit) (sym here)
          (elim (either (bit_at (get_or told at 0) bit == 1) (bit_at word bit == 1) both) [
            | inl was ↦ all at bit was
            | inr new ↦ reached told refl all low (only bit new)
          ])
      by false e =
          let other : a ≢ at = λ same. false≢true (sym e ∙ eq-eqb a at same) in
          all a bit (ap (λ w. bit_at w bit == 1) (sym (get_or-set_other told at a (bit_or (get_or told at 0) word) 0 other)) ∙ known)

  -- it is reached as the others are
  pub reached_set : ((bit : ℕ) → has_bit word bit → follows told at bit) → AreReached follows told → AreReached follows gained
  reached_set only all = subst (λ n. (a bit : ℕ) → knows gained a bit → Reached follows n a bit) (sym same_length) (by_step only all)

  -- where it gains nothing, it has what follows
  pub closed_at : ((bit : ℕ) → follows told at bit → has_bit (bit_or (get_or told at 0) word) bit) → bit_or (get_or told at 0) word ≡ get_or told at 0 → (bit : ℕ) →
      follows told at bit → knows told at bit
  closed_at every same bit new = ap (λ w. bit_at w bit == 1) (sym same) ∙ every bit new

  -- else less can be added than before
  pub room_set : bit_or (get_or told at 0) word ≢ get_or told at 0 → bit_or (get_or told at 0) word < 2 ^ 32 → room gained < room told
  room_set other small =
      let now = bit_or (get_or told at 0) word in
      let was = get_or told at 0 in
      let more : was ≤ now = le_or_l was word in
      let sums : sum_by (λ w. 4294967295 - w) (set told at now) + (4294967295 - was)
      ≡ sum_by (λ w. 4294967295 - w) told + (4294967295 - now) = sum_by-set (λ w. 4294967295 - w) told at now 0 low in
      omega (arith, sums, more, other, small)

  -- and never more
  pub room_kept : room gained ≤ room told
  room_kept =
      let now = bit_or (get_or told at 0) word in
      let was = get_or told at 0 in
      let more : was ≤ now = le_or_l was word in
      let sums : sum_by (λ w. 4294967295 - w) (set told at now) + (4294967295 - was)
      ≡ sum_by (λ w. 4294967295 - w) told + (4294967295 - now) = sum_by-set (λ w. 4294967295 - w) told at now 0 low in
      omega (arith, sums, more)

-- what is so of a number and of all below it is so of all up to it
pub up_to : (P : ℕ → Type 0) (k : ℕ) → P k → ((a : ℕ) → a < k → P a) → (a : ℕ) → a < k + 1 → P a
up_to P k here below a high = by (a == k) refl
  where
    by : (b : Bool) → (a == k) ≡ b → P a
    by true e = subst P (sym (eqb-true a k e)) here
    by false e =
        let other : a ≢ k = λ is. false≢true (sym e ∙ eq-eqb a k is) in
        below a (omega (arith, high, other))

-- a word at which nothing can come has what follows
pub never_open : (follows : Step) (told : List ℕ) (at : ℕ) → AreReached follows told →
    ((count bit : ℕ) → Reached follows count at bit → ⊥) → at < length told → IsClosedAt follows told at
never_open follows told at all never low bit new = absurd (never (length told) bit (reached told refl all low new))

-- all words of all rows are all words
pub each_word : (rows columns at : ℕ) → at < rows * columns → (at / columns < rows) × (at % columns < columns) × (at / columns * columns + at % columns ≡ at)
each_word rows zero at low = absurd (omega (arith, subst (λ n. at < n) (mul-zero rows) low))
each_word rows (suc columns) at low = (
  (div-lt_iff_lt-mul {k = suc columns} {x = at} {y = rows} (omega arith)).1 low,
  mod-lt at (omega arith),
  div-add-mod' at (suc columns),
)

pub still_fewer : (changed : Bool) (first told new : List ℕ) → (changed ≡ true → room told < room first) →
    (changed ≡ false → told ≡ first) → room new < room told → room new < room first
still_fewer true first told new fewer same less = let more = fewer refl in omega (arith, more, less)
still_fewer false first told new fewer same less = subst (λ xs. room new < room xs) (same refl) less

-- nothing is known at first
pub none_known : (told : List ℕ) → ((at : ℕ) → get_or told at 0 ≡ 0) → (at bit : ℕ) → knows told at bit → ⊥
none_known told none at bit known =
    false≢true (sym (ap (λ word. bit_at word bit == 1) (none at) ∙ ap (λ n. n == 1) (bit_at-zero bit)) ∙ known)
