-- Sets of calls by their bits. What computing tells of each call has one arm for all: after the first, that for the others.
use Rattle.pua_calls.proofs.Common.{◌≡◌, ℕ, zero, suc, ◌<◌, ◌≤◌, ◌^◌, Bool, true, false, refl, sym, ap, ◌∙◌, arith, get_or, ◌*◌, ◌==◌}
use Rattle.pua_calls.proofs.Common.{bit_or, bit_at, or_lt, calls, Call, Stat}
use Rattle.std.proofs.Common.{◌+◌, max, min, nat_lt}
use Rattle.std.proofs.Common.{◌%◌, inl, inr}
use Rattle.std.proofs.lemmas.Bool.{cases_eq, cases_lt, lt-ltb, le-ltb}
use Rattle.std.specs.Prelude.{◌≢◌, ◌&&◌, ◌||◌, bit_and}
use Rattle.std.proofs.lemmas.List.{get_or-map}
use Rattle.std.proofs.lemmas.List.FromFn.{get_or-range_with_len}
use Rattle.std.proofs.lemmas.Nat.{and_le_l}
use Rattle.std.proofs.lemmas.Nat.Bits.{bit_at_or, bit_at_and, bit_at-lt, bit_at-zero}
use Rattle.pua_calls.specs.Calls.{call_count}
use Rattle.pua_calls.specs.CallSets.{bit_of, has}

one_of : (x y : ℕ) → x < 2 → y < 2 → (max x y == 1) ≡ ((x == 1) || (y == 1))
one_of zero zero low high = refl
one_of zero (suc zero) low high = refl
one_of (suc zero) zero low high = refl
one_of (suc zero) (suc zero) low high = refl
one_of (suc (suc x)) y low high = absurd (omega (arith, low))
one_of x (suc (suc y)) low high = absurd (omega (arith, high))

both_of : (x y : ℕ) → x < 2 → y < 2 → (min x y == 1) ≡ ((x == 1) && (y == 1))
both_of zero zero low high = refl
both_of zero (suc zero) low high = refl
both_of (suc zero) zero low high = refl
both_of (suc zero) (suc zero) low high = refl
both_of (suc (suc x)) y low high = absurd (omega (arith, low))
both_of x (suc (suc y)) low high = absurd (omega (arith, high))

-- the empty set has no call
pub has_none : (call : Call) → has 0 call ≡ false
has_none call = ap (λ b. b == 1) (bit_at-zero (bit_of call))

pub has_or : (a b : ℕ) (call : Call) → has (bit_or a b) call ≡ (has a call || has b call)
has_or a b call = ap (λ n. n == 1) (bit_at_or a b (bit_of call)) ∙
    one_of (bit_at a (bit_of call)) (bit_at b (bit_of call)) (bit_at-lt a (bit_of call)) (bit_at-lt b (bit_of call))

pub has_and : (a b : ℕ) (call : Call) → has (bit_and a b) call ≡ (has a call && has b call)
has_and a b call = ap (λ n. n == 1) (bit_at_and a b (bit_of call)) ∙
    both_of (bit_at a (bit_of call)) (bit_at b (bit_of call)) (bit_at-lt a (bit_of call)) (bit_at-lt b (bit_of call))

pub or_below : (a b : ℕ) → a < 2 ^ call_count → b < 2 ^ call_count → bit_or a b < 2 ^ call_count
or_below a b = or_lt call_count a b

pub and_below : (a b : ℕ) → a < 2 ^ call_count → bit_and a b < 2 ^ call_count
and_below a b low = omega (arith, and_le_l a b, low)

-- each call is at its bit's place in the list of all
pub call_at_bit : (call : Call) → get_or calls (bit_of call) Stat ≡ call
call_at_bit Stat = refl
call_at_bit _ = refl

-- so calls with one bit are one
pub same_bit : (a b : Call) → bit_of a ≡ bit_of b → a ≡ b
same_bit a b e = sym (call_at_bit a) ∙ ap (λ n. get_or calls n Stat) e ∙ call_at_bit b

pub bit_below : (call : Call) → bit_of call < call_count
bit_below Stat = omega arith
bit_below _ = omega arith

-- the set of one call
pub single_below : (call : Call) → 1 * 2 ^ bit_of call % 4294967296 < 2 ^ call_count
single_below Stat = omega arith
single_below _ = omega arith

-- and each bit is that of the call at its place
pub bit_of_call_at : (i : ℕ) → i < call_count → bit_of (get_or calls i Stat) ≡ i
bit_of_call_at i low = let same : 0 + i ≡ i = omega arith in sym (get_or-map bit_of calls i Stat 0 low) ∙
    get_or-range_with_len 0 call_count i 0 low ∙ same

module _ (f : Call → Bool) where
  -- a set of the calls before a number that pass a test
  abbrev pub Decides : ℕ → ℕ → Type 0
  Decides set i = (call : Call) → has set call ≡ (nat_lt (bit_of call) i && f call)

  pub decides_none : Decides 0 0
  decides_none call = ap (λ n. n == 1) (bit_at-zero (bit_of call)) ∙ sym (ap (λ b. b && f call) (le-ltb (bit_of call) 0 (omega arith)))

  -- at the end these are all
  pub decides_all : (set i : ℕ) → Decides set i → call_count ≤ i → (call : Call) → has set call ≡ f call
  decides_all set i decided end call = decided call ∙ ap (λ b. b && f call) (lt-ltb (bit_of call) i (omega (arith, bit_below call, end)))

  further : (n i : ℕ) → n ≢ i → nat_lt n i ≡ nat_lt n (i + 1)
  further n i apart = elim (cases_lt n i) [
    | inl low ↦ lt-ltb n i low ∙ sym (lt-ltb n (i + 1) (omega (arith, low)))
    | inr high ↦ le-ltb n i high ∙ sym (le-ltb n (i + 1) (omega (arith, high, apart)))
  ]

  module _ (set i : ℕ) (here : Call) (at : bit_of here ≡ i) (decided : Decides set i) where
    -- one call more
    decides_more : (next : ℕ) → has next here ≡ f here → ((other : Call) → other ≢ here → has next other ≡ has set other) →
        Decides next (i + 1)
    decides_more next own others call = elim (cases_eq (bit_of call) i) [
      | inl e ↦
          let same : call ≡ here = same_bit call here (e ∙ sym at) in
          ap (has next) same ∙ own ∙ ap f (sym same) ∙ sym (ap (λ b. b && f call) (lt-ltb (bit_of call) (i + 1) (omega (arith, e))))
      | inr apart ↦ others call (λ same. apart (ap bit_of same ∙ at)) ∙ decided call ∙ ap (λ b. b && f call) (further (bit_of call) i apart)
    ]

    pub decides_taken : (next : ℕ) → f here ≡ true → has next here ≡ true →
        ((other : Call) → other ≢ here → has next other ≡ has set other) → Decides next (i + 1)
    decides_taken next passes own others = decides_more next (own ∙ sym passes) others

    pub decides_left : f here ≡ false → Decides set (i + 1)
    decides_left fails = decides_more set (decided here ∙ ap (λ b. b && f here) (le-ltb (bit_of here) i (omega (arith, at))) ∙
        sym fails) (λ other apart. refl)
