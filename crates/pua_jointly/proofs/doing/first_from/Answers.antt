use Rattle.pua_jointly.proofs.Common.{◌≡◌, ◌<◌, ◌≤◌, ◌∙◌, ℕ, ap, arith, sym}
use Rattle.std.specs.Prelude.{◌+◌, ◌-◌, ◌/◌, ◌%◌, ◌^◌}
use Rattle.std.specs.Int.{bit_at, trailing_zeros, w32}
use Rattle.std.proofs.lemmas.Nat.{shr-shr, shr_le}
use Rattle.std.proofs.lemmas.Nat.Bits.{bit_at-trailing_zeros, bit_at-zero}
use Rattle.pua_jointly.proofs.doing.first_from.Goals as goal

-- the bits from one on are those of what is shifted
shifted : (n k i : ℕ) → k ≤ i → bit_at n i ≡ bit_at (n / 2 ^ k) (i - k)
shifted n k i from = let same : i ≡ k + (i - k) = omega (arith, from) in ap (bit_at n) same ∙ ap (λ x. x % 2) (sym (shr-shr n k (i - k)))

small : (n k : ℕ) → n < 2 ^ 32 → n / 2 ^ k < 2 ^ 32
small n k low = let less = shr_le n k in omega (arith, less, low)

-- below the lowest one there is none
lower : (n k i : ℕ) → n / 2 ^ k < 2 ^ 32 → 0 < n / 2 ^ k → k ≤ i → i < k + trailing_zeros w32 (n / 2 ^ k) → bit_at n i ≡ 0
lower n k i short some from below =
    shifted n k i from ∙ (bit_at-trailing_zeros w32 (n / 2 ^ k) some short).2 (i - k) (omega (arith, from, below))

pub returns-then-rest-eq0-clause-none : goal.returns-then-rest-eq0-clause-none
returns-then-rest-eq0-clause-none c = λ between from below.
    shifted c.args.covers c.args.bit between from ∙ ap (λ n. bit_at n (between - c.args.bit)) c.if-rest-eq0.true ∙ bit_at-zero (between - c.args.bit)

pub returns-then-found-lt-COUNT-clause-none : goal.returns-then-found-lt-COUNT-clause-none
returns-then-found-lt-COUNT-clause-none c = λ between from below.
    let some = c.if-rest-eq0.false in
    lower c.args.covers c.args.bit between (small c.args.covers c.args.bit c.ranges.covers.fits) (omega (arith, some)) from below

pub returns-else-found-lt-COUNT-clause-none : goal.returns-else-found-lt-COUNT-clause-none
returns-else-found-lt-COUNT-clause-none c = λ between from below.
    let past = c.if-found-lt-COUNT.false in
    let some = c.if-rest-eq0.false in
    lower c.args.covers c.args.bit between (small c.args.covers c.args.bit c.ranges.covers.fits) (omega (arith, some)) from
    (omega (arith, below, past))
