-- Sets of numbers of links, moved along entries.
use Rattle.pua_steps.proofs.Common.{ℕ, zero, suc, ◌+◌, ◌-◌, ◌^◌, ◌<◌, ◌≤◌, ◌≡◌, max, List, ◌∷◌, Option, Some, None, false, ◌||◌, ◌&&◌, ◌==◌}
use Rattle.pua_steps.proofs.Common.{nat_le, refl, ap, arith, sym, ◌∙◌, length, get_or, set, drop, inl, inr, subst, IfSome, bit_at}
use Rattle.pua_steps.proofs.Common.{AllByRecursion, cases_eq, eq-eqb, ne_eqb, has_state, lands_some, IsEntry, Entry, Steps, or-false}
use Rattle.std.proofs.Common.{bit_or}
use Rattle.std.proofs.lemmas.List.{get_or-set_same, get_or-set_other}
use Rattle.std.proofs.lemmas.Nat.{or_lt}
use Rattle.std.proofs.lemmas.Nat.Bits.{bit_at_or, bit_at-lt}
use Rattle.pua_steps.specs.Reached.{lands}
use Rattle.pua_steps.proofs.Base.{all_weaker}
use Rattle.std.proofs.Math.Bool.{or_assoc}

either : (a b : ℕ) → a < 2 → b < 2 → (max a b == 1) ≡ ((a == 1) || (b == 1))
either zero zero h k = refl
either zero (suc zero) h k = refl
either (suc zero) zero h k = refl
either (suc zero) (suc zero) h k = refl
either zero (suc (suc b)) h k = absurd (omega (arith, k))
either (suc zero) (suc (suc b)) h k = absurd (omega (arith, k))
either (suc (suc a)) b h k = absurd (omega (arith, h))

pub spread_one : (next : List ℕ) (t m d u : ℕ) → t < length next →
    has_state (set next t (bit_or (get_or next t 0) m)) d u ≡ (has_state next d u || ((t == d) && (bit_at m u == 1)))
spread_one next t m d u low =
    elim (cases_eq t d) [
      | inl e ↦
          ap (λ k. bit_at (get_or (set next t (bit_or (get_or next t 0) m)) k 0) u == 1) (sym e)
          ∙ ap (λ x. bit_at x u == 1) (get_or-set_same next t (bit_or (get_or next t 0) m) 0 low)
          ∙ ap (λ x. x == 1) (bit_at_or (get_or next t 0) m u)
          ∙ either (bit_at (get_or next t 0) u) (bit_at m u) (bit_at-lt (get_or next t 0) u) (bit_at-lt m u)
          ∙ ap (λ k. has_state next k u || (bit_at m u == 1)) e
          ∙ ap (λ b. has_state next d u || (b && (bit_at m u == 1))) (sym (eq-eqb t d e))
      | inr apart ↦
          ap (λ x. bit_at x u == 1) (get_or-set_other next t d (bit_or (get_or next t 0) m) 0 (λ e. apart (sym e)))
          ∙ sym (or-false (has_state next d u)) ∙ ap (λ b. has_state next d u || (b && (bit_at m u == 1))) (sym (ne_eqb t d apart))
    ]

pub small_one : (next : List ℕ) (t m : ℕ) → t < length next → m < 2 ^ 33 → ((d : ℕ) → d < length next → get_or next d 0 < 2 ^ 33) →
    (d : ℕ) → d < length next → get_or (set next t (bit_or (get_or next t 0) m)) d 0 < 2 ^ 33
small_one next t m low small all d h =
    elim (cases_eq t d) [
      | inl e ↦ subst (λ k. get_or (set next t (bit_or (get_or next t 0) m)) k 0 < 2 ^ 33) e
          (subst (λ x. x < 2 ^ 33) (sym (get_or-set_same next t (bit_or (get_or next t 0) m) 0 low))
          (or_lt 33 (get_or next t 0) m (all t low) small))
      | inr apart ↦ subst (λ x. x < 2 ^ 33) (sym (get_or-set_other next t d (bit_or (get_or next t 0) m) 0 (λ e. apart (sym e)))) (all d h)
    ]

-- one entry more
pub one_more : (es : List Entry) (i : ℕ) (e : Entry) (set-of : ℕ) (old new after : List ℕ) (d u : ℕ) → drop i es ≡ e ∷ drop (i + 1) es →
    has_state after d u ≡ (has_state new d u || lands e set-of d u)
    → (has_state old d u || lands_some es set-of d u) ≡ (has_state new d u || lands_some (drop i es) set-of d u)
    → (has_state old d u || lands_some es set-of d u) ≡ (has_state after d u || lands_some (drop (i + 1) es) set-of d u)
one_more es i e set-of old new after d u split landed far =
    far ∙ ap (λ xs. has_state new d u || lands_some xs set-of d u) split ∙
    sym (or_assoc (has_state new d u) (lands e set-of d u) (lands_some (drop (i + 1) es) set-of d u))
    ∙ ap (λ b. b || lands_some (drop (i + 1) es) set-of d u) (sym landed)

pub landed_some : (e : Entry) (set-of d u t m : ℕ) (new after : List ℕ) → e.to ≡ Some t →
    (bit_at m u == 1) ≡ (nat_le e.links u && (bit_at set-of (u - e.links) == 1)) → t < length new →
    after ≡ set new t (bit_or (get_or new t 0) m)
    → has_state after d u ≡ (has_state new d u || lands e set-of d u)
landed_some e set-of d u t m new after some bits low stored =
    ap (λ xs. has_state xs d u) stored ∙ spread_one new t m d u low ∙ ap (λ b. has_state new d u || ((t == d) && b)) bits
    ∙ sym (ap (λ (o : Option ℕ). has_state new d u
    || (elim o [ None ↦ false | Some to ↦ (to == d) && (nat_le e.links u && (bit_at set-of (u - e.links) == 1)) ])) some)

pub links_few : (t : Steps) (es : List Entry) → AllByRecursion (λ e. IsEntry t e) es → AllByRecursion (λ e. e.links ≤ 32) es
links_few t es all = all_weaker (λ e. IsEntry t e) (λ e. e.links ≤ 32) (λ e is. is.links) es all

pub leads_inside : (t : Steps) (n : ℕ) (es : List Entry) → n ≡ length t.rows.items → AllByRecursion (λ e. IsEntry t e) es →
    AllByRecursion (λ e. IfSome e.to (λ d. d < n)) es
leads_inside t n es same all =
    all_weaker (λ e. IsEntry t e) (λ e. IfSome e.to (λ d. d < n)) (λ e is. subst (λ m. IfSome e.to (λ d. d < m)) (sym same) is.to) es all
