-- Sets within sets, and tests that are passed where others are.
use Rattle.std.proofs.Common.{◌≡◌, ℕ, List, [], ◌∷◌, refl, sym, ap, ◌∙◌, true, false, Bool, cond, ◌||◌, ◌&&◌, subst, min, max, arith}
use Rattle.std.proofs.lemmas.Bool.{true≢false, false≢true, eqb-true, eq-eqb, and_parts, and_from, or_right}
use Rattle.std.specs.List.{list_any, list_all}
use Rattle.std.proofs.lemmas.Nat.{and_assoc, and_comm, or_comm}
use Rattle.std.specs.Int.Bits.{and_self, and_zero_r}
use Rattle.std.proofs.lemmas.Nat.{and_or_self}
use Rattle.std.proofs.lemmas.Nat.Bits.{bit_at_and, bit_at_or, bit_at-zero, same_from_bits}
use Rattle.std.specs.Int.{bit_at}
use Rattle.std.specs.Prelude.{bit_and, bit_or, Option, Some, None, unwrap_or}
use Rattle.pua_calls.specs.Promises.{holds}
use Rattle.pua_policy.specs.States.{is_within, narrowed_set}
use Rattle.pua_policy.proofs.ForCallers.{holds_through}
use Rattle.pua_tight.specs.Narrower.{SetWithin, unset, within}

-- what holds of one of two, of both, of some and of all, where what is asked is asked of more
pub or_more : (a b c d : Bool) → (a ≡ true → c ≡ true) → (b ≡ true → d ≡ true) → (a || b) ≡ true → (c || d) ≡ true
or_more true b c d first second e = ap (λ x. x || d) (first refl)
or_more false b c d first second e = or_right c d (second e)

pub and_more : (a b c d : Bool) → (a ≡ true → c ≡ true) → (b ≡ true → d ≡ true) → (a && b) ≡ true → (c && d) ≡ true
and_more a b c d first second e = let both = and_parts a b e in and_from c d (first both.0) (second both.1)

pub any_more : {X : Type 0} (f g : X → Bool) → ((x : X) → f x ≡ true → g x ≡ true) → (xs : List X) → list_any f xs ≡ true →
    list_any g xs ≡ true
any_more f g more [] e = e
any_more f g more (x ∷ xs) e = or_more (f x) (list_any f xs) (g x) (list_any g xs) (more x) (any_more f g more xs) e

pub all_more : {X : Type 0} (f g : X → Bool) → ((x : X) → f x ≡ true → g x ≡ true) → (xs : List X) → list_all f xs ≡ true →
    list_all g xs ≡ true
all_more f g more [] e = e
all_more f g more (x ∷ xs) e = and_more (f x) (list_all f xs) (g x) (list_all g xs) (more x) (all_more f g more xs) e

-- what is so of `true` and of `false`, of equal ones
pub two_bools : (P : Bool → Bool → Type 0) → P true true → P false false → (a b : Bool) → a ≡ b → P a b
two_bools P on off true true e = on
two_bools P on off false false e = off
two_bools P on off true false e = absurd (true≢false e)
two_bools P on off false true e = absurd (false≢true e)

pub three_bools : (P : Bool → Bool → Bool → Type 0) → P true true true → P false false false → (a b c : Bool) → a ≡ b → b ≡ c → P a b c
three_bools P on off a b c p q =
    two_bools (λ x y. y ≡ c → P x y c) (λ e. subst (P true true) e on) (λ e. subst (P false false) e off) a b p q

pub holds_self : (a : ℕ) → holds a a ≡ true
holds_self a = eq-eqb _ _ (and_self a)

-- what both of two sets have, both of two larger ones have
pub holds_both : (a b c d : ℕ) → holds b a ≡ true → holds d c ≡ true → holds (bit_and b d) (bit_and a c) ≡ true
holds_both a b c d first second =
    let is : bit_and b a ≡ a = eqb-true _ _ first in
    let it : bit_and d c ≡ c = eqb-true _ _ second in
    eq-eqb _ _ (and_assoc (bit_and a c) b d
    ∙ ap (bit_and b) (sym (and_assoc c d a) ∙ ap (λ x. bit_and x c) (and_comm d a) ∙ and_assoc c a d ∙ ap (bit_and a) it)
    ∙ sym (and_assoc c b a) ∙ ap (λ x. bit_and x c) is)

-- a union has both of its sets
pub has_second : (a b : ℕ) → holds (bit_or a b) b ≡ true
has_second a b = eq-eqb _ _ (and_or_self b a)

pub has_first : (a b : ℕ) → holds (bit_or a b) a ≡ true
has_first a b = ap (λ n. holds n a) (or_comm a b) ∙ has_second b a

-- sets that have nothing in common
pub apart_down : (a b c : ℕ) → holds a b ≡ true → bit_and a c ≡ 0 → bit_and b c ≡ 0
apart_down a b c lies apart =
    let is : bit_and a b ≡ b = eqb-true _ _ lies in
    ap (λ n. bit_and n c) (sym is ∙ and_comm a b) ∙ and_assoc c b a ∙ ap (bit_and b) apart ∙ and_zero_r b

pub apart_or : (set a b : ℕ) → bit_and set a ≡ 0 → bit_and set b ≡ 0 → bit_and set (bit_or a b) ≡ 0
apart_or set a b p q = same_from_bits _ _ (λ i.
    bit_at_and set (bit_or a b) i ∙ ap (min (bit_at set i)) (bit_at_or a b i)
    ∙ of_neither (bit_at set i) (bit_at a i) (bit_at b i) (sym (bit_at_and set a i) ∙ ap (λ n. bit_at n i) p ∙ bit_at-zero i)
    (sym (bit_at_and set b i) ∙ ap (λ n. bit_at n i) q ∙ bit_at-zero i) ∙ sym (bit_at-zero i))
  where
    of_neither : (s x y : ℕ) → min s x ≡ 0 → min s y ≡ 0 → min s (max x y) ≡ 0
    of_neither s x y p q = omega arith

pub set_self : (p : Option ℕ) → SetWithin p p
set_self None = unset
set_self (Some a) = within (holds_self a)

-- what is given after a request within another one
pub narrowed_within : {p q x y : Option ℕ} → SetWithin p q → SetWithin x y → SetWithin (narrowed_set p x) (narrowed_set q y)
narrowed_within given unset = given
narrowed_within unset (within less) = within less
narrowed_within (within {a = c} {b = d} other) (within {a = a} {b = b} less) = within (holds_both a b c d less other)

-- what is held, where nothing was given by a set of its own
pub default_within : (d : ℕ) {p q : Option ℕ} → SetWithin p q → holds (unwrap_or q d) (unwrap_or p d) ≡ true
default_within d unset = holds_self d
default_within d (within less) = less

-- one of two choices
pub chosen_within : (b : Bool) (x y : ℕ) {p q : Option ℕ} → holds y x ≡ true → SetWithin p q →
    SetWithin (cond b (Some x) p) (cond b (Some y) q)
chosen_within true x y less rest = within less
chosen_within false x y less rest = rest

-- a request within a set is within a larger one
pub asked_within : (request : Option ℕ) {p q : Option ℕ} → SetWithin p q → is_within request p ≡ true → is_within request q ≡ true
asked_within None s e = refl
asked_within (Some r) unset e = refl
asked_within (Some r) (within {a = a} {b = b} less) e = holds_through b a r less e
