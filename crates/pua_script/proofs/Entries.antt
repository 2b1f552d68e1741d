-- Values put at numbers.
use Rattle.pua_script.proofs.Common.{◌≡◌, ◌≢◌, ℕ, eqb, Bool, true, false, cond, nat_eq, List, [], ◌∷◌, refl, sym, ap, ◌∙◌}
use Rattle.pua_script.proofs.Common.{eqb-true, eq-eqb, Some, None, is_some, put_at, map}
use Rattle.std.proofs.lemmas.Bool.Decides.{same_from_decides}
use Rattle.std.proofs.lemmas.Bool.{true≢false}
use Rattle.std.specs.Map.{lookup, set_value}
use Rattle.indexmap.specs.IndexMap.{insert_entry}

pub nat_turned : (p n : ℕ) → eqb p n ≡ eqb n p
nat_turned p n = same_from_decides {P = p ≡ n} _ _ (eqb-true p n, eq-eqb p n) (λ e. sym (eqb-true n p e), λ e. eq-eqb n p (sym e))

module _ {X : Type 0} where
  -- what is found after a value was put
  pub found_put : (q n : ℕ) (x : X) (es : List (ℕ × X)) → lookup (nat_eq q) (put_at n x es) ≡ cond (nat_eq n q) (Some x) (lookup (nat_eq q) es)
  found_put q n x [] = ap (λ b. cond b (Some x) None) (nat_turned q n)
  found_put q n x (e ∷ es) = by (found_put q n x es) (nat_eq n e.0) refl
    where
      by : lookup (nat_eq q) (put_at n x es) ≡ cond (nat_eq n q) (Some x) (lookup (nat_eq q) es) → (b : Bool) → nat_eq n e.0 ≡ b → lookup (nat_eq q) (cond b ((e.0, x) ∷ es) (e ∷ put_at n x es))
          ≡ cond (nat_eq n q) (Some x) (cond (nat_eq q e.0) (Some e.1) (lookup (nat_eq q) es))
      by more true is = same (nat_eq q e.0) (ap (nat_eq q) (sym (eqb-true n e.0 is)) ∙ nat_turned q n)
        where
          same : (b : Bool) → b ≡ nat_eq n q → cond b (Some x) (lookup (nat_eq q) es)
              ≡ cond (nat_eq n q) (Some x) (cond b (Some e.1) (lookup (nat_eq q) es))
          same true at = ap (λ c. cond c (Some x) (Some e.1)) at
          same false at = ap (λ c. cond c (Some x) (lookup (nat_eq q) es)) at
      by more false is = ap (cond (nat_eq q e.0) (Some e.1)) more ∙ swap (nat_eq q e.0) (nat_eq n q) refl refl
        where
          swap : (a b : Bool) → nat_eq q e.0 ≡ a → nat_eq n q ≡ b → cond a (Some e.1) (cond b (Some x) (lookup (nat_eq q) es))
              ≡ cond b (Some x) (cond a (Some e.1) (lookup (nat_eq q) es))
          swap true true at on = absurd (true≢false (sym (eq-eqb n e.0 (eqb-true n q on ∙ eqb-true q e.0 at)) ∙ is))
          swap true false at on = refl
          swap false b at on = refl

  pub found_here : (n : ℕ) (x : X) (es : List (ℕ × X)) → lookup (nat_eq n) (put_at n x es) ≡ Some x
  found_here n x es = found_put n n x es ∙ ap (λ b. cond b (Some x) (lookup (nat_eq n) es)) (eq-eqb n n refl)

  pub found_elsewhere : (q n : ℕ) (x : X) (es : List (ℕ × X)) → q ≢ n → lookup (nat_eq q) (put_at n x es) ≡ lookup (nat_eq q) es
  found_elsewhere q n x es other = found_put q n x es ∙ by (nat_eq n q) refl
    where
      by : (b : Bool) → nat_eq n q ≡ b → cond b (Some x) (lookup (nat_eq q) es) ≡ lookup (nat_eq q) es
      by true at = absurd (other (sym (eqb-true n q at)))
      by false at = refl

  -- a value written where one is
  pub put_there : (n : ℕ) (x : X) (es : List (ℕ × X)) → is_some (lookup (nat_eq n) es) ≡ true → put_at n x es ≡ set_value (nat_eq n) es x
  put_there n x [] there = absurd (true≢false (sym there))
  put_there n x (e ∷ es) there = by (put_there n x es) (nat_eq n e.0) there
    where
      by : (is_some (lookup (nat_eq n) es) ≡ true → put_at n x es ≡ set_value (nat_eq n) es x) → (b : Bool) → is_some (cond b (Some e.1) (lookup (nat_eq n) es)) ≡ true →
          cond b ((e.0, x) ∷ es) (e ∷ put_at n x es) ≡ cond b ((e.0, x) ∷ es) (e ∷ set_value (nat_eq n) es x)
      by more true there = refl
      by more false there = ap (λ more. e ∷ more) (more there)

  -- a value put back
  pub put_back : (n : ℕ) (x : X) (es : List (ℕ × X)) → lookup (nat_eq n) es ≡ Some x → put_at n x es ≡ es
  put_back n x [] there = cc
  put_back n x (e ∷ es) there = by (put_back n x es) (nat_eq n e.0) there
    where
      by : (lookup (nat_eq n) es ≡ Some x → put_at n x es ≡ es) → (b : Bool) → cond b (Some e.1) (lookup (nat_eq n) es) ≡ Some x → cond b ((e.0, x) ∷ es) (e ∷ put_at n x es) ≡ e ∷ es
      by more true there = ap (λ y. (e.0, y) ∷ es) (one e.1 x there)
        where
          one : (a b : X) → Some a ≡ Some b → b ≡ a
          one a b is = cc
      by more false there = ap (λ more. e ∷ more) (more there)

  -- what an insert does
  pub put_insert : (eq : ℕ → ℕ → Bool) → ((a b : ℕ) → eq a b ≡ nat_eq a b) → (n : ℕ) (x : X) (es : List (ℕ × X)) → insert_entry eq es n x ≡ put_at n x es
  put_insert eq same n x [] = refl
  put_insert eq same n x (e ∷ es) = λ i. cond (same n e.0 i) ((e.0, x) ∷ es) (e ∷ put_insert eq same n x es i)

-- each value made another one
module _ {X Y : Type 0} (f : X → Y) where
  abbrev pub each : List (ℕ × X) → List (ℕ × Y)
  each es = map (λ e. (e.0, f e.1)) es

  pub each_put : (n : ℕ) (x : X) (es : List (ℕ × X)) → each (put_at n x es) ≡ put_at n (f x) (each es)
  each_put n x [] = refl
  each_put n x (e ∷ es) = by (each_put n x es) (nat_eq n e.0)
    where
      by : each (put_at n x es) ≡ put_at n (f x) (each es) → (b : Bool) → each (cond b ((e.0, x) ∷ es) (e ∷ put_at n x es)) ≡ cond b ((e.0, f x) ∷ each es) ((e.0, f e.1) ∷ put_at n (f x) (each es))
      by more true = refl
      by more false = ap (λ more. (e.0, f e.1) ∷ more) more
