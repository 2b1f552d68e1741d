-- How many elements of a list pass a test.
use Rattle.std.proofs.Common.{◌≡◌, ℕ, ◌+◌, ◌≤◌, Bool, true, false, not, cond, ◌&&◌, ◌||◌, List, [], ◌∷◌, ◌++◌, length}
use Rattle.std.proofs.Common.{count_by, refl, ap, arith}
use Rattle.std.proofs.lemmas.Bool.{and_parts, false≢true}
use Rattle.std.proofs.lemmas.List.Recursion.{is_sum_by}
use Rattle.std.specs.List.{filter, list_all, list_any}

abbrev pub one : Bool → ℕ
one b = cond b 1 0

abbrev pub count : {X : Type 0} → (X → Bool) → List X → ℕ
count p [] = 0
count p (x ∷ xs) = one (p x) + count p xs

module _ {X : Type 0} where
  pub count_is : (p : X → Bool) (xs : List X) → count p xs ≡ count_by p xs
  count_is p xs = is_sum_by (count p) (λ x. one (p x)) refl (λ _ _. refl) xs

  pub count-append : (p : X → Bool) (xs ys : List X) → count p (xs ++ ys) ≡ count p xs + count p ys
  count-append p [] ys = omega arith
  count-append p (x ∷ xs) ys = omega (arith, count-append p xs ys)

  pub count-filter : (p q : X → Bool) (xs : List X) → count p (filter q xs) ≡ count (λ x. q x && p x) xs
  count-filter p q [] = refl
  count-filter p q (x ∷ xs) =
      elim (q x) as (λ b. count p (cond b (x ∷ filter q xs) (filter q xs)) ≡ one (b && p x) + count (λ x. q x && p x) xs) [
        | true ↦ ap (λ n. one (p x) + n) (count-filter p q xs)
        | false ↦ omega (arith, count-filter p q xs)
      ]

  pub count-all : (xs : List X) → count (λ _. true) xs ≡ length xs
  count-all [] = refl
  count-all (x ∷ xs) = omega (arith, count-all xs)

  pub count_few : (p : X → Bool) (xs : List X) → count p xs ≤ length xs
  count_few p [] = omega arith
  count_few p (x ∷ xs) = elim (p x) as (λ b. one b + count p xs ≤ length (x ∷ xs)) [
    | true ↦ omega (arith, count_few p xs)
    | false ↦ omega (arith, count_few p xs)
  ]

  -- where one test passes so does the other
  pub count_more : (p q : X → Bool) (xs : List X) → ((x : X) → p x ≡ true → q x ≡ true) → count p xs ≤ count q xs
  count_more p q [] h = omega arith
  count_more p q (x ∷ xs) h =
      elim (p x) as (λ b. (b ≡ true → q x ≡ true) → one b + count p xs ≤ one (q x) + count q xs) [
        | true ↦ λ same. (let here : one (q x) ≡ 1 = ap one (same refl) in omega (arith, count_more p q xs h))
        | false ↦ λ _. omega (arith, count_more p q xs h)
      ] (h x)

  pub count_same : (p q : X → Bool) (xs : List X) → ((x : X) → p x ≡ q x) → count p xs ≡ count q xs
  count_same p q [] h = refl
  count_same p q (x ∷ xs) h = λ i. one (h x i) + count_same p q xs h i

  -- where both tests pass nowhere, either passes as often as the one and the other
  pub count_either : (p q r : X → Bool) (xs : List X) → list_all (λ x. not (p x && q x)) xs ≡ true →
      count (λ x. (p x || q x) && r x) xs ≡ count (λ x. p x && r x) xs + count (λ x. q x && r x) xs
  count_either p q r [] h = refl
  count_either p q r (x ∷ xs) h =
      let parts = and_parts (not (p x && q x)) (list_all (λ x. not (p x && q x)) xs) h in
      let rest = count_either p q r xs parts.1 in
      elim (p x) as (λ a. not (a && q x) ≡ true → one ((a || q x) && r x) + count (λ x. (p x || q x) && r x) xs ≡
      (one (a && r x) + count (λ x. p x && r x) xs) + (one (q x && r x) + count (λ x. q x && r x) xs)) [
        | true ↦ λ n. elim (q x) as (λ b. not b ≡ true → one (r x) + count (λ x. (p x || q x) && r x) xs ≡
            (one (r x) + count (λ x. p x && r x) xs) + (one (b && r x) + count (λ x. q x && r x) xs)) [
              | true ↦ λ e. absurd (false≢true e)
              | false ↦ λ e. omega (arith, rest)
            ] n
        | false ↦ λ n. omega (arith, rest)
      ] parts.0

  pub any_counted : (p : X → Bool) (xs : List X) → list_any p xs ≡ true → 1 ≤ count p xs
  any_counted p [] h = absurd (false≢true h)
  any_counted p (x ∷ xs) h =
      elim (p x) as (λ b. (b || list_any p xs) ≡ true → 1 ≤ one b + count p xs) [
        | true ↦ λ _. omega arith
        | false ↦ λ later. omega (arith, any_counted p xs later)
      ] h

  pub counted_any : (p : X → Bool) (xs : List X) → 1 ≤ count p xs → list_any p xs ≡ true
  counted_any p [] h = absurd (omega arith)
  counted_any p (x ∷ xs) h =
      elim (p x) as (λ b. 1 ≤ one b + count p xs → (b || list_any p xs) ≡ true) [
        | true ↦ λ _. refl
        | false ↦ λ later. counted_any p xs (omega arith)
      ] h

  -- where none fails all pass
  pub all_counted : (p : X → Bool) (xs : List X) → count (λ x. not (p x)) xs ≡ 0 → list_all p xs ≡ true
  all_counted p [] h = refl
  all_counted p (x ∷ xs) h =
      elim (p x) as (λ b. one (not b) + count (λ x. not (p x)) xs ≡ 0 → (b && list_all p xs) ≡ true) [
        | true ↦ λ none. all_counted p xs (omega arith)
        | false ↦ λ none. absurd (omega arith)
      ] h

  pub counted_all : (p : X → Bool) (xs : List X) → list_all p xs ≡ true → count (λ x. not (p x)) xs ≡ 0
  counted_all p [] h = refl
  counted_all p (x ∷ xs) h =
      let parts = and_parts _ _ h in
      let here : one (not (p x)) ≡ 0 = ap (λ b. one (not b)) parts.0 in
      omega (arith, counted_all p xs parts.1)

  pub count_none : (p : X → Bool) (xs : List X) → ((x : X) → p x ≡ false) → count p xs ≡ 0
  count_none p [] h = refl
  count_none p (x ∷ xs) h = let here : one (p x) ≡ 0 = ap one (h x) in omega (arith, count_none p xs h)

  -- a test that all pass may be left out
  pub count_where_all : (q p : X → Bool) (xs : List X) → list_all q xs ≡ true → count (λ x. q x && p x) xs ≡ count p xs
  count_where_all q p [] h = refl
  count_where_all q p (x ∷ xs) h =
      let parts = and_parts _ _ h in
      λ i. one (parts.0 i && p x) + count_where_all q p xs parts.1 i

  pub none_counted : (p : X → Bool) (xs : List X) → count p xs ≡ 0 → list_any p xs ≡ false
  none_counted p xs h = elim (list_any p xs) as (λ b. list_any p xs ≡ b → b ≡ false) [
    | true ↦ λ some. absurd (omega (arith, any_counted p xs some))
    | false ↦ λ _. refl
  ] refl
