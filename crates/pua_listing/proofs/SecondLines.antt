-- A node has two lines where it has two names.
use Rattle.pua_listing.proofs.Common.{◌≡◌, ℕ, zero, suc, ◌+◌, ◌≤◌, Bool, true, false, ◌==◌, List, [], ◌∷◌, refl, sym, ap, ◌∙◌, arith, inl, inr}
use Rattle.pua_listing.proofs.Common.{list_any, or_cases, false≢true, true≢false, eq-eqb, eqb-true, Row, Tree, one, count}
use Rattle.std.proofs.Common.{nat_lt, lt-ltb, le-ltb}
use Rattle.std.proofs.lemmas.Bool.{or_parts}
use Rattle.pua_tree.specs.Tree.{rows_of}
use Rattle.pua_listing.specs.Entries.{has_second_lines}
use Rattle.pua_listing.specs.Listed.{has_second_names}
use Rattle.pua_listing.proofs.Counting.{count_is, count_more, count_none, any_counted, counted_any}

uncounted : {X : Type 0} (p : X → Bool) (xs : List X) → list_any p xs ≡ false → count p xs ≡ 0
uncounted p xs h = by (count p xs) refl
  where
    by : (n : ℕ) → count p xs ≡ n → n ≡ 0
    by zero e = refl
    by (suc n) e = absurd (true≢false (sym (counted_any p xs (omega arith)) ∙ h))

twice : (rows : List Row) → has_second_lines rows ≡ true → (x : ℕ) × (2 ≤ count (λ (r : Row). r.1 == x) rows)
twice [] h = absurd (false≢true h)
twice (row ∷ rows) h =
    elim (or_cases (list_any (λ (other : Row). other.1 == row.1) rows) (has_second_lines rows) h) [
      | inl now ↦ (let more = any_counted (λ (r : Row). r.1 == row.1) rows now in
          let own : one (row.1 == row.1) ≡ 1 = ap one (eq-eqb row.1 row.1 refl) in (row.1, omega arith))
      | inr later ↦ (let rest = twice rows later in (rest.0, omega (arith, rest.1)))
    ]

once_each : (rows : List Row) → has_second_lines rows ≡ false → (x : ℕ) → count (λ (r : Row). r.1 == x) rows ≤ 1
once_each [] h x = omega arith
once_each (row ∷ rows) h x =
    let parts = or_parts (list_any (λ (other : Row). other.1 == row.1) rows) (has_second_lines rows) h in
    let rest = once_each rows parts.1 x in
    elim (row.1 == x) as (λ b. (row.1 == x) ≡ b → one b + count (λ (r : Row). r.1 == x) rows ≤ 1) [
      | true ↦ λ same. (let none : count (λ (r : Row). r.1 == x) rows ≡ 0 =
          ap (λ y. count (λ (r : Row). r.1 == y) rows) (sym (eqb-true row.1 x same)) ∙ uncounted (λ (r : Row). r.1 == row.1) rows parts.0 in
          omega arith)
      | false ↦ λ _. omega arith
    ] refl

module _ (t : Tree) (order : List Row) (counts : (p : Row → Bool) → count p order ≡ count p t.rows) where
  rows_counted : (x : ℕ) → count (λ (r : Row). r.1 == x) order ≡ rows_of t x
  rows_counted x = counts (λ r. r.1 == x) ∙ count_is (λ (r : Row). r.1 == x) t.rows

  pub second_lines : has_second_lines order ≡ has_second_names t
  second_lines = elim (has_second_lines order) as (λ b. has_second_lines order ≡ b → b ≡ has_second_names t) [
    | true ↦ λ some. (let two = twice order some in
        let x : ℕ = two.0 in
        let often : (nat_lt 1 (rows_of t x)) ≡ true = lt-ltb 1 (rows_of t x) (omega (arith, two.1, rows_counted x)) in
        let more = count_more (λ (r : Row). r.1 == x) (λ r. nat_lt 1 (rows_of t r.1)) t.rows
        (λ r same. ap (λ y. nat_lt 1 (rows_of t y)) (eqb-true r.1 x same) ∙ often) in
        sym (counted_any (λ (r : Row). nat_lt 1 (rows_of t r.1)) t.rows (omega (arith, more, two.1, counts (λ r. r.1 == x)))))
    | false ↦ λ no. (let none = count_none (λ (r : Row). nat_lt 1 (rows_of t r.1)) t.rows
        (λ r. le-ltb 1 (rows_of t r.1) (omega (arith, once_each order no r.1, rows_counted r.1))) in
        elim (has_second_names t) as (λ b. has_second_names t ≡ b → false ≡ b) [
          | true ↦ λ some. absurd (omega (arith, none, any_counted (λ (r : Row). nat_lt 1 (rows_of t r.1)) t.rows some))
          | false ↦ λ _. refl
        ] refl)
  ] refl
