-- Looks at a tree while a table of steps is made of it, added up.
use Rattle.pua_audit.proofs.Common.{ℕ, suc, ◌+◌, ◌*◌, ◌<◌, ◌≤◌, ◌≡◌, List, [], ◌∷◌, Option, Some, None, true, false, ◌||◌, cond, map, refl}
use Rattle.pua_audit.proofs.Common.{ap, arith, ◌∙◌, length, option_map, nat_eq, list_any, nat_cmp, eq_by_cmp, eqb-true, or_right}
use Rattle.pua_audit.proofs.Common.{length-map, mul-le, Tree, is_dir, letter_cost, object_cost, row_cost, AreLiving, AreNumbers}
use Rattle.std.proofs.Common.{suc-mul}
use Rattle.std.specs.Prelude.{is_some}
use Rattle.std.specs.Cmp.{nat_eq_equiv, unsigned_ties}
use Rattle.std.specs.FinMap.{find as find_key}
use Rattle.std.proofs.lemmas.Map.Made.{length-le_from_is_member}
use Rattle.pua_tree.specs.Tree.{Node, is_dir_kind, node_at}
use Rattle.pua_audit.specs.Bounds.{table_cost}

-- living directories, none of them twice, are at most as many as the nodes

keyed : (q : ℕ) (es : List (ℕ × Node)) → is_some (find_key nat_cmp q es) ≡ true → list_any (nat_eq q) (map (λ e. e.0) es) ≡ true
keyed q [] there = there
keyed q (y ∷ es) there =
    elim (eq_by_cmp nat_cmp q y.0) as (λ b. eq_by_cmp nat_cmp q y.0 ≡ b → is_some (cond b (Some y.1) (find_key nat_cmp q es)) ≡ true →
    (nat_eq q y.0 || list_any (nat_eq q) (map (λ e. e.0) es)) ≡ true) [
      | true ↦ λ same _. ap (λ b. b || list_any (nat_eq q) (map (λ e. e.0) es)) (unsigned_ties q y.0 ∙ same)
      | false ↦ λ _ later. or_right (nat_eq q y.0) (list_any (nat_eq q) (map (λ e. e.0) es)) (keyed q es later)
    ] refl there

living_is_node : (t : Tree) (q : ℕ) → is_dir t q ≡ true → is_some (node_at t q) ≡ true
living_is_node t q living = by (node_at t q) living
  where
    by : (n : Option Node) → is_dir_kind (option_map (λ n. n.kind) n) ≡ true → is_some n ≡ true
    by None living = living
    by (Some n) living = refl

one_living : (t : Tree) (dirs : List ℕ) (q : ℕ) → AreLiving t dirs → list_any (nat_eq q) dirs ≡ true → is_dir t q ≡ true
one_living t [] q all there = absurd cc
one_living t (d ∷ dirs) q all there =
    elim (nat_eq q d) as (λ b. nat_eq q d ≡ b → (b || list_any (nat_eq q) dirs) ≡ true → is_dir t q ≡ true) [
      | true ↦ λ same _. ap (is_dir t) (eqb-true q d same) ∙ all.0
      | false ↦ λ _ later. one_living t dirs q all.1 later
    ] refl there

pub rows_few : (t : Tree) (dirs : List ℕ) → AreNumbers dirs → AreLiving t dirs → length dirs ≤ length t.nodes
rows_few t dirs numbers living =
    let few = length-le_from_is_member nat_eq_equiv dirs (map (λ e. e.0) t.nodes) numbers.apart
    (λ q there. keyed q t.nodes (living_is_node t q (one_living t dirs q living there))) in
    omega (arith, few, length-map t.nodes (λ e. e.0))

-- the letters of a row that are looked up
pub letters_within : (t : Tree) (letters n : ℕ) → n ≤ letters → object_cost t + n * letter_cost t ≤ row_cost t letters
letters_within t letters n few = let all = mul-le n (letter_cost t) letters (letter_cost t) few (omega arith) in omega (arith, all)

-- one row more, and all of them

pub one_row_more : (t : Tree) (letters n : ℕ) → n * row_cost t letters + row_cost t letters ≡ suc n * row_cost t letters
one_row_more t letters n = omega (arith, suc-mul n (row_cost t letters))

pub rows_within : (t : Tree) (letters n : ℕ) → n ≤ length t.nodes → suc (n * row_cost t letters) ≤ table_cost t letters
rows_within t letters n few = let all = mul-le n (row_cost t letters) (length t.nodes) (row_cost t letters) few (omega arith) in
    omega (arith, all)

-- a row more while there is a directory for it
pub next_within : (t : Tree) (letters n : ℕ) (dirs : List ℕ) → AreNumbers dirs → AreLiving t dirs → n < length dirs →
    suc (n * row_cost t letters + row_cost t letters) ≤ table_cost t letters
next_within t letters n dirs numbers living inside =
    let all = rows_within t letters (suc n) (omega (arith, inside, rows_few t dirs numbers living)) in
    omega (arith, all, one_row_more t letters n)
