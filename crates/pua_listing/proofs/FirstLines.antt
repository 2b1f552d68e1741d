-- The first line of a node.
use Rattle.pua_listing.proofs.Common.{◌≡◌, ℕ, suc, ◌+◌, ◌≤◌, ◌<◌, Bool, true, false, cond, ◌||◌, ◌==◌, List, [], ◌∷◌, ◌++◌, length}
use Rattle.pua_listing.proofs.Common.{Some, None, refl, sym, ap, ◌∙◌, arith, list_any, false≢true, true≢false}
use Rattle.pua_listing.proofs.Common.{eq-eqb, eqb-true, Row}
use Rattle.pua_tree.proofs.ForCallers.{same_Some, None≢Some}
use Rattle.pua_listing.specs.Entries.{first_line}

-- one of the rows has the node
abbrev pub has_node : ℕ → List Row → Bool
has_node x rows = list_any (λ row. row.1 == x) rows

-- a line is not before the first
pub not_before : (n : ℕ) (rows : List Row) (x j : ℕ) → first_line n rows x ≡ Some j → n ≤ j
not_before n [] x j e = absurd (None≢Some j e)
not_before n (row ∷ rows) x j e =
    elim (row.1 == x) as (λ b. cond b (Some n) (first_line (suc n) rows x) ≡ Some j → n ≤ j) [
      | true ↦ λ here. (let same = same_Some n j here in omega arith)
      | false ↦ λ later. (let more = not_before (suc n) rows x j later in omega arith)
    ] e

-- nor behind the last
pub not_behind : (n : ℕ) (rows : List Row) (x j : ℕ) → first_line n rows x ≡ Some j → j < n + length rows
not_behind n [] x j e = absurd (None≢Some j e)
not_behind n (row ∷ rows) x j e =
    elim (row.1 == x) as (λ b. cond b (Some n) (first_line (suc n) rows x) ≡ Some j → j < n + length (row ∷ rows)) [
      | true ↦ λ here. (let same = same_Some n j here in omega arith)
      | false ↦ λ later. (let more = not_behind (suc n) rows x j later in omega arith)
    ] e

-- a line is the first of one node
pub same_node : (n : ℕ) (rows : List Row) (x y j : ℕ) → first_line n rows x ≡ Some j → first_line n rows y ≡ Some j → x ≡ y
same_node n [] x y j e f = absurd (None≢Some j e)
same_node n (row ∷ rows) x y j e f =
    elim (row.1 == x) as (λ a. (row.1 == x) ≡ a → cond a (Some n) (first_line (suc n) rows x) ≡ Some j → x ≡ y) [
      | true ↦ λ s here. elim (row.1 == y) as (λ b. (row.1 == y) ≡ b → cond b (Some n) (first_line (suc n) rows y) ≡ Some j → x ≡ y) [
        | true ↦ λ q _. sym (eqb-true row.1 x s) ∙ eqb-true row.1 y q
        | false ↦ λ q later. (let same = same_Some n j here in let more = not_before (suc n) rows y j later in absurd (omega arith))
      ] refl f
      | false ↦ λ s later. elim (row.1 == y) as (λ b. cond b (Some n) (first_line (suc n) rows y) ≡ Some j → x ≡ y) [
        | true ↦ λ here. (let same = same_Some n j here in let more = not_before (suc n) rows x j later in absurd (omega arith))
        | false ↦ λ also. same_node (suc n) rows x y j later also
      ] f
    ] refl e

-- a node of one of the rows has a first line
pub lined : (n : ℕ) (rows : List Row) (x : ℕ) → has_node x rows ≡ true → (j : ℕ) × (first_line n rows x ≡ Some j)
lined n [] x h = absurd (false≢true h)
lined n (row ∷ rows) x h =
    elim (row.1 == x) as (λ b. (b || has_node x rows) ≡ true → (j : ℕ) × (cond b (Some n) (first_line (suc n) rows x) ≡ Some j)) [
      | true ↦ λ _. (n, refl)
      | false ↦ λ later. lined (suc n) rows x later
    ] h

-- and any other has none
pub not_lined : (n : ℕ) (rows : List Row) (x : ℕ) → has_node x rows ≡ false → first_line n rows x ≡ None
not_lined n [] x h = refl
not_lined n (row ∷ rows) x h =
    elim (row.1 == x) as (λ b. (b || has_node x rows) ≡ false → cond b (Some n) (first_line (suc n) rows x) ≡ None) [
      | true ↦ λ e. absurd (true≢false e)
      | false ↦ λ later. not_lined (suc n) rows x later
    ] h

pub lined_has : (n : ℕ) (rows : List Row) (x j : ℕ) → first_line n rows x ≡ Some j → has_node x rows ≡ true
lined_has n rows x j e = elim (has_node x rows) as (λ b. has_node x rows ≡ b → b ≡ true) [
  | true ↦ λ _. refl
  | false ↦ λ none. absurd (None≢Some j (sym (not_lined n rows x none) ∙ e))
] refl

-- of rows and further rows: the first line stays
pub early : (n : ℕ) (done rest : List Row) (x j : ℕ) → first_line n done x ≡ Some j → first_line n (done ++ rest) x ≡ Some j
early n [] rest x j e = absurd (None≢Some j e)
early n (row ∷ done) rest x j e =
    elim (row.1 == x) as (λ b. cond b (Some n) (first_line (suc n) done x) ≡ Some j → cond b (Some n) (first_line (suc n) (done ++ rest) x)
    ≡ Some j) [
      | true ↦ λ here. here
      | false ↦ λ later. early (suc n) done rest x j later
    ] e

-- or is found among the further ones
pub late : (n : ℕ) (done rest : List Row) (x : ℕ) → first_line n done x ≡ None → first_line n (done ++ rest) x ≡ first_line (n + length done) rest x
late n [] rest x e = ap (λ m. first_line m rest x) (omega arith)
late n (row ∷ done) rest x e =
    elim (row.1 == x) as (λ b. cond b (Some n) (first_line (suc n) done x) ≡ None → cond b (Some n) (first_line (suc n) (done ++ rest) x)
    ≡ first_line (n + length (row ∷ done)) rest x) [
      | true ↦ λ here. absurd (None≢Some n (sym here))
      | false ↦ λ later. late (suc n) done rest x later ∙ ap (λ m. first_line m rest x) (omega arith)
    ] e

pub here : (n : ℕ) (row : Row) (rest : List Row) → first_line n (row ∷ rest) row.1 ≡ Some n
here n row rest = ap (λ b. cond b (Some n) (first_line (suc n) rest row.1)) (eq-eqb row.1 row.1 refl)
