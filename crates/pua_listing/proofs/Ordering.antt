-- The order of lines, one row after another.
use Rattle.pua_listing.proofs.Common.{◌≡◌, ℕ, zero, suc, ◌+◌, ◌-◌, ◌≤◌, List, [], ◌∷◌, ◌++◌, length, refl, sym, ap, ◌∙◌, arith}
use Rattle.pua_listing.proofs.Common.{append_assoc, append-nil, Row, rows_under, rows_from}
use Rattle.std.proofs.Common.{reverse}
use Rattle.std.proofs.lemmas.List.{reverse-append, reverse-reverse}

pub none_of_length : {A : Type 0} (xs : List A) → length xs ≡ 0 → xs ≡ []
none_of_length [] e = refl
none_of_length (x ∷ xs) e = absurd (omega arith)

no_rows : (m : ℕ) (rows : List Row) → rows_from m rows [] ≡ []
no_rows zero rows = refl
no_rows (suc m) rows = refl

-- the row that waits last comes next, and then those beneath it
pub walked_on : (n : ℕ) (rows order waiting longer left rest : List Row) (row : Row) → waiting ≡ rest ++ row ∷ [] → longer ≡ order ++ row ∷ [] →
    left ≡ rest ++ reverse (rows_under rows row.1) → longer ++ rows_from n rows (reverse left) ≡ order ++ rows_from (suc n) rows (reverse waiting)
walked_on n rows order waiting longer left rest row is more under =
    let last : reverse waiting ≡ row ∷ reverse rest = ap reverse is ∙ reverse-append rest (row ∷ []) in
    let next : reverse left ≡ rows_under rows row.1 ++ reverse rest = ap reverse under ∙ reverse-append rest (reverse (rows_under rows row.1)) ∙
    ap (λ us. us ++ reverse rest) (reverse-reverse (rows_under rows row.1)) in
    (λ i. more i ++ rows_from n rows (next i))
    ∙ append_assoc order (row ∷ []) (rows_from n rows (rows_under rows row.1 ++ reverse rest))
    ∙ ap (λ w. order ++ rows_from (suc n) rows w) (sym last)

-- where none waits none comes
pub walked_out : (n : ℕ) (rows order waiting left : List Row) → waiting ≡ [] → left ≡ [] →
    order ++ rows_from n rows (reverse left) ≡ order ++ rows_from (suc n) rows (reverse waiting)
walked_out n rows order waiting left none still =
    ap (λ w. order ++ rows_from n rows (reverse w)) still ∙ ap (λ rs. order ++ rs) (no_rows n rows)
    ∙ ap (λ w. order ++ rows_from (suc n) rows (reverse w)) (sym none)

pub walked_through : (n k : ℕ) (rows order waiting whole : List Row) → order ++ rows_from (n - k) rows (reverse waiting) ≡ whole → n ≤ k → order ≡ whole
walked_through n k rows order waiting whole so_far all =
    let done : n - k ≡ 0 = omega arith in
    sym (append-nil order) ∙ ap (λ m. order ++ rows_from m rows (reverse waiting)) (sym done) ∙ so_far
