-- The number that digits write.
use Rattle.pua_tree.proofs.Common.{◌≡◌, ℕ, zero, suc, ◌+◌, ◌-◌, ◌*◌, ◌<◌, ◌≤◌, List, [], ◌∷◌, length, get_or, Some, None, sym, arith, cond}
use Rattle.pua_tree.proofs.Common.{leb, take, cond-false, cond-true, decimal_value, Bool, true, false, ◌&&◌, refl, ap, ◌∙◌, IsTrue, list_all}
use Rattle.pua_tree.proofs.Common.{and_parts, and_from, le-leb, Option}
use Rattle.pua_tree.specs.Spelling.{is_digit}
use Rattle.std.proofs.Common.{fold}
use Rattle.std.proofs.lemmas.Bool.{lt-leb}
use Rattle.std.proofs.lemmas.List.Sums.{fold_more}

abbrev with_digit : ℕ → ℕ → ℕ
with_digit n b = 10 * n + (b - 48)

and-false : (t : Bool) → (t && false) ≡ false
and-false true = refl
and-false false = refl

-- further digits make no number smaller
le-fold : (n : ℕ) (digits : List ℕ) → n ≤ fold with_digit n digits
le-fold n [] = omega arith
le-fold n (b ∷ digits) = omega (arith, le-fold (with_digit n b) digits)

fold-take-le : (n k : ℕ) (digits : List ℕ) → fold with_digit n (take k digits) ≤ fold with_digit n digits
fold-take-le n zero digits = le-fold n digits
fold-take-le n (suc k) [] = omega arith
fold-take-le n (suc k) (b ∷ digits) = fold-take-le (with_digit n b) k digits

-- the number that bytes write, if they are digits and it is not above the bound
abbrev Written : ℕ → List ℕ → Option ℕ
Written high digits = cond (list_all is_digit digits && leb (decimal_value digits) high) (Some (decimal_value digits)) None

-- a byte that is no digit
one_fails : (digits : List ℕ) (i : ℕ) → i < length digits → is_digit (get_or digits i 0) ≡ false → list_all is_digit digits ≡ false
one_fails [] i within h = absurd (omega (arith, within))
one_fails (b ∷ more) zero within h = ap (λ t. t && list_all is_digit more) h
one_fails (b ∷ more) (suc i) within h = (λ j. is_digit b && one_fails more i (omega (arith, within)) h j) ∙ and-false (is_digit b)

pub no_digit : (digits : List ℕ) (i high : ℕ) → i < length digits → is_digit (get_or digits i 0) ≡ false → None ≡ Written high digits
no_digit digits i high within h =
    sym (cond-false (list_all is_digit digits && leb (decimal_value digits) high) _ _
    (ap (λ t. t && leb (decimal_value digits) high) (one_fails digits i within h)))

-- a digit more
pub digit_more : (digits : List ℕ) (i : ℕ) → i < length digits → IsTrue (list_all is_digit (take i digits)) →
    IsTrue (is_digit (get_or digits i 0)) → IsTrue (list_all is_digit (take (suc i) digits))
digit_more [] i within h one = absurd (omega (arith, within))
digit_more (b ∷ more) zero within h one = and_from _ _ one refl
digit_more (b ∷ more) (suc i) within h one =
    let parts = and_parts (is_digit b) (list_all is_digit (take i more)) h in
    and_from _ _ parts.0 (digit_more more i (omega (arith, within)) parts.1 one)

-- all were digits, and the number is low
pub all_digits : (digits : List ℕ) (high value : ℕ) → IsTrue (list_all is_digit digits) → value ≡ decimal_value digits → value ≤ high →
    Some value ≡ Written high digits
all_digits digits high value all same low =
    ap Some same ∙
    sym (cond-true (list_all is_digit digits && leb (decimal_value digits) high) _ _ (and_from _ _ all (le-leb (decimal_value digits) high
    (omega (arith, same, low)))))

-- the digits so far and one more are above the bound, so the number is
pub above_bound : (digits : List ℕ) (i high : ℕ) → i < length digits → high < 10 * decimal_value (take i digits) + (get_or digits i 0 - 48)
    → None ≡ Written high digits
above_bound digits i high within above =
    let next : decimal_value (take (i + 1) digits) ≡ 10 * decimal_value (take i digits) + (get_or digits i 0 - 48) =
    fold_more with_digit 0 digits i 0 within in
    let most : decimal_value (take (i + 1) digits) ≤ decimal_value digits = fold-take-le 0 (i + 1) digits in
    let above : leb (decimal_value digits) high ≡ false = lt-leb (decimal_value digits) high (omega arith) in
    sym (cond-false (list_all is_digit digits && leb (decimal_value digits) high) _ _
    ((λ i. list_all is_digit digits && above i) ∙ and-false (list_all is_digit digits)))
