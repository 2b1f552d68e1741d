-- The first field of a line by its first byte that is not visible.
use Rattle.pua_tree.proofs.Common.{◌≡◌, ◌<◌, ◌≤◌, ◌&&◌, ◌==◌, ℕ, ◌+◌, Bool, true, false, List, [], ◌∷◌, ◌++◌, length, get_or, Some, None}
use Rattle.pua_tree.proofs.Common.{refl, sym, ap, ◌∙◌, arith, cond, not, suc, nat_lt, nat_le, take, drop, true≢false, list_all, onto_first}
use Rattle.pua_tree.proofs.Common.{and_parts, and_from, ltb-true, ltb-false, lt-ltb, not-true, take_all, fields, is_field}
use Rattle.std.specs.List.{position, position_or_len}
use Rattle.std.proofs.lemmas.Bool.{eqb-true, not-false}
use Rattle.std.proofs.lemmas.List.Splits.{slice_split-cons_no}
use Rattle.std.proofs.lemmas.List.Sums.{split_at_first, prefix_len_stops}
use Rattle.std.proofs.lemmas.List.{length-take-le}
use Rattle.pua_tree.proofs.Pieces.{not_found}
use Rattle.pua_tree.proofs.Base.{guarded}

abbrev pub visible : ℕ → Bool
visible b = nat_le 33 b && nat_le b 126

abbrev pub hidden : ℕ → Bool
hidden b = not (visible b)

no_space : (b : ℕ) → visible b ≡ true → (b == 32) ≡ false
no_space b v = elim (b == 32) as (λ t. (b == 32) ≡ t → t ≡ false) [
  | true ↦ λ e. absurd (true≢false (sym v ∙ ap visible (eqb-true b 32 e)))
  | false ↦ λ _. refl
] refl

-- visible bytes up to a space are the first field, and up to the end the only one
first_field : (xs ys : List ℕ) → list_all visible xs ≡ true → fields (xs ++ 32 ∷ ys) ≡ xs ∷ fields ys
first_field [] ys h = refl
first_field (x ∷ xs) ys h =
    let parts = and_parts (visible x) _ h in
    slice_split-cons_no (λ b. b == 32) x (xs ++ 32 ∷ ys) (no_space x parts.0) ∙ ap (onto_first x) (first_field xs ys parts.1)

only_field : (xs : List ℕ) → list_all visible xs ≡ true → fields xs ≡ xs ∷ []
only_field [] h = refl
only_field (x ∷ xs) h =
    let parts = and_parts (visible x) _ h in
    slice_split-cons_no (λ b. b == 32) x xs (no_space x parts.0) ∙ ap (onto_first x) (only_field xs parts.1)

-- the first of some pieces has a hidden byte
abbrev begins_badly : List (List ℕ) → Bool
begins_badly [] = false
begins_badly (piece ∷ pieces) = not (list_all visible piece)

none_if_badly : (pieces : List (List ℕ)) → begins_badly pieces ≡ true → list_all is_field pieces ≡ false
none_if_badly [] h = absurd (true≢false (sym h))
none_if_badly (piece ∷ pieces) h = by (nat_lt 0 (length piece)) (list_all visible piece) h
  where
    by : (some good : Bool) → not good ≡ true → ((some && good) && list_all is_field pieces) ≡ false
    by some true e = absurd (true≢false (sym e))
    by true false e = refl
    by false false e = refl

still_badly : (x : ℕ) (pieces : List (List ℕ)) → begins_badly pieces ≡ true → begins_badly (onto_first x pieces) ≡ true
still_badly x [] h = absurd (true≢false (sym h))
still_badly x (piece ∷ pieces) h = by (visible x) (list_all visible piece) h
  where
    by : (v good : Bool) → not good ≡ true → not (v && good) ≡ true
    by v true e = absurd (true≢false (sym e))
    by true false e = refl
    by false false e = refl

hidden_first : (x : ℕ) (pieces : List (List ℕ)) → visible x ≡ false → begins_badly (onto_first x pieces) ≡ true
hidden_first x [] v = ap (λ t. not (t && true)) v
hidden_first x (piece ∷ pieces) v = ap (λ t. not (t && list_all visible piece)) v

bad_field : (xs : List ℕ) (b : ℕ) (ys : List ℕ) → list_all visible xs ≡ true → visible b ≡ false → (b == 32) ≡ false →
    begins_badly (fields (xs ++ b ∷ ys)) ≡ true
bad_field [] b ys h v s = ap begins_badly (slice_split-cons_no (λ c. c == 32) b ys s) ∙ hidden_first b (fields ys) v
bad_field (x ∷ xs) b ys h v s =
    let parts = and_parts (visible x) _ h in
    ap begins_badly (slice_split-cons_no (λ c. c == 32) x (xs ++ b ∷ ys) (no_space x parts.0)) ∙
    still_badly x (fields (xs ++ b ∷ ys)) (bad_field xs b ys parts.1 v s)

-- what stands before the first hidden byte
all_before : (xs : List ℕ) → list_all visible (take (position_or_len hidden xs) xs) ≡ true
all_before [] = refl
all_before (x ∷ xs) = by (visible x) refl (all_before xs)
  where
    by : (v : Bool) → visible x ≡ v → list_all visible (take (position_or_len hidden xs) xs) ≡ true →
        list_all visible (take (cond (not (not v)) (1 + position_or_len hidden xs) 0) (x ∷ xs)) ≡ true
    by true e behind = let next : 1 + position_or_len hidden xs ≡ suc (position_or_len hidden xs) = omega arith in
        ap (λ n. list_all visible (take n (x ∷ xs))) next ∙ ap (λ t. t && list_all visible (take (position_or_len hidden xs) xs)) e ∙ behind
    by false e behind = refl

position_stops : (xs : List ℕ) → position_or_len hidden xs < length xs → hidden (get_or xs (position_or_len hidden xs) 0) ≡ true
position_stops xs l = not-false _ (prefix_len_stops (λ x. not (hidden x)) xs 0 l)

pub some_byte : (xs : List ℕ) → (length xs == 0) ≡ false → 0 < length xs
some_byte [] e = absurd (true≢false e)
some_byte (x ∷ xs) e = omega arith

-- a line of visible bytes
pub whole_line : (line : List ℕ) → position hidden line ≡ None → 0 < length line → (is_field line ≡ true) × (fields line ≡ line ∷ [])
whole_line line e some =
    let far : length line ≤ position_or_len hidden line =
    ltb-false (position_or_len hidden line) (length line) (not_found (nat_lt (position_or_len hidden line) (length line))
    (position_or_len hidden line) e) in
    let all : list_all visible line ≡ true = ap (list_all visible) (sym (take_all (position_or_len hidden line) line far)) ∙
    all_before line in
    (and_from _ _ (lt-ltb 0 (length line) some) all, only_field line all)

module _ (line : List ℕ) (end : ℕ) (is : position hidden line ≡ Some end) where
  place : (position_or_len hidden line < length line) × (position_or_len hidden line ≡ end)
  place = let at = guarded (nat_lt (position_or_len hidden line) (length line)) (position_or_len hidden line) end is in
      (ltb-true (position_or_len hidden line) (length line) at.0, at.1)

  front_visible : list_all visible (take end line) ≡ true
  front_visible = ap (λ n. list_all visible (take n line)) (sym place.1) ∙ all_before line

  cut : line ≡ take end line ++ (get_or line end 0 ∷ drop (end + 1) line)
  cut = split_at_first hidden line 0 place.0 ∙ ap (λ n. take n line ++ (get_or line n 0 ∷ drop (n + 1) line)) place.1

  stopped : hidden (get_or line end 0) ≡ true
  stopped = ap (λ n. hidden (get_or line n 0)) (sym place.1) ∙ position_stops line place.0

  -- a field, and what stands behind the space that ends it
  pub field_taken : 0 < end → get_or line end 0 ≡ 32 →
      (is_field (take end line) ≡ true) × (fields line ≡ take end line ∷ fields (drop (end + 1) line))
  field_taken some space =
      let long : length (take end line) ≡ end = length-take-le end line (omega (arith, place)) in (
        and_from _ _ (lt-ltb 0 (length (take end line)) (omega (arith, long))) front_visible,
        ap fields cut ∙ ap (λ b. fields (take end line ++ (b ∷ drop (end + 1) line))) space ∙
            first_field (take end line) (drop (end + 1) line) front_visible,
      )

  -- no byte before a space
  pub no_byte : end ≡ 0 → list_all is_field (fields line) ≡ false
  no_byte zeroth = by (get_or line end 0 == 32) refl
    where
      front : take end line ≡ []
      front = ap (λ n. take n line) zeroth

      by : (t : Bool) → (get_or line end 0 == 32) ≡ t → list_all is_field (fields line) ≡ false
      by true e = ap (λ l. list_all is_field (fields l)) cut
          ∙ ap (λ b. list_all is_field (fields (take end line ++ (b ∷ drop (end + 1) line)))) (eqb-true (get_or line end 0) 32 e)
          ∙ ap (λ l. list_all is_field (fields (l ++ (32 ∷ drop (end + 1) line)))) front
      by false e = none_if_badly (fields line) (ap (λ l. begins_badly (fields l)) cut ∙
          bad_field (take end line) (get_or line end 0) (drop (end + 1) line) front_visible (not-true _ stopped) e)

  -- a byte that is no space
  pub bad_byte : (get_or line end 0 == 32) ≡ false → list_all is_field (fields line) ≡ false
  bad_byte e = none_if_badly (fields line) (ap (λ l. begins_badly (fields l)) cut ∙
      bad_field (take end line) (get_or line end 0) (drop (end + 1) line) front_visible (not-true _ stopped) e)
