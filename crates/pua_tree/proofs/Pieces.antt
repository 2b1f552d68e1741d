-- The pieces of a text between separators.
use Rattle.pua_tree.proofs.Common.{◌≡◌, ◌≤◌, ◌&&◌, ◌==◌, ℕ, ◌+◌, Bool, true, false, List, [], ◌∷◌, length, Some, None, refl, ap, ◌∙◌, arith}
use Rattle.pua_tree.proofs.Common.{cond, not, suc, nat_lt, nat_le, take, drop, sym, list_all, slice_split, onto_first, and_from, cond-true}
use Rattle.pua_tree.proofs.Common.{le-leb, lt-ltb, ltb-true, ltb-false}
use Rattle.std.specs.List.{filter, position, position_or_len}
use Rattle.std.proofs.lemmas.List.Splits.{slice_split_first}
use Rattle.pua_tree.specs.Names.{has_short_components}
use Rattle.pua_tree.proofs.Base.{guarded}

abbrev pub is_short : List ℕ → Bool
is_short piece = nat_le (length piece) 255

abbrev pub has_a_byte : List ℕ → Bool
has_a_byte piece = nat_lt 0 (length piece)

-- empty pieces are short
short_pieces : (pieces : List (List ℕ)) → list_all is_short (filter has_a_byte pieces) ≡ list_all is_short pieces
short_pieces [] = refl
short_pieces ([] ∷ pieces) = short_pieces pieces
short_pieces ((x ∷ xs) ∷ pieces) =
    let some : has_a_byte (x ∷ xs) ≡ true = lt-ltb 0 (length (x ∷ xs)) (omega arith) in
    ap (list_all is_short) (cond-true (has_a_byte (x ∷ xs)) ((x ∷ xs) ∷ filter has_a_byte pieces) (filter has_a_byte pieces) some)
    ∙ ap (λ b. is_short (x ∷ xs) && b) (short_pieces pieces)

pub has_short_components-pieces : (text : List ℕ) → has_short_components text ≡ list_all is_short (slice_split (λ b. b == 47) text)
has_short_components-pieces text = short_pieces (slice_split (λ b. b == 47) text)

pub not_found : (test : Bool) (at : ℕ) → cond test (Some at) None ≡ None → test ≡ false
not_found true at e = cc
not_found false at e = refl

module _ (p : ℕ → Bool) where
  -- a first separator ends the first piece
  pub slice_split-Some : (xs : List ℕ) (end : ℕ) → position p xs ≡ Some end →
      slice_split p xs ≡ take end xs ∷ slice_split p (drop (end + 1) xs)
  slice_split-Some xs end e =
      let at = guarded (nat_lt (position_or_len p xs) (length xs)) (position_or_len p xs) end e in
      slice_split_first p xs 0 (ltb-true (position_or_len p xs) (length xs) at.0) ∙
      ap (λ n. take n xs ∷ slice_split p (drop (n + 1) xs)) at.1

  behind_first : (test : Bool) (x : ℕ) (xs : List ℕ) (far : ℕ) → suc (length xs) ≤ cond (not test) (1 + far) 0 →
      (length xs ≤ far → slice_split p xs ≡ xs ∷ [])
      → cond test ([] ∷ slice_split p xs) (onto_first x (slice_split p xs)) ≡ (x ∷ xs) ∷ []
  behind_first true x xs far le behind = absurd (omega arith)
  behind_first false x xs far le behind = ap (onto_first x) (behind (omega arith))

  -- with no separator the list is the one piece
  one_piece : (xs : List ℕ) → length xs ≤ position_or_len p xs → slice_split p xs ≡ xs ∷ []
  one_piece [] far = refl
  one_piece (x ∷ xs) far = behind_first (p x) x xs (position_or_len p xs) far (one_piece xs)

  pub slice_split-None : (xs : List ℕ) → position p xs ≡ None → slice_split p xs ≡ xs ∷ []
  slice_split-None xs e =
      one_piece xs (ltb-false (position_or_len p xs) (length xs) (not_found (nat_lt (position_or_len p xs) (length xs))
      (position_or_len p xs) e))

-- the first piece leaves room for so many bytes more, and the others fit
abbrev fits : ℕ → ℕ → List (List ℕ) → Bool
fits more most [] = true
fits more most (piece ∷ pieces) = nat_le (length piece + more) most && list_all (λ other. nat_le (length other) most) pieces

all_fit : (most : ℕ) (pieces : List (List ℕ)) → fits 0 most pieces ≡ true → list_all (λ piece. nat_le (length piece) most) pieces ≡ true
all_fit most [] h = refl
all_fit most (piece ∷ pieces) h = let same : length piece + 0 ≡ length piece = omega arith in
    ap (λ n. nat_le n most && list_all (λ other. nat_le (length other) most) pieces) (sym same) ∙ h

longer : (more most x : ℕ) (pieces : List (List ℕ)) → 1 + more ≤ most → fits (more + 1) most pieces ≡ true →
    fits more most (onto_first x pieces) ≡ true
longer more most x [] room h = and_from _ _ (le-leb (1 + more) most room) refl
longer more most x (piece ∷ pieces) room h =
    let same : suc (length piece) + more ≡ length piece + (more + 1) = omega arith in
    ap (λ n. nat_le n most && list_all (λ other. nat_le (length other) most) pieces) same ∙ h

module _ (p : ℕ → Bool) where
  -- no piece is longer than the list
  pieces_fit : (most more : ℕ) (xs : List ℕ) → length xs + more ≤ most → fits more most (slice_split p xs) ≡ true
  pieces_fit most more [] room = and_from _ _ (le-leb (0 + more) most room) refl
  pieces_fit most more (x ∷ xs) room = by (p x) (pieces_fit most 0 xs (omega arith)) (pieces_fit most (more + 1) xs (omega arith))
    where
      by : (test : Bool) → fits 0 most (slice_split p xs) ≡ true → fits (more + 1) most (slice_split p xs) ≡ true →
          fits more most (cond test ([] ∷ slice_split p xs) (onto_first x (slice_split p xs))) ≡ true
      by true first further = and_from _ _ (le-leb (0 + more) most (omega arith)) (all_fit most (slice_split p xs) first)
      by false first further = longer more most x (slice_split p xs) (omega arith) further

-- a text that is no longer than a name has no long component
pub short_text : (text : List ℕ) → length text ≤ 255 → true ≡ has_short_components text
short_text text short =
    sym (has_short_components-pieces text ∙
    all_fit 255 (slice_split (λ b. b == 47) text) (pieces_fit (λ b. b == 47) 255 0 text (omega arith)))
