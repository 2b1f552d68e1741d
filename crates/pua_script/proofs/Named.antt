-- The names of a text, compared piece by piece with those of a path.
use Rattle.pua_script.proofs.Common.{◌≡◌, ℕ, suc, Bool, true, false, cond, ◌&&◌, ◌+◌, ◌++◌, List, [], ◌∷◌, length, take, refl, sym, ap, ◌∙◌, arith}
use Rattle.pua_script.proofs.Common.{◌==◌, nat_lt, ◌≤◌, ◌<◌}
use Rattle.std.proofs.Common.{drop, get_or, reverse}
use Rattle.std.specs.Prelude.{slice_get, ◌-◌}
use Rattle.std.proofs.lemmas.List.{at_drop_more, at_drop_all, reverse-append}
use lib.Dec.{eqb-suc-zero, leb-suc-suc}
use lib.Pointwise.{pointwise}
use Rattle.pua_tree.specs.Names.{same_bytes}
use Rattle.pua_script.specs.Canonical.{adds_none, kept_with, kept_names}
use Rattle.pua_script.specs.Openings.{are_names}
use Rattle.pua_script.specs.Beside.{at_root, beside, beside_with, down, has_come, is_same, up}
use Rattle.pua_script.specs.declared.canonical.Beside.{Beside}

abbrev at : ℕ → ℕ → Beside
at come beyond = record { come = come; beyond = beyond }

less : (n : ℕ) → suc n - 1 ≡ n
less n = omega arith

-- up from a name further down is where it began
back : (come beyond : ℕ) → up (at come (suc beyond)) ≡ at come beyond
back come beyond =
    ap (λ b. cond b (at (come - 1) (suc beyond)) (at come (suc beyond - 1))) (eqb-suc-zero beyond) ∙ ap (λ n. at come n) (less beyond)

up_down : (names : List (List ℕ)) (a : Beside) (piece : List ℕ) → up (down names a piece) ≡ a
up_down names a piece = by (a.beyond == 0) refl (is_same (slice_get names a.come) piece)
  where
    by : (z : Bool) → (a.beyond == 0) ≡ z → (same : Bool) → up (cond (z && same) (at (suc a.come) a.beyond) (at a.come (suc a.beyond))) ≡ a
    by true e true = ap (λ b. cond b (at (suc a.come - 1) a.beyond) (at (suc a.come) (a.beyond - 1))) e ∙ ap (λ n. at n a.beyond) (less a.come)
    by true e false = back a.come a.beyond
    by false e same = back a.come a.beyond

-- where the names that are kept lie, the last one first
abbrev lies : List (List ℕ) → List (List ℕ) → Beside
lies names [] = at_root
lies names (name ∷ kept) = down names (lies names kept) name

by_piece : (names kept : List (List ℕ)) (piece : List ℕ) → beside_with names (lies names kept) piece ≡ lies names (kept_with kept piece)
by_piece names kept piece = by (adds_none piece) (same_bytes piece (46 ∷ 46 ∷ []))
  where
    above : (kept : List (List ℕ)) → up (lies names kept) ≡ lies names (drop 1 kept)
    above [] = refl
    above (name ∷ kept) = up_down names (lies names kept) name

    by : (a b : Bool) → cond a (lies names kept) (cond b (up (lies names kept)) (down names (lies names kept) piece)) ≡
        lies names (cond a kept (cond b (drop 1 kept) (piece ∷ kept)))
    by true b = refl
    by false true = above kept
    by false false = refl

by_pieces : (names kept pieces : List (List ℕ)) → beside names (lies names kept) pieces ≡ lies names (kept_names kept pieces)
by_pieces names kept [] = refl
by_pieces names kept (piece ∷ pieces) =
    ap (λ a. beside names a pieces) (by_piece names kept piece) ∙ by_pieces names (kept_with kept piece) pieces

-- the same in the order of the names
abbrev further : Beside → Beside
further a = at (suc a.come) a.beyond

abbrev along : List (List ℕ) → List (List ℕ) → Beside
along names [] = at_root
along [] (piece ∷ text) = at 0 (suc (length text))
along (name ∷ names) (piece ∷ text) = cond (same_bytes name piece) (further (along names text)) (at 0 (suc (length text)))

longer : (text : List (List ℕ)) (piece : List ℕ) → length (text ++ piece ∷ []) ≡ suc (length text)
longer [] piece = refl
longer (first ∷ text) piece = ap suc (longer text piece)

-- another name further down
deeper : (names : List (List ℕ)) (come beyond : ℕ) (piece : List ℕ) → down names (at come (suc beyond)) piece ≡ at come (suc (suc beyond))
deeper names come beyond piece =
    ap (λ b. cond (b && is_same (slice_get names come) piece) (at (suc come) (suc beyond)) (at come (suc (suc beyond)))) (eqb-suc-zero beyond)

along_more : (names text : List (List ℕ)) (piece : List ℕ) → along names (text ++ piece ∷ []) ≡ down names (along names text) piece
along_more [] [] piece = refl
along_more [] (first ∷ text) piece = ap (λ n. at 0 (suc n)) (longer text piece) ∙ sym (deeper [] 0 (length text) piece)
along_more (name ∷ names) [] piece = refl
along_more (name ∷ names) (first ∷ text) piece = by (same_bytes name first) (along_more names text piece)
  where
    shifted : (a : Beside) (same : Bool) → further (cond same (at (suc a.come) a.beyond) (at a.come (suc a.beyond)))
        ≡ cond same (at (suc (suc a.come)) a.beyond) (at (suc a.come) (suc a.beyond))
    shifted a true = refl
    shifted a false = refl

    by : (same : Bool) → along names (text ++ piece ∷ []) ≡ down names (along names text) piece →
        cond same (further (along names (text ++ piece ∷ []))) (at 0 (suc (length (text ++ piece ∷ [])))) ≡
        down (name ∷ names) (cond same (further (along names text)) (at 0 (suc (length text)))) piece
    by true more = ap further more
        ∙ shifted (along names text) (((along names text).beyond == 0) && is_same (slice_get names (along names text).come) piece)
    by false more = ap (λ n. at 0 (suc n)) (longer text piece) ∙ sym (deeper (name ∷ names) 0 (length text) piece)

lies_along : (names kept : List (List ℕ)) → lies names kept ≡ along names (reverse kept)
lies_along names [] = refl
lies_along names (name ∷ kept) =
    ap (λ a. down names a name) (lies_along names kept) ∙ sym (along_more names (reverse kept) name)
    ∙ ap (along names) (sym (reverse-append (name ∷ []) kept))

comes : (below : Bool) (names text : List (List ℕ)) → has_come below names (along names text) ≡ are_names below names text
comes false [] [] = refl
comes false [] (piece ∷ text) = eqb-suc-zero (length text)
comes false (name ∷ names) [] = refl
comes false (name ∷ names) (piece ∷ text) = by (same_bytes name piece) (comes false names text)
  where
    by : (same : Bool) → has_come false names (along names text) ≡ are_names false names text →
        has_come false (name ∷ names) (cond same (further (along names text)) (at 0 (suc (length text)))) ≡
        (same && pointwise same_bytes names text)
    by true rest = rest
    by false rest = refl
comes true [] [] = refl
comes true [] (piece ∷ text) = refl
comes true (name ∷ names) [] = refl
comes true (name ∷ names) (piece ∷ text) = by (same_bytes name piece) (comes true names text)
  where
    by : (same : Bool) → has_come true names (along names text) ≡ are_names true names text →
        has_come true (name ∷ names) (cond same (further (along names text)) (at 0 (suc (length text)))) ≡
        ((same && pointwise same_bytes names (take (length names) text)) && nat_lt (suc (length names)) (suc (length text)))
    by true rest = rest
        ∙ ap (λ b. pointwise same_bytes names (take (length names) text) && b) (sym (leb-suc-suc (suc (length names)) (length text)))
    by false rest = refl

pub has_names : (below : Bool) (names pieces : List (List ℕ)) →
    has_come below names (beside names at_root pieces) ≡ are_names below names (reverse (kept_names [] pieces))
has_names below names pieces =
    ap (has_come below names) (by_pieces names [] pieces ∙ lies_along names (kept_names [] pieces))
    ∙ comes below names (reverse (kept_names [] pieces))

-- one piece after another
module _ (names pieces : List (List ℕ)) (a : Beside) (done : ℕ) where
  pub next : (piece : List ℕ) → (done < length pieces) × (piece ≡ get_or pieces done piece) →
      beside names a (drop done pieces) ≡ beside names (beside_with names a piece) (drop (done + 1) pieces)
  next piece here = at_drop_more (λ rest. beside names a rest) pieces done piece here.0
      ∙ ap (λ x. beside names a (x ∷ drop (done + 1) pieces)) (sym here.1)

  pub none_left : length pieces ≤ done → beside names a (drop done pieces) ≡ a
  none_left e = at_drop_all (λ rest. beside names a rest) pieces done e
