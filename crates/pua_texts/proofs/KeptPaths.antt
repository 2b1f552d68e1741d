-- What of a path is kept from line to line.
use Rattle.pua_texts.proofs.Common.{◌≡◌, ◌<◌, ◌≤◌, ◌+◌, ◌∷◌, ◌++◌, [], ℕ, List, length, take, drop, get_or, refl, sym, ap, ◌∙◌}
use Rattle.pua_texts.proofs.Common.{append_assoc, append-nil, arith, take_more, spelling, Word, from_root, KeptPathState, IsKept}
use Rattle.std.proofs.Common.{◌⊎◌, inl, inr}
use Rattle.std.proofs.Common.{length-append}
use Rattle.std.proofs.lemmas.List.{length-take-le, take-append-drop, take_at, get_or-take, get_or_append_left, take-take}
use Rattle.std.proofs.Math.Seq.{get_or-append_seam}
use Rattle.std.proofs.lemmas.Bool.{cases_order}
use Rattle.pua_objects.proofs.ForCallers.{less_same}
use Rattle.pua_texts.specs.KeptPaths.{printed_front}
use Rattle.pua_texts.proofs.ObjectLines.{name_next}

abbrev printed : Word → List ℕ
printed word = spelling (from_root word)

-- names that are printed one after another
pub printed_append : (xs ys : Word) → printed (xs ++ ys) ≡ printed xs ++ printed ys
printed_append [] ys = refl
printed_append (x ∷ xs) ys =
    name_next x (xs ++ ys)
    ∙ ap (λ t. (47 ∷ spelling x) ++ t) (printed_append xs ys)
    ∙ sym (append_assoc (47 ∷ spelling x) (printed xs) (printed ys))
    ∙ ap (λ t. t ++ printed ys) (sym (name_next x xs))

pub printed_more : (word : Word) (n : ℕ) (name : List ℕ) → n < length word → name ≡ get_or word n [] →
    printed_front (n + 1) word ≡ printed_front n word ++ (47 ∷ spelling name)
printed_more word n name within is =
    ap printed (take_more word n [] within)
    ∙ printed_append (take n word) (get_or word n [] ∷ [])
    ∙ ap (λ t. printed_front n word ++ t) (name_next (get_or word n []) [] ∙ append-nil (47 ∷ spelling (get_or word n [])) ∙
    ap (λ s. 47 ∷ spelling s) (sym is))

-- nothing is kept of any path
pub nothing_kept : (word : Word) → IsKept word (record { text = []; starts = [] })
nothing_kept word = record { few = omega arith; text = refl; starts = λ i within. absurd (omega (arith, within)) }

-- no more is kept than both paths have
pub all_kept : (old new : Word) (count : ℕ) (path : KeptPathState) → IsKept old path → length path.starts ≤ count → count ≤ length new →
    take count old ≡ take count new → IsKept new path
all_kept old new count path kept few short same = record {
  few = omega (arith, few, short);
  text = kept.text ∙ ap printed (less_same (length path.starts) count old new few same);
  starts = λ i within. kept.starts i within ∙
      ap (λ names. length (printed names)) (less_same i count old new (omega (arith, within, few)) same);
}

pub cut_kept : (old new : Word) (count : ℕ) (path : KeptPathState) → IsKept old path → count < length path.starts → count ≤ length new →
    take count old ≡ take count new
    → IsKept new (record { text = take (get_or path.starts count 0) path.text; starts = take count path.starts })
cut_kept old new count path kept less short same =
    let long : length (take count path.starts) ≡ count = length-take-le count path.starts (omega (arith, less)) in
    let k = length path.starts in
    let rest = printed (drop count (take k old)) in
    let parts : path.text ≡ printed_front count old ++ rest =
    kept.text
    ∙ ap printed (sym (take-append-drop count (take k old)))
    ∙ printed_append (take count (take k old)) (drop count (take k old))
    ∙ ap (λ names. printed names ++ rest) (take-take count k old (omega (arith, less))) in
    record {
      few = omega (arith, long, short);
      text = ap (take (get_or path.starts count 0)) parts ∙
          take_at (printed_front count old) rest (get_or path.starts count 0) (sym (kept.starts count less)) ∙ ap printed same ∙
          ap (λ n. printed_front n new) (sym long);
      starts = λ i within.
          let low : i < count = omega (arith, within, long) in
          get_or-take count path.starts i 0 low ∙ kept.starts i (omega (arith, low, less)) ∙
          ap (λ names. length (printed names)) (less_same i count old new (omega (arith, low)) same);
    }

-- a further name is kept
pub push_kept : (word : Word) (path : KeptPathState) (name : List ℕ) → IsKept word path → length path.starts < length word →
    name ≡ get_or word (length path.starts) []
    → IsKept word (record { text = path.text ++ (47 ∷ spelling name); starts = path.starts ++ length path.text ∷ [] })
push_kept word path name kept within is =
    let k = length path.starts in
    let long : length (path.starts ++ length path.text ∷ []) ≡ k + 1 = omega (arith, length-append path.starts (length path.text ∷ [])) in
    record {
      few = omega (arith, long, within);
      text = ap (λ t. t ++ (47 ∷ spelling name)) kept.text ∙ sym (printed_more word k name within is) ∙
          ap (λ n. printed_front n word) (sym long);
      starts = λ i low. by_order i (cases_order i k) (omega (arith, low, long));
    }
  where
    by_order : (i : ℕ) → (i ≡ length path.starts) ⊎ ((i < length path.starts) ⊎ (length path.starts < i)) → i < length path.starts + 1
        → get_or (path.starts ++ length path.text ∷ []) i 0 ≡ length (printed_front i word)
    by_order i (inl same) low =
        ap (λ n. get_or (path.starts ++ length path.text ∷ []) n 0) same
        ∙ get_or-append_seam path.starts (length path.text) [] 0
        ∙ ap length kept.text
        ∙ ap (λ n. length (printed_front n word)) (sym same)
    by_order i (inr (inl less)) low = get_or_append_left path.starts (length path.text ∷ []) 0 i less ∙ kept.starts i less
    by_order i (inr (inr more)) low = absurd (omega (arith, more, low))

-- what is kept, and the rest
pub kept_parts : (word : Word) (path : KeptPathState) → IsKept word path →
    printed word ≡ path.text ++ printed (drop (length path.starts) word)
kept_parts word path kept =
    ap printed (sym (take-append-drop (length path.starts) word))
    ∙ printed_append (take (length path.starts) word) (drop (length path.starts) word)
    ∙ ap (λ t. t ++ printed (drop (length path.starts) word)) (sym kept.text)
