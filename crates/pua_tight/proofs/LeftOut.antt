-- The lines of requests, one after another.
use Rattle.std.proofs.Common.{◌≡◌, ℕ, zero, suc, List, [], ◌∷◌, ◌++◌, ◌+◌, ◌<◌, ◌≤◌, ◌∙◌, refl, sym, ap, map, length, take, get_or, arith, append_assoc, inl, inr, ◌⊎◌, subst}
use Rattle.std.proofs.Math.Seq.{take-suc}
use Rattle.std.proofs.lemmas.List.{length-map, take_all}
use Rattle.std.specs.List.{join_with_byte}
use Rattle.std.specs.Prelude.{Some, None, slice_get}
use Rattle.pua_tree.proofs.ForCallers.{same_Some, None≢Some, Some≢None}
use Rattle.pua_calls.specs.declared.rules.Rules.{Rules}
use Rattle.pua_script.specs.Requests.{Asked}
use Rattle.pua_tight.specs.Texts.{ended_text, lines_text}
use Rattle.pua_tight.specs.Left.{nth_text}
use Rattle.pua_tight.proofs.KeptWords.{joined_more}

pub nth_past : (rules : Rules) (asks : List Asked) (place : ℕ) (line : List ℕ) → slice_get asks place ≡ None → nth_text rules asks place line ≡ line
nth_past rules [] place line e = refl
nth_past rules (ask ∷ asks) zero line e = absurd (Some≢None ask e)
nth_past rules (ask ∷ asks) (suc place) line e = nth_past rules asks place line e

pub nth_plain : (rules : Rules) (asks : List Asked) (place : ℕ) (line : List ℕ) (ask : Asked) → slice_get asks place ≡ Some ask →
    nth_text rules asks place line ≡ ended_text rules ask.action line
nth_plain rules [] place line ask e = absurd (None≢Some ask e)
nth_plain rules (other ∷ asks) zero line ask e = ap (λ a. ended_text rules a.action line) (same_Some other ask e)
nth_plain rules (other ∷ asks) (suc place) line ask e = nth_plain rules asks place line ask e

-- the line at a place among all
pub text_at : (rules : Rules) (asks : List Asked) (lines : List (List ℕ)) (place : ℕ) → place < length lines →
    get_or (lines_text rules asks lines) place [] ≡ nth_text rules asks place (get_or lines place [])
text_at rules asks [] place less = absurd (omega (arith, less))
text_at rules [] (line ∷ lines) place less = refl
text_at rules (ask ∷ asks) (line ∷ lines) zero less = refl
text_at rules (ask ∷ asks) (line ∷ lines) (suc place) less = text_at rules asks lines place (omega (arith, less))

pub as_many_texts : (rules : Rules) (asks : List Asked) (lines : List (List ℕ)) → length (lines_text rules asks lines) ≡ length lines
as_many_texts rules asks [] = no_lines asks
  where
    no_lines : (asks : List Asked) → length (lines_text rules asks []) ≡ 0
    no_lines [] = refl
    no_lines (ask ∷ asks) = refl
as_many_texts rules [] (line ∷ lines) = refl
as_many_texts rules (ask ∷ asks) (line ∷ lines) = ap suc (as_many_texts rules asks lines)

-- the text so far, with a byte before each line but the first
abbrev pub before_next : ℕ → ℕ → List ℕ → List ℕ
before_next c zero text = text
before_next c (suc place) text = text ++ c ∷ []

pub text_next : (c place : ℕ) (texts : List (List ℕ)) → place < length texts →
    before_next c place (join_with_byte c (take place texts)) ++ get_or texts place [] ≡ join_with_byte c (take (place + 1) texts)
text_next c place [] less = absurd (omega (arith, less))
text_next c zero (w ∷ texts) less = refl
text_next c (suc place) (w ∷ texts) less =
    let last : suc (suc place) ≡ suc place + 1 = omega arith in
    append_assoc (join_with_byte c (w ∷ take place texts)) (c ∷ []) (get_or texts place [])
    ∙ sym (joined_more c w (take place texts) (get_or texts place []))
    ∙ ap (λ l. join_with_byte c (w ∷ l)) (sym (take-suc texts place [] (omega (arith, less))))
    ∙ ap (λ n. join_with_byte c (take n (w ∷ texts))) last

nth_mapped : {X : Type 0} (f : X → List ℕ) (items : List X) (place : ℕ) (d : X) → place < length items →
    get_or (map f items) place [] ≡ f (get_or items place d)
nth_mapped f [] place d less = absurd (omega (arith, less))
nth_mapped f (x ∷ items) zero d less = refl
nth_mapped f (x ∷ items) (suc place) d less = nth_mapped f items place d (omega (arith, less))

module _ {X : Type 0} (f : X → List ℕ) (items : List X) (rules : Rules) (asks : List Asked) (place : ℕ) where
  pub text_step : (d : X) (old mid line new : List ℕ) → place < length items →
      old ≡ join_with_byte 10 (take place (lines_text rules asks (map f items))) →
      ((0 < place) × (mid ≡ old ++ 10 ∷ [])) ⊎ ((place ≤ 0) × (mid ≡ old)) → line ≡ nth_text rules asks place (f (get_or items place d)) →
      new ≡ mid ++ line → new ≡ join_with_byte 10 (take (place + 1) (lines_text rules asks (map f items)))
  text_step d old mid line new less was either at is =
      is ∙ (λ j. (before place either j) ++ (at j))
      ∙ (λ j. before_next 10 place (was j) ++ nth_text rules asks place (sym (nth_mapped f items place d less) j))
      ∙ ap (λ l. before_next 10 place (join_with_byte 10 (take place (lines_text rules asks (map f items)))) ++ l)
      (sym (text_at rules asks (map f items) place (subst (λ n. place < n) (sym (length-map items f)) less)))
      ∙ text_next 10 place (lines_text rules asks (map f items))
      (subst (λ n. place < n) (sym (as_many_texts rules asks (map f items) ∙ length-map items f)) less)
    where
      before : (place : ℕ) → ((0 < place) × (mid ≡ old ++ 10 ∷ [])) ⊎ ((place ≤ 0) × (mid ≡ old)) → mid ≡ before_next 10 place old
      before zero (inl some) = absurd (omega (arith, some.0))
      before (suc n) (inl some) = some.1
      before zero (inr none) = none.1
      before (suc n) (inr none) = absurd (omega (arith, none.0))

  pub text_done : length items ≤ place →
      join_with_byte 10 (take place (lines_text rules asks (map f items))) ≡ join_with_byte 10 (lines_text rules asks (map f items))
  text_done past = ap (join_with_byte 10) (take_all place (lines_text rules asks (map f items))
      (omega (arith, past, as_many_texts rules asks (map f items), length-map items f)))
