-- The reach, cut by places.
use Rattle.pua_audit.proofs.Common.{ℕ, zero, suc, ◌≡◌, List, [], ◌∷◌, ◌++◌, Option, Some, None, Bool, refl, ap, sym, ◌∙◌}
use Rattle.pua_audit.proofs.Common.{map, map-append, flat_map-append, flat_map, filter, WordEnd, Start, Below, Judge, calls, Call}
use Rattle.pua_audit.proofs.Common.{JudgeState, Word, Pair, words, pairs, reach_along, allowed_at}
use Rattle.std.proofs.lemmas.List.Elements.{filter-append}
use Rattle.pua_audit.specs.Judge.{if_some, is_allowed_along}
use Rattle.pua_steps.proofs.ForCallers.{filter-map, filter-none}

-- lists

pub flat_map-cong : {A B : Type 0} (f g : A → List B) → ((x : A) → f x ≡ g x) → (xs : List A) → flat_map f xs ≡ flat_map g xs
flat_map-cong f g same xs = λ i. flat_map (λ x. same x i) xs

flat_map-nil : {A B : Type 0} (xs : List A) → flat_map {A = B} (λ _. []) xs ≡ []
flat_map-nil [] = refl
flat_map-nil (x ∷ xs) = flat_map-nil xs

pub flat_map-flat_map : {A B C : Type 0} (f : B → List C) (g : A → List B) (xs : List A) →
    flat_map f (flat_map g xs) ≡ flat_map (λ x. flat_map f (g x)) xs
flat_map-flat_map f g [] = refl
flat_map-flat_map f g (x ∷ xs) = flat_map-append f (g x) (flat_map g xs) ∙ ap (λ ys. flat_map f (g x) ++ ys) (flat_map-flat_map f g xs)

pub filter-flat_map : {A B : Type 0} (test : B → Bool) (g : A → List B) (xs : List A) →
    filter test (flat_map g xs) ≡ flat_map (λ x. filter test (g x)) xs
filter-flat_map test g [] = refl
filter-flat_map test g (x ∷ xs) = filter-append test (g x) (flat_map g xs) ∙ ap (λ ys. filter test (g x) ++ ys) (filter-flat_map test g xs)

-- pairs behind a letter

abbrev pub longer : List ℕ → Pair → Pair
longer a p = (a ∷ p.0, p.1)

unfoldable pub cons : List ℕ → List Pair → List Pair
cons a ps = map (longer a) ps

unfoldable pub alone : List Call → List Pair
alone cs = map (λ (c : Call). ([], c)) cs

pub cons-nil : (a : List ℕ) → cons a [] ≡ []
unfolding cons
cons-nil a = refl

pub filter-cons : (test : Pair → Bool) (a : List ℕ) (ps : List Pair) → filter test (cons a ps) ≡ cons a (filter (λ p. test (longer a p)) ps)
unfolding cons
filter-cons test a ps = filter-map test (longer a) ps

pub filter-alone : (test : Pair → Bool) (cs : List Call) → filter test (alone cs) ≡ alone (filter (λ c. test ([], c)) cs)
unfolding alone
filter-alone test cs = filter-map test (λ c. ([], c)) cs

-- the pairs, letter by letter

abbrev word_calls : Word → List Pair
word_calls word = map (λ (call : Call). (word, call)) calls

word_calls_behind : (a : List ℕ) (word : Word) (cs : List Call) →
    map (λ (call : Call). (a ∷ word, call)) cs ≡ map (longer a) (map (λ (call : Call). (word, call)) cs)
word_calls_behind a word [] = refl
word_calls_behind a word (c ∷ cs) = ap (λ ps. (a ∷ word, c) ∷ ps) (word_calls_behind a word cs)

pairs_behind : (a : List ℕ) (ws : List Word) → flat_map word_calls (map (λ word. a ∷ word) ws) ≡ cons a (flat_map word_calls ws)
unfolding cons
pairs_behind a [] = refl
pairs_behind a (word ∷ ws) =
    ap (λ ps. ps ++ flat_map word_calls (map (λ v. a ∷ v) ws)) (word_calls_behind a word calls)
    ∙ ap (λ ps. map (longer a) (word_calls word) ++ ps) (pairs_behind a ws)
    ∙ sym (map-append (longer a) (word_calls word) (flat_map word_calls ws))

pairs_more : (letters : List (List ℕ)) (l : ℕ) → pairs letters (suc l) ≡ alone calls ++ flat_map (λ a. cons a (pairs letters l)) letters
unfolding alone
pairs_more letters l =
    ap (λ ps. word_calls [] ++ ps) (flat_map-flat_map word_calls (λ a. map (λ word. a ∷ word) (words letters l)) letters
    ∙ flat_map-cong (λ a. flat_map word_calls (map (λ word. a ∷ word) (words letters l))) (λ a. cons a (pairs letters l))
    (λ a. pairs_behind a (words letters l)) letters)

pairs_end : (letters : List (List ℕ)) → pairs letters zero ≡ alone calls ++ []
unfolding alone
pairs_end letters = refl

-- the lines at a place, and those that go on from it by at most l letters

abbrev pub here : Judge → WordEnd → List Pair
here w x = alone (allowed_at w x)

abbrev pub from_state : Option JudgeState → (JudgeState → List Pair) → List Pair
from_state None go = []
from_state (Some s) go = go s

unfoldable pub below : Judge → List (List ℕ) → ℕ → WordEnd → List Pair
below w letters zero x = []
below w letters (suc l) x =
    from_state (w.step x) (λ s. flat_map (λ a. cons a (here w (Below s a) ++ below w letters l (Below s a))) letters)

unfoldable pub rows : Judge → List (List ℕ) → ℕ → JudgeState → List (List ℕ) → List Pair
rows w letters l s some = flat_map (λ a. cons a (here w (Below s a) ++ below w letters l (Below s a))) some

module _ (w : Judge) (letters : List (List ℕ)) where
  pub below_some : (l : ℕ) (s : JudgeState) (x : WordEnd) → w.step x ≡ Some s → below w letters (suc l) x ≡ rows w letters l s letters
  unfolding below rows
  below_some l s x step = rw step refl

  pub below_none : (l : ℕ) (x : WordEnd) → w.step x ≡ None → below w letters l x ≡ []
  unfolding below
  below_none zero x step = refl
  below_none (suc l) x step = rw step refl

  pub below_end : (x : WordEnd) → below w letters zero x ≡ []
  unfolding below
  below_end x = refl

  abbrev IsFiltered : ℕ → WordEnd → Type 0
  IsFiltered l x = filter (λ p. is_allowed_along w x p.0 p.1) (pairs letters l) ≡ here w x ++ below w letters l x

  behind_filtered : (l : ℕ) → ((x : WordEnd) → IsFiltered l x) → (r : Option JudgeState)
      → flat_map (λ a. cons a (filter (λ p. if_some r (λ s. is_allowed_along w (Below s a) p.0 p.1)) (pairs letters l))) letters
      ≡ from_state r (λ s. flat_map (λ a. cons a (here w (Below s a) ++ below w letters l (Below s a))) letters)
  behind_filtered l each None = flat_map-cong _ (λ _. []) (λ a. ap (cons a) (filter-none (pairs letters l)) ∙ cons-nil a) letters ∙
      flat_map-nil letters
  behind_filtered l each (Some s) =
      flat_map-cong _ (λ a. cons a (here w (Below s a) ++ below w letters l (Below s a))) (λ a. ap (cons a) (each (Below s a))) letters

  -- filtering all pairs gives the lines at the place and those behind it
  pub filtered : (l : ℕ) (x : WordEnd) → IsFiltered l x
  unfolding below allowed_at
  filtered zero x = ap (filter (λ p. is_allowed_along w x p.0 p.1)) (pairs_end letters) ∙
      filter-append (λ p. is_allowed_along w x p.0 p.1) (alone calls) [] ∙
      ap (λ ps. ps ++ []) (filter-alone (λ p. is_allowed_along w x p.0 p.1) calls)
  filtered (suc l) x =
      let test : Pair → Bool = λ p. is_allowed_along w x p.0 p.1 in
      ap (filter test) (pairs_more letters l)
      ∙ filter-append test (alone calls) (flat_map (λ a. cons a (pairs letters l)) letters)
      ∙ ap (λ ps. ps ++ filter test (flat_map (λ a. cons a (pairs letters l)) letters)) (filter-alone test calls)
      ∙ ap (λ ps. here w x ++ ps) (filter-flat_map test (λ a. cons a (pairs letters l)) letters
      ∙ flat_map-cong _ (λ a. cons a (filter (λ p. test (longer a p)) (pairs letters l))) (λ a. filter-cons test a (pairs letters l))
      letters
      ∙ behind_filtered l (filtered l) (w.step x))

pub reach_is : (w : Judge) (letters : List (List ℕ)) (limit : ℕ) → reach_along w letters limit ≡ here w Start ++ below w letters limit Start
reach_is w letters limit = filtered w letters limit Start
