-- Questions that stay at their places.
use Rattle.pua_since.proofs.Common.{◌≡◌, ◌<◌, ◌+◌, ℕ, List, [], ◌∷◌, ◌++◌, map, length, take, get_or, sym, ap, subst, ◌∙◌, Option, Some}
use Rattle.pua_since.proofs.Common.{None, Place, Asked, AreFactsAt, AreVeilsAt, IsRequestAt, IsVeilAt, IsFactAt, veil_told, Fact}
use Rattle.pua_since.proofs.Common.{IsKeptThrough, Bor, Action, Watch}
use Rattle.std.specs.List.{AllZip}
use Rattle.std.proofs.lemmas.List.{take_more, map-append}
use Rattle.std.proofs.lemmas.Slice.Zip.{all_zipped_more}
use Rattle.pua_since.specs.Watched.{IsTopicAt}
use Rattle.pua_since.specs.declared.watch.Question.TheVariants as asks

pub kept_all : (watches : List Watch) → IsKeptThrough watches watches
kept_all watches place process question lines stands = stands

pub kept_twice : (old mid new : List Watch) → IsKeptThrough old mid → IsKeptThrough mid new → IsKeptThrough old new
kept_twice old mid new first second place process question lines stands =
    second place process question lines (first place process question lines stands)

pub request_kept : (old new : List Watch) (place : ℕ) (ask : Asked) (lines : ℕ) → IsKeptThrough old new → IsRequestAt old place ask lines →
    IsRequestAt new place ask lines
request_kept old new place ask lines kept at =
    record { question = at.question; stands = kept place ask.process at.question lines at.stands; asks = at.asks }

pub veil_kept : (old new : List Watch) (place process : ℕ) (veil : Place) (lines : ℕ) → IsKeptThrough old new →
    IsVeilAt old place process veil lines → IsVeilAt new place process veil lines
veil_kept old new place process veil lines kept at =
    record { question = at.question; stands = kept place process at.question lines at.stands; asks = at.asks }

pub fact_kept : (old new : List Watch) (process lines : ℕ) (veil : Option Place) (place : Option ℕ) → IsKeptThrough old new →
    IsFactAt old process lines veil place → IsFactAt new process lines veil place
fact_kept old new process lines (Some veil) (Some place) kept at = veil_kept old new place process veil lines kept at
fact_kept old new process lines None None kept at = tt
fact_kept old new process lines (Some veil) None kept at = at
fact_kept old new process lines None (Some place) kept at = at

-- one more of each
pub zipped_more : {A B C : Type 0} (R : B → C → Type 0) (f : A → B) (xs : List A) (ys zs : List C) (k : ℕ) (x : A) (y : C) → k < length xs →
    x ≡ get_or xs k x → zs ≡ ys ++ y ∷ []
    → AllZip R (map f (take k xs)) ys → R (f x) y → AllZip R (map f (take (k + 1) xs)) zs
zipped_more R f xs ys zs k x y less is pushed so holds =
    let more : map f (take (k + 1) xs) ≡ map f (take k xs) ++ f x ∷ [] =
    ap (map f) (take_more xs k x less) ∙ map-append f (take k xs) (get_or xs k x ∷ []) ∙ ap (λ z. map f (take k xs) ++ f z ∷ []) (sym is) in
    subst (AllZip R (map f (take (k + 1) xs))) (sym pushed)
    (subst (λ bs. AllZip R bs (ys ++ y ∷ [])) (sym more) (all_zipped_more R (map f (take k xs)) ys (f x) y so holds))

pub facts_kept : (old new : List Watch) (process lines : ℕ) → IsKeptThrough old new → (facts : List Fact) (places : List (Option ℕ)) →
    AreFactsAt old process lines facts places → AreFactsAt new process lines facts places
facts_kept old new process lines kept [] [] at = tt
facts_kept old new process lines kept [] (place ∷ places) at = at
facts_kept old new process lines kept (fact ∷ facts) [] at = at
facts_kept old new process lines kept (fact ∷ facts) (place ∷ places) at =
    (fact_kept old new process lines (veil_told fact) place kept at.0, facts_kept old new process lines kept facts places at.1)

pub veils_kept : (old new : List Watch) (lines : ℕ) → IsKeptThrough old new → (veils : List (ℕ × Place)) (places : List ℕ) →
    AreVeilsAt old lines veils places → AreVeilsAt new lines veils places
veils_kept old new lines kept [] [] at = tt
veils_kept old new lines kept [] (place ∷ places) at = at
veils_kept old new lines kept (veil ∷ veils) [] at = at
veils_kept old new lines kept (veil ∷ veils) (place ∷ places) at = (
  veil_kept old new place veil.0 veil.1 lines kept at.0,
  veils_kept old new lines kept veils places at.1,
)

-- the question of a request, by its own process and action
pub asked_at : (watches : List Watch) (place process : ℕ) (action : Bor Action) (ask : Asked) (lines : ℕ) → process ≡ ask.process →
    action.now ≡ ask.action → IsTopicAt watches place process (asks.Request action) lines → IsRequestAt watches place ask lines
asked_at watches place process action ask lines by_it is stands = record {
  question = asks.Request action;
  stands = record {
    watch = stands.watch;
    stands = stands.stands;
    about = stands.about ∙ by_it;
    asks = stands.asks;
    wanted = stands.wanted;
  };
  asks = ap Some is;
}
