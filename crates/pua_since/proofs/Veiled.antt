-- What is kept at a place is since when a veil has its letters, or a request its reason.
use Rattle.pua_since.proofs.Common.{◌≡◌, ℕ, List, [], ◌∷◌, length, map, refl, sym, ap, subst, ◌∙◌, Option, Some, None, ◌==◌, slice_get}
use Rattle.pua_since.proofs.Common.{option_eq, option_map_or, Bor, slice_get_within, CallTable, ProcessState, perms_kept, Place, Asked, World}
use Rattle.pua_since.proofs.Common.{kept_at, world_after, reason, since, date_of, reason_since, AreVeilsAt, IsRequestAt, IsVeilAt}
use Rattle.pua_since.proofs.Common.{AreWatched, IsToldOf, IsWatched, is_told, kept_in, line_at, Question, Told, Watch, Watches}
use Rattle.std.proofs.Common.{All}
use Rattle.std.specs.Prelude.{unwrap_or}
use Rattle.std.proofs.lemmas.Option.{unwrap_or-slice_get}
use Rattle.pua_why.specs.Texts.{has_veil_on}
use Rattle.pua_since.specs.Dates.{action_asked, letters_date, place_asked, veil_date}
use Rattle.pua_since.specs.declared.watch.Question.TheVariants as asks
use Rattle.pua_since.specs.declared.watch.Told.TheVariants as tells
use Rattle.pua_since.proofs.Dated.{joined, same_since}

-- what is so of all is so of the one at a place
at_place : {A : Type 0} (P : A → Type 0) (xs : List A) (place : ℕ) (x : A) → All P xs → slice_get xs place ≡ Some x → P x
at_place P xs place x all stands =
    subst P (sym (unwrap_or-slice_get xs place x) ∙ ap (λ o. unwrap_or o x) stands) (all place x (slice_get_within xs place x stands))

-- letters are told where a veil has them
has_letters : (place : Place) (given : ℕ) (w : World) (process : ℕ) →
    option_eq ◌==◌ (kept_in w process place) (Some given) ≡ has_veil_on place given w process
has_letters place given w process = by (kept_at w process) refl
  where
    has : (h : ProcessState) → kept_at w process ≡ Some h → (o : Option ℕ) → perms_kept h place ≡ o →
        option_eq ◌==◌ (kept_in w process place) (Some given) ≡ has_veil_on place given w process
    has h made None e = rw (made, e) refl
    has h made (Some perms) e = rw (made, e) refl

    by : (o : Option ProcessState) → kept_at w process ≡ o →
        option_eq ◌==◌ (kept_in w process place) (Some given) ≡ has_veil_on place given w process
    by None e = rw e refl
    by (Some h) made = has h made (perms_kept h place) refl

letters_since : (table : CallTable) (w : World) (done : List Asked) (process : ℕ) (place : Bor Place) (perms : Option ℕ) →
    since (is_told table (asks.Veil place) (tells.Veil perms)) table w 1 done process ≡ letters_date table w done process place.now perms
letters_since table w done process place None = refl
letters_since table w done process place (Some given) =
    same_since (is_told table (asks.Veil place) (tells.Veil (Some given))) (has_veil_on place.now given) (has_letters place.now given) table
    w 1 done process

veil_line : (table : CallTable) (w : World) (done : List Asked) (process : ℕ) (veil : Place) (question : Question) (kept : Told) (asker : ℕ)
    (line : Option ℕ) → IsToldOf table (world_after table w done) asker question kept
    → place_asked question ≡ Some veil → asker ≡ process → line ≡ since (is_told table question kept) table w 1 done asker →
    line ≡ veil_date table w done (process, veil)
veil_line table w done process veil (asks.Veil place) (tells.Veil perms) asker line is asked same turned =
    let asks_it : place.now ≡ veil = cc in
    turned
    ∙ ap (since (is_told table (asks.Veil place) (tells.Veil perms)) table w 1 done) same
    ∙ letters_since table w done process place perms
    ∙ (λ i. letters_date table w done process (asks_it i) (is i))
    ∙ (λ i. letters_date table w done process veil (kept_in (world_after table w done) (same i) (asks_it i)))
veil_line table w done process veil (asks.Veil place) (tells.Reason key) asker line is asked same turned = absurd is
veil_line table w done process veil (asks.Request action) kept asker line is asked same turned = cc

module _ (table : CallTable) (w : World) (done left : List Asked) (s : Watches) (are : AreWatched table w done left s) where
  pub request_at : (place : ℕ) (ask : Asked) → IsRequestAt s.watches.items place ask (length done)
      → date_of (reason table (world_after table w done) ask) (line_at s.watches.items place) ≡ reason_since table w done ask
      (reason table (world_after table w done) ask)
  request_at place ask at =
      ap (λ o. date_of (reason table (world_after table w done) ask) (option_map_or (λ (watch : Watch). watch.line) o None))
      at.stands.stands
      ∙ joined table w done left at.stands.watch ask (at_place (IsWatched table w done left) s.watches.items place at.stands.watch are.each
      at.stands.stands) at.stands.about (ap action_asked at.stands.asks ∙ at.asks) at.stands.wanted

pub veil_at : (table : CallTable) (w : World) (done : List Asked) (s : Watches) → AreWatched table w done [] s →
    (place process : ℕ) (veil : Place) → IsVeilAt s.watches.items place process veil (length done)
    → line_at s.watches.items place ≡ veil_date table w done (process, veil)
veil_at table w done s are place process veil at =
    let watch : Watch = at.stands.watch in
    let watched : IsWatched table w done [] watch =
    at_place (IsWatched table w done []) s.watches.items place watch are.each at.stands.stands in
    ap (λ o. option_map_or (λ (watch : Watch). watch.line) o None) at.stands.stands
    ∙ veil_line table w done process veil watch.question watch.told watch.process watch.line (watched.told at.stands.wanted)
    (ap place_asked at.stands.asks ∙ at.asks) at.stands.about (watched.line at.stands.wanted)

pub veils_at : (table : CallTable) (w : World) (done : List Asked) (s : Watches) → AreWatched table w done [] s →
    (veils : List (ℕ × Place)) (places : List ℕ) → AreVeilsAt s.watches.items (length done) veils places
    → map (line_at s.watches.items) places ≡ map (veil_date table w done) veils
veils_at table w done s are [] [] at = refl
veils_at table w done s are [] (place ∷ places) at = absurd at
veils_at table w done s are (veil ∷ veils) [] at = absurd at
veils_at table w done s are (veil ∷ veils) (place ∷ places) at =
    (λ i. veil_at table w done s are place veil.0 veil.1 at.0 i ∷ veils_at table w done s are veils places at.1 i)
