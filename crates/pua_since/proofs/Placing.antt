-- The places of the questions of requests, one request after another.
use Rattle.pua_since.proofs.Common.{◌≡◌, ◌≤◌, ◌+◌, ℕ, suc, List, [], ◌∷◌, Bool, true, false, length, take, refl, sym, ap, subst, ◌∙◌}
use Rattle.pua_since.proofs.Common.{Result, Ok, Err, inl, inr, ◌⊎◌, if◌then◌else◌, take_all, Asked, requests_of, Answer, Okay, Failed}
use Rattle.pua_since.proofs.Common.{Killed, Gone, ArePlacesOf, IsRequestAt, IsKeptThrough, Watch}
use Rattle.std.proofs.Common.{add-one}
use Rattle.std.specs.Prelude.{nat_lt}
use Rattle.std.specs.Str.Lines.{lines}
use Rattle.std.proofs.lemmas.Bool.{ltb-false}
use Rattle.pua_tree.specs.Steps.{◌>>=◌}
use Rattle.pua_script.specs.Limits.{most_script_lines}
use Rattle.pua_calls.specs.declared.rules.Rules.{Rules}
use Rattle.pua_script.specs.Scripts.{request_by, script_by}
use Rattle.pua_script.specs.declared.fault.ScriptFault.{ScriptFault}
use Rattle.pua_script.specs.declared.fault.ScriptFault.TheVariants.{TooMany}
use Rattle.pua_since.specs.Dates.{PlacesFrom}
use Rattle.pua_since.proofs.Keeping.{request_kept}

module _ (rules : Rules) where
  -- the requests of a script are those of all its lines
  limited : (limit : ℕ) (all : List (List ℕ)) (requests : List Asked) →
      (requests_of rules 1 (take limit all) >>= λ read. if nat_lt limit (length all) then Err TooMany else Ok read) ≡ Ok requests →
      requests_of rules 1 all ≡ Ok requests
  limited limit all requests = by (requests_of rules 1 (take limit all)) refl (nat_lt limit (length all)) refl
    where
      by : (r : Result (List Asked) ScriptFault) → requests_of rules 1 (take limit all) ≡ r → (b : Bool) → nat_lt limit (length all) ≡ b →
          (r >>= λ read. if b then Err TooMany else Ok read) ≡ Ok requests → requests_of rules 1 all ≡ Ok requests
      by (Err fault) read b many e = cc
      by (Ok found) read true many e = cc
      by (Ok found) read false many e =
          let few : length all ≤ limit = ltb-false limit (length all) many in
          sym (ap (requests_of rules 1) (take_all limit all few)) ∙ read ∙ e

  pub all_read : (bytes : List ℕ) (requests : List Asked) → script_by rules bytes ≡ Ok requests → requests_of rules 1 (lines bytes) ≡ Ok requests
  all_read bytes requests read = limited most_script_lines (lines bytes) requests read

  -- the first of them
  pub first_read : (n : ℕ) (line : List ℕ) (more : List (List ℕ)) (request : Asked) (requests : List Asked) →
      requests_of rules n (line ∷ more) ≡ Ok (request ∷ requests) → (request_by rules n line ≡ Ok request) × (requests_of rules (suc n) more ≡ Ok requests)
  first_read n line more request requests e = by (request_by rules n line) refl (requests_of rules (suc n) more) refl e
    where
      by : (r : Result Asked ScriptFault) → request_by rules n line ≡ r → (s : Result (List Asked) ScriptFault) → requests_of rules (suc n) more ≡ s →
          (r >>= λ asked. s >>= λ others. Ok (asked ∷ others)) ≡ Ok (request ∷ requests)
          → (request_by rules n line ≡ Ok request) × (requests_of rules (suc n) more ≡ Ok requests)
      by (Err fault) read s others e = cc
      by (Ok asked) read (Err fault) others e = cc
      by (Ok asked) read (Ok rest) others e =
          let same : asked ≡ request = cc in
          let same_rest : rest ≡ requests = cc in
          (read ∙ ap Ok same, others ∙ ap Ok same_rest)

  pub none_read : (n : ℕ) (requests : List Asked) → requests_of rules n [] ≡ Ok requests → requests ≡ []
  none_read n requests e = cc

-- a request that is answered `ok` has no place
pub passed : (watches : List Watch) (n m : ℕ) (request : Asked) (answer : Answer) (asks left : List Asked) (told told_left : List Answer)
    (places : List ℕ) → asks ≡ request ∷ left → told ≡ answer ∷ told_left → answer ≡ Okay → m ≡ n + 1
    → ArePlacesOf watches m left told_left places → ArePlacesOf watches n asks told places
passed watches n m request answer asks left told told_left places asked answered okay next at =
    let okays : told ≡ Okay ∷ told_left = answered ∙ ap (λ a. a ∷ told_left) okay in
    subst (λ (X : Type 0). X) (λ i. ArePlacesOf watches n (sym asked i) (sym okays i) places)
    (subst (λ k. ArePlacesOf watches k left told_left places) (next ∙ add-one n) at)

-- each other one has the next
placed_by : (watches : List Watch) (n : ℕ) (request : Asked) (answer : Answer) (place : ℕ) (places : List ℕ) (Further : List ℕ → Type 0) →
    (answer ≡ Okay → ⊥) → IsRequestAt watches place request n → Further places →
    PlacesFrom watches n request answer (place ∷ places) Further
placed_by watches n request Okay place places Further other at further = absurd (other refl)
placed_by watches n request (Failed errno) place places Further other at further = (at, further)
placed_by watches n request Killed place places Further other at further = (at, further)
placed_by watches n request Gone place places Further other at further = (at, further)

pub placed : (watches : List Watch) (n m : ℕ) (request : Asked) (answer : Answer) (asks left : List Asked) (told told_left : List Answer)
    (place : ℕ) (places : List ℕ) → asks ≡ request ∷ left → told ≡ answer ∷ told_left → (answer ≡ Okay → ⊥) → m ≡ n + 1
    → IsRequestAt watches place request n → ArePlacesOf watches m left told_left places → ArePlacesOf watches n asks told (place ∷ places)
placed watches n m request answer asks left told told_left place places asked answered other next own at =
    subst (λ (X : Type 0). X) (λ i. ArePlacesOf watches n (sym asked i) (sym answered i) (place ∷ places))
    (placed_by watches n request answer place places (ArePlacesOf watches (suc n) left told_left) other own
    (subst (λ k. ArePlacesOf watches k left told_left places) (next ∙ add-one n) at))

-- no request is left, or no answer
pub none_placed : (watches : List Watch) (n : ℕ) (asks : List Asked) (told : List Answer) → (asks ≡ []) ⊎ (told ≡ []) →
    ArePlacesOf watches n asks told []
none_placed watches n [] told empty = refl
none_placed watches n (ask ∷ asks) [] empty = refl
none_placed watches n (ask ∷ asks) (answer ∷ told) (inl empty) = cc
none_placed watches n (ask ∷ asks) (answer ∷ told) (inr empty) = cc

-- they stay as the questions do
pub places_kept : (old new : List Watch) → IsKeptThrough old new → (n : ℕ) (asks : List Asked) (told : List Answer) (places : List ℕ) →
    ArePlacesOf old n asks told places → ArePlacesOf new n asks told places
places_kept old new kept n [] told places at = at
places_kept old new kept n (ask ∷ asks) [] places at = at
places_kept old new kept n (ask ∷ asks) (Okay ∷ told) places at = places_kept old new kept (suc n) asks told places at
places_kept old new kept n (ask ∷ asks) (Failed errno ∷ told) [] at = at
places_kept old new kept n (ask ∷ asks) (Killed ∷ told) [] at = at
places_kept old new kept n (ask ∷ asks) (Gone ∷ told) [] at = at
places_kept old new kept n (ask ∷ asks) (Failed errno ∷ told) (place ∷ places) at =
    (request_kept old new place ask n kept at.0, places_kept old new kept (suc n) asks told places at.1)
places_kept old new kept n (ask ∷ asks) (Killed ∷ told) (place ∷ places) at =
    (request_kept old new place ask n kept at.0, places_kept old new kept (suc n) asks told places at.1)
places_kept old new kept n (ask ∷ asks) (Gone ∷ told) (place ∷ places) at =
    (request_kept old new place ask n kept at.0, places_kept old new kept (suc n) asks told places at.1)
