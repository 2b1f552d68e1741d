use Rattle.pua_audit.proofs.Common.{◌≡◌, ◌≢◌, ◌<◌, ◌∙◌, ℕ, List, length, refl, sym, subst, same_Some}
use Rattle.pua_audit.proofs.Common.{AreAtLetters, IsUnmarked, LetterSpot, all_pushed}
use Rattle.pua_tree.proofs.ForCallers.{None≢Some}
use Rattle.pua_audit.proofs.table.placed.Places.add_spot.Goals as goal
use Rattle.pua_steps.proofs.ForCallers.{all_front}

-- a name that is no letter
pub returns-in_default-clause-here : goal.returns-in_default-clause-here
returns-in_default-clause-here c = λ letter low unmarked same.
    None≢Some letter (c.in_default.ensures.each letter low (same ∙ sym c.bytes.ensures.bytes))

pub returns-clause-within : goal.returns-clause-within
returns-clause-within c = λ low.
    let letters : List (List ℕ) = c.args.self.now in
    let spot : LetterSpot = record { dir = c.args.dir; letter = c.in-Some-place_of.letter } in
    subst (AreAtLetters letters) (sym c.in_ok-push.ensures.items) (all_pushed (λ (s : LetterSpot). s.letter < length letters)
    c.args.spots.now.items spot low c.in-Some-place_of.ensures.within)

-- a letter stands at one place
pub returns-clause-here : goal.returns-clause-here
returns-clause-here c = λ letter low unmarked same.
    let place : ℕ = c.in-Some-place_of.letter in
    let spot : LetterSpot = record { dir = c.args.dir; letter = place } in
    let apart = all_front (λ (s : LetterSpot). s.dir ≡ c.args.dir →
    s.letter ≢ letter) c.args.spots.now.items spot (subst (IsUnmarked c.args.dir letter) c.in_ok-push.ensures.items unmarked) in
    apart.1 refl (same_Some place letter (c.in-Some-place_of.ensures.each letter low (same ∙ sym c.bytes.ensures.bytes)))

pub returns-clause-others : goal.returns-clause-others
returns-clause-others c = λ other letter unmarked.
    let spot : LetterSpot = record { dir = c.args.dir; letter = c.in-Some-place_of.letter } in
    (all_front (λ (s : LetterSpot). s.dir ≡ other →
    s.letter ≢ letter) c.args.spots.now.items spot (subst (IsUnmarked other letter) c.in_ok-push.ensures.items unmarked)).0
