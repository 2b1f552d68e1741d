use Rattle.pua_audit.proofs.Common.{◌≡◌, ◌<◌, ◌+◌, ◌∙◌, ℕ, List, [], ◌∷◌, ◌++◌, length, map, take, get_or, sym, ap, map-append, LetterSpot}
use Rattle.pua_audit.proofs.Spotted.{taken_more}
use Rattle.pua_audit.proofs.table.spots.letters_at.Goals as goal

letter_more : (spots : List LetterSpot) (spot : LetterSpot) (i : ℕ) (old new : List ℕ) → i < length spots → spot ≡ get_or spots i spot
    → old ≡ map (λ spot. spot.letter) (take i spots) → new ≡ old ++ spot.letter ∷ [] → new ≡ map (λ spot. spot.letter) (take (i + 1) spots)
letter_more spots spot i old new within is so_far pushed =
    pushed ∙ ap (λ (letters : List ℕ). letters ++ spot.letter ∷ []) so_far
    ∙ sym (map-append (λ (spot : LetterSpot). spot.letter) (take i spots) (spot ∷ []))
    ∙ ap (map (λ (spot : LetterSpot). spot.letter)) (sym (taken_more spots spot i within is))

pub loop-spot-preserved : goal.loop-spot-preserved
loop-spot-preserved c =
    let l = c.loop-spot in
    letter_more c.args.spots.now c.spot-item.result l.spot-index l.letters.items _ c.loop-spot-test.true c.spot-item.is l.invariant
    c.in_ok-push.ensures.items
