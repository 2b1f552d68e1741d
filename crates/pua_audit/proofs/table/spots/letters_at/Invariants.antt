use Rattle.pua_audit.proofs.Common.{◌≡◌, take, map}
use Rattle.pua_audit.proofs.table.spots.letters_at.Given as goal

abbrev pub invariant-loop-spot : goal.invariant-loop-spot
invariant-loop-spot l = l.letters.items ≡ map (λ spot. spot.letter) (take l.spot-index l.spots)
