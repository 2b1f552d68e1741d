-- The laws on what is allowed letter by letter.
use Rattle.pua_audit.proofs.Common.{◌≡◌, ℕ, Bool, true, false, not, ◌&&◌, List, [], ◌∷◌, refl, AllByRecursion, list_all, is_dir, is_ended}
use Rattle.pua_audit.proofs.Common.{and_parts, Scope, reach, base_dir, is_letter, IsAudited}
use Rattle.pua_audit.specs.Laws.{ReachIsAlong, ClosedReaches}
use Rattle.pua_audit.proofs.Paths.{IsPiece, letter_is_piece}
use Rattle.pua_audit.proofs.Along.{IsReadable, reach_is_along, none_for_ended, none_without_base}

pieces : (letters : List (List ℕ)) → list_all is_letter letters ≡ true → AllByRecursion IsPiece letters
pieces [] h = tt
pieces (a ∷ letters) h = let is = and_parts (is_letter a) (list_all is_letter letters) h in (letter_is_piece a is.0, pieces letters is.1)

readable : (s : Scope) → IsAudited s → IsReadable s.alphabet s.limit
readable s is = record { letters = pieces s.alphabet is.letters; fits = is.short }

pub reaches_along : ReachIsAlong
reaches_along s is lives = reach_is_along s is.tree (readable s is) lives

pub closed_reaches : ClosedReaches
closed_reaches s is closed = by (is_ended s.process) refl closed
  where
    by : (v : Bool) → is_ended s.process ≡ v → (not v && is_dir s.tree (base_dir s.base s.process)) ≡ false → reach s ≡ []
    by true e closed = none_for_ended s is.tree (readable s is) e
    by false e closed = none_without_base s is.tree (readable s is) closed
