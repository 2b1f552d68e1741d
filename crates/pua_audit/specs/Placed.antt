-- Letters that are found by their bytes.
use Rattle.std.specs.Prelude.{◌≡◌, ◌<◌, ℕ, List, [], length, get_or, bytes_eq, Some, IfSome}
use Rattle.std.specs.Borrow.{Bor}
use Rattle.std.specs.HashMap.{HashMap, get_by}

-- each letter is found at its place, and nothing is found beyond them
pub record ArePlaced {S : Type 0} (letters : List (List ℕ)) (places : HashMap (Bor (List ℕ)) ℕ S) : Type 0 where
  pub each : (letter : ℕ) → letter < length letters → get_by (λ k. bytes_eq (get_or letters letter []) k.now) places ≡ Some letter
  pub within : (bytes : List ℕ) → IfSome (get_by (λ k. bytes_eq bytes k.now) places) (λ place. place < length letters)
