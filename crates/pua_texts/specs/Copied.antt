-- What a copy to a place in a buffer leaves there.
use Rattle.std.specs.Prelude.{◌≡◌, ℕ, ◌+◌, List, ◌++◌, length, take}

-- new has some bytes after the first `at` bytes of old, up to `end`
pub record Copied (old new : List ℕ) (at : ℕ) (bytes : List ℕ) (end : ℕ) : Type 0 where
  pub front : take end new ≡ take at old ++ bytes
  pub ends : end ≡ at + length bytes
  pub len : length new ≡ length old
