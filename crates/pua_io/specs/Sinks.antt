-- What was written to a sink, and what a whole writing leaves.
use Rattle.std.specs.Prelude.{◌≡◌, ℕ, ◌+◌, ◌-◌, ◌^◌, ◌<◌, ◌≤◌, ◌⊎◌, List, length, take, min, Option, Result, Ok, Err}
use Rattle.std.specs.Io.KnownBytes.{Appends}
use Rattle.pua_io.specs.declared.sink.PutFault.{PutFault}

-- a count of failures after one more; it stays at its greatest value
abbrev pub next_count : ℕ → ℕ
next_count n = min (n + 1) (2 ^ 64 - 1)

-- known bytes stay known, and these stand after them
abbrev pub Adds : List ℕ → Option (List ℕ) → Option (List ℕ) → Type 0
Adds text old new = Appends old new text

-- a front of these was added
abbrev pub AddsFront : List ℕ → Option (List ℕ) → Option (List ℕ) → Type 0
AddsFront text old new = (n : ℕ) × (n ≤ length text) × Adds (take n text) old new

-- the count of failures rose, or stands at its greatest value
abbrev pub HasFailed : ℕ → ℕ → Type 0
HasFailed old new = (old < new) ⊎ (new ≡ 2 ^ 64 - 1)

-- a put took the first n bytes of a text, at least one where there is one
pub record Puts (text : List ℕ) (n : ℕ) (old new : Option (List ℕ)) : Type 0 where
  pub within : n ≤ length text
  pub some : 0 < length text → 0 < n
  pub adds : Adds (take n text) old new

-- what a sink in memory holds: its bytes, how many it has room for, and how many puts failed
pub record Memory : Type 0 where
  pub bytes : List ℕ
  pub room : ℕ
  pub failed : ℕ

-- what the writing of a text leaves: all of it, or a front of it before a put that failed
abbrev pub Writes : List ℕ → Result (Unit {0}) PutFault → Option (List ℕ) → Option (List ℕ) → ℕ → ℕ → Type 0
Writes text (Ok done) old new before after = Adds text old new × (after ≡ before)
Writes text (Err fault) old new before after = AddsFront text old new × HasFailed before after

-- the same, of a sink of which this is known
abbrev pub WritesTo : {A : Type 0} → (A → Option (List ℕ)) → (A → ℕ) → List ℕ → Result (Unit {0}) PutFault → A → A → Type 0
WritesTo written failed text r a b = Writes text r (written a) (written b) (failed a) (failed b)
