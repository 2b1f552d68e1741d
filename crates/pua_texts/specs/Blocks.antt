-- Blocks of bytes on the way to a sink.
use Rattle.std.specs.Prelude.{◌≡◌, ◌≤◌, ℕ, List, ◌++◌, Option, Result, Ok, Err, length, take}
use Rattle.pua_io.specs.Sinks.{Adds, AddsFront, HasFailed}
use Rattle.pua_io.specs.declared.sink.PutFault.{PutFault}

-- the bytes that a block has no more were added to a sink
pub record HandsOn (old new : List ℕ) (before after : Option (List ℕ)) : Type 0 where
  pub text : List ℕ
  pub parts : old ≡ text ++ new
  pub adds : Adds text before after

-- what adding a text to a block leaves: both are handed on or still stand there, or a front of them was added before a put that failed
abbrev pub Passes : List ℕ → Result (Unit {0}) PutFault → List ℕ → List ℕ → Option (List ℕ) → Option (List ℕ) → ℕ → ℕ → Type 0
Passes text (Ok done) old new a b before after = HandsOn (old ++ text) new a b × (after ≡ before)
Passes text (Err fault) old new a b before after = AddsFront (old ++ text) a b × HasFailed before after

-- the same, of a sink of which this is known
abbrev pub PassesOn : {A : Type 0} → (A → Option (List ℕ)) → (A → ℕ) → List ℕ → Result (Unit {0}) PutFault → List ℕ → List ℕ → A → A →
    Type 0
PassesOn written failed text r old new a b = Passes text r old new (written a) (written b) (failed a) (failed b)

-- bytes in reserved room for `most` are at least `len` now, and those of before stand in front of the others
pub record Filled (old new : List ℕ) (len most capacity : ℕ) : Type 0 where
  pub front : (n : ℕ) → n ≤ length old → take n new ≡ take n old
  pub filled : len ≤ length new
  pub reserved : most ≤ capacity
