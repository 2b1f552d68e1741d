-- The least that steps lead to, in a table of words with a bit for each fact.
use Rattle.std.specs.Prelude.{◌≡◌, ◌<◌, ◌-◌, ◌==◌, ℕ, List, length, get_or, IsTrue}
use Rattle.std.specs.List.{sum_by}
use Rattle.std.specs.Int.{bit_at}

-- a word has a bit
abbrev pub has_bit : ℕ → ℕ → Type 0
has_bit word bit = IsTrue (bit_at word bit == 1)

-- a fact is in a table
abbrev pub knows : List ℕ → ℕ → ℕ → Type 0
knows told at bit = has_bit (get_or told at 0) bit

-- a fact follows from those of a table
abbrev pub Step : Type 1
Step = List ℕ → ℕ → ℕ → Type 0

-- no more facts follow from it: of one word, and of all
abbrev pub IsClosedAt : Step → List ℕ → ℕ → Type 0
IsClosedAt follows told at = (bit : ℕ) → follows told at bit → knows told at bit

abbrev pub IsClosed : Step → List ℕ → Type 0
IsClosed follows told = (at : ℕ) → at < length told → IsClosedAt follows told at

-- a fact follows from facts that follow
pub data Reached (follows : Step) (count : ℕ) : ℕ → ℕ → Type 0 where
  reached : {at bit : ℕ} (told : List ℕ) → length told ≡ count →
      ((a b : ℕ) → knows told a b → Reached follows count a b) → at < count → follows told at bit → Reached follows count at bit

abbrev pub AreReached : Step → List ℕ → Type 0
AreReached follows told = (at bit : ℕ) → knows told at bit → Reached follows (length told) at bit

-- how much can be added to all words
abbrev pub room : List ℕ → ℕ
room told = sum_by (λ word. 4294967295 - word) told
