-- The limits of a table of steps and of a walk over it, each with one name.
use Rattle.std.specs.Prelude.{ℕ}
-- how many calls there are
pub use Rattle.pua_calls.specs.Calls.{call_count}

-- the most letters of a word
abbrev pub most_letters : ℕ
most_letters = 16

-- the most links that are followed on one path
abbrev pub most_links : ℕ
most_links = 32

-- one more: the greatest number of a bound on the links followed before
abbrev pub most_bound : ℕ
most_bound = 33

-- how many entries one search in a list reads at most: it halves what is left of fewer than 2^64, and looks at what it found
abbrev pub search_cost : ℕ
search_cost = 65
