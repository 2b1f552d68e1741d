-- The limits of audits.
use Rattle.std.specs.Prelude.{ℕ}
pub use Rattle.pua_path.specs.Limits.{most_path}

-- the most letters of a word
abbrev pub most_letters : ℕ
most_letters = 16

-- the most candidates
abbrev pub most_candidates : ℕ
most_candidates = 1024
