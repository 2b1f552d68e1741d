-- The limits of paths and of resolution.
use Rattle.std.specs.Prelude.{ℕ}

-- at most so many links are followed in one resolution
abbrev pub most_links : ℕ
most_links = 32

-- the most bytes of a path
abbrev pub most_path : ℕ
most_path = 1023
