-- The limit of places.
use Rattle.std.specs.Prelude.{ℕ}

-- at most so many places are kept with veils
abbrev pub most_places : ℕ
most_places = 128
