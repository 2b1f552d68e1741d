-- Bytes that are kept under names.
use Rattle.std.specs.Prelude.{ℕ, List, [], ◌∷◌, Option, Some, None, if◌then◌else◌}
use Rattle.std.specs.Str.{bytes_eq}

-- names, each with the bytes kept under it
abbrev pub Named : Type 0
Named = List (List ℕ × List ℕ)

-- the bytes kept under the first name that is this one
abbrev pub kept_under : List ℕ → Named → Option (List ℕ)
kept_under name [] = None
kept_under name (entry ∷ more) = if bytes_eq entry.0 name then Some entry.1 else kept_under name more
