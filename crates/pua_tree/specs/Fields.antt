-- The fields of a line as readers are given them.
use Rattle.std.specs.Prelude.{ℕ, List, Option, Some, None, if◌then◌else◌, take}
use Rattle.std.specs.List.{list_all}
use Rattle.pua_tree.specs.Spelling.{fields, is_field}

-- the first six fields of a line, of which each is a field; no line of a listing or script has so many
abbrev pub first_fields : List ℕ → Option (List (List ℕ))
first_fields line = if list_all is_field (fields line) then Some (take 6 (fields line)) else None
