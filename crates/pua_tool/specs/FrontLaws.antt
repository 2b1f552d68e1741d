-- What the first lines of a text are, for who reads it line by line.
use Rattle.std.specs.Prelude.{ℕ, ◌≡◌, ◌<◌, ◌≤◌, List, length, take, Option, Some, None, Ok}
use Rattle.std.specs.Str.Lines.{lines}
use Rattle.pua_calls.specs.declared.rules.Rules.{Rules}
use Rattle.pua_script.specs.Requests.{Asked}
use Rattle.pua_script.specs.Scripts.{script_by}
use Rattle.pua_tool.specs.Fronts.{first_lines}

-- there are none exactly where there are fewer, and else they are read as the first of the lines
abbrev pub AreFirst : ℕ → List ℕ → Option (List ℕ) → Type 0
AreFirst n bytes None = length (lines bytes) < n
AreFirst n bytes (Some front) = (n ≤ length (lines bytes)) × (lines front ≡ take n (lines bytes))

abbrev pub FrontLines : Type 0
FrontLines = (n : ℕ) (bytes : List ℕ) → AreFirst n bytes (first_lines n bytes)

-- the requests of a script's first lines are the first of its requests
abbrev pub FrontRequests : Type 0
FrontRequests = (rules : Rules) (n : ℕ) (bytes front : List ℕ) (asks : List Asked) → script_by rules bytes ≡ Ok asks
    → first_lines n bytes ≡ Some front → script_by rules front ≡ Ok (take n asks)
