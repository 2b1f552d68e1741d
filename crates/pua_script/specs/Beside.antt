-- How the code compares the names of a text with those of a path, without memory: it keeps how many names of the path the text has
-- come down, and how many others from there.
use Rattle.std.specs.Prelude.{ℕ, suc, ◌-◌, ◌==◌, Bool, true, false, ◌&&◌, if◌then◌else◌, List, [], ◌∷◌, nat_lt, Option, Some, None, is_none}
use Rattle.std.specs.Prelude.{slice_get}
use Rattle.pua_tree.specs.Names.{same_bytes}
use Rattle.pua_script.specs.Canonical.{adds_none}
use Rattle.pua_script.specs.declared.canonical.Beside.{Beside}

abbrev pub is_same : Option (List ℕ) → List ℕ → Bool
is_same None piece = false
is_same (Some name) piece = same_bytes name piece

-- one name further down: the next of the path's, or another
abbrev pub down : List (List ℕ) → Beside → List ℕ → Beside
down names at piece =
    if (at.beyond == 0) && is_same (slice_get names at.come) piece then record { come = suc at.come; beyond = at.beyond }
    else record { come = at.come; beyond = suc at.beyond }

-- and up again
abbrev pub up : Beside → Beside
up at = if at.beyond == 0 then record { come = at.come - 1; beyond = at.beyond } else record { come = at.come; beyond = at.beyond - 1 }

-- by one piece of the text
abbrev pub beside_with : List (List ℕ) → Beside → List ℕ → Beside
beside_with names at piece = if adds_none piece then at else (if same_bytes piece (46 ∷ 46 ∷ []) then up at else down names at piece)

-- by its further pieces
abbrev pub beside : List (List ℕ) → Beside → List (List ℕ) → Beside
beside names at [] = at
beside names at (piece ∷ pieces) = beside names (beside_with names at piece) pieces

abbrev pub at_root : Beside
at_root = record { come = 0; beyond = 0 }

-- below the names, or at them
abbrev pub is_at : Bool → ℕ → Bool
is_at true beyond = nat_lt 0 beyond
is_at false beyond = beyond == 0

-- it has come down all names, and is below them or at them
abbrev pub has_come : Bool → List (List ℕ) → Beside → Bool
has_come below names at = is_none (slice_get names at.come) && is_at below at.beyond
