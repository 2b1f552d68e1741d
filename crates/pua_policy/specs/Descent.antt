-- What the veils leave of the names in a directory.
use Rattle.std.specs.Prelude.{ℕ, if◌then◌else◌, map, Option, Some, None}
use Rattle.pua_tree.specs.Tree.{Tree, climb}
use Rattle.pua_policy.specs.States.{ProcessState, has_veil, veil_at}
use Rattle.pua_policy.specs.Verdict.{nearest}
use Rattle.pua_policy.specs.declared.place.Place.TheVariants as place
use Rattle.pua_policy.specs.declared.answer.Cover.{Cover}
use Rattle.pua_policy.specs.declared.answer.Cover.TheVariants.{All, Only}

-- what covers the further names of a directory: its own veil, or the nearest over it
abbrev pub cover_in : Tree → ProcessState → ℕ → Cover
cover_in t p dir = if has_veil p.veils then nearest (map (λ over. veil_at p.veils (place.Dir over)) (climb t dir)) else All

-- the permissions of a veil, or without one the cover of the directory
abbrev pub own_or : Option ℕ → Cover → Cover
own_or (Some perms) over = Only perms
own_or None over = over
