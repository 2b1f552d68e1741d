-- The directories of a table of steps while it is made, and what the veils leave of the names in each.
use Rattle.std.specs.Prelude.{◌≡◌, ℕ, List, map}
use Rattle.pua_tree.specs.Tree.{Tree}
use Rattle.pua_policy.specs.Descent.{cover_in}
use Rattle.pua_policy.specs.States.{ProcessState}
use Rattle.pua_policy.specs.declared.answer.Cover.{Cover}

-- the directories by their numbers, and a cover for each
pub record DirectoriesState : Type 0 where
  pub numbers : List ℕ
  pub covers : List Cover

-- each cover is that of the names in its directory
abbrev pub AreCovered : Tree → ProcessState → DirectoriesState → Type 0
AreCovered t h dirs = dirs.covers ≡ map (cover_in t h) dirs.numbers
