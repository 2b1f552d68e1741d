-- What the paths of a tree keep.
use Rattle.std.specs.Prelude.{ℕ, List}
use Rattle.pua_tree.specs.Tree.{Tree}

-- the tree, and the names that lead to what was looked for last
pub record PathsState : Type 0 where
  pub tree : Tree
  pub names : List (List ℕ)
