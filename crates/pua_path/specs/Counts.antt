-- A tree that is asked, and how often it was.
use Rattle.std.specs.Prelude.{ℕ, ◌+◌, ◌-◌, ◌^◌, min}
use Rattle.pua_tree.specs.Tree.{Tree}

-- one more, up to the greatest value of 64 bits
abbrev pub one_more : ℕ → ℕ
one_more n = min (n + 1) (2 ^ 64 - 1)

-- a tree, and how often it was asked
pub record CountedTree : Type 0 where
  pub tree : Tree
  pub count : ℕ
