-- What contracts see of an audit: the tree, where paths begin, the letters of its words and how many a word may have,
-- how many states are live, how many letters were read, and the pairs that are still to come.
use Rattle.std.specs.Prelude.{ℕ, List}
use Rattle.pua_tree.specs.Tree.{Tree}
use Rattle.pua_audit.specs.Reach.{Pair}
use Rattle.pua_audit.specs.declared.base.Base.{Base}

pub record AuditState : Type 0 where
  pub tree : Tree
  pub base : Base
  pub alphabet : List (List ℕ)
  pub limit : ℕ
  pub live : ℕ
  pub reads : ℕ
  pub left : List Pair
