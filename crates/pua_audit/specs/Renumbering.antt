-- A reach over trees that differ in their next number alone.
use Rattle.std.specs.Prelude.{◌≡◌}
use Rattle.pua_tree.specs.Tree.{Tree}
use Rattle.pua_audit.specs.Reach.{Scope, reach}

-- a reach asks a tree for its rows and nodes alone
abbrev pub ReachNeedsRows : Type 0
ReachNeedsRows = (s : Scope) (u : Tree) → u.rows ≡ s.tree.rows → u.nodes ≡ s.tree.nodes → reach (record s { tree = u }) ≡ reach s
