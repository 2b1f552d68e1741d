-- What is found in a tree after an edit.
use Rattle.pua_refused.proofs.Common.{◌≡◌}
use Rattle.std.proofs.Common.{ℕ, List}
use Rattle.std.specs.Prelude.{Some}
use Rattle.std.specs.Ordering.{nat_cmp}
use Rattle.std.specs.Cmp.{nat_cmp_total}
use Rattle.std.specs.FinMap.{nat_cmp-IsAntisymmetric, find as find_key, put}
use Rattle.pua_tree.specs.Tree.{Node}
use Rattle.pua_tree.proofs.ForCallers.{put_here}

-- a node is found under the number under which it was put
pub node_put : (x : ℕ) (node : Node) (nodes : List (ℕ × Node)) → find_key nat_cmp x (put nat_cmp x node nodes) ≡ Some node
node_put x node nodes = put_here nat_cmp nat_cmp_total nat_cmp-IsAntisymmetric x node nodes
