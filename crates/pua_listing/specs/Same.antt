-- Trees that are the same but for the numbers of their nodes.
use Rattle.std.specs.Prelude.{◌≡◌, ℕ, List, IsTrue, option_map, Ok}
use Rattle.pua_tree.specs.Tree.{Tree, node_at, is_dir, is_living, look}
use Rattle.pua_tree.specs.Listing.{listing}
use Rattle.pua_listing.specs.Entries.{new_number}

-- the second tree is the first with its nodes renumbered: each node of the one is a node of the other, and stands there under
-- the same names
pub record IsRenumbered (f : ℕ → ℕ) (t u : Tree) : Type 0 where
  pub root : f 0 ≡ 0
  -- no two living nodes get the same number, and each number of the second tree is one of these
  pub apart : (x y : ℕ) → IsTrue (is_living t x) → IsTrue (is_living t y) → f x ≡ f y → x ≡ y
  pub no_other : (y : ℕ) → IsTrue (is_living u y) → (x : ℕ) × IsTrue (is_living t x) × (f x ≡ y)
  -- each has the same kind and the same target, and where the one is mounted, so is the other
  pub nodes : (x : ℕ) → IsTrue (is_living t x) → node_at u (f x) ≡ node_at t x
  -- under each name in each directory stands the same node, or in both trees none; only directories have names in them
  pub rows : (dir : ℕ) (name : List ℕ) → IsTrue (is_dir t dir) → look u (f dir) name ≡ option_map f (look t dir name)

-- the bytes are read as the same tree
abbrev pub ReadsBack : Tree → List ℕ → Type 0
ReadsBack t bytes = (u : Tree) × (listing bytes ≡ Ok u) × IsRenumbered (new_number t) t u
