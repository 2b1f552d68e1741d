-- What is true of the listings of trees.
use Rattle.std.specs.Prelude.{◌≡◌, ℕ, List, IsTrue, Ok, Some}
use Rattle.std.specs.List.{list_all}
use Rattle.pua_tree.specs.Tree.{Tree, WellFormed, target_at}
use Rattle.pua_listing.specs.Entries.{is_byte}
use Rattle.pua_listing.specs.Listed.{listed}
use Rattle.pua_listing.specs.Same.{ReadsBack}

-- links lead to bytes, as all links do that a program holds
abbrev pub LeadsToBytes : Tree → Type 0
LeadsToBytes t = (x : ℕ) (target : List ℕ) → target_at t x ≡ Some target → IsTrue (list_all is_byte target)

-- the listing of a tree is read as the same tree
abbrev pub ListingsReadBack : Type 0
ListingsReadBack = (t : Tree) (bytes : List ℕ) → WellFormed t → LeadsToBytes t → listed t ≡ Ok bytes → ReadsBack t bytes
