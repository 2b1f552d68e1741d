-- Worked rows on listings of trees.
use Rattle.std.specs.Fmt.{digits}
use Rattle.std.specs.Prelude.{◌≡◌, ℕ, [], ◌∷◌, Some, None, Ok, codes, refl, replicate, false, true}
use Rattle.pua_tree.specs.Limits.{most_wide_names}
use Rattle.pua_tree.specs.Tree.{Node, Tree, empty_tree, root_alone}
use Rattle.pua_tree.specs.Listing.{listing, root_node}
use Rattle.pua_tree.specs.Examples.{example_tree, tree_of_two_names}
use Rattle.pua_tree.specs.declared.form.Form.TheVariants.{First, Second, Third}
use Rattle.pua_tree.specs.declared.node.Kind.TheVariants.{File, Known, Link}
use Rattle.pua_tree.specs.declared.node.FileType.TheVariants.{Plain, Sock, Fifo, Dev}
use Rattle.pua_listing.specs.Entries.{new_number}
use Rattle.pua_listing.specs.Listed.{form_for, listed, text_of_lines}

abbrev plain : Node
plain = record { kind = File; target = None; mount = false }

-- a directory that came to stand in a later one
abbrev pub moved_tree : Tree
moved_tree = record empty_tree {
  rows = ((0, codes "b"), 2) ∷ ((2, codes "a"), 1) ∷ [];
  nodes = (0, root_node) ∷ (1, root_node) ∷ (2, root_node) ∷ [];
  next = 3;
}

-- a name with a blank, and a link to a line feed
abbrev pub spelled_tree : Tree
spelled_tree = record empty_tree {
  rows = ((0, codes "a b"), 1) ∷ ((0, codes "l"), 7) ∷ [];
  nodes = (0, root_node) ∷ (1, plain) ∷ (7, record { kind = Link; target = Some (10 ∷ []); mount = false }) ∷ [];
  next = 8;
}

-- a file of each sort, one of them with two names
abbrev pub typed_tree : Tree
typed_tree = record empty_tree {
  rows = ((0, codes "a"), 1) ∷ ((0, codes "b"), 2) ∷ ((0, codes "c"), 3) ∷ ((0, codes "d"), 4) ∷ ((0, codes "e"), 5) ∷ ((0, codes "f"), 3) ∷ [];
  nodes = (0, root_node) ∷ (1, plain) ∷ (2, record { kind = Known Plain; target = None; mount = false }) ∷ (3, record { kind = Known Sock; target = None; mount = false })
      ∷ (4, record { kind = Known Fifo; target = None; mount = false }) ∷ (5, record { kind = Known Dev; target = None; mount = false }) ∷ [];
  next = 6;
}

-- a tree of so many names beside the root
abbrev tree_of_names : ℕ → Tree
tree_of_names n = record empty_tree { rows = replicate n ((0, codes "a"), 1) }

-- the lines of trees
pub record ListedRows : Type 0 where
  pub root : listed empty_tree ≡ Ok (text_of_lines (codes "tree 1" ∷ codes "0 dir" ∷ []))
  pub example : listed example_tree ≡ Ok (text_of_lines (codes "tree 1" ∷ codes "0 dir" ∷ codes "1 dir 0 etc" ∷ codes "2 file 1 passwd"
      ∷ codes "3 link 0 t tmp" ∷ codes "4 dir 0 tmp" ∷ codes "5 link 4 self self" ∷ codes "6 prog 4 sh" ∷ codes "7 link 4 up ../etc" ∷ []))
  pub two_names : listed tree_of_two_names ≡ Ok (text_of_lines (codes "tree 2" ∷ codes "0 dir" ∷ codes "1 dir 0 a" ∷ codes "2 file 1 c"
      ∷ codes "3 hard 0 b 2" ∷ []))
  pub moved : listed moved_tree ≡ Ok (text_of_lines (codes "tree 1" ∷ codes "0 dir" ∷ codes "1 dir 0 b" ∷ codes "2 dir 1 a" ∷ []))
  pub spelled : listed spelled_tree ≡ Ok (text_of_lines (codes "tree 1" ∷ codes "0 dir" ∷ codes "1 file 0 a\\040b"
      ∷ codes "2 link 0 l \\012" ∷ []))
  pub wide : listed (root_alone most_wide_names) ≡ Ok (text_of_lines (codes "tree 3" ∷ codes "0 dir" ∷ []))
  pub typed : listed typed_tree ≡ Ok (text_of_lines (codes "tree 3" ∷ codes "0 dir" ∷ codes "1 any 0 a" ∷ codes "2 file 0 b"
      ∷ codes "3 sock 0 c" ∷ codes "4 fifo 0 d" ∷ codes "5 dev 0 e" ∷ codes "6 hard 0 f 3" ∷ []))
  pub most_listed : form_for (tree_of_names 4095) false false ≡ First
  pub too_many_listed : form_for (tree_of_names 4096) false false ≡ Third
  pub most_listed_with_second_names : form_for (tree_of_names 4095) false true ≡ Second
  pub too_many_with_second_names : form_for (tree_of_names 4096) false true ≡ Third
  -- the moved tree under its new numbers
  pub numbers : (new_number moved_tree 0 ∷ new_number moved_tree 1 ∷ new_number moved_tree 2 ∷ []) ≡ (0 ∷ 2 ∷ 1 ∷ [])
  pub moved_back : listing (text_of_lines (codes "tree 1" ∷ codes "0 dir" ∷ codes "1 dir 0 b" ∷ codes "2 dir 1 a" ∷ []))
      ≡ Ok (record moved_tree { rows = ((0, codes "b"), 1) ∷ ((1, codes "a"), 2) ∷ [] })

pub listed_rows : ListedRows
unfolding digits
listed_rows = record {
  root = refl;
  example = refl;
  two_names = refl;
  moved = refl;
  spelled = refl;
  wide = refl;
  typed = refl;
  most_listed = refl;
  too_many_listed = refl;
  most_listed_with_second_names = refl;
  too_many_with_second_names = refl;
  numbers = refl;
  moved_back = refl;
}
