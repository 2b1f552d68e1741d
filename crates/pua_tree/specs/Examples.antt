-- Worked rows on trees and listings.
use Rattle.pua_tree.specs.declared.form.Form.TheVariants.{First, Second, Third}
use Rattle.std.specs.Prelude.{◌≡◌, ℕ, true, false, List, [], ◌∷◌, ◌++◌, Some, None, Ok, Err, codes, flat_map, refl, take, length, replicate}
use Rattle.pua_tree.specs.Limits.{most_wide_names}
use Rattle.pua_tree.specs.Tree.{Node, Tree, WellFormed, device, empty_tree, root_alone}
use Rattle.pua_tree.specs.Edits.{add, tie, cut, shift}
use Rattle.pua_tree.specs.Spelling.{name_of}
use Rattle.pua_tree.specs.Listing.{Entry, listing, entry_or_fault}
use Rattle.pua_tree.specs.declared.node.Kind.{Kind}
use Rattle.pua_tree.specs.declared.node.Kind.TheVariants.{Dir, File, Prog, Link, Known}
use Rattle.pua_tree.specs.declared.node.FileType.TheVariants.{Plain, Sock, Fifo, Dev}
use Rattle.pua_tree.specs.declared.fault.ListingFault.TheVariants.{BadHeader, BadLine, BadNumber, BadParent, BadName, BadTarget, Taken}
use Rattle.pua_tree.specs.declared.fault.ListingFault.TheVariants.{TooMany, BadNode}
use Rattle.pua_tree.specs.declared.fault.NameFault.TheVariants.{BadSpelling, Empty, TooLong, NotAName}
use Rattle.pua_tree.specs.declared.fault.TreeFault.TheVariants.{Missing, NotDir, NotEmpty, Inside, Full, IsDir, Taken as NameTaken}

-- lines that end in LF
abbrev pub text_of_lines : List (List ℕ) → List ℕ
text_of_lines lines = flat_map (λ line. line ++ 10 ∷ []) lines

-- a small tree with a directory link, a link to a sibling, a link to itself and a program
abbrev pub example_listing : List ℕ
example_listing = text_of_lines (codes "tree 1" ∷ codes "0 dir" ∷ codes "1 dir 0 etc" ∷ codes "2 file 1 passwd" ∷ codes "3 dir 0 tmp"
    ∷ codes "4 link 0 t tmp" ∷ codes "5 link 3 up ../etc" ∷ codes "6 link 3 self self" ∷ codes "7 prog 3 sh" ∷ [])

abbrev plain : Node
plain = record { kind = File; target = None; mount = false }

abbrev example_entry : Entry
example_entry = record { number = 1; parent = 0; name = codes "a"; node = 1; made = Some plain }

abbrev pub example_tree : Tree
example_tree = record empty_tree {
  rows = ((0, codes "etc"), 1) ∷ ((0, codes "t"), 4) ∷ ((0, codes "tmp"), 3) ∷ ((1, codes "passwd"), 2) ∷ (
    (3, codes "self"),
    6,
  ) ∷ ((3, codes "sh"), 7) ∷ ((3, codes "up"), 5) ∷ [];
  nodes = (0, record { kind = Dir; target = None; mount = false }) ∷ (1, record { kind = Dir; target = None; mount = false }) ∷ (2, record { kind = File; target = None; mount = false })
      ∷ (3, record { kind = Dir; target = None; mount = false }) ∷ (4, record { kind = Link; target = Some (codes "tmp"); mount = false }) ∷ (
        5,
        record { kind = Link; target = Some (codes "../etc"); mount = false },
      ) ∷ (6, record { kind = Link; target = Some (codes "self"); mount = false }) ∷ (
        7,
        record { kind = Prog; target = None; mount = false },
      ) ∷ [];
  next = 8;
}

-- a tree in which a file has two names
abbrev pub tree_of_two_names : Tree
tree_of_two_names = record empty_tree {
  rows = ((0, codes "a"), 1) ∷ ((0, codes "b"), 2) ∷ ((1, codes "c"), 2) ∷ [];
  nodes = (0, record { kind = Dir; target = None; mount = false }) ∷ (1, record { kind = Dir; target = None; mount = false }) ∷ (2, record { kind = File; target = None; mount = false })
      ∷ [];
  next = 3;
}

-- the tree that a listing of the third form with one name beside the root lists
abbrev wide_tree : Kind → Tree
wide_tree kind = record (root_alone most_wide_names) {
  rows = ((0, codes "a"), 1) ∷ [];
  nodes = (0, record { kind = Dir; target = None; mount = false }) ∷ (1, record { kind = kind; target = None; mount = false }) ∷ [];
  next = 2;
}

-- a directory at which a file system is mounted, and one with another directory in it
abbrev mounted_tree : Tree
mounted_tree = record (wide_tree Dir) {
  nodes = (0, record { kind = Dir; target = None; mount = false }) ∷ (1, record { kind = Dir; target = None; mount = true }) ∷ [];
}

abbrev deeper_tree : Tree
deeper_tree = record mounted_tree {
  rows = ((0, codes "a"), 1) ∷ ((1, codes "b"), 2) ∷ [];
  nodes = (0, record { kind = Dir; target = None; mount = false }) ∷ (1, record { kind = Dir; target = None; mount = true }) ∷ (
    2,
    record { kind = Dir; target = None; mount = false },
  ) ∷ [];
  next = 3;
}

-- what is no listing, by its first fault
pub record ListingRows : Type 0 where
  pub example : listing example_listing ≡ Ok example_tree
  pub returns_and_feeds : listing (codes "tree 1" ++ 13 ∷ 10 ∷ codes "0 dir" ++ 13 ∷ 10 ∷ codes "1 dir 0 a" ++ 13 ∷ 10 ∷ [])
      ≡ listing (text_of_lines (codes "tree 1" ∷ codes "0 dir" ∷ codes "1 dir 0 a" ∷ []))
  pub no_bytes : listing (text_of_lines ([])) ≡ Err BadHeader
  pub header_alone : listing (text_of_lines (codes "tree 1" ∷ [])) ≡ Err (BadLine 2)
  pub same_number : listing (text_of_lines (codes "tree 1" ∷ codes "0 dir" ∷ codes "2 dir 0 a" ∷ codes "2 file 0 b" ∷ []))
      ≡ Err (BadNumber 4)
  pub parent_is_file : listing (text_of_lines (codes "tree 1" ∷ codes "0 dir" ∷ codes "1 file 0 a" ∷ codes "2 file 1 b" ∷ []))
      ≡ Err (BadParent 4)
  pub dots : listing (text_of_lines (codes "tree 1" ∷ codes "0 dir" ∷ codes "1 dir 0 .." ∷ [])) ≡ Err (BadName 3)
  pub plain_escaped : listing (text_of_lines (codes "tree 1" ∷ codes "0 dir" ∷ codes "1 dir 0 \\141" ∷ [])) ≡ Err (BadName 3)
  pub nul_target : listing (text_of_lines (codes "tree 1" ∷ codes "0 dir" ∷ codes "1 link 0 a \\000" ∷ [])) ≡ Err (BadTarget 3)
  pub taken : listing (text_of_lines (codes "tree 1" ∷ codes "0 dir" ∷ codes "1 dir 0 a" ∷ codes "2 file 0 a" ∷ [])) ≡ Err (Taken 4)
  pub leading_zero : listing (text_of_lines (codes "tree 1" ∷ codes "0 dir" ∷ codes "01 dir 0 a" ∷ [])) ≡ Err (BadNumber 3)
  pub two_spaces : listing (text_of_lines (codes "tree 1" ∷ codes "0 dir" ∷ codes "1 dir  0 a" ∷ [])) ≡ Err (BadLine 3)
  pub short_line : listing (text_of_lines (codes "tree 1" ∷ codes "0 dir" ∷ codes "1 dir 0" ∷ [])) ≡ Err (BadLine 3)
  pub other_header : listing (text_of_lines (codes "tree 4" ∷ codes "0 dir" ∷ [])) ≡ Err BadHeader
  pub wide : listing (text_of_lines (codes "tree 3" ∷ codes "0 dir" ∷ [])) ≡ Ok (root_alone most_wide_names)
  pub two_names : listing (text_of_lines (codes "tree 2" ∷ codes "0 dir" ∷ codes "1 dir 0 a" ∷ codes "2 file 0 b" ∷ codes "3 hard 1 c 2"
      ∷ [])) ≡ Ok (record tree_of_two_names { next = 4 })
  pub after_hard : listing (text_of_lines (codes "tree 2" ∷ codes "0 dir" ∷ codes "1 file 0 a" ∷ codes "3 hard 0 b 1" ∷ codes "3 file 0 c"
      ∷ [])) ≡ Err (BadNumber 5)
  pub hard_to_dir : listing (text_of_lines (codes "tree 2" ∷ codes "0 dir" ∷ codes "1 dir 0 d" ∷ codes "2 hard 0 e 1" ∷ []))
      ≡ Err (BadNode 4)
  pub hard_to_root : listing (text_of_lines (codes "tree 2" ∷ codes "0 dir" ∷ codes "1 hard 0 e 0" ∷ [])) ≡ Err (BadNode 3)
  pub hard_to_itself : listing (text_of_lines (codes "tree 2" ∷ codes "0 dir" ∷ codes "1 hard 0 e 1" ∷ [])) ≡ Err (BadNode 3)
  pub hard_to_later : listing (text_of_lines (codes "tree 2" ∷ codes "0 dir" ∷ codes "1 hard 0 e 2" ∷ codes "2 file 0 f" ∷ []))
      ≡ Err (BadNode 3)
  pub hard_to_hard : listing (text_of_lines (codes "tree 2" ∷ codes "0 dir" ∷ codes "1 file 0 a" ∷ codes "2 hard 0 b 1"
      ∷ codes "3 hard 0 c 2" ∷ [])) ≡ Err (BadNode 5)
  pub hard_taken : listing (text_of_lines (codes "tree 2" ∷ codes "0 dir" ∷ codes "1 file 0 a" ∷ codes "2 hard 0 a 1" ∷ [])) ≡ Err (Taken 4)
  pub hard_is_no_dir : listing (text_of_lines (codes "tree 2" ∷ codes "0 dir" ∷ codes "1 file 0 a" ∷ codes "2 hard 0 b 1"
      ∷ codes "3 file 2 c" ∷ [])) ≡ Err (BadParent 5)
  pub unknown_kind : listing (text_of_lines (codes "tree 1" ∷ codes "0 dir" ∷ codes "1 file 0 a" ∷ codes "2 hard 0 b 1" ∷ []))
      ≡ Err (BadLine 4)
  pub typed_file : listing (text_of_lines (codes "tree 3" ∷ codes "0 dir" ∷ codes "1 file 0 a" ∷ [])) ≡ Ok (wide_tree (Known Plain))
  pub typed_any : listing (text_of_lines (codes "tree 3" ∷ codes "0 dir" ∷ codes "1 any 0 a" ∷ [])) ≡ Ok (wide_tree File)
  pub typed_sock : listing (text_of_lines (codes "tree 3" ∷ codes "0 dir" ∷ codes "1 sock 0 a" ∷ [])) ≡ Ok (wide_tree (Known Sock))
  pub typed_fifo : listing (text_of_lines (codes "tree 3" ∷ codes "0 dir" ∷ codes "1 fifo 0 a" ∷ [])) ≡ Ok (wide_tree (Known Fifo))
  pub typed_dev : listing (text_of_lines (codes "tree 3" ∷ codes "0 dir" ∷ codes "1 dev 0 a" ∷ [])) ≡ Ok (wide_tree (Known Dev))
  pub mount : listing (text_of_lines (codes "tree 3" ∷ codes "0 dir" ∷ codes "1 mount 0 a" ∷ [])) ≡ Ok mounted_tree
  pub mount_holds : listing (text_of_lines (codes "tree 3" ∷ codes "0 dir" ∷ codes "1 mount 0 a" ∷ codes "2 dir 1 b" ∷ [])) ≡ Ok deeper_tree
  pub mount_has_one_name : listing (text_of_lines (codes "tree 3" ∷ codes "0 dir" ∷ codes "1 mount 0 a" ∷ codes "2 hard 0 b 1" ∷ []))
      ≡ Err (BadNode 4)
  pub mounted_root : listing (text_of_lines (codes "tree 3" ∷ codes "0 mount" ∷ [])) ≡ Err (BadLine 2)
  pub untyped_mount : listing (text_of_lines (codes "tree 2" ∷ codes "0 dir" ∷ codes "1 mount 0 a" ∷ [])) ≡ Err (BadLine 3)
  pub untyped_any : listing (text_of_lines (codes "tree 2" ∷ codes "0 dir" ∷ codes "1 any 0 a" ∷ [])) ≡ Err (BadLine 3)
  pub untyped_sock : listing (text_of_lines (codes "tree 2" ∷ codes "0 dir" ∷ codes "1 sock 0 a" ∷ [])) ≡ Err (BadLine 3)
  pub untyped_fifo : listing (text_of_lines (codes "tree 1" ∷ codes "0 dir" ∷ codes "1 fifo 0 a" ∷ [])) ≡ Err (BadLine 3)
  pub untyped_dev : listing (text_of_lines (codes "tree 1" ∷ codes "0 dir" ∷ codes "1 dev 0 a" ∷ [])) ≡ Err (BadLine 3)
  pub sock_holds_nothing : listing (text_of_lines (codes "tree 3" ∷ codes "0 dir" ∷ codes "1 sock 0 a" ∷ codes "2 file 1 b" ∷ []))
      ≡ Err (BadParent 4)
  pub hard_to_sock : listing (text_of_lines (codes "tree 3" ∷ codes "0 dir" ∷ codes "1 sock 0 a" ∷ codes "2 hard 0 b 1" ∷ []))
      ≡ Ok (record (wide_tree (Known Sock)) { rows = ((0, codes "a"), 1) ∷ ((0, codes "b"), 1) ∷ []; next = 3 })
  pub first_0 : listing (take 0 example_listing) ≡ Err BadHeader
  pub first_5 : listing (take 5 example_listing) ≡ Err BadHeader
  pub first_6 : listing (take 6 example_listing) ≡ Err (BadLine 2)
  pub first_48 : listing (take 48 example_listing) ≡ Err (BadLine 5)
  pub first_49 : listing (take 49 example_listing) ≡ Err (BadLine 5)
  pub first_63 : listing (take 63 example_listing) ≡ Err (BadLine 6)
  pub bytes : length example_listing ≡ 118

pub listing_rows : ListingRows
listing_rows = record {
  example = refl;
  returns_and_feeds = refl;
  no_bytes = refl;
  header_alone = refl;
  same_number = refl;
  parent_is_file = refl;
  dots = refl;
  plain_escaped = refl;
  nul_target = refl;
  taken = refl;
  leading_zero = refl;
  two_spaces = refl;
  short_line = refl;
  other_header = refl;
  wide = refl;
  two_names = refl;
  after_hard = refl;
  hard_to_dir = refl;
  hard_to_root = refl;
  hard_to_itself = refl;
  hard_to_later = refl;
  hard_to_hard = refl;
  hard_taken = refl;
  hard_is_no_dir = refl;
  unknown_kind = refl;
  typed_file = refl;
  typed_any = refl;
  typed_sock = refl;
  typed_fifo = refl;
  typed_dev = refl;
  mount = refl;
  mount_holds = refl;
  mount_has_one_name = refl;
  mounted_root = refl;
  untyped_mount = refl;
  untyped_any = refl;
  untyped_sock = refl;
  untyped_fifo = refl;
  untyped_dev = refl;
  sock_holds_nothing = refl;
  hard_to_sock = refl;
  first_0 = refl;
  first_5 = refl;
  first_6 = refl;
  first_48 = refl;
  first_49 = refl;
  first_63 = refl;
  bytes = refl;
}

-- a file system is that of the nearest mount at or above a directory
pub record DeviceRows : Type 0 where
  pub of_root : device deeper_tree 0 ≡ 0
  pub of_mount : device deeper_tree 1 ≡ 1
  pub below_mount : device deeper_tree 2 ≡ 1
  pub without_mounts : device example_tree 3 ≡ 0
  pub of_file : device example_tree 2 ≡ 0

pub device_rows : DeviceRows
device_rows = record { of_root = refl; of_mount = refl; below_mount = refl; without_mounts = refl; of_file = refl }

-- of two faults of a line the earlier is answered, and of two lines that of the first
pub record FaultOrderRows : Type 0 where
  pub header_before_root : listing (text_of_lines (codes "tree 4" ∷ codes "1 dir" ∷ [])) ≡ Err BadHeader
  pub root_before_entries : listing (text_of_lines (codes "tree 1" ∷ codes "0 file" ∷ codes "x" ∷ [])) ≡ Err (BadLine 2)
  pub line_before_number : listing (text_of_lines (codes "tree 1" ∷ codes "0 dir" ∷ codes "0 link 0 a" ∷ [])) ≡ Err (BadLine 3)
  pub number_before_parent : listing (text_of_lines (codes "tree 1" ∷ codes "0 dir" ∷ codes "0 dir 7 a" ∷ [])) ≡ Err (BadNumber 3)
  pub parent_before_name : listing (text_of_lines (codes "tree 1" ∷ codes "0 dir" ∷ codes "1 dir 7 .." ∷ [])) ≡ Err (BadParent 3)
  pub name_before_target : listing (text_of_lines (codes "tree 1" ∷ codes "0 dir" ∷ codes "1 link 0 .. \\000" ∷ [])) ≡ Err (BadName 3)
  pub target_before_taken : listing (text_of_lines (codes "tree 1" ∷ codes "0 dir" ∷ codes "1 dir 0 a" ∷ codes "2 link 0 a \\000" ∷ []))
      ≡ Err (BadTarget 4)
  pub name_before_node : listing (text_of_lines (codes "tree 2" ∷ codes "0 dir" ∷ codes "1 hard 0 .. 0" ∷ [])) ≡ Err (BadName 3)
  pub node_before_taken : listing (text_of_lines (codes "tree 2" ∷ codes "0 dir" ∷ codes "1 dir 0 a" ∷ codes "2 hard 0 a 1" ∷ []))
      ≡ Err (BadNode 4)
  pub taken_before_room : entry_or_fault First (example_entry ∷ []) 4098 example_entry ≡ Err (Taken 4098)
  pub no_room : entry_or_fault First [] 4098 example_entry ≡ Err (TooMany 4098)
  pub last_room : entry_or_fault First [] 4097 example_entry ≡ Ok example_entry
  pub no_second_room : entry_or_fault Second [] 4098 example_entry ≡ Err (TooMany 4098)
  pub wide_room : entry_or_fault Third [] 1000001 example_entry ≡ Ok example_entry
  pub no_wide_room : entry_or_fault Third [] 1000002 example_entry ≡ Err (TooMany 1000002)
  pub earlier_line_first : listing (text_of_lines (codes "tree 1" ∷ codes "0 dir" ∷ codes "1 dir 0 .." ∷ codes "x" ∷ [])) ≡ Err (BadName 3)

pub fault_order_rows : FaultOrderRows
fault_order_rows = record {
  header_before_root = refl;
  root_before_entries = refl;
  line_before_number = refl;
  number_before_parent = refl;
  parent_before_name = refl;
  name_before_target = refl;
  target_before_taken = refl;
  name_before_node = refl;
  node_before_taken = refl;
  taken_before_room = refl;
  no_room = refl;
  last_room = refl;
  no_second_room = refl;
  wide_room = refl;
  no_wide_room = refl;
  earlier_line_first = refl;
}

-- what is no name, by its first fault
pub record NameRows : Type 0 where
  pub slash_before_empty : name_of (codes "/") ≡ Err BadSpelling
  pub slash_before_length : name_of (replicate 256 47) ≡ Err BadSpelling
  pub escape_of_plain : name_of (codes "\\141") ≡ Err BadSpelling
  pub nothing : name_of [] ≡ Err Empty
  pub length_before_nul : name_of (replicate 255 97 ++ codes "\\000") ≡ Err TooLong
  pub longest : name_of (replicate 255 97) ≡ Ok (replicate 255 97)
  pub nul : name_of (codes "a\\000") ≡ Err NotAName
  pub dot : name_of (codes ".") ≡ Err NotAName
  pub three_dots : name_of (codes "...") ≡ Ok (codes "...")

pub name_rows : NameRows
name_rows = record {
  slash_before_empty = refl;
  slash_before_length = refl;
  escape_of_plain = refl;
  nothing = refl;
  length_before_nul = refl;
  longest = refl;
  nul = refl;
  dot = refl;
  three_dots = refl;
}

-- the example tree is a tree
abbrev pub ExampleIsTree : Type 0
ExampleIsTree = WellFormed example_tree

pub example_is_tree : ExampleIsTree
example_is_tree = record { rows_in_order = refl; nodes_in_order = refl; root = refl; rows_fit = refl; nodes_fit = refl; marks_fit = refl }

-- the example tree after its program came to stand where its one file stood
abbrev pub tree_after_move : Tree
tree_after_move = record empty_tree {
  rows = ((0, codes "etc"), 1) ∷ ((0, codes "t"), 4) ∷ ((0, codes "tmp"), 3) ∷ ((1, codes "passwd"), 7) ∷ (
    (3, codes "self"),
    6,
  ) ∷ ((3, codes "up"), 5) ∷ [];
  nodes = (0, record { kind = Dir; target = None; mount = false }) ∷ (1, record { kind = Dir; target = None; mount = false }) ∷ (3, record { kind = Dir; target = None; mount = false })
      ∷ (4, record { kind = Link; target = Some (codes "tmp"); mount = false }) ∷ (5, record { kind = Link; target = Some (codes "../etc"); mount = false }) ∷ (
        6,
        record { kind = Link; target = Some (codes "self"); mount = false },
      ) ∷ (7, record { kind = Prog; target = None; mount = false }) ∷ [];
  next = 8;
}

abbrev pub small_tree : Tree
small_tree = record empty_tree {
  rows = ((0, codes "a"), 1) ∷ ((0, codes "b"), 2) ∷ [];
  nodes = (0, record { kind = Dir; target = None; mount = false }) ∷ (1, record { kind = Dir; target = None; mount = false }) ∷ (2, record { kind = File; target = None; mount = false })
      ∷ [];
  next = 3;
}

-- the tree of two names without the first
abbrev pub tree_of_second_name : Tree
tree_of_second_name = record empty_tree {
  rows = ((0, codes "a"), 1) ∷ ((1, codes "c"), 2) ∷ [];
  nodes = (0, record { kind = Dir; target = None; mount = false }) ∷ (1, record { kind = Dir; target = None; mount = false }) ∷ (2, record { kind = File; target = None; mount = false })
      ∷ [];
  next = 3;
}

-- edits and their faults, the first that holds
pub record EditRows : Type 0 where
  pub added : add small_tree 1 (codes "c") plain ≡ Ok (
    3,
    record empty_tree {
      rows = ((0, codes "a"), 1) ∷ ((0, codes "b"), 2) ∷ ((1, codes "c"), 3) ∷ [];
      nodes = (0, record { kind = Dir; target = None; mount = false }) ∷ (1, record { kind = Dir; target = None; mount = false }) ∷ (
        2,
        record { kind = File; target = None; mount = false },
      ) ∷ (3, plain) ∷ [];
      next = 4;
    },
  )
  pub into_file : add example_tree 2 (codes "passwd") plain ≡ Err NotDir
  pub name_taken : add (record example_tree { next = 4294967295 }) 0 (codes "tmp") plain ≡ Err NameTaken
  pub no_number : add (record example_tree { next = 4294967295 }) 0 (codes "tmpp") plain ≡ Err Full
  pub tied : tie small_tree 1 (codes "c") 2 ≡ Ok tree_of_two_names
  pub tied_without_number : tie (record small_tree { next = 4294967295 }) 1 (codes "c") 2
      ≡ Ok (record tree_of_two_names { next = 4294967295 })
  pub tie_in_file : tie small_tree 2 (codes "c") 9 ≡ Err NotDir
  pub tie_nothing : tie small_tree 0 (codes "b") 9 ≡ Err Missing
  pub tie_dir : tie small_tree 0 (codes "b") 1 ≡ Err IsDir
  pub tie_taken : tie small_tree 0 (codes "b") 2 ≡ Err NameTaken
  pub cut_one_name : cut tree_of_two_names 0 (codes "b") ≡ Ok (2, tree_of_second_name)
  pub cut_last_name : cut tree_of_second_name 1 (codes "c") ≡ Ok (
    2,
    record empty_tree {
      rows = ((0, codes "a"), 1) ∷ [];
      nodes = (0, record { kind = Dir; target = None; mount = false }) ∷ (1, record { kind = Dir; target = None; mount = false }) ∷ [];
      next = 3;
    },
  )
  pub between_names : shift tree_of_two_names 0 (codes "b") 1 (codes "c") ≡ Ok tree_of_two_names
  pub cut_dir : cut small_tree 0 (codes "a") ≡ Ok (
    1,
    record empty_tree {
      rows = ((0, codes "b"), 2) ∷ [];
      nodes = (0, record { kind = Dir; target = None; mount = false }) ∷ (2, record { kind = File; target = None; mount = false }) ∷ [];
      next = 3;
    },
  )
  pub cut_in_link : cut example_tree 4 (codes "sh") ≡ Err NotDir
  pub cut_nothing : cut example_tree 0 (codes "sh") ≡ Err Missing
  pub cut_full_dir : cut example_tree 0 (codes "tmp") ≡ Err NotEmpty
  pub moved : shift example_tree 3 (codes "sh") 1 (codes "passwd") ≡ Ok tree_after_move
  pub onto_empty_dir : shift small_tree 0 (codes "b") 0 (codes "a") ≡ Ok (record empty_tree {
    rows = ((0, codes "a"), 2) ∷ [];
    nodes = (0, record { kind = Dir; target = None; mount = false }) ∷ (2, record { kind = File; target = None; mount = false }) ∷ [];
    next = 3;
  })
  pub in_place : shift example_tree 0 (codes "tmp") 0 (codes "tmp") ≡ Ok example_tree
  pub move_from_file : shift example_tree 2 (codes "x") 0 (codes "y") ≡ Err NotDir
  pub move_to_gone : shift example_tree 0 (codes "x") 9 (codes "y") ≡ Err NotDir
  pub move_nothing : shift example_tree 0 (codes "x") 0 (codes "tmp") ≡ Err Missing
  pub into_itself : shift example_tree 0 (codes "etc") 1 (codes "passwd") ≡ Err Inside
  pub onto_full_dir : shift example_tree 0 (codes "etc") 0 (codes "tmp") ≡ Err NotEmpty

pub edit_rows : EditRows
edit_rows = record {
  added = refl;
  into_file = refl;
  name_taken = refl;
  no_number = refl;
  tied = refl;
  tied_without_number = refl;
  tie_in_file = refl;
  tie_nothing = refl;
  tie_dir = refl;
  tie_taken = refl;
  cut_one_name = refl;
  cut_last_name = refl;
  between_names = refl;
  cut_dir = refl;
  cut_in_link = refl;
  cut_nothing = refl;
  cut_full_dir = refl;
  moved = refl;
  onto_empty_dir = refl;
  in_place = refl;
  move_from_file = refl;
  move_to_gone = refl;
  move_nothing = refl;
  into_itself = refl;
  onto_full_dir = refl;
}
