-- A tree as rows, living nodes and the next number. Rows and nodes stand in the order of their keys,
-- so trees with the same rows, kinds, targets, next number and room are equal.
use Rattle.std.specs.Prelude.{ℕ, zero, suc, Bool, true, false, not, ◌&&◌, if◌then◌else◌, List, [], ◌∷◌, length, map, nat_lt, nat_le, ◌==◌}
use Rattle.std.specs.Prelude.{Option, Some, None, IsTrue, unwrap_or, option_map, option_and_then, count_by, is_some, is_none, find}
use Rattle.std.specs.List.{list_all, list_any}
use Rattle.std.specs.declared.cmp.Ordering.{Ordering}
use Rattle.std.specs.Ordering.{nat_cmp, ordering_then}
use Rattle.std.specs.Cmp.Lexicographic.{slice_cmp}
use Rattle.std.specs.FinMap.{is_sorted, find as find_key}
use Rattle.std.specs.FinMap.Entries.{by_order}
use Rattle.pua_tree.specs.Limits.{most_names}
use Rattle.pua_tree.specs.Names.{is_name, is_target}
use Rattle.pua_tree.specs.declared.node.Kind.{Kind}
use Rattle.pua_tree.specs.declared.node.Kind.TheVariants.{Dir, Link}

-- what a living node is, where it leads if it is a link, and whether another file system is mounted there if it is a directory
pub record Node : Type 0 where
  pub kind : Kind
  pub target : Option (List ℕ)
  pub mount : Bool

-- a directory's number and a name in it
abbrev pub Spot : Type 0
Spot = ℕ × List ℕ

-- names by their bytes, and spots by directory and then by name
abbrev pub name_cmp : List ℕ → List ℕ → Ordering
name_cmp = slice_cmp nat_cmp

abbrev pub spot_cmp : Spot → Spot → Ordering
spot_cmp a b = ordering_then (nat_cmp a.0 b.0) (name_cmp a.1 b.1)

-- rows from spots to nodes, the living nodes, a number above each of them, and how many names the tree may have
pub record Tree : Type 0 where
  pub rows : List (Spot × ℕ)
  pub nodes : List (ℕ × Node)
  pub next : ℕ
  pub room : ℕ

abbrev pub node_at : Tree → ℕ → Option Node
node_at t x = find_key nat_cmp x t.nodes

abbrev pub kind_at : Tree → ℕ → Option Kind
kind_at t x = option_map (λ n. n.kind) (node_at t x)

-- the target of a link
abbrev pub target_at : Tree → ℕ → Option (List ℕ)
target_at t x = option_and_then (λ n. n.target) (node_at t x)

abbrev pub is_dir_kind : Option Kind → Bool
is_dir_kind (Some Dir) = true
is_dir_kind _ = false

-- the number is a living directory's
abbrev pub is_dir : Tree → ℕ → Bool
is_dir t x = is_dir_kind (kind_at t x)

abbrev pub is_living : Tree → ℕ → Bool
is_living t x = is_some (node_at t x)

-- another file system is mounted at a directory
abbrev pub is_mount : Tree → ℕ → Bool
is_mount t x = unwrap_or (option_map (λ n. n.mount) (node_at t x)) false

-- the node in a row
abbrev pub look : Tree → ℕ → List ℕ → Option ℕ
look t dir name = find_key spot_cmp (dir, name) t.rows

-- the node in a row, and what it is
abbrev pub found_at : Tree → ℕ → List ℕ → Option (ℕ × Kind)
found_at t dir name = option_and_then (λ x. option_map (λ kind. (x, kind)) (kind_at t x)) (look t dir name)

-- a row whose node it is; a directory has one at most
abbrev pub spot_of : Tree → ℕ → Option Spot
spot_of t x = option_map (λ row. row.0) (find (λ row. row.1 == x) t.rows)

-- the spot of a directory; the root has none, and what is no living directory has none
abbrev pub dir_spot : Tree → ℕ → Option Spot
dir_spot t d = if is_dir t d then spot_of t d else None

-- the directory above a directory; the root is above itself
abbrev pub above : Tree → ℕ → ℕ
above t zero = zero
above t (suc d) = unwrap_or (option_map (λ spot. spot.0) (spot_of t (suc d))) 0

-- a directory's parent; what is no living directory has none
abbrev pub parent : Tree → ℕ → Option ℕ
parent t d = if is_dir t d then Some (above t d) else None

-- a directory and those above it, at most so many steps up, the root last
abbrev pub climb_within : ℕ → Tree → ℕ → List ℕ
climb_within zero t d = d ∷ []
climb_within (suc n) t zero = zero ∷ []
climb_within (suc n) t (suc d) = suc d ∷ climb_within n t (above t (suc d))

abbrev pub climb : Tree → ℕ → List ℕ
climb t d = climb_within (length t.nodes) t d

-- a living directory is this one, or stands beneath it
abbrev pub is_within : Tree → ℕ → ℕ → Bool
is_within t d outer = is_dir t d && list_any (λ e. e == outer) (climb t d)

-- the first of directories at which a file system is mounted; the root's is mounted at the root
abbrev pub first_mount : Tree → List ℕ → ℕ
first_mount t [] = 0
first_mount t (d ∷ ds) = if is_mount t d then d else first_mount t ds

-- the device of what stands in a directory: where its file system is mounted, at the directory itself or above it
abbrev pub device : Tree → ℕ → ℕ
device t d = if is_dir t d then first_mount t (climb t d) else 0

-- a living directory in which no row stands
abbrev pub has_no_row : Tree → ℕ → Bool
has_no_row t d = not (list_any (λ row. row.0.0 == d) t.rows)

abbrev pub is_empty : Tree → ℕ → Bool
is_empty t d = is_dir t d && has_no_row t d

-- the number of rows in which a node stands
abbrev pub rows_of : Tree → ℕ → ℕ
rows_of t x = count_by (λ row. row.1 == x) t.rows

-- a name at its place in a list of names that rises by bytes; one that is there already is not added
abbrev pub with_name : List ℕ → List (List ℕ) → List (List ℕ)
with_name n [] = n ∷ []
with_name n (m ∷ ms) = by_order (name_cmp n m) (n ∷ m ∷ ms) (m ∷ ms) (m ∷ with_name n ms)

-- the names as a set: distinct, ordered by bytes
abbrev pub distinct_names : List (List ℕ) → List (List ℕ)
distinct_names [] = []
distinct_names (n ∷ ns) = with_name n (distinct_names ns)

-- all names in rows
abbrev pub names : Tree → List (List ℕ)
names t = distinct_names (map (λ row. row.0.1) t.rows)

-- a row stands in a living directory, under a name, and has a living node that is not the root
abbrev pub row_fits : Tree → (Spot × ℕ) → Bool
row_fits t row = is_dir t row.0.0 && (is_name row.0.1 && (is_living t row.1 && not (row.1 == 0)))

-- a target stands exactly at links
abbrev pub target_fits : Kind → Option (List ℕ) → Bool
target_fits Link (Some target) = is_target target
target_fits Link None = false
target_fits _ target = is_none target

-- a file system is mounted at directories alone, and the root's own at no other
abbrev pub mount_fits : Node → Bool
mount_fits node = if node.mount then is_dir_kind (Some node.kind) else true

abbrev pub mark_fits : (ℕ × Node) → Bool
mark_fits entry = if entry.1.mount then is_dir_kind (Some entry.1.kind) && not (entry.0 == 0) else true

-- a directory but the root stands in one row, and climbing from it ends at the root
abbrev pub rows_fit_kind : Tree → ℕ → Kind → Bool
rows_fit_kind t zero kind = rows_of t 0 == 0
rows_fit_kind t (suc x) Dir = rows_of t (suc x) == 1 && list_any (λ d. d == 0) (climb t (suc x))
rows_fit_kind t (suc x) _ = nat_le 1 (rows_of t (suc x))

abbrev pub node_fits : Tree → (ℕ × Node) → Bool
node_fits t entry = nat_lt entry.0 t.next && (target_fits entry.1.kind entry.1.target && rows_fit_kind t entry.0 entry.1.kind)

-- what is true of every tree
pub record WellFormed (t : Tree) : Type 0 where
  pub rows_in_order : IsTrue (is_sorted spot_cmp t.rows)
  pub nodes_in_order : IsTrue (is_sorted nat_cmp t.nodes)
  pub root : IsTrue (is_dir t 0)
  pub rows_fit : IsTrue (list_all (row_fits t) t.rows)
  pub nodes_fit : IsTrue (list_all (node_fits t) t.nodes)
  pub marks_fit : IsTrue (list_all mark_fits t.nodes)

-- the root alone, with room for so many names
abbrev pub root_alone : ℕ → Tree
root_alone room = record { rows = []; nodes = (0, record { kind = Dir; target = None; mount = false }) ∷ []; next = 1; room = room }

abbrev pub empty_tree : Tree
empty_tree = root_alone most_names
