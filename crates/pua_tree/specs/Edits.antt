-- The changes of a tree as changes of its rows, each with its faults in their order.
use Rattle.std.specs.Prelude.{ℕ, ◌+◌, Bool, false, not, ◌&&◌, if◌then◌else◌, List, length, nat_lt, ◌==◌, Option, Some, None, Result, Ok}
use Rattle.std.specs.Prelude.{Err, is_some, IsOk, ◌≡◌}
use Rattle.std.specs.List.{list_any}
use Rattle.std.specs.Ordering.{nat_cmp, is_eq}
use Rattle.std.specs.FinMap.{put}
use Rattle.std.specs.FinMap.Entries.{where_key}
use Rattle.pua_tree.specs.Limits.{number_end}
use Rattle.pua_tree.specs.Tree.{Node, Tree, spot_cmp, is_dir, is_living, look, has_no_row, rows_of, climb}
use Rattle.pua_tree.specs.declared.fault.TreeFault.{TreeFault}
use Rattle.pua_tree.specs.declared.fault.TreeFault.TheVariants.{Missing, Taken, NotDir, NotEmpty, Inside, Full, OutOfMemory, IsDir}

-- a further name needs room among the names, of which the root counts as one
abbrev pub has_name_room : Tree → Bool
has_name_room t = nat_lt (length t.rows + 1) t.room

-- a further node needs a number
abbrev pub has_number_room : Tree → Bool
has_number_room t = nat_lt t.next number_end

-- and, since it comes with a name, room for that
abbrev pub has_room : Tree → Bool
has_room t = has_name_room t && has_number_room t

abbrev pub with_row : Tree → ℕ → List ℕ → ℕ → Tree
with_row t dir name x = record t { rows = put spot_cmp (dir, name) x t.rows }

abbrev pub without_row : Tree → ℕ → List ℕ → Tree
without_row t dir name = record t { rows = where_key spot_cmp (λ spot. not (is_eq (spot_cmp (dir, name) spot))) t.rows }

abbrev pub without_node : Tree → ℕ → Tree
without_node t x = record t { nodes = where_key nat_cmp (λ y. not (is_eq (nat_cmp x y))) t.nodes }

-- a node without a row is taken away
abbrev pub without_unnamed : Tree → ℕ → Tree
without_unnamed t x = if rows_of t x == 0 then without_node t x else t

-- the tree with a new node, whose number is `next`, in a new row
abbrev pub with_new : Tree → ℕ → List ℕ → Node → Tree
with_new t dir name node = record t {
  rows = put spot_cmp (dir, name) t.next t.rows;
  nodes = put nat_cmp t.next node t.nodes;
  next = t.next + 1;
}

-- adds a node: its number and the tree after it
abbrev pub add : Tree → ℕ → List ℕ → Node → Result (ℕ × Tree) TreeFault
add t dir name node =
    if not (is_dir t dir) then Err NotDir
    else (if is_some (look t dir name) then Err Taken
    else (if has_room t then Ok (t.next, with_new t dir name node) else Err Full))

-- gives a living node that is no directory a further name
abbrev pub tie : Tree → ℕ → List ℕ → ℕ → Result Tree TreeFault
tie t dir name x =
    if not (is_dir t dir) then Err NotDir
    else (if not (is_living t x) then Err Missing
    else (if is_dir t x then Err IsDir
    else (if is_some (look t dir name) then Err Taken
    else (if has_name_room t then Ok (with_row t dir name x) else Err Full))))

-- a directory in which something stands
abbrev pub is_full_dir : Tree → ℕ → Bool
is_full_dir t x = is_dir t x && not (has_no_row t x)

abbrev pub cut_found : Tree → ℕ → List ℕ → Option ℕ → Result (ℕ × Tree) TreeFault
cut_found t dir name None = Err Missing
cut_found t dir name (Some x) = if is_full_dir t x then Err NotEmpty else Ok (x, without_unnamed (without_row t dir name) x)

-- takes a row away, and its node if that was its last row: the node and the tree after it
abbrev pub cut : Tree → ℕ → List ℕ → Result (ℕ × Tree) TreeFault
cut t dir name = if not (is_dir t dir) then Err NotDir else cut_found t dir name (look t dir name)

-- the row of x moved to a spot at which nothing stands, or y
abbrev pub with_row_moved : Tree → ℕ → List ℕ → ℕ → List ℕ → ℕ → Option ℕ → Tree
with_row_moved t from name to new_name x None = with_row (without_row t from name) to new_name x
with_row_moved t from name to new_name x (Some y) = without_unnamed (with_row (without_row t from name) to new_name x) y

abbrev pub is_same_node : ℕ → Option ℕ → Bool
is_same_node x None = false
is_same_node x (Some y) = x == y

abbrev pub is_full_dir_there : Tree → Option ℕ → Bool
is_full_dir_there t None = false
is_full_dir_there t (Some y) = is_full_dir t y

-- a directory would stand in itself or beneath itself
abbrev pub is_inside : Tree → ℕ → ℕ → Bool
is_inside t x to = is_dir t x && list_any (λ d. d == x) (climb t to)

abbrev pub shift_found : Tree → ℕ → List ℕ → ℕ → List ℕ → Option ℕ → Option ℕ → Result Tree TreeFault
shift_found t from name to new_name None there = Err Missing
shift_found t from name to new_name (Some x) there =
    if is_same_node x there then Ok t
    else (if is_inside t x to then Err Inside
    else (if is_full_dir_there t there then Err NotEmpty
    else Ok (with_row_moved t from name to new_name x there)))

-- moves a row; what stood at the new spot is taken away with its last row, and a move between two rows of one node changes nothing
abbrev pub shift : Tree → ℕ → List ℕ → ℕ → List ℕ → Result Tree TreeFault
shift t from name to new_name =
    if not (is_dir t from && is_dir t to) then Err NotDir
    else shift_found t from name to new_name (look t from name) (look t to new_name)

-- an edit answers a fault just where the rule has it; want of memory is judged last
abbrev pub Refuses : {A : Type 0} → Result A TreeFault → TreeFault → Type 0
Refuses rule OutOfMemory = IsOk rule
Refuses rule fault = rule ≡ Err fault
