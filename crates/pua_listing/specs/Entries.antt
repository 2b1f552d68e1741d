-- The entries of a listing of a tree: a line for each row, under numbers that count the lines.
use Rattle.std.specs.Prelude.{ℕ, suc, ◌==◌, Bool, true, false, ◌||◌, if◌then◌else◌, List, [], ◌∷◌, Option, Some, None, unwrap_or, nat_lt}
use Rattle.std.specs.List.{list_all, list_any}
use Rattle.pua_tree.specs.Tree.{Node, Tree, node_at}
use Rattle.pua_tree.specs.Listing.{Entry}
use Rattle.pua_listing.specs.Order.{Row, in_order}

-- the first line of a node among those of rows, of which the first has this number
abbrev pub first_line : ℕ → List Row → ℕ → Option ℕ
first_line n [] x = None
first_line n (row ∷ rows) x = if row.1 == x then Some n else first_line (suc n) rows x

-- the number of a node in the listing: that of its first line, and 0 for the root, which is in no row
abbrev pub number_of : List Row → ℕ → ℕ
number_of rows x = unwrap_or (first_line 1 rows x) 0

-- what the line of a row under this number makes: the row's node, if that is its number
abbrev pub made_under : Tree → (ℕ → ℕ) → ℕ → ℕ → Option Node
made_under t f n x = if f x == n then node_at t x else None

-- the entry of a row under the number of its line, where nodes are renumbered so
abbrev pub entry_for : Tree → (ℕ → ℕ) → ℕ → Row → Entry
entry_for t f n row = record {
  number = n;
  parent = f row.0.0;
  name = row.0.1;
  node = f row.1;
  made = made_under t f n row.1;
}

-- the entries of rows, of which the first has the line of this number
abbrev pub entries_from : Tree → (ℕ → ℕ) → ℕ → List Row → List Entry
entries_from t f n [] = []
entries_from t f n (row ∷ rows) = entry_for t f n row ∷ entries_from t f (suc n) rows

-- the new number of a node of a tree
abbrev pub new_number : Tree → ℕ → ℕ
new_number t = number_of (in_order t)

abbrev pub entries : Tree → List Entry
entries t = entries_from t (new_number t) 1 (in_order t)

-- a later row has the same node as an earlier one
abbrev pub has_second_lines : List Row → Bool
has_second_lines [] = false
has_second_lines (row ∷ rows) = list_any (λ other. other.1 == row.1) rows || has_second_lines rows

abbrev pub is_byte : ℕ → Bool
is_byte b = nat_lt b 256

-- a target is made of bytes
abbrev pub is_target_of_bytes : Option (List ℕ) → Bool
is_target_of_bytes None = true
is_target_of_bytes (Some target) = list_all is_byte target

abbrev pub leads_to_bytes : Option Node → Bool
leads_to_bytes None = true
leads_to_bytes (Some node) = is_target_of_bytes node.target
