-- Rows whose names are kept once, as rows by their spots.
use Rattle.std.specs.Prelude.{ℕ, ◌≡◌, ◌<◌, List, [], length, All, Option, Some, option_map, slice_get, slice_index_or, if◌then◌else◌}
use Rattle.std.specs.Prelude.{MatchOption, false}
use Rattle.std.specs.List.{list_any}
use Rattle.std.specs.Map.{lookup}
use Rattle.pua_tree.specs.Names.{same_bytes}
use Rattle.pua_tree.specs.Tree as tree
use Rattle.pua_tree.specs.declared.spot.Spot.{Spot}
use Rattle.pua_tree.specs.declared.spot.RowKey.{RowKey}
use Rattle.pua_tree.specs.declared.spot.RowNode.{RowNode}
use Rattle.pua_tree.specs.contracts.spot.SpotPartialEq.TheImpl.{ghosts as spot_ghosts}

-- rows by their spots, the names that are kept, and room for so many more rows
pub record HeldRows : Type 0 where
  pub entries : List (Spot × RowNode)
  pub names : List (List ℕ)
  pub room : ℕ

-- a spot as the key of a row
abbrev pub key_at : tree.Spot → Spot
key_at at = record { dir = at.0; name = at.1 }

-- the spot of a key, whose name is at its place
abbrev pub spotted : List (List ℕ) → RowKey → Spot
spotted names key = record { dir = key.dir; name = slice_index_or names key.name [] }

abbrev pub spot_entry : List (List ℕ) → RowKey × RowNode → Spot × RowNode
spot_entry names e = (spotted names e.0, e.1)

-- an entry as a row of a tree
abbrev pub tree_row : Spot × RowNode → tree.Spot × ℕ
tree_row e = ((e.0.dir, e.0.name), e.1.node)

-- the spot of a key, where there is a name at its place
abbrev pub spot_at : List (List ℕ) → RowKey → Option tree.Spot
spot_at names key = option_map (λ name. (key.dir, name)) (slice_get names key.name)

-- a name's place among those that are kept, and none where it is not
abbrev pub IsPlaceOf : List (List ℕ) → List ℕ → Option ℕ → Type 0
IsPlaceOf names name place = MatchOption place (list_any (same_bytes name) names ≡ false) (λ i. slice_get names i ≡ Some name)

-- the name of each row is kept
abbrev pub AreNamed : List (List ℕ) → List (RowKey × RowNode) → Type 0
AreNamed names es = All (λ e. e.0.name < length names) es

-- what stands in the row at a spot
abbrev pub row_of : HeldRows → tree.Spot → Option RowNode
row_of rows at = lookup (spot_ghosts.eq (key_at at)) rows.entries

-- at a spot stands this, or nothing, and at each other what stood there
abbrev pub ChangesAt : tree.Spot → Option RowNode → HeldRows → HeldRows → Type 0
ChangesAt at row old new = (q : Spot) → lookup (spot_ghosts.eq q) new.entries
    ≡ (if spot_ghosts.eq (key_at at) q then row else lookup (spot_ghosts.eq q) old.entries)

-- each name that was kept is still at its place
abbrev pub KeepsNames : HeldRows → HeldRows → Type 0
KeepsNames old new = (key : RowKey) (at : tree.Spot) → spot_at old.names key ≡ Some at → spot_at new.names key ≡ Some at
