-- What the listing of a tree is that a command writes.
use Rattle.std.specs.Prelude.{◌≡◌, ℕ, List, Ok}
use Rattle.pua_tree.specs.Tree.{Tree}
use Rattle.pua_tree.specs.Listing.{listing}
use Rattle.pua_listing.specs.Same.{ReadsBack}
use Rattle.pua_calls.specs.Calls.{CallTable}
use Rattle.pua_script.specs.Requests.{Asked}
use Rattle.pua_script.specs.Scripts.{script_by}
use Rattle.pua_script.specs.Replay.{new_world, world_after}
use Rattle.pua_tool.specs.Texts.{Chosen, table_by}
use Rattle.pua_tool.specs.TreeTexts.{tree_text}

-- the listing of the tree that a script leaves is read as this tree, under new numbers
abbrev pub TreeAsWritten : Type 0
TreeAsWritten = (choice : Chosen) (tree_bytes script_bytes : List ℕ) (table : CallTable) (t : Tree) (asks : List Asked) (text : List ℕ) →
    table_by choice ≡ Ok table → listing tree_bytes ≡ Ok t → script_by choice.rules script_bytes ≡ Ok asks →
    tree_text choice tree_bytes script_bytes ≡ Ok text → ReadsBack (world_after table (new_world t) asks).tree text
