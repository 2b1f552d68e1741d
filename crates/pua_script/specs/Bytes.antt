-- Texts as bytes: in the definitions a text is a list of numbers.
use Rattle.std.specs.Prelude.{◌≡◌, ℕ, Bool, true, ◌&&◌, List, nat_lt, Some, Ok, IsTrue}
use Rattle.std.specs.List.{list_all}
use Rattle.pua_tree.specs.Tree.{Tree, WellFormed, target_at}
use Rattle.pua_tree.specs.Listing.{listing}
use Rattle.pua_calls.specs.Calls.{CallTable}
use Rattle.pua_script.specs.Requests.{Asked}
use Rattle.pua_script.specs.Scripts.{script_by}
use Rattle.pua_calls.specs.declared.rules.Rules.{Rules}
use Rattle.pua_script.specs.Replay.{World, apply, world_after}
use Rattle.pua_script.specs.Confinement.{TreesAlong}
use Rattle.pua_script.specs.declared.request.Action.{Action}
use Rattle.pua_script.specs.declared.request.Action.TheVariants.{OnPath, Symlink, Rename, Link, Unveil, Hold, Chroot}

abbrev pub is_bytes : List ℕ → Bool
is_bytes text = list_all (λ b. nat_lt b 256) text

-- a request whose texts are bytes
abbrev pub is_in_bytes : Action → Bool
is_in_bytes (OnPath call path) = is_bytes path
is_in_bytes (Symlink target path) = is_bytes target && is_bytes path
is_in_bytes (Rename old new) = is_bytes old && is_bytes new
is_in_bytes (Link old new) = is_bytes old && is_bytes new
is_in_bytes (Unveil path perms) = is_bytes path
is_in_bytes (Hold number call path) = is_bytes path
is_in_bytes (Chroot path) = is_bytes path
is_in_bytes _ = true

abbrev pub are_in_bytes : List Asked → Bool
are_in_bytes asks = list_all (λ ask. is_in_bytes ask.action) asks

-- a tree whose links lead to bytes
pub record IsByteTree (t : Tree) : Type 0 where
  pub tree : WellFormed t
  pub targets : (x : ℕ) (target : List ℕ) → target_at t x ≡ Some target → IsTrue (is_bytes target)

-- a request leaves such a tree
abbrev pub RequestsKeepTrees : Type 0
RequestsKeepTrees = (table : CallTable) (w : World) (ask : Asked) → IsByteTree w.tree → IsTrue (is_in_bytes ask.action) →
    IsByteTree (apply table w ask).1.tree

-- so each world on the way of requests in bytes has a tree
abbrev pub ReplaysKeepTrees : Type 0
ReplaysKeepTrees = (table : CallTable) (w : World) (asks : List Asked) → IsByteTree w.tree → IsTrue (are_in_bytes asks) →
    TreesAlong table w asks

-- and leaves such a tree at the end
abbrev pub ReplaysKeepByteTrees : Type 0
ReplaysKeepByteTrees = (table : CallTable) (w : World) (asks : List Asked) → IsByteTree w.tree → IsTrue (are_in_bytes asks) →
    IsByteTree (world_after table w asks).tree

-- what is read as a listing is such a tree
abbrev pub ListingsListByteTrees : Type 0
ListingsListByteTrees = (bytes : List ℕ) (t : Tree) → listing bytes ≡ Ok t → IsByteTree t

-- and what is read as a script asks in bytes
abbrev pub ScriptsAskInBytes : Type 0
ScriptsAskInBytes = (rules : Rules) (bytes : List ℕ) (asks : List Asked) → script_by rules bytes ≡ Ok asks → IsTrue (are_in_bytes asks)
