-- The listing of the tree that a script leaves is read as this tree.
use Rattle.pua_tool.proofs.Common.{◌≡◌, ◌∙◌, ap, sym, ℕ, List, Result, Ok, Err, ◌>>=◌, Tree, new_world, world_after}
use Rattle.pua_tool.proofs.Common.{as_listing, as_script}
use Rattle.pua_listing.specs.Laws.{ListingsReadBack}
use Rattle.pua_listing.specs.Listed.{listed}
use Rattle.pua_listing.specs.declared.fault.ListFault.{ListFault}
use Rattle.pua_script.specs.Bytes.{ReplaysKeepByteTrees, ListingsListByteTrees, ScriptsAskInBytes}
use Rattle.pua_tool.specs.ReadBack.{TreeAsWritten}
use Rattle.pua_tool.specs.TreeTexts.{as_listed}
use Rattle.pua_tool.proofs.Replays.{replayed_is}

text_is : (r : Result (List ℕ) ListFault) (text : List ℕ) → as_listed r ≡ Ok text → r ≡ Ok text
text_is (Ok bytes) text is = let same : bytes ≡ text = cc in ap Ok same
text_is (Err fault) text is = cc

pub tree_as_written : ListingsReadBack → ReplaysKeepByteTrees → ListingsListByteTrees → ScriptsAskInBytes → TreeAsWritten
tree_as_written back keep lists asking choice tree_bytes script_bytes table t asks text given read scripted is =
    let left = keep table (new_world t) asks (lists tree_bytes t read) (asking choice.rules script_bytes asks scripted) in
    let after : Tree = (world_after table (new_world t) asks).tree in
    let replayed = replayed_is choice tree_bytes script_bytes table t asks given (ap as_listing read) (ap as_script scripted) in
    let told : as_listed (listed after) ≡ Ok text = sym (λ i. replayed i >>= λ done. as_listed (listed done.world.tree)) ∙ is in
    back after text left.tree left.targets (text_is (listed after) text told)
