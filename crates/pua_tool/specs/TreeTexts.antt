-- The listing of the tree that a script leaves, and what refuses it.
use Rattle.std.specs.Prelude.{List, ℕ, Result, Ok, Err}
use Rattle.pua_tree.specs.Steps.{◌>>=◌}
use Rattle.pua_listing.specs.Listed.{listed}
use Rattle.pua_listing.specs.declared.fault.ListFault.{ListFault}
use Rattle.pua_listing.specs.declared.fault.ListFault.TheVariants as unlisted
use Rattle.pua_tool.specs.Texts.{Chosen, replay_of}
use Rattle.pua_tool.specs.declared.fault.ToolFault.{ToolFault}
use Rattle.pua_tool.specs.declared.fault.ToolFault.TheVariants.{TooManyNames, OutOfMemory}

abbrev pub list_fault : ListFault → ToolFault
list_fault unlisted.TooManyNames = TooManyNames
list_fault unlisted.OutOfMemory = OutOfMemory

abbrev pub as_listed : Result (List ℕ) ListFault → Result (List ℕ) ToolFault
as_listed (Ok text) = Ok text
as_listed (Err fault) = Err (list_fault fault)

-- the listing of the tree that a script over a listing leaves, or the first fault: the table's, the listing's, the script's,
-- or that the tree has more names than a listing has lines
abbrev pub tree_text : Chosen → List ℕ → List ℕ → Result (List ℕ) ToolFault
tree_text choice tree_bytes script_bytes = replay_of choice tree_bytes script_bytes >>= λ done. as_listed (listed done.world.tree)
