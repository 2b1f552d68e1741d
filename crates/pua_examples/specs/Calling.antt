-- What the callers of the libraries say in their contracts.
use Rattle.std.specs.Prelude.{◌≡◌, ℕ, List, [], ◌∷◌, Option, Some, None, Result, Ok, Err, IsTrue}
use Rattle.pua_tree.specs.Tree.{Tree}
use Rattle.pua_tree.specs.declared.fault.ListingFault.{ListingFault}
use Rattle.pua_calls.specs.Calls.{CallTable}
use Rattle.pua_policy.specs.States.{ProcessState}
use Rattle.pua_script.specs.Requests.{Asked}
use Rattle.pua_script.specs.Replay.{World, kept_at}
use Rattle.pua_script.specs.Laws.{IsConfined}
use Rattle.pua_script.specs.Family.{none_done, is_exec}
use Rattle.pua_script.specs.Confinement.{TreesAlong}
use Rattle.pua_ever.specs.Laws.{PlacesStand, MembersEdit}
use Rattle.pua_script.specs.declared.fault.ScriptFault.{ScriptFault}
use Rattle.pua_tool.specs.declared.fault.ToolFault.{ToolFault}
use Rattle.pua_tool.specs.declared.fault.ToolFault.TheVariants.{Listing, Script}

-- the listing's fault, or else the script's
abbrev pub first_fault : Result Tree ListingFault → Result (List Asked) ScriptFault → Option ToolFault
first_fault (Err fault) script = Some (Listing fault)
first_fault (Ok tree) (Err fault) = Some (Script fault)
first_fault (Ok tree) (Ok asks) = None

-- whatever a process and what it forks ask for, as long as they alone ask, behind a world with this tree in which its veils stand:
-- no exec of theirs is answered ok
abbrev pub NeverStarts : Tree → ProcessState → CallTable → Type 0
NeverStarts t process table =
    (w : World) (asks : List Asked) (number : ℕ) →
    w.tree ≡ t → kept_at w number ≡ Some process → IsConfined process → PlacesStand w → TreesAlong table w asks →
    MembersEdit table w asks (number ∷ []) → IsTrue (none_done is_exec table w asks (number ∷ []))
