-- What is so of whatever a call on a path can change is so of what it changes: nothing, by one of the calls that edit a tree a
-- row, where its process works, or by exec the program.
use Rattle.pua_ever.proofs.Common.{◌≡◌, ℕ, refl, ap, true, is_some, Spot, Node, Found, CallTable, execpromises_by, Call, Change, change_by, by_going, Among}
use Rattle.pua_ever.proofs.Common.{among_filter}
use Rattle.pua_path.specs.Fits.{spot_named, node_named}
use Rattle.pua_calls.specs.Calls.{calls}
use Rattle.pua_calls.specs.declared.call.Call.TheVariants as call
use Rattle.pua_policy.specs.States.{Moved, ToDir}
use Rattle.pua_script.specs.Confinement.{changes_names}
use Rattle.pua_script.specs.Decide.{NoChange, AddNode, CutRow, BeginProgram, AddEvent, made_as, plain_node, made_by}
use Rattle.pua_script.proofs.ForCallers.{by_making, by_cutting, adding_changes}
use Rattle.pua_objects.proofs.ForCallers.{one_of_calls}
use Rattle.pua_ever.specs.Ever.{edit_calls}

pub among_edits : (c : Call) → changes_names c ≡ true → Among edit_calls c
among_edits c changes = among_filter changes_names calls c changes (one_of_calls c)

pub by_calling : (table : CallTable) (P : Change → Type 0) → P NoChange → (c : Call) →
    (Among edit_calls c → (s : Spot) (node : Node) → P (AddNode s node)) → (Among edit_calls c → (s : Spot) → P (CutRow s)) →
    ((dir : ℕ) → P (AddEvent (Moved (ToDir dir)))) → (c ≡ call.Exec → P (BeginProgram (execpromises_by table.whose))) → (x : Found) →
    P (change_by table c x)
by_calling table P stays call.Rmdir adds cuts goes starts x =
    by_cutting P stays (spot_named x) (node_named x) (λ s is. cuts (among_edits call.Rmdir refl) s)
by_calling table P stays call.Unlink adds cuts goes starts x =
    by_cutting P stays (spot_named x) (node_named x) (λ s is. cuts (among_edits call.Unlink refl) s)
by_calling table P stays call.Chdir adds cuts goes starts x = by_going P stays x goes
by_calling table P stays call.Exec adds cuts goes starts x = starts refl
by_calling table P stays c adds cuts goes starts x =
    by_making P stays table.whose (made_by c) (spot_named x) (node_named x)
    (λ what s made at. adds (among_edits c (adding_changes c (ap is_some made))) s (plain_node (made_as table.whose what)))
