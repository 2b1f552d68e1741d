-- What is true of replays.
use Rattle.std.specs.Prelude.{not, ◌&&◌, ◌≡◌, ◌≢◌, ◌↔◌, Bool, true, false, ◌⊎◌, Ok, Err, List, ◌++◌, IsTrue, is_some}
use Rattle.pua_tree.specs.Tree.{Tree, WellFormed}
use Rattle.pua_tree.specs.Edits.{has_name_room, has_room}
use Rattle.pua_path.specs.declared.errno.Errno.TheVariants.{ENOSPC}
use Rattle.pua_calls.specs.Promises.{holds, unveil}
use Rattle.pua_policy.specs.States.{ProcessState, held_set, is_locked}
use Rattle.pua_calls.specs.Calls.{CallTable}
use Rattle.pua_policy.specs.declared.answer.Refusal.TheVariants.{Failed}
use Rattle.pua_calls.specs.declared.call.Call.{Call}
use Rattle.pua_script.specs.declared.request.Action.{Action}
use Rattle.pua_script.specs.declared.request.Action.TheVariants.{OnPath, Symlink, Link}
use Rattle.pua_script.specs.Requests.{Asked}
use Rattle.pua_script.specs.Decide.{Change, AddNode, TieRow, decide, made_by}
use Rattle.pua_script.specs.Guards.{IsPossible}
use Rattle.pua_script.specs.Replay.{World, Fails, change_effect, effect, answers_to, world_after}

-- a list of requests may be cut anywhere
abbrev pub ReplayComposes : Type 0
ReplayComposes = (table : CallTable) (w : World) (first second : List Asked) →
    (answers_to table w (first ++ second) ≡ answers_to table w first ++ answers_to table (world_after table w first) second)
    × (world_after table w (first ++ second) ≡ world_after table (world_after table w first) second)

-- the process can put no veil any more: it is locked, or doesn't hold `unveil`
abbrev pub IsConfined : ProcessState → Type 0
IsConfined h = (is_locked h ≡ true) ⊎ (holds (held_set h) unveil ≡ false)

-- the calls that add a node
abbrev pub adds_node : Call → Bool
adds_node call = is_some (made_by call)

-- a change that adds a node or a name for which the tree has no room
abbrev pub wants_room : Tree → Change → Bool
wants_room t (AddNode spot node) = not (has_room t)
wants_room t (TieRow spot x) = not (has_name_room t)
wants_room t _ = false

-- want of room is the only fault of the edits that are decided
abbrev pub DecisionsArePossible : Type 0
DecisionsArePossible = (table : CallTable) (t : Tree) (h : ProcessState) (action : Action) (change : Change) →
    WellFormed t → decide table t h action ≡ Ok change → IsPossible t change

-- such a change fails exactly where it wants room, and then with ENOSPC
abbrev pub ChangesLackRoom : Type 0
ChangesLackRoom = (w : World) (h : ProcessState) (change : Change) → IsPossible w.tree change →
    (change_effect w h change ≡ Fails ENOSPC) ↔ IsTrue (wants_room w.tree change)

-- nothing else is answered ENOSPC: no check before a change is
abbrev pub RefusalsLackNoRoom : Type 0
RefusalsLackNoRoom = (table : CallTable) (t : Tree) (h : ProcessState) (action : Action) → decide table t h action ≢ Err (Failed ENOSPC)

-- a request was granted a change for which there is no room
pub record LacksRoom (table : CallTable) (t : Tree) (h : ProcessState) (action : Action) : Type 0 where
  pub change : Change
  pub granted : decide table t h action ≡ Ok change
  pub full : IsTrue (wants_room t change)

-- a request that adds a node or a name, where the tree has no room for it
abbrev pub lacks_room : Tree → Action → Bool
lacks_room t (OnPath c path) = adds_node c && not (has_room t)
lacks_room t (Symlink target path) = not (has_room t)
lacks_room t (Link old new) = not (has_name_room t)
lacks_room t _ = false

-- a request is answered ENOSPC exactly where it was granted such a change, and no other request is
pub record RequestLacksRoom (table : CallTable) (w : World) (h : ProcessState) (action : Action) : Type 0 where
  pub exact : (effect table w h action ≡ Fails ENOSPC) ↔ LacksRoom table w.tree h action
  pub only : effect table w h action ≡ Fails ENOSPC → IsTrue (lacks_room w.tree action)

abbrev pub RequestsLackRoom : Type 0
RequestsLackRoom = (table : CallTable) (w : World) (h : ProcessState) (action : Action) → WellFormed w.tree → RequestLacksRoom table w h action
