-- A request is answered ENOSPC only where it adds a node or a name for which there is no room.
use Rattle.pua_script.proofs.Common.{◌≡◌, refl, ap, ◌∙◌, Ok, Err, IsTrue, Tree, WellFormed, Errno, ENOSPC, CallTable, ProcessState, Failed}
use Rattle.pua_script.proofs.Common.{Killed, Action, Change, AddNode, TieRow, Decision, decide, World, Fails, come_of, effect}
use Rattle.pua_script.specs.Decide.{fails}
use Rattle.pua_script.specs.Laws.{LacksRoom, RequestLacksRoom, RequestsLackRoom, wants_room, lacks_room}
use Rattle.pua_script.proofs.Guarding.{decisions_are_guarded, grounds, refusals_lack_no_room}
use Rattle.pua_script.proofs.Possible.{decisions_are_possible}
use Rattle.pua_script.proofs.Room.{changes_lack}
use Rattle.pua_script.proofs.Grounds.{Grounds}

-- which requests are granted a change that may want room
module _ (t : Tree) where
  abbrev Wants : Action → Change → Type 0
  Wants action change = IsTrue (wants_room t change) → IsTrue (lacks_room t action)

  module _ (h : ProcessState) (table : CallTable) where
    wants_by : (action : Action) (c : Change) → Grounds table t h action c → Wants action c
    wants_by action (AddNode spot node) g = g.room
    wants_by action (TieRow spot x) g = g.room
    wants_by action _ g = λ e. cc

module _ (table : CallTable) (w : World) (h : ProcessState) (action : Action) (well : WellFormed w.tree) where
  lacks : (d : Decision) → decide table w.tree h action ≡ d → come_of w h d ≡ Fails ENOSPC → LacksRoom table w.tree h action
  lacks (Ok c) is e = record
      { change = c; granted = is; full = (changes_lack w h c (decisions_are_possible table w.tree h action c well is)).0 e }
  lacks (Err (Failed errno)) is e = absurd (refusals_lack_no_room table w.tree h action (is ∙ ap fails (same_errno errno e)))
    where
      same_errno : (errno : Errno) → Fails errno ≡ Fails ENOSPC → errno ≡ ENOSPC
      same_errno errno e = cc
  lacks (Err Killed) is e = cc

  fails_so : LacksRoom table w.tree h action → effect table w h action ≡ Fails ENOSPC
  fails_so lacking = ap (come_of w h) lacking.granted ∙
      (changes_lack w h lacking.change (decisions_are_possible table w.tree h action lacking.change well lacking.granted)).1 lacking.full

  request_lacks : RequestLacksRoom table w h action
  request_lacks = record {
    exact = (lacks (decide table w.tree h action) refl, fails_so);
    only = λ e.
        let lacking = lacks (decide table w.tree h action) refl e in
        wants_by w.tree h table action lacking.change
        (grounds table w.tree h action lacking.change (decisions_are_guarded table w.tree h action lacking.change lacking.granted))
        lacking.full;
  }

pub requests_lack : RequestsLackRoom
requests_lack table w h action well = request_lacks table w h action well
