-- A change lacks room exactly where it adds a node or a name and there is none.
use Rattle.pua_script.proofs.Common.{◌≡◌, ◌≢◌, ℕ, Bool, true, false, not, cond, refl, sym, ap, ◌∙◌, Result, Ok, Err, IsOk, IsTrue, is_some}
use Rattle.pua_script.proofs.Common.{nat_le, Tree, Node, Spot, is_dir, is_living, add, tie, has_room, has_name_room, with_new, with_row}
use Rattle.pua_script.proofs.Common.{TreeFault, EAGAIN, ENOSPC, ProcessState, most_processes, NoChange, AddNode, CutRow, ShiftRow, TieRow}
use Rattle.pua_script.proofs.Common.{BeginProgram, AddEvent, CopyAs, Effect, Fails, Leaves, Copies, edit_effect, edited_tree, kept_at}
use Rattle.std.proofs.Common.{true≢false}
use Rattle.std.specs.Prelude.{◌↔◌, ◌||◌, length}
use Rattle.pua_script.proofs.Common.{◌&&◌, Option, Some, None, Errno, EINVAL, holds, held_set, is_ended, is_pledged, OpenFile, TakeFile, World}
use Rattle.pua_script.proofs.Common.{sent_by, take_effect}
use Rattle.pua_calls.specs.Promises.{sendfd}
use Rattle.pua_path.specs.declared.errno.Errno.TheVariants.{EBADF, EPERM}
use Rattle.pua_policy.specs.States.{file_at, is_directory}
use Rattle.pua_script.specs.Replay.{sent_of}
use Rattle.pua_tree.specs.declared.fault.TreeFault.TheVariants as faults
use Rattle.pua_script.specs.Guards.{IsFree}
use Rattle.pua_script.specs.Laws.{ChangesLackRoom}

leaves_not_fails : (t : Tree) (h : ProcessState) → Leaves t h ≡ Fails ENOSPC → ⊥
leaves_not_fails t h e = cc

-- nothing that isn't sent lacks room
sent_apart : (pledged : Bool) (sender : Option ProcessState) (theirs : ℕ) → sent_by pledged sender theirs ≢ Err ENOSPC
sent_apart pledged None theirs e = cc
sent_apart pledged (Some sender) theirs e = by (is_ended sender) (file_at sender.files theirs) e
  where
    may : (a b : Bool) (file : OpenFile) → cond (not a) (Err EPERM) (cond b (Err EINVAL) (Ok file)) ≢ Err ENOSPC
    may false b file e = cc
    may true true file e = cc
    may true false file e = cc

    by : (ended : Bool) (o : Option OpenFile) → cond ended (Err EBADF) (sent_of pledged sender o) ≢ Err ENOSPC
    by true o e = cc
    by false None e = cc
    by false (Some file) e = may (holds (held_set sender) sendfd) (is_directory file && (pledged || is_pledged sender)) file e

take_apart : (w : World) (h : ProcessState) (number : ℕ) (r : Result OpenFile Errno) → r ≢ Err ENOSPC → take_effect w h number r ≢ Fails ENOSPC
take_apart w h number (Ok file) other e = leaves_not_fails _ _ e
take_apart w h number (Err errno) other e = other (ap Err (same errno e))
  where
    same : (errno : Errno) → Fails errno ≡ Fails ENOSPC → errno ≡ ENOSPC
    same errno e = cc

never : (e : Effect) → e ≢ Fails ENOSPC → (e ≡ Fails ENOSPC) ↔ IsTrue false
never e other = (λ is. absurd (other is), λ b. absurd (true≢false (sym b)))

module _ (t : Tree) (h : ProcessState) where
  -- an edit that has no fault but want of room
  by_room : (room : Bool) (x : ℕ × Tree) → (edit_effect h (cond room (Ok x) (Err faults.Full)) ≡ Fails ENOSPC) ↔ IsTrue (not room)
  by_room true x = never _ (leaves_not_fails x.1 h)
  by_room false x = (λ _. refl, λ _. refl)

  by_name_room : (room : Bool) (u : Tree) → (edited_tree h (cond room (Ok u) (Err faults.Full)) ≡ Fails ENOSPC) ↔ IsTrue (not room)
  by_name_room true u = never _ (leaves_not_fails u h)
  by_name_room false u = (λ _. refl, λ _. refl)

  add_lacks : (spot : Spot) (node : Node) → IsFree t spot →
      (edit_effect h (add t spot.0 spot.1 node) ≡ Fails ENOSPC) ↔ IsTrue (not (has_room t))
  add_lacks spot node free =
      let is : add t spot.0 spot.1 node ≡ cond (has_room t) (Ok (t.next, with_new t spot.0 spot.1 node)) (Err faults.Full) =
      λ i. cond (not (free.0 i)) (Err faults.NotDir)
      (cond (is_some (free.1 i)) (Err faults.Taken) (cond (has_room t) (Ok (t.next, with_new t spot.0 spot.1 node)) (Err faults.Full)))
      in
      let room = by_room (has_room t) (t.next, with_new t spot.0 spot.1 node) in
      (λ e. room.0 (sym (ap (edit_effect h) is) ∙ e), λ full. ap (edit_effect h) is ∙ room.1 full)

  tie_lacks : (spot : Spot) (x : ℕ) → IsFree t spot → is_living t x ≡ true → is_dir t x ≡ false →
      (edited_tree h (tie t spot.0 spot.1 x) ≡ Fails ENOSPC) ↔ IsTrue (not (has_name_room t))
  tie_lacks spot x free living other =
      let is : tie t spot.0 spot.1 x ≡ cond (has_name_room t) (Ok (with_row t spot.0 spot.1 x)) (Err faults.Full) =
      λ i. cond (not (free.0 i)) (Err faults.NotDir)
      (cond (not (living i)) (Err faults.Missing)
      (cond (other i) (Err faults.IsDir)
      (cond (is_some (free.1 i)) (Err faults.Taken) (cond (has_name_room t) (Ok (with_row t spot.0 spot.1 x)) (Err faults.Full))))) in
      let room = by_name_room (has_name_room t) (with_row t spot.0 spot.1 x) in
      (λ e. room.0 (sym (ap (edited_tree h) is) ∙ e), λ full. ap (edited_tree h) is ∙ room.1 full)

  -- an edit without a fault
  edit_leaves : (r : Result (ℕ × Tree) TreeFault) → IsOk r → edit_effect h r ≢ Fails ENOSPC
  edit_leaves (Ok x) ok e = leaves_not_fails x.1 h e
  edit_leaves (Err fault) ok e = absurd (true≢false (sym ok))

  tree_leaves : (r : Result Tree TreeFault) → IsOk r → edited_tree h r ≢ Fails ENOSPC
  tree_leaves (Ok u) ok e = leaves_not_fails u h e
  tree_leaves (Err fault) ok e = absurd (true≢false (sym ok))

pub changes_lack : ChangesLackRoom
changes_lack w h NoChange possible = never _ (leaves_not_fails w.tree h)
changes_lack w h (AddNode spot node) possible = add_lacks w.tree h spot node possible.0
changes_lack w h (CutRow spot) possible = never _ (edit_leaves w.tree h _ possible)
changes_lack w h (ShiftRow old new) possible = never _ (tree_leaves w.tree h _ possible)
changes_lack w h (TieRow spot x) possible = tie_lacks w.tree h spot x possible.0 possible.1 possible.2
changes_lack w h (BeginProgram left) possible = never _ (leaves_not_fails w.tree _)
changes_lack w h (AddEvent event) possible = never _ (leaves_not_fails w.tree _)
changes_lack w h (TakeFile number from theirs) possible =
    never _ (take_apart w h number _ (sent_apart (is_pledged h) (kept_at w from) theirs))
changes_lack w h (CopyAs new) possible = never _ (by (is_some (kept_at w new) || nat_le most_processes (length w.processes)))
  where
    by : (full : Bool) → cond full (Fails EAGAIN) (Copies new) ≢ Fails ENOSPC
    by true e = cc
    by false e = cc
