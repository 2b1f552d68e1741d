-- A request leaves the processes of all others, and a fork copies that of the one that asks.
use Rattle.pua_script.proofs.Common.{◌≡◌, ◌≢◌, ℕ, [], ◌∷◌, Bool, true, false, cond, refl, sym, ap, ◌∙◌, Some, is_some, Result, Ok, Err}
use Rattle.pua_script.proofs.Common.{nat_le, nat_eq, put_at, Tree, TreeFault}
use Rattle.pua_script.proofs.Common.{EAGAIN, CallTable, ProcessState, may_any, proc, May, Failed, Killed, Change, AddNode, CutRow, ShiftRow}
use Rattle.pua_script.proofs.Common.{TieRow, CopyAs, Decision, if_may, decide, World, Effect, Fails, Kills, Leaves, Copies, effect}
use Rattle.pua_script.proofs.Common.{kept_at, apply, left_by, answer_to, edit_effect, edited_tree, change_effect, come_of, Answer, Okay}
use Rattle.pua_script.proofs.Common.{Action, Fork, most_processes, TakeFile, Errno, OpenFile, is_pledged, sent_by, take_effect}
use Rattle.std.specs.Prelude.{◌||◌, length}
use Rattle.std.specs.Map.{lookup}
use Rattle.pua_script.proofs.Entries.{found_here, found_elsewhere as found_there}
use Rattle.pua_policy.specs.declared.answer.May.TheVariants as may
use Rattle.pua_script.specs.Replay.{do_decided}
use Rattle.pua_script.specs.Tightening.{OthersLeave, OthersLeaveAlways, ForksCopy}
use Rattle.pua_script.proofs.Applied.{by_request, by_living}

found_elsewhere : (q k : ℕ) (g h : ProcessState) (w : World) → q ≢ k → kept_at w q ≡ Some h →
    lookup (nat_eq q) (put_at k g w.processes) ≡ Some h
found_elsewhere q k g h w other here = found_there q k g w.processes other ∙ here

-- a copy is of a number that had no state
abbrev pub IsNew : World → Effect → Type 0
IsNew w (Copies new) = is_some (kept_at w new) ≡ false
IsNew w _ = Unit {0}

-- a number with a state is not new
not_made : (w : World) (process made : ℕ) (h : ProcessState) → IsNew w (Copies made) → kept_at w process ≡ Some h → process ≢ made
not_made w process made h new here e = let known : kept_at w made ≡ Some h = ap (kept_at w) (sym e) ∙ here in
    let some : is_some (kept_at w made) ≡ true = ap is_some known in cc

pub left_alone : (w : World) (asker process : ℕ) (g h : ProcessState) (e : Effect) → IsNew w e → kept_at w process ≡ Some h →
    process ≢ asker → kept_at (left_by w asker g e) process ≡ Some h
left_alone w asker process g h (Fails errno) new here other = here
left_alone w asker process g h Kills new here other = found_elsewhere process asker _ h w other here
left_alone w asker process g h (Leaves t after) new here other = found_elsewhere process asker after h w other here
left_alone w asker process g h (Copies made) new here other = found_elsewhere process made g h w (not_made w process made h new here) here

-- a process made leaves the state of the one that asked
pub copied_apart : (w : World) (process made : ℕ) (h : ProcessState) → IsNew w (Copies made) → kept_at w process ≡ Some h →
    kept_at (left_by w process h (Copies made)) process ≡ Some h
copied_apart w process made h new here = found_elsewhere process made h h w (not_made w process made h new here) here

module _ (w : World) (h : ProcessState) where
  new_edited : (r : Result (ℕ × Tree) TreeFault) → IsNew w (edit_effect h r)
  new_edited (Ok x) = tt
  new_edited (Err fault) = tt

  new_edited_tree : (r : Result Tree TreeFault) → IsNew w (edited_tree h r)
  new_edited_tree (Ok x) = tt
  new_edited_tree (Err fault) = tt

  new_made : (c : Change) → IsNew w (change_effect w h c)
  new_made (AddNode spot node) = new_edited _
  new_made (CutRow spot) = new_edited _
  new_made (ShiftRow old new) = new_edited_tree _
  new_made (TieRow spot x) = new_edited_tree _
  new_made (CopyAs new) = by (is_some (kept_at w new)) (nat_le most_processes (length w.processes)) refl
    where
      by : (b full : Bool) → is_some (kept_at w new) ≡ b → IsNew w (cond (b || full) (Fails EAGAIN) (Copies new))
      by true full is = tt
      by false true is = tt
      by false false is = is
  new_made (TakeFile number from theirs) = by (sent_by (is_pledged h) (kept_at w from) theirs)
    where
      by : (r : Result OpenFile Errno) → IsNew w (take_effect w h number r)
      by (Ok file) = tt
      by (Err errno) = tt
  new_made _ = tt

  decision_is_new : (d : Decision) → IsNew w (come_of w h d)
  decision_is_new (Ok c) = new_made c
  decision_is_new (Err (Failed errno)) = tt
  decision_is_new (Err Killed) = tt

pub effect_is_new : (table : CallTable) (w : World) (h : ProcessState) (action : Action) → IsNew w (effect table w h action)
effect_is_new table w h action = decision_is_new w h (decide table w.tree h action)

pub others_leave : OthersLeave
others_leave table w ask process h here other = by_request table w ask (λ done. kept_at done.1 process ≡ Some h) here
    (λ g _. left_alone w ask.process process g h (come_of w g (decide table w.tree g ask.action))
    (decision_is_new w g (decide table w.tree g ask.action)) here (λ e. other (sym e)))

pub others_leave_always : OthersLeaveAlways
others_leave_always table w [] process h here others = here
others_leave_always table w (ask ∷ asks) process h here others =
    others_leave_always table (apply table w ask).1 asks process h (others_leave table w ask process h here others.0) others.1

-- a fork that is answered ok copies
module _ (w : World) (h : ProcessState) (process new : ℕ) where
  copied : (full : Bool) → answer_to (cond full (Fails EAGAIN) (Copies new)) ≡ Okay →
      kept_at (left_by w process h (cond full (Fails EAGAIN) (Copies new))) new ≡ Some h
  copied true told = cc
  copied false told = found_here new h w.processes

  copied_promised : (m : May) → let done : Answer × World = do_decided w process h (if_may m (Ok (CopyAs new))) in done.0 ≡ Okay →
      kept_at done.1 new ≡ Some h
  copied_promised may.Yes told = copied (is_some (kept_at w new) || nat_le most_processes (length w.processes)) told
  copied_promised may.Enosys told = cc
  copied_promised may.Death told = cc

pub forks_copy : ForksCopy
forks_copy table w process new h here =
    by_living table w (record { process = process; action = Fork new }) h here (λ done. done.0 ≡ Okay →
    kept_at done.1 new ≡ Some h) (λ told. cc) (copied_promised w h process new (may_any h (proc ∷ [])))
