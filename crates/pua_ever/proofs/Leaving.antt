-- What is so of a process is so of what its request leaves, where each event that is granted and each program that is started
-- keeps it so; and then it is so of each process of the world.
use Rattle.pua_ever.proofs.Common.{◌≡◌, ◌⊎◌, inl, inr, ℕ, List, Bool, true, false, cond, refl, sym, subst, ◌∙◌}
use Rattle.pua_ever.proofs.Common.{Option, Some, None, Result, Ok, Err, ◌||◌, is_some, nat_le, length, same_Some, None≢Some, EAGAIN}
use Rattle.pua_ever.proofs.Common.{Tree, CallTable, execpromises_by, rule_of, ProcessState, may_any, state_after, World, kept_at, Change, change_effect}
use Rattle.pua_ever.proofs.Common.{CopyAs, Copies, Fails, IsDecided, Action, OnPath, Symlink, Rename, Link, Pledge, Unveil, Lock, Fork, Exit, Uses, Hold, Close, Fchdir, Take, Comment}
use Rattle.pua_ever.proofs.Common.{most_processes, found_put}
use Rattle.std.specs.Prelude.{nat_eq}
use Rattle.pua_tree.specs.Edits.{add, cut, shift, tie}
use Rattle.pua_tree.specs.declared.fault.TreeFault.{TreeFault}
use Rattle.pua_path.specs.Fits.{spot_named, node_named}
use Rattle.pua_calls.specs.declared.call.Call.TheVariants as call
use Rattle.pua_policy.specs.States.{Event, Filed, Pledged, Unveiled, Locked, Moved, Ended, after_exec, is_pledged, new_process}
use Rattle.pua_policy.specs.declared.open_file.OpenFile.{OpenFile}
use Rattle.pua_path.specs.declared.errno.Errno.{Errno}
use Rattle.pua_policy.specs.Verdict.{place_of}
use Rattle.pua_policy.specs.declared.answer.May.TheVariants.{Yes}
use Rattle.pua_policy.specs.declared.answer.Refusal.{Refusal}
use Rattle.pua_policy.specs.declared.answer.Refusal.TheVariants.{Failed, Killed}
use Rattle.pua_script.specs.Decide.{NoChange, AddNode, CutRow, ShiftRow, TieRow, BeginProgram, AddEvent, TakeFile, change_by, decide, file_opened, given_set, link_node}
use Rattle.pua_script.specs.Guards.{IsOpened, IsVeil, OnOne}
use Rattle.pua_script.specs.Replay.{Effect, Kills, Leaves, refusal_effect, come_of, edit_effect, edited_tree, left_by, new_world, sent_by, take_effect, with_process}
use Rattle.pua_script.specs.Worlds.{state_left}
use Rattle.pua_script.proofs.ForCallers.{by_decision, decisions_are_guarded, by_filing, by_placing, by_tying, by_moves, opened_no_exec}
use Rattle.pua_ever.proofs.Calling.{by_calling}
use Rattle.pua_script.specs.declared.request.Action.TheVariants.{Chroot}
use Rattle.pua_script.proofs.ForCallers.{by_rooting}
use Rattle.pua_policy.specs.States.{ToDir, ToRoot}

-- it is so now, after an event that leaves the veils, of the program that an exec starts, and after an unveil that is granted
pub record Keeping (table : CallTable) (t : Tree) (h : ProcessState) (action : Action) (P : ProcessState → Type 0) : Type 0 where
  pub now : P h
  pub more : (event : Event) → (state_after event h).veils ≡ h.veils → P (state_after event h)
  pub program : may_any h (rule_of table call.Exec).alternatives ≡ Yes → P (after_exec (execpromises_by table.whose) h)
  pub veiled : (path : List ℕ) (letters : Option ℕ) (c : Change) → action ≡ Unveil path letters → (d : IsVeil t h path letters c) →
      P (state_after (Unveiled (place_of d.object) d.perms) h)

module _ (table : CallTable) (w : World) (h : ProcessState) (P : ProcessState → Type 0) where
  -- a change leaves such a process
  abbrev Left : Change → Type 0
  Left (AddEvent event) = P (state_after event h)
  Left (BeginProgram left) = P (after_exec left h)
  Left (TakeFile number from theirs) = (file : OpenFile) → P (state_after (Filed number (Some file)) h)
  Left _ = Unit {0}

  left_so : (action : Action) → Keeping table w.tree h action P → (c : Change) → IsDecided table w.tree h action c → Left c
  left_so (OnPath asked path) k c d = subst Left (sym d.2) (by d.1)
    where
      by : OnOne table w.tree h asked path d.0 ⊎ IsOpened table w.tree h asked path d.0 → Left (change_by table asked d.0)
      by (inl on) = by_calling table Left tt asked (λ edits s node. tt) (λ edits s. tt) (λ dir. k.more (Moved (ToDir dir)) refl)
          (λ is. k.program (subst (λ c. may_any h (rule_of table c).alternatives ≡ Yes) is on.promised)) d.0
      by (inr on) = by_calling table Left tt asked (λ edits s node. tt) (λ edits s. tt) (λ dir. k.more (Moved (ToDir dir)) refl)
          (λ is. absurd (opened_no_exec table h asked path on.opening on.opened is)) d.0
  left_so (Symlink target path) k c d =
      subst Left (sym d.3) (by_placing Left tt (link_node target) (spot_named d.0) (node_named d.0) (λ s is. tt))
  left_so (Rename old new) k c d = by_moves Left tt w.tree d.old d.new d.node c d.moves (λ s r is is_new. tt)
  left_so (Link old new) k c d = subst Left (sym d.is) (by_tying Left tt d.node (spot_named d.new) (λ s is. tt))
  left_so (Pledge p x) k c d = subst Left (sym d.is) (k.more (Pledged (given_set p) (given_set x)) refl)
  left_so (Unveil path letters) k c d = subst Left (sym d.is) (k.veiled path letters c refl d)
  left_so Lock k c d = subst Left (sym d.1) (k.more Locked refl)
  left_so (Fork new) k c d = subst Left (sym d.1) tt
  left_so Exit k c d = subst Left (sym d) (k.more Ended refl)
  left_so (Uses sets) k c d = subst Left (sym d.1) tt
  left_so (Hold number asked path) k c d =
      subst Left (sym d.2) (by_filing Left tt number (file_opened w.tree asked (node_named d.0)) (λ file. k.more (Filed number (Some file)) refl))
  left_so (Close number) k c d = subst Left (sym d.2) (k.more (Filed number None) refl)
  left_so (Fchdir number) k c d = subst Left (sym d.is) (k.more (Moved (ToDir d.file.node)) refl)
  left_so (Chroot path) k c d = subst Left (sym d.is) (by_rooting Left tt d.object (λ dir. k.more (Moved (ToRoot dir)) refl))
  left_so (Take number from theirs) k c d = subst Left (sym d.1) (λ file. k.more (Filed number (Some file)) refl)
  left_so Comment k c d = subst Left (sym d) tt

  by_edited : P h → (r : Result (ℕ × Tree) TreeFault) → P (state_left h (edit_effect h r))
  by_edited so (Ok result) = so
  by_edited so (Err fault) = so

  by_edited_tree : P h → (r : Result Tree TreeFault) → P (state_left h (edited_tree h r))
  by_edited_tree so (Ok result) = so
  by_edited_tree so (Err fault) = so

  made_so : P h → (c : Change) → Left c → P (state_left h (change_effect w h c))
  made_so so NoChange left = so
  made_so so (AddNode s node) left = by_edited so (add w.tree s.0 s.1 node)
  made_so so (CutRow s) left = by_edited so (cut w.tree s.0 s.1)
  made_so so (ShiftRow s r) left = by_edited_tree so (shift w.tree s.0 s.1 r.0 r.1)
  made_so so (TieRow s x) left = by_edited_tree so (tie w.tree s.0 s.1 x)
  made_so so (BeginProgram program) left = left
  made_so so (AddEvent event) left = left
  made_so so (CopyAs new) left = by (is_some (kept_at w new) || nat_le most_processes (length w.processes))
    where
      by : (full : Bool) → P (state_left h (cond full (Fails EAGAIN) (Copies new)))
      by true = so
      by false = so
  made_so so (TakeFile number from theirs) left = by (sent_by (is_pledged h) (kept_at w from) theirs)
    where
      by : (r : Result OpenFile Errno) → P (state_left h (take_effect w h number r))
      by (Ok file) = left file
      by (Err errno) = so

  pub decided_so : (action : Action) → Keeping table w.tree h action P → P (state_left h (come_of w h (decide table w.tree h action)))
  decided_so action k = by_decision w h (λ e. P (state_left h e)) (decide table w.tree h action) refusing
      (λ c decided. made_so k.now c (left_so action k c (decisions_are_guarded table w.tree h action c decided)))
    where
      refusing : (r : Refusal) → P (state_left h (refusal_effect r))
      refusing (Failed errno) = k.now
      refusing Killed = k.more Ended refl

-- each process that an effect leaves was there before, or is what it leaves of the one that asked
module _ (w : World) (process : ℕ) (h : ProcessState) (P : ProcessState → Type 0)
    (all : (n : ℕ) (f : ProcessState) → kept_at w n ≡ Some f → P f) where
  put_so : (k : ℕ) (g : ProcessState) → P g → (n : ℕ) (f : ProcessState) → kept_at (with_process w k g) n ≡ Some f → P f
  put_so k g so n f is = by (nat_eq k n) (sym (found_put n k g w.processes) ∙ is)
    where
      by : (b : Bool) → cond b (Some g) (kept_at w n) ≡ Some f → P f
      by true e = subst P (same_Some g f e) so
      by false e = all n f e

  pub all_so : (e : Effect) → P (state_left h e) → (n : ℕ) (f : ProcessState) → kept_at (left_by w process h e) n ≡ Some f → P f
  all_so (Fails errno) so = all
  all_so Kills so = put_so process (state_after Ended h) so
  all_so (Leaves u after) so = put_so process after so
  all_so (Copies new) so = put_so new h so

-- at the beginning there is one process
pub first_so : (t : Tree) (P : ProcessState → Type 0) → P new_process → (n : ℕ) (f : ProcessState) → kept_at (new_world t) n ≡ Some f → P f
first_so t P so n f is = by (nat_eq n 1) is
  where
    by : (b : Bool) → cond b (Some new_process) None ≡ Some f → P f
    by true same = subst P (same_Some new_process f same) so
    by false same = absurd (None≢Some f same)
