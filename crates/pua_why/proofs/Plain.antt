-- A request that is about no other process is granted no further process, and none of another's open files.
use Rattle.pua_why.proofs.Common.{◌≡◌, ℕ, Some, None, refl, sym, ap, ◌∙◌, Ok, Err, Option, Tree, Spot, spot_named, node_named, Found, Whole}
use Rattle.pua_why.proofs.Common.{Slot, CallTable, ProcessState, Call, Change, NoChange, Outcome, shifting, link_node, change_by, World, OnPath}
use Rattle.pua_why.proofs.Common.{Symlink, Rename, Link, Pledge, Unveil, Lock, Fork, Exit, Uses, Hold, Close, Fchdir, Chroot, Take, Comment}
use Rattle.pua_why.proofs.Common.{Fault, change_or_fault, decision_of}
use Rattle.pua_why.proofs.Common.{refused_by}
use Rattle.std.proofs.Common.{inl, inr, ◌⊎◌, true≢false}
use Rattle.std.specs.Prelude.{IsFalse}
use Rattle.pua_tree.specs.Tree.{Node}
use Rattle.pua_calls.specs.declared.call.Call.TheVariants as call
use Rattle.pua_path.specs.declared.found.Way.TheVariants as way
use Rattle.pua_script.specs.Decide.{file_opened, filing, placing, rooting, tying}
use Rattle.pua_policy.specs.declared.open_file.OpenFile.{OpenFile}
use Rattle.pua_script.specs.Guards.{IsDecided, IsShift}
use Rattle.pua_script.specs.Worlds.{is_of_two}
use Rattle.pua_script.specs.declared.request.Action.{Action}
use Rattle.pua_why.specs.Checked.{process_fault, checks_fault}
use Rattle.pua_why.proofs.Decisions.{reasons_give_decisions}
use Rattle.pua_script.proofs.ForCallers.{decisions_are_guarded}

module _ (w : World) (asker : ProcessState) where
  -- no further process is made, and no open file is another's
  abbrev Plain : Change → Type 0
  Plain change = process_fault w asker change ≡ None

  plain_placing : (node : Node) (spot : Option Spot) (x : Option ℕ) → Plain (placing node spot x)
  plain_placing node None None = refl
  plain_placing node None (Some x) = refl
  plain_placing node (Some spot) None = refl
  plain_placing node (Some spot) (Some x) = refl

  plain_shifting : (old new : Option Spot) → Plain (shifting old new)
  plain_shifting None None = refl
  plain_shifting None (Some new) = refl
  plain_shifting (Some old) None = refl
  plain_shifting (Some old) (Some new) = refl

  plain_tying : (x : ℕ) (spot : Option Spot) → Plain (tying x spot)
  plain_tying x None = refl
  plain_tying x (Some spot) = refl

  plain_rooting : (x : Found) → Plain (rooting x)
  plain_rooting (Whole dir way) = refl
  plain_rooting (Slot dir name y) = refl

  plain_filing : (number : ℕ) (o : Option OpenFile) → Plain (filing number o)
  plain_filing number None = refl
  plain_filing number (Some file) = refl

  -- whatever was found, each call has a change that computes
  plain_change : (table : CallTable) (c : Call) (object : Found) → Plain (change_by table c object)
  plain_change table call.Stat object = refl
  plain_change table _ (Whole dir (way.Named parent name)) = refl
  plain_change table _ (Whole dir _) = refl
  plain_change table _ (Slot dir name None) = refl
  plain_change table _ (Slot dir name (Some x)) = refl

  is_plain : (change other : Change) → change ≡ other → Plain other → Plain change
  is_plain change other is plain = ap (process_fault w asker) is ∙ plain

  plain_decided : (table : CallTable) (t : Tree) (h : ProcessState) (action : Action) (change : Change) → IsFalse (is_of_two action) →
      IsDecided table t h action change → Plain change
  plain_decided table t h (OnPath c path) change other d = is_plain change _ d.2 (plain_change table c d.0)
  plain_decided table t h (Symlink target path) change other d =
      is_plain change _ d.3 (plain_placing (link_node target) (spot_named d.0) (node_named d.0))
  plain_decided table t h (Rename old new) change other d = moved d.moves
    where
      moved : ((change ≡ NoChange) ⊎ IsShift t d.old d.new d.node change) → Plain change
      moved (inl is) = is_plain change NoChange is refl
      moved (inr shift) = is_plain change _ shift.is (plain_shifting (spot_named d.old) (spot_named d.new))
  plain_decided table t h (Link old new) change other d = is_plain change _ d.is (plain_tying d.node (spot_named d.new))
  plain_decided table t h (Pledge p x) change other d = is_plain change _ d.is refl
  plain_decided table t h (Unveil path perms) change other d = is_plain change _ d.is refl
  plain_decided table t h Lock change other d = is_plain change _ d.1 refl
  plain_decided table t h (Fork new) change other d = absurd (true≢false other)
  plain_decided table t h Exit change other d = is_plain change _ d refl
  plain_decided table t h (Uses sets) change other d = is_plain change _ d.1 refl
  plain_decided table t h (Hold number c path) change other d = is_plain change _ d.2 (plain_filing number (file_opened t c (node_named d.0)))
  plain_decided table t h (Close number) change other d = is_plain change _ d.2 refl
  plain_decided table t h (Fchdir number) change other d = is_plain change _ d.is refl
  plain_decided table t h (Chroot path) change other d = is_plain change _ d.is (plain_rooting d.object)
  plain_decided table t h (Take number from theirs) change other d = absurd (true≢false other)
  plain_decided table t h Comment change other d = is_plain change _ d refl

  pub plain_checks : (table : CallTable) (t : Tree) (h : ProcessState) (action : Action) → IsFalse (is_of_two action) →
      checks_fault w asker (change_or_fault table t h action) ≡ refused_by (change_or_fault table t h action)
  plain_checks table t h action other = by (change_or_fault table t h action) refl
    where
      by : (o : Outcome Fault) → change_or_fault table t h action ≡ o → checks_fault w asker o ≡ refused_by o
      by (Err fault) is = refl
      by (Ok change) is = plain_decided table t h action change other
          (decisions_are_guarded table t h action change (sym (reasons_give_decisions table t h action) ∙ ap decision_of is))
