-- A request leaves each directory on its device.
use Rattle.pua_script.proofs.Common.{◌≡◌, ℕ, List, true, false, ◌==◌, ◌&&◌, not, refl, sym, ap, subst, ◌∙◌, Option, Some, None, Result, Ok, Err}
use Rattle.pua_script.proofs.Common.{and_parts, not-true, same_Some, Tree, Node, WellFormed, Spot, is_dir, look, add, tie, cut, shift, TreeFault}
use Rattle.pua_script.proofs.Common.{spot_named, node_named, Dot, Dropped, Found, Whole, Slot, CallTable, ending_of, last_of, ProcessState, start}
use Rattle.pua_script.proofs.Common.{is_in_bytes, Change, AddNode, CutRow, ShiftRow, TieRow, CopyAs, TakeFile, World, Fails, Copies, OpenFile, Errno}
use Rattle.pua_script.proofs.Common.{edit_effect, edited_tree, kept_at, apply, change_effect, tree_left, Action, NameFits, fault_if, is_pledged}
use Rattle.pua_script.proofs.Common.{sent_by, take_effect, most_processes, EAGAIN, is_some, nat_le, ◌||◌, Bool, cond, is_inside}
use Rattle.std.specs.Prelude.{length}
use Rattle.std.proofs.lemmas.Bool.{eqb-true, not-false}
use Rattle.std.specs.Option.{option_eq}
use Rattle.pua_tree.specs.Laws.{KeepsDevices}
use Rattle.pua_tree.specs.Names.{is_name}
use Rattle.pua_tree.specs.Tree.{device}
use Rattle.pua_tree.proofs.ForCallers.{edits_keep_devices}
use Rattle.pua_path.specs.declared.errno.Errno.TheVariants.{EXDEV}
use Rattle.pua_path.specs.declared.found.Way.TheVariants as way
use Rattle.pua_path.specs.Fits.{FoundFits}
use Rattle.pua_script.specs.Bytes.{IsByteTree}
use Rattle.pua_script.specs.Decide.{device_of, device_over, fits_fault, is_elsewhere}
use Rattle.pua_script.specs.Devices.{RequestsKeepDevices}
use Rattle.pua_script.proofs.Applied.{by_tree}
use Rattle.pua_script.proofs.Grounds.{Grounds}
use Rattle.pua_script.proofs.Guarding.{first_none, grounds, not_faulty}
use Rattle.pua_script.proofs.KeepTrees.{FitsBytes, bare, fits_bytes}
use Rattle.pua_script.proofs.Possible.{name_fits, stands}

-- what was found by a name, at its spot
over_spot : (t : Tree) (x : Found) (s : Spot) → spot_named x ≡ Some s → device_over t x ≡ device t s.0
over_spot t (Whole dir (way.Named parent name)) s e = ap (λ (r : Spot). device t r.0) (same_Some (parent, name) s e)
over_spot t (Whole dir way.Dot) s e = cc
over_spot t (Whole dir way.DotDot) s e = cc
over_spot t (Whole dir way.Top) s e = cc
over_spot t (Slot dir name o) s e = ap (λ (r : Spot). device t r.0) (same_Some (dir, name) s e)

-- a directory that was found is on its own device
own_device : (t : Tree) (x : Found) (d : ℕ) → FoundFits t x → node_named x ≡ Some d → is_dir t d ≡ true → device_of t x ≡ device t d
own_device t (Whole dir way) d fits is dir_is = ap (device t) (same_Some dir d is)
own_device t (Slot dir name None) d fits is dir_is = cc
own_device t (Slot dir name (Some y)) d fits is dir_is =
    let other : is_dir t y ≡ false =
    not-true (is_dir t y) (and_parts (option_eq ◌==◌ (look t dir name) (Some y)) _ (and_parts (is_dir t dir) _ fits).1).1 in
    let same : y ≡ d = same_Some y d is in
    cc

near : (t : Tree) (old new : Found) → is_elsewhere t old new ≡ false → device_of t old ≡ device_over t new
near t old new e =
    eqb-true (device_of t old) (device_over t new)
    (and_parts (device_of t old == device_over t new) _ (not-false _ e)).0

module _ (w : World) (is_tree : IsByteTree w.tree) (h : ProcessState) where
  abbrev Keeps : Tree → Type 0
  Keeps = KeepsDevices w.tree

  stays : Keeps w.tree
  stays d was is = refl

  edited : (r : Result (ℕ × Tree) TreeFault) → ((x : ℕ) (u : Tree) → r ≡ Ok (x, u) → Keeps u) → Keeps (tree_left w.tree (edit_effect h r))
  edited (Ok p) each = each p.0 p.1 refl
  edited (Err fault) each = stays

  edited_alone : (r : Result Tree TreeFault) → ((u : Tree) → r ≡ Ok u → Keeps u) → Keeps (tree_left w.tree (edited_tree h r))
  edited_alone (Ok u) each = each u refl
  edited_alone (Err fault) each = stays

  module _ (table : CallTable) (action : Action) where
    -- what a rename moves stays on its device
    moves_near : (from to : Spot) → Grounds table w.tree h action (ShiftRow from to) → (x : ℕ) → look w.tree from.0 from.1 ≡ Some x →
        is_dir w.tree x ≡ true → device w.tree x ≡ device w.tree to.0
    moves_near from to g x there dir =
        let t = w.tree in
        let fits = name_fits t is_tree.tree (start h) Dropped g.old_path table.rename.old.last g.old g.two.found_old in
        let row = stands t g.old fits from (Some g.node) g.at_old g.two.named in
        let node : g.node ≡ x = same_Some g.node x (sym row.1 ∙ there) in
        let away = first_none (fault_if (is_elsewhere t g.old g.new) EXDEV) (fits_fault t g.old g.new) g.shift.kinds in
        sym (own_device t g.old x fits.fits (g.two.named ∙ ap Some node) dir)
        ∙ near t g.old g.new (not_faulty (is_elsewhere t g.old g.new) EXDEV away) ∙ over_spot t g.new to g.at_new

    keeps : (c : Change) → Grounds table w.tree h action c → FitsBytes c → Keeps (tree_left w.tree (change_effect w h c))
    keeps (AddNode spot node) g fits =
        edited (add w.tree spot.0 spot.1 node) (λ x u e. edits_keep_devices.adding w.tree u spot.0 x spot.1 node is_tree.tree fits.0 fits.1
        (bare node fits.3) e)
    keeps (CutRow spot) g fits =
        edited (cut w.tree spot.0 spot.1) (λ x u e. edits_keep_devices.cutting w.tree u spot.0 x spot.1 is_tree.tree e)
    keeps (ShiftRow from to) g fits =
        edited_alone (shift w.tree from.0 from.1 to.0 to.1)
        (λ u e. edits_keep_devices.shifting w.tree u from.0 to.0 from.1 to.1 is_tree.tree fits (moves_near from to g) e)
    keeps (TieRow spot x) g fits =
        edited_alone (tie w.tree spot.0 spot.1 x) (λ u e. edits_keep_devices.tying w.tree u spot.0 x spot.1 is_tree.tree fits e)
    keeps (CopyAs new) g fits = by (is_some (kept_at w new) || nat_le most_processes (length w.processes))
      where
        by : (full : Bool) → Keeps (tree_left w.tree (cond full (Fails EAGAIN) (Copies new)))
        by true = stays
        by false = stays
    keeps (TakeFile number from theirs) g fits = by (sent_by (is_pledged h) (kept_at w from) theirs)
      where
        by : (r : Result OpenFile Errno) → Keeps (tree_left w.tree (take_effect w h number r))
        by (Ok file) = stays
        by (Err errno) = stays
    keeps _ g fits = stays

pub requests_keep_devices : RequestsKeepDevices
requests_keep_devices table w ask is_tree small =
    by_tree table w ask (KeepsDevices w.tree) (λ d was is. refl)
    (λ h _ c guards. let g = grounds table w.tree h ask.action c guards in
    keeps w is_tree h table ask.action c g (fits_bytes w is_tree h table ask.action c g small))
