-- What is decided can be done, but for want of room.
use Rattle.pua_script.proofs.Common.{◌≡◌, ℕ, List, true, false, not, ◌&&◌, cond, refl, sym, ap, subst, ◌∙◌, Option, Some, None, Ok, Err}
use Rattle.pua_script.proofs.Common.{IsOk, ◌==◌, is_some, and_parts, not-true, same_Some, Tree, WellFormed, Spot, is_dir, is_empty, look}
use Rattle.pua_script.proofs.Common.{shift, shift_found, with_row_moved, is_inside, is_same_node, is_full_dir_there, path_fault}
use Rattle.pua_script.proofs.Common.{resolution_of_text, spot_named, node_named, Errno, EINVAL, Ending, Dot, Dropped, Last, Found, Whole}
use Rattle.pua_script.proofs.Common.{Slot, CallTable, ending_of, last_of, ProcessState, start, Call, Change, AddNode, CutRow, ShiftRow}
use Rattle.pua_script.proofs.Common.{TieRow, is_whole, fault_if, kinds_fault, inside_fault, NameFits, Action}
use Rattle.std.specs.Option.{option_eq}
use Rattle.std.proofs.lemmas.Bool.{not-false}
use Rattle.pua_tree.specs.Tree.{has_no_row}
use Rattle.pua_tree.specs.declared.fault.TreeFault.TheVariants as faults
use Rattle.pua_path.specs.Fits.{FoundFits, StandsAtSpot}
use Rattle.pua_path.specs.declared.errno.Errno.TheVariants.{ENOTEMPTY, EXDEV}
use Rattle.pua_script.specs.Decide.{fits_fault, is_elsewhere}
use Rattle.pua_path.proofs.ForCallers.{resolutions_fit}
use Rattle.pua_calls.specs.declared.call.Call.TheVariants as call
use Rattle.pua_script.specs.Guards.{IsPossible}
use Rattle.pua_script.specs.Laws.{DecisionsArePossible}
use Rattle.pua_calls.specs.declared.rules.Rules.{Rules}
use Rattle.pua_script.proofs.Edits.{IsFor, IsRemovable, empty_alone, rmdir_removes, unlink_removes}
use Rattle.pua_script.proofs.Linking.{named_lives}
use Rattle.pua_script.proofs.Guarding.{decisions_are_guarded, second_none, not_faulty, grounds}
use Rattle.pua_script.proofs.Grounds.{Grounds, takes}
use Rattle.pua_path.specs.declared.found.Start.{Start}
use Rattle.pua_path.specs.Resolution.{rooted}

-- what a text names is of the tree
pub name_fits : (t : Tree) → WellFormed t → (from : Start) (end : Ending) (text : List ℕ) (mode : Last) (object : Found) →
    resolution_of_text t from end text mode ≡ Ok object → NameFits t object
name_fits t well from end text mode object = by (path_fault text) refl
  where
    by : (o : Option Errno) → path_fault text ≡ o → resolution_of_text t from end text mode ≡ Ok object → NameFits t object
    by None e = rw e (λ is. let of = (resolutions_fit (rooted t 0) well well.root).whole from end text mode object is in
        record { fits = of.fits; named = of.named })
    by (Some errno) e = rw e (λ is. cc)

-- a row can be moved to where another node, and nothing that is full, stands
shift_ok : (t : Tree) (from to : Spot) (x : ℕ) (there : Option ℕ) → is_dir t from.0 ≡ true → look t from.0 from.1 ≡ Some x →
    is_dir t to.0 ≡ true → look t to.0 to.1 ≡ there
    → is_same_node x there ≡ false → is_inside t x to.0 ≡ false → is_full_dir_there t there ≡ false → IsOk (shift t from.0 from.1 to.0 to.1)
shift_ok t from to x there lives stands lives_there stands_there other outside alone =
    let is : shift t from.0 from.1 to.0 to.1 ≡ Ok (with_row_moved t from.0 from.1 to.0 to.1 x there) =
    (λ i. cond (not (lives i && lives_there i)) (Err faults.NotDir) (shift_found t from.0 from.1 to.0 to.1 (stands i) (stands_there i)))
    ∙ (λ i. cond (other i) (Ok t)
    (cond (outside i) (Err faults.Inside)
    (cond (alone i) (Err faults.NotEmpty) (Ok (with_row_moved t from.0 from.1 to.0 to.1 x there))))) in
    subst IsOk (sym is) refl

module _ (t : Tree) where
  -- what was found without being a directory is none
  slot_other : (dir : ℕ) (name : List ℕ) (x : ℕ) → FoundFits t (Slot dir name (Some x)) → is_dir t x ≡ false
  slot_other dir name x fits =
      not-true (is_dir t x) (and_parts (option_eq ◌==◌ (look t dir name) (Some x)) _ (and_parts (is_dir t dir) _ fits).1).1

  other_named : (object : Found) (x : ℕ) → FoundFits t object → is_whole object ≡ false → node_named object ≡ Some x → is_dir t x ≡ false
  other_named (Whole dir way) x fits other is = cc
  other_named (Slot dir name None) x fits other is = cc
  other_named (Slot dir name (Some y)) x fits other is = subst (λ z. is_dir t z ≡ false) (same_Some y x is) (slot_other dir name y fits)

  fits_alone : (old new : Found) → NameFits t new → fits_fault t old new ≡ None → is_full_dir_there t (node_named new) ≡ false
  fits_alone old (Whole y way) fits e =
      empty_alone t y (not-false (is_empty t y) (not_faulty _ ENOTEMPTY (second_none _ (fault_if (not (is_empty t y)) ENOTEMPTY) e)))
  fits_alone old (Slot dir name None) fits e = refl
  fits_alone old (Slot dir name (Some y)) fits e = ap (λ b. b && not (has_no_row t y)) (slot_other dir name y fits.fits)

  kinds_alone : (x : ℕ) (old new : Found) → NameFits t new → kinds_fault t x old new ≡ None → is_full_dir_there t (node_named new) ≡ false
  kinds_alone x old new fits e = fits_alone old new fits (second_none (fault_if (is_elsewhere t old new) EXDEV) (fits_fault t old new) e)

  nothing_named : (o : Option ℕ) → is_some o ≡ false → o ≡ None
  nothing_named None e = refl
  nothing_named (Some x) e = cc

  -- what stands at the spot by which something was found
  pub stands : (x : Found) → NameFits t x → (s : Spot) (o : Option ℕ) → spot_named x ≡ Some s → node_named x ≡ o → StandsAtSpot t (Some s) o
  stands x fits s o at is = subst (λ r. StandsAtSpot t r o) at (subst (StandsAtSpot t (spot_named x)) is fits.named)

  removes : (whose : Rules) (c : Call) (x : Found) → takes c ≡ true → IsFor whose t c x → IsRemovable t x
  removes whose call.Rmdir x taken for = rmdir_removes whose t x for
  removes whose call.Unlink x taken for = unlink_removes whose t x for
  removes whose _ x taken for = cc

  module _ (well : WellFormed t) (h : ProcessState) (table : CallTable) (action : Action) where
    possible_by : (c : Change) → Grounds table t h action c → IsPossible t c
    possible_by (AddNode spot node) g =
        let fits = name_fits t well (start h) (ending_of g.call) g.path (last_of g.call) g.object g.on.found in
        (stands g.object fits spot None g.at g.free, g.target)
    possible_by (CutRow spot) g =
        let fits = name_fits t well (start h) (ending_of g.call) g.path (last_of g.call) g.object g.on.found in
        removes table.whose g.call g.object g.taken (record { name = fits; kind = g.on.fitting }) spot g.at
    possible_by (ShiftRow from to) g =
        let fits_old = name_fits t well (start h) Dropped g.old_path table.rename.old.last g.old g.two.found_old in
        let fits_new = name_fits t well (start h) Dropped g.new_path table.rename.new.last g.new g.two.found_new in
        let a = stands g.old fits_old from (Some g.node) g.at_old g.two.named in
        let b = stands g.new fits_new to (node_named g.new) g.at_new refl in
        let outside = not_faulty (is_inside t g.node to.0) EINVAL (subst (λ s. inside_fault t g.node s ≡ None) g.at_new g.shift.inside) in
        shift_ok t from to g.node (node_named g.new) a.0 a.1 b.0 b.1 g.shift.other outside
        (kinds_alone g.node g.old g.new fits_new g.shift.kinds)
    possible_by (TieRow spot x) g =
        let fits_old = name_fits t well (start h) Dot g.old_path table.link.old.last g.old g.two.found_old in
        let fits_new = name_fits t well (start h) Dot g.new_path table.link.new.last g.new g.two.found_new in (
          stands g.new fits_new spot None g.at (nothing_named (node_named g.new) g.free),
          named_lives t well g.old x fits_old g.two.named,
          other_named g.old x fits_old.fits g.no_dir g.two.named,
        )
    possible_by _ g = tt

pub decisions_are_possible : DecisionsArePossible
decisions_are_possible table t h action change well is =
    possible_by t well h table action change (grounds table t h action change (decisions_are_guarded table t h action change is))
