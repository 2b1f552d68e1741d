-- What is left of an edit's faults after what was checked before it.
use Rattle.pua_script.proofs.Common.{◌≡◌, ℕ, List, Bool, true, false, cond, refl, sym, ap, subst, ◌∙◌, Option, Some, None, option_map, Ok}
use Rattle.pua_script.proofs.Common.{Err, IsOk, ◌==◌, and_parts, not-true, same_Some, Tree, Spot, is_dir, look, is_empty, cut, cut_found}
use Rattle.pua_script.proofs.Common.{is_full_dir, without_unnamed, without_row, Kind, Found, Whole, Slot, object_fault, spot_named}
use Rattle.pua_script.proofs.Common.{object_of, Call, NameFits}
use Rattle.std.specs.Prelude.{◌&&◌, not}
use Rattle.std.specs.Option.{option_eq}
use Rattle.pua_tree.specs.Tree.{has_no_row, is_mount, kind_at}
use Rattle.pua_tree.specs.declared.node.FileType.TheVariants.{Plain, Sock, Fifo, Dev}
use Rattle.pua_tree.specs.declared.node.Kind.TheVariants as kinds
use Rattle.pua_tree.specs.declared.fault.TreeFault.TheVariants as faults
use Rattle.pua_policy.specs.Misfits.{misfit_errno, named_misfit}
use Rattle.pua_calls.specs.declared.rules.Rules.{Rules}
use Rattle.pua_path.specs.declared.found.Way.TheVariants as ways
use Rattle.pua_policy.specs.Verdict.{object_of_kind}
use Rattle.pua_calls.specs.declared.call.Call.TheVariants as calls

-- what was found is of the tree, and nothing is wrong with it for a call
pub record IsFor (whose : Rules) (t : Tree) (call : Call) (object : Found) : Type 0 where
  pub name : NameFits t object
  pub kind : object_fault whose t call (object_of t object) ≡ None

-- the row by which something was found can be taken away
abbrev pub IsRemovable : Tree → Found → Type 0
IsRemovable t object = (spot : Spot) → spot_named object ≡ Some spot → IsOk (cut t spot.0 spot.1)

pub some_none : {A : Type 0} (x : A) → Some x ≡ None → ⊥
some_none x is = cc

-- a row whose node is no directory in which something stands can be taken away
cut_ok : (t : Tree) (dir : ℕ) (name : List ℕ) (x : ℕ) → is_dir t dir ≡ true → look t dir name ≡ Some x → is_full_dir t x ≡ false →
    IsOk (cut t dir name)
cut_ok t dir name x lives there alone =
    let is : cut t dir name ≡ Ok (x, without_unnamed (without_row t dir name) x) =
    (λ i. cond (not (lives i)) (Err faults.NotDir) (cut_found t dir name (there i)))
    ∙ (λ i. cond (alone i) (Err faults.NotEmpty) (Ok (x, without_unnamed (without_row t dir name) x))) in
    subst IsOk (sym is) refl

pub empty_alone : (t : Tree) (x : ℕ) → is_empty t x ≡ true → is_full_dir t x ≡ false
empty_alone t x empty = ap (λ b. is_dir t x && not b) (and_parts (is_dir t x) (has_no_row t x) empty).1 ∙ by (is_dir t x)
  where
    by : (b : Bool) → (b && false) ≡ false
    by true = refl
    by false = refl

is_emptied : (mount b : Bool) → option_map misfit_errno (named_misfit mount b) ≡ None → b ≡ true
is_emptied mount true is = refl
is_emptied false false is = absurd (some_none _ is)
is_emptied true false is = absurd (some_none _ is)

module _ (whose : Rules) (t : Tree) where
  removable_at : (dir : ℕ) (name : List ℕ) (o : Option Spot) → o ≡ Some (dir, name) → IsOk (cut t dir name) → (spot : Spot) →
      o ≡ Some spot → IsOk (cut t spot.0 spot.1)
  removable_at dir name o here ok spot is = subst (λ s. IsOk (cut t s.0 s.1)) (same_Some _ _ (sym here ∙ is)) ok

  no_rmdir : (o : Option Kind) → object_fault whose t calls.Rmdir (object_of_kind o) ≡ None → ⊥
  no_rmdir None is = some_none _ is
  no_rmdir (Some kinds.Dir) is = some_none _ is
  no_rmdir (Some (kinds.Known Plain)) is = some_none _ is
  no_rmdir (Some (kinds.Known Sock)) is = some_none _ is
  no_rmdir (Some (kinds.Known Fifo)) is = some_none _ is
  no_rmdir (Some (kinds.Known Dev)) is = some_none _ is
  no_rmdir (Some _) is = some_none _ is

  pub rmdir_removes : (object : Found) → IsFor whose t calls.Rmdir object → IsRemovable t object
  rmdir_removes (Whole dir (ways.Named parent name)) for =
      removable_at parent name (Some (parent, name)) refl (cut_ok t parent name dir for.name.named.0 for.name.named.1
      (empty_alone t dir (is_emptied (is_mount t dir) (is_empty t dir) for.kind)))
  rmdir_removes (Whole dir ways.Dot) for = absurd (some_none _ for.kind)
  rmdir_removes (Whole dir ways.DotDot) for = absurd (some_none _ for.kind)
  rmdir_removes (Whole dir ways.Top) for = absurd (some_none _ for.kind)
  rmdir_removes (Slot dir name None) for = absurd (some_none _ for.kind)
  rmdir_removes (Slot dir name (Some x)) for = absurd (no_rmdir (kind_at t x) for.kind)

  pub unlink_removes : (object : Found) → IsFor whose t calls.Unlink object → IsRemovable t object
  unlink_removes (Whole dir way) for = absurd (some_none _ for.kind)
  unlink_removes (Slot dir name None) for = absurd (some_none _ for.kind)
  unlink_removes (Slot dir name (Some x)) for =
      let alone = and_parts (option_eq ◌==◌ (look t dir name) (Some x)) _ (and_parts (is_dir t dir) _ for.name.fits).1 in
      removable_at dir name (Some (dir, name)) refl (cut_ok t dir name x for.name.named.0 for.name.named.1
      (ap (λ b. b && not (has_no_row t x)) (not-true (is_dir t x) alone.1)))
