-- What is told of an object is so.
use Rattle.pua_policy.proofs.Common.{◌≡◌, ℕ, Call, Bool, true, false, refl, if◌then◌else◌, Option, Some, None}
use Rattle.std.specs.Prelude.{IfSome, is_some}
use Rattle.pua_tree.specs.Tree.{Tree, is_empty, is_mount}
use Rattle.pua_path.specs.declared.found.Way.TheVariants as way
use Rattle.pua_calls.specs.declared.call.Call.TheVariants as call
use Rattle.pua_tree.specs.declared.node.Kind.{Kind}
use Rattle.pua_tree.specs.declared.node.Kind.TheVariants.{Dir, File, Prog, Link, Known}
use Rattle.pua_tree.specs.declared.node.FileType.TheVariants.{Plain, Sock, Fifo, Dev}
use Rattle.pua_calls.specs.declared.rules.Rules.{Rules}
use Rattle.pua_calls.specs.declared.rules.Rules.TheVariants.{Standard, Openbsd}
use Rattle.pua_policy.specs.Misfits.{Object, IsDir, Is, IsMissing, dotdot_misfit, named_misfit, mount_misfit, misfit}
use Rattle.pua_calls.specs.declared.fits.Misfit.{Misfit}
use Rattle.pua_calls.specs.declared.fits.Misfit.TheVariants.{Missing, Exists, IsDirectory, IsNoFile, IsNoDirectory, IsNoLink}
use Rattle.pua_calls.specs.declared.fits.Misfit.TheVariants.{IsNoProgram, IsNotEmpty, IsSocket, IsNoSocket, InUse}
use Rattle.pua_policy.specs.ReasonLaws.{MisfitHolds, MisfitsHold}

module _ (t : Tree) where
  -- what is so by an object's kind alone
  abbrev by_kind : (object : Object) (m : Misfit) → Option (MisfitHolds t object m)
  by_kind IsMissing Missing = Some refl
  by_kind IsMissing _ = None
  by_kind _ Exists = Some tt
  by_kind _ InUse = Some tt
  by_kind (IsDir dir way) IsDirectory = Some tt
  by_kind (IsDir dir way) IsNoFile = Some tt
  by_kind (IsDir dir way) IsNoLink = Some (tt, λ e. cc)
  by_kind (IsDir dir way) IsNoProgram = Some (tt, λ e. cc)
  by_kind (IsDir dir way) IsNoSocket = Some (tt, (λ e. cc), λ e. cc)
  by_kind (IsDir dir way) _ = None
  by_kind (Is Dir) IsDirectory = Some tt
  by_kind (Is Dir) IsNoFile = Some tt
  by_kind (Is Dir) IsNoLink = Some (tt, λ e. cc)
  by_kind (Is Dir) IsNoProgram = Some (tt, λ e. cc)
  by_kind (Is Dir) IsNoSocket = Some (tt, (λ e. cc), λ e. cc)
  by_kind (Is Dir) _ = None
  by_kind _ IsNoDirectory = Some (tt, λ x. x)
  by_kind (Is File) IsNoLink = Some (tt, λ e. cc)
  by_kind (Is Prog) IsNoLink = Some (tt, λ e. cc)
  by_kind (Is File) IsNoProgram = Some (tt, λ e. cc)
  by_kind (Is Link) IsNoProgram = Some (tt, λ e. cc)
  by_kind (Is (Known type)) IsNoLink = Some (tt, λ e. cc)
  by_kind (Is (Known type)) IsNoProgram = Some (tt, λ e. cc)
  by_kind (Is Prog) IsNoSocket = Some (tt, (λ e. cc), λ e. cc)
  by_kind (Is Link) IsNoSocket = Some (tt, (λ e. cc), λ e. cc)
  by_kind (Is (Known Plain)) IsNoSocket = Some (tt, (λ e. cc), λ e. cc)
  by_kind (Is (Known Fifo)) IsNoSocket = Some (tt, (λ e. cc), λ e. cc)
  by_kind (Is (Known Dev)) IsNoSocket = Some (tt, (λ e. cc), λ e. cc)
  by_kind (Is (Known Sock)) IsSocket = Some refl
  by_kind _ _ = None

  abbrev is_by_kind : Object → Option Misfit → Bool
  is_by_kind object None = true
  is_by_kind object (Some m) = is_some (by_kind object m)

  known : (object : Object) (m : Option Misfit) → is_by_kind object m ≡ true → IfSome m (MisfitHolds t object)
  known object None is = tt
  known object (Some m) is = by (by_kind object m) is
    where
      by : (told : Option (MisfitHolds t object m)) → is_some told ≡ true → MisfitHolds t object m
      by (Some so) e = so
      by None e = cc

  -- what is told of all but directories is
  of_kind : (whose : Rules) (c : Call) (kind : Kind) → is_by_kind (Is kind) (misfit whose t c (Is kind)) ≡ true
  of_kind whose call.Stat Dir = refl
  of_kind whose _ Dir = refl
  of_kind whose call.Stat (Known Plain) = refl
  of_kind whose _ (Known Plain) = refl
  of_kind whose call.Stat (Known Sock) = refl
  of_kind whose _ (Known Sock) = refl
  of_kind whose call.Stat (Known Fifo) = refl
  of_kind whose _ (Known Fifo) = refl
  of_kind whose call.Stat (Known Dev) = refl
  of_kind whose _ (Known Dev) = refl
  of_kind whose call.Stat _ = refl
  of_kind whose _ _ = refl

  of_missing : (whose : Rules) (c : Call) → is_by_kind IsMissing (misfit whose t c IsMissing) ≡ true
  of_missing whose call.Stat = refl
  of_missing whose _ = refl

  -- by `..`, whether the directory has rows or not
  of_parent : (whose : Rules) (dir : ℕ) (empty : Bool) → is_empty t dir ≡ empty →
      MisfitHolds t (IsDir dir way.DotDot) (dotdot_misfit whose empty)
  of_parent Openbsd dir true is = (dir, refl)
  of_parent Openbsd dir false is = (dir, way.DotDot, refl, is)
  of_parent Standard dir empty is = (dir, refl)

pub misfits_hold : MisfitsHold
misfits_hold whose t call.Rmdir (IsDir dir way.Dot) = (dir, refl)
misfits_hold whose t call.Rmdir (IsDir dir way.DotDot) = of_parent t whose dir (is_empty t dir) refl
misfits_hold whose t call.Rmdir (IsDir dir way.Top) = (dir, refl)
misfits_hold whose t call.Rmdir (IsDir dir (way.Named parent name)) = by (is_mount t dir) (is_empty t dir) refl refl
  where
    by : (m v : Bool) → is_mount t dir ≡ m → is_empty t dir ≡ v → IfSome (named_misfit m v) (MisfitHolds t (IsDir dir (way.Named parent name)))
    by true v m e = (dir, way.Named parent name, refl, m)
    by false true m e = tt
    by false false m e = (dir, way.Named parent name, refl, e)
misfits_hold whose t call.Unlink (IsDir dir w) = by (is_mount t dir) refl
  where
    by : (m : Bool) → is_mount t dir ≡ m → MisfitHolds t (IsDir dir w) (mount_misfit IsNoFile m)
    by true m = (dir, w, refl, m)
    by false m = tt
misfits_hold whose t c (IsDir dir way) = known t (IsDir dir way) (misfit whose t c (IsDir dir way)) refl
misfits_hold whose t c (Is kind) = known t (Is kind) (misfit whose t c (Is kind)) (of_kind t whose c kind)
misfits_hold whose t c IsMissing = known t IsMissing (misfit whose t c IsMissing) (of_missing t whose c)
