-- What is wrong with an object for a call, by its kind and by the way to it.
use Rattle.std.specs.Prelude.{ℕ, Bool, true, false, if◌then◌else◌, List, Option, Some, None, option_map, codes}
use Rattle.pua_tree.specs.Kinds.{about_kind}
use Rattle.pua_tree.specs.Tree.{Tree, is_empty, is_mount}
use Rattle.pua_tree.specs.declared.node.Kind.{Kind}
use Rattle.pua_tree.specs.declared.node.Kind.TheVariants.{Dir, File, Prog, Link, Known}
use Rattle.pua_tree.specs.declared.node.FileType.TheVariants.{Sock}
use Rattle.pua_path.specs.declared.found.Way.{Way}
use Rattle.pua_path.specs.declared.found.Way.TheVariants as way
use Rattle.pua_calls.specs.Calls.{about}
pub use Rattle.pua_calls.specs.Misfits.{misfit_errno}
use Rattle.pua_calls.specs.Misfits.{fits_on}
use Rattle.pua_calls.specs.declared.call.Call.{Call}
use Rattle.pua_calls.specs.declared.fits.Fits.{Fits}
use Rattle.pua_calls.specs.declared.fits.Misfit.{Misfit}
use Rattle.pua_calls.specs.declared.fits.Misfit.TheVariants.{IsNoFile, IsNotEmpty, ByDot, ByDotDot, ByNothing, IsMountPoint}
use Rattle.pua_calls.specs.declared.rules.Rules.{Rules}
use Rattle.pua_calls.specs.declared.rules.Rules.TheVariants.{Openbsd}

-- what was found, as the last check sees it
pub data Object : Type 0 where
  IsDir : ℕ → Way → Object
  Is : Kind → Object
  IsMissing : Object

-- what is no directory, by its kind
abbrev pub IsFile : Object
IsFile = Is File

abbrev pub IsSock : Object
IsSock = Is (Known Sock)

abbrev pub IsProg : Object
IsProg = Is Prog

abbrev pub IsLink : Object
IsLink = Is Link

-- the word of what was found, in lists and in reasons
abbrev pub object_word : Object → List ℕ
object_word (IsDir dir way) = (about_kind Dir).word
object_word (Is kind) = (about_kind kind).word
object_word IsMissing = codes "missing"

-- what is wrong with a directory that is to be removed by `..`: that it has rows, which OpenBSD's rules look at first
abbrev pub dotdot_misfit : Rules → Bool → Misfit
dotdot_misfit Openbsd false = IsNotEmpty
dotdot_misfit _ _ = ByDotDot

-- what is wrong with a directory that is to be removed by its name: a file system is mounted there, or it has rows
abbrev pub named_misfit : Bool → Bool → Option Misfit
named_misfit true empty = Some IsMountPoint
named_misfit false true = None
named_misfit false false = Some IsNotEmpty

-- what is wrong with a directory for a call that is on no directory: one at which a file system is mounted is not unlinked for that
abbrev pub mount_misfit : Misfit → Bool → Misfit
mount_misfit IsNoFile true = IsMountPoint
mount_misfit wrong mount = wrong

-- a directory is removed by its name alone, and only if it is empty
abbrev pub rmdir_misfit : Rules → Tree → ℕ → Way → Option Misfit
rmdir_misfit whose t dir way.Dot = Some ByDot
rmdir_misfit whose t dir way.DotDot = Some (dotdot_misfit whose (is_empty t dir))
rmdir_misfit whose t dir way.Top = Some ByNothing
rmdir_misfit whose t dir (way.Named parent name) = named_misfit (is_mount t dir) (is_empty t dir)

-- what is wrong with an object by what a call is on
abbrev pub misfit_by : Rules → Tree → Fits → Object → Option Misfit
misfit_by whose t fits (IsDir dir way) =
    if fits.by_way then rmdir_misfit whose t dir way else option_map (λ wrong. mount_misfit wrong (is_mount t dir)) fits.directory
misfit_by whose t fits (Is kind) = fits_on fits kind
misfit_by whose t fits IsMissing = fits.missing

-- what is wrong with an object for a call; a link that is followed is never found, and a file of which no more is known may be a socket
abbrev pub misfit : Rules → Tree → Call → Object → Option Misfit
misfit whose t call object = misfit_by whose t (about call).fits object
