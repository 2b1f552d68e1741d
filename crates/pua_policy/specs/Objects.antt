-- What a verdict goes by of an object, beside its cover.
use Rattle.std.specs.Prelude.{Option, None, if◌then◌else◌, is_none}
use Rattle.pua_tree.specs.Tree.{Tree}
use Rattle.pua_tree.specs.declared.node.Kind.TheVariants.{Dir}
use Rattle.pua_policy.specs.Verdict.{Object, IsDir, Is, IsMissing, rmdir_fault}
use Rattle.pua_calls.specs.Misfits.{fits_on}
use Rattle.pua_calls.specs.declared.fits.Fits.{Fits}
use Rattle.pua_calls.specs.declared.fits.Misfit.{Misfit}
use Rattle.pua_calls.specs.declared.rules.Rules.TheVariants.{Standard}
use Rattle.pua_policy.specs.declared.object.Object as seen
use Rattle.pua_policy.specs.declared.object.Object.TheVariants as see

-- of a directory it is asked only whether it may be removed by the name it was found by, which is so by all rules or by none
abbrev pub object_seen : Tree → Object → seen.Object
object_seen t IsMissing = see.Missing
object_seen t (Is kind) = see.Node kind
object_seen t (IsDir dir way) = if is_none (rmdir_fault Standard t dir way) then see.Removable else see.Node Dir

-- what is wrong with an object that is seen so: nothing is with removing a directory that may be removed
abbrev pub misfit_seen : Fits → seen.Object → Option Misfit
misfit_seen fits see.Missing = fits.missing
misfit_seen fits (see.Node kind) = fits_on fits kind
misfit_seen fits see.Removable = if fits.by_way then None else fits.directory
