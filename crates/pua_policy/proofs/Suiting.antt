-- By which rules an object is judged makes no difference to whether a call is on it.
use Rattle.pua_policy.proofs.Common.{◌≡◌, ◌∙◌, ap, ℕ, Bool, true, false, refl, Option, Tree, Call}
use Rattle.std.specs.Prelude.{if◌then◌else◌, Some, None, is_none, option_map}
use Rattle.pua_path.specs.declared.found.Way.TheVariants as way
use Rattle.pua_calls.specs.Calls.{about}
use Rattle.pua_calls.specs.Misfits.{fits_on}
use Rattle.pua_calls.specs.declared.fits.Fits.{Fits}
use Rattle.pua_calls.specs.declared.fits.Misfit.{Misfit}
use Rattle.pua_calls.specs.declared.rules.Rules.{Rules}
use Rattle.pua_calls.specs.declared.rules.Rules.TheVariants.{Standard}
use Rattle.pua_policy.specs.Misfits.{Object, IsDir, Is, IsMissing, misfit_errno, mount_misfit, rmdir_misfit}
use Rattle.pua_tree.specs.Tree.{is_mount}
use Rattle.pua_policy.specs.Objects.{misfit_seen, object_seen}
use Rattle.pua_policy.specs.declared.object.Object as seen
use Rattle.pua_policy.specs.declared.object.Object.TheVariants as see
use Rattle.pua_tree.specs.declared.node.Kind.TheVariants.{Dir}
use Rattle.pua_policy.specs.Verdict.{object_fault, allowed_unless, if_promised, is_allowed, or_fault}
use Rattle.pua_path.specs.declared.errno.Errno.{Errno}
use Rattle.pua_policy.specs.declared.answer.May.{May}
use Rattle.pua_policy.specs.declared.answer.May.TheVariants.{Yes}

-- what is wrong with a directory for a call by which none is removed
abbrev told_of : Tree → ℕ → Fits → Option Misfit
told_of t dir fits = option_map (λ wrong. mount_misfit wrong (is_mount t dir)) fits.directory

-- of a directory that `..` names too, something is wrong by all rules or by none
one_of : (by_way : Bool) (a b : Misfit) (other : Option Misfit) →
    is_none (option_map misfit_errno (if by_way then Some a else other)) ≡ is_none (option_map misfit_errno (if by_way then Some b else other))
one_of true a b other = refl
one_of false a b other = refl

pub suits_alike : (whose : Rules) (t : Tree) (call : Call) (object : Object) →
    is_none (object_fault Standard t call object) ≡ is_none (object_fault whose t call object)
suits_alike whose t call (IsDir dir way.DotDot) = one_of (about call).fits.by_way _ _ (told_of t dir (about call).fits)
suits_alike whose t call (IsDir dir way.Dot) = refl
suits_alike whose t call (IsDir dir way.Top) = refl
suits_alike whose t call (IsDir dir (way.Named parent name)) = refl
suits_alike whose t call (Is kind) = refl
suits_alike whose t call IsMissing = refl

-- as it is seen, an object suits as it does by the standard rules
suits_so : (o : Option Misfit) → is_none o ≡ is_none (option_map misfit_errno o)
suits_so None = refl
suits_so (Some misfit) = refl

told_so : (t : Tree) (dir : ℕ) (o : Option Misfit) →
    is_none o ≡ is_none (option_map misfit_errno (option_map (λ wrong. mount_misfit wrong (is_mount t dir)) o))
told_so t dir None = refl
told_so t dir (Some misfit) = refl

dir_suits : (t : Tree) (dir : ℕ) (fits : Fits) (removing : Option Misfit) (by_way : Bool) → fits.by_way ≡ by_way →
    is_none (misfit_seen fits (if is_none (option_map misfit_errno removing) then see.Removable else see.Node Dir))
    ≡ is_none (option_map misfit_errno (if fits.by_way then removing else told_of t dir fits))
dir_suits t dir fits None true is = rw is refl
dir_suits t dir fits None false is = rw is (told_so t dir fits.directory)
dir_suits t dir fits (Some misfit) true is = rw is refl
dir_suits t dir fits (Some misfit) false is = rw is (told_so t dir fits.directory)

pub suits_seen : (t : Tree) (call : Call) (object : seen.Object) (judged : Object) → object ≡ object_seen t judged →
    is_none (misfit_seen (about call).fits object) ≡ is_none (object_fault Standard t call judged)
suits_seen t call object judged as_seen = ap (λ o. is_none (misfit_seen (about call).fits o)) as_seen ∙ by judged
  where
    by : (judged : Object) → is_none (misfit_seen (about call).fits (object_seen t judged)) ≡ is_none (object_fault Standard t call judged)
    by IsMissing = suits_so (about call).fits.missing
    by (Is kind) = suits_so (fits_on (about call).fits kind)
    by (IsDir dir w) = dir_suits t dir (about call).fits (rmdir_misfit Standard t dir w) (about call).fits.by_way refl

-- where promises and cover suffice, the object decides
pub allowed_so : (may : May) (covered wrong : Option Errno) (suits : Bool) → may ≡ Yes → covered ≡ None → suits ≡ is_none wrong →
    suits ≡ is_allowed (if_promised may (allowed_unless (or_fault covered wrong)))
allowed_so may covered wrong suits has covers is = rw (has, covers) (is ∙ by wrong)
  where
    by : (o : Option Errno) → is_none o ≡ is_allowed (allowed_unless o)
    by None = refl
    by (Some errno) = refl
