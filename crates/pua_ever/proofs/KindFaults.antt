-- The last check of a call asks for a kind, whatever the tree; rmdir alone asks more of a directory, and unlink is on none.
use Rattle.std.proofs.Common.{sym}
use Rattle.std.proofs.lemmas.Option.{none-some}
use Rattle.pua_ever.proofs.Common.{◌≡◌, ℕ, Bool, true, false, cond, refl, Option, Some, None, option_map, false≢true, Tree, empty_tree, Kind, Way}
use Rattle.pua_ever.proofs.Common.{Object, IsDir, object_of_kind, object_fault, Call, removable_dir, lasting_dir}
use Rattle.pua_calls.specs.declared.rules.Rules.{Rules}
use Rattle.pua_calls.specs.declared.call.Call.TheVariants as call
use Rattle.pua_policy.specs.Misfits.{misfit_errno, named_misfit}

-- of something but a directory
pub plain_alike : (whose : Rules) (u : Tree) (c : Call) (k : Option Kind) →
    object_fault whose u c (object_of_kind k) ≡ object_fault whose empty_tree c (object_of_kind k)
plain_alike whose u c None = refl
plain_alike whose u c (Some kind) = refl

-- of a directory
abbrev pub dir_as : Bool → Object
dir_as b = cond b removable_dir lasting_dir

pub dir_alike : (whose : Rules) (u : Tree) (c : Call) (d : ℕ) (w : Way) (b : Bool) → (c ≡ call.Rmdir → b ≡ true) →
    object_fault whose u c (IsDir d w) ≡ None → object_fault whose empty_tree c (dir_as b) ≡ None
dir_alike whose u call.Rmdir d w true sure e = refl
dir_alike whose u call.Rmdir d w false sure e = absurd (false≢true (sure refl))
dir_alike whose u call.Unlink d w b sure e = absurd (none-some _ (sym e))
dir_alike whose u _ d w true sure e = e
dir_alike whose u _ d w false sure e = e

-- a directory that can be removed by its name is empty, and nothing is mounted there
pub emptied : (mount empty : Bool) → option_map misfit_errno (named_misfit mount empty) ≡ None → (mount ≡ false) × (empty ≡ true)
emptied false true e = (refl, refl)
emptied true empty e = cc
emptied false false e = cc
