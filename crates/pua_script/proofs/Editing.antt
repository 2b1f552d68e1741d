-- What a call changes that makes a name or takes one away, by the spot that its path named.
use Rattle.pua_script.proofs.Common.{◌≡◌, ℕ, List, true, refl, ap, ◌∙◌, false≢true, Option, Some, None, Found, Call, CallTable}
use Rattle.pua_script.proofs.Common.{Change, NoChange, Spot, spot_named, node_named}
use Rattle.pua_calls.specs.declared.call.Call.TheVariants as call
use Rattle.pua_calls.specs.declared.rules.Rules.{Rules}
use Rattle.pua_script.specs.Decide.{change_by}
use Rattle.pua_script.specs.Judged.{edit_by, is_edit}

-- the change is one of the spot and of what stands there
pub edits_by : (table : CallTable) (c : Call) (object : Found) → is_edit c ≡ true →
    edit_by table.whose c (spot_named object) (node_named object) ≡ change_by table c object
edits_by table call.Chdir object is = absurd (false≢true is)
edits_by table call.Exec object is = absurd (false≢true is)
edits_by table _ object is = refl

-- and none where no spot was named
pub nowhere : (whose : Rules) (c : Call) (there : Option ℕ) → edit_by whose c None there ≡ NoChange
nowhere whose call.Create there = refl
nowhere whose _ there = refl

-- what changes at the spot that was named, its name copied
module _ (change : Option Spot → Option ℕ → Change) (object : Found) where
  pub at_spot : (dir : ℕ) (lent name : List ℕ) (there : Option ℕ) → Some (dir, lent) ≡ spot_named object → name ≡ lent →
      there ≡ node_named object → change (Some (dir, name)) there ≡ change (spot_named object) (node_named object)
  at_spot dir lent name there spot same is =
      ap (λ n. change (Some (dir, n)) there) same ∙ ap (change (Some (dir, lent))) is ∙ ap (λ s. change s (node_named object)) spot
