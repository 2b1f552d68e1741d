use Rattle.pua_audit.proofs.Common.{◌≢◌, ◌∙◌, ℕ, sym, ap, subst, Place, IsApart}
use Rattle.pua_policy.specs.declared.place.Place.TheVariants.{Slot, Dir}
use Rattle.pua_audit.proofs.table.spots.add_veiled.Goals as goal
use Rattle.pua_steps.proofs.ForCallers.{all_front}

abbrev dir_of : Place → ℕ
dir_of (Slot dir name) = dir
dir_of (Dir dir) = dir

pub returns-clause-here : goal.returns-clause-here
returns-clause-here c = λ dir name apart same.
    (all_front (λ (other : ℕ). other ≢ dir) c.args.dirs.now.items c.in-Slot.dir (subst (IsApart dir) c.in_ok-push.ensures.items apart)).1
    (sym (ap dir_of c.in-Slot.is) ∙ ap dir_of same)

pub returns-clause-others : goal.returns-clause-others
returns-clause-others c = λ dir apart.
    (all_front (λ (other : ℕ). other ≢ dir) c.args.dirs.now.items c.in-Slot.dir (subst (IsApart dir) c.in_ok-push.ensures.items apart)).0
