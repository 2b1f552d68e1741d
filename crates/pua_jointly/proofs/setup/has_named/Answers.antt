use Rattle.pua_jointly.proofs.Common.{◌∙◌, ap, list_any, Place, ℕ}
use Rattle.std.specs.Borrow.{Bor}
use Rattle.pua_jointly.specs.JointMembers.{veil_now}
use Rattle.pua_jointly.specs.JointWords.{is_name}
use Rattle.pua_jointly.proofs.JointGathered.{any_map}
use Rattle.pua_jointly.proofs.setup.has_named.Goals as goal

pub returns : goal.returns
returns c =
    c.is_some_at_name.ensures
    ∙ ap (list_any (λ (veil : Bor Place × Bor ℕ). is_name veil.0.now)) c.deref.ensures.value
    ∙ any_map (λ (veil : Place × ℕ). is_name veil.0) veil_now c.in_ok-veils.veils.items
    ∙ ap (list_any (λ (veil : Place × ℕ). is_name veil.0)) c.in_ok-veils.ensures.state
