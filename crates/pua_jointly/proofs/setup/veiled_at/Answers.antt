use Rattle.pua_jointly.proofs.Common.{◌≤◌, ◌∙◌, arith, ap, length, list_any, List, Place, ℕ}
use Rattle.std.specs.Borrow.{Bor}
use Rattle.std.proofs.lemmas.Grind.{common_steps}
use Rattle.pua_jointly.specs.JointSetting.{is_on}
use Rattle.pua_jointly.proofs.JointGathered.{taken_all}
use Rattle.pua_jointly.proofs.setup.veiled_at.Goals as goal

pub returns-clause-marked : goal.returns-clause-marked
returns-clause-marked c = λ dir low.
    let veils : List (Bor Place × Bor ℕ) = c.args.veils.now in
    let past : length veils ≤ c.loop-veil.veil-index = grind (arith, common_steps) in
    c.loop-veil.invariant.marked dir low
    ∙ ap (list_any (λ (veil : Bor Place × Bor ℕ). is_on dir veil.0.now)) (taken_all veils c.loop-veil.veil-index past)
