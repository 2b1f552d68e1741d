use Rattle.pua_jointly.proofs.Common.{◌≤◌, ◌∙◌, arith, ap, length, list_any, List, Place, ℕ}
use Rattle.std.specs.Borrow.{Bor}
use Rattle.std.proofs.lemmas.Grind.{common_steps}
use Rattle.pua_jointly.specs.JointFacts.{watches_by}
use Rattle.pua_jointly.specs.JointMembers.{veil_now}
use Rattle.pua_jointly.proofs.JointGathered.{any_map, taken_all}
use Rattle.pua_jointly.proofs.watching.find_watched.Goals as goal

pub returns : goal.returns
returns g c = λ dir low.
    let by = watches_by (g.T.FileTree.content c.args.tree.now) dir in
    let veils : List (Bor Place × Bor ℕ) = c.args.veils.now in
    let past : length veils ≤ c.loop-veil.veil-index = grind (arith, common_steps) in
    c.loop-veil.invariant.marked dir low
    ∙ ap (list_any (λ (veil : Bor Place × Bor ℕ). by (veil_now veil))) (taken_all veils c.loop-veil.veil-index past)
    ∙ any_map by veil_now veils
