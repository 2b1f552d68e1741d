use Rattle.pua_jointly.proofs.Common.{◌<◌, ◌∙◌, ◌∷◌, [], ap, map, subst, sym, take, ℕ}
use Rattle.std.proofs.Common.{rules}
use Rattle.std.proofs.lemmas.List.{map-append}
use Rattle.pua_jointly.specs.JointMembers.{AreSmall, veil_now}
use Rattle.pua_jointly.proofs.JointMembers.{taken_more}
use Rattle.pua_ever.proofs.ForCallers.{all_more}
use Rattle.pua_jointly.proofs.members.know_perms.Goals as goal

pub loop-veil-preserved : goal.loop-veil-preserved
loop-veil-preserved c =
    let veils = c.args.veils.now in
    let i : ℕ = c.loop-veil.veil-index in
    let veil = c.veil-item.result in
    let low : veil.1.now < 16 = search rules in
    record {
      small = subst AreSmall
          (sym (ap (map veil_now) (taken_more veils i veil c.loop-veil-test.true c.veil-item.is) ∙ map-append veil_now (take i veils) (veil ∷ [])))
          (all_more (λ veil. veil.1 < 16) (map veil_now (take i veils)) (veil_now veil) c.loop-veil.invariant.small low);
    }
