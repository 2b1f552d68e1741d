use Rattle.pua_jointly.proofs.Common.{◌∙◌, ◌∷◌, ◌++◌, [], ap, arith, flat_map, List, sym, take, ℕ}
use Rattle.std.proofs.Common.{append-nil}
use Rattle.std.proofs.lemmas.Grind.{flat_map-append}
use Rattle.pua_jointly.specs.JointPrograms.{acting_now}
use Rattle.pua_jointly.specs.declared.counting.Actor.{Actor}
use Rattle.pua_jointly.proofs.JointGathered.{taken_all}
use Rattle.pua_jointly.proofs.JointMembers.{taken_more}
use Rattle.pua_jointly.proofs.counting.crew_of.Goals as goal

pub loop-actor-preserved : goal.loop-actor-preserved
loop-actor-preserved c =
    let actors : List Actor = c.args.actors.now in
    let i : ℕ = c.loop-actor.actor-index in
    let item : Actor = c.actor-item.result in
    record {
      crew = c.in_ok-add_to.ensures
          ∙ ap (λ crew. crew ++ acting_now item) c.loop-actor.invariant.crew
          ∙ sym (ap (flat_map acting_now) (taken_more actors i item c.loop-actor-test.true c.actor-item.is)
          ∙ flat_map-append acting_now (take i actors) (item ∷ [])
          ∙ ap (λ more. flat_map acting_now (take i actors) ++ more) (append-nil (acting_now item)));
    }

pub returns : goal.returns
returns c =
    c.loop-actor.invariant.crew
    ∙ ap (flat_map acting_now) (taken_all c.args.actors.now c.loop-actor.actor-index (omega (arith, c.loop-actor-test.false)))
