use Rattle.pua_jointly.proofs.Common.{◌∙◌, ap, arith, List, map, sym, ℕ}
use Rattle.std.proofs.Common.{◌+◌, drop}
use Rattle.std.proofs.Math.ListN.{drop_of_length-le}
use Rattle.pua_ever.specs.declared.lasting_list.ExecBound.{ExecBound}
use Rattle.pua_jointly.specs.JointPrograms.{acting_of, worse, worst}
use Rattle.pua_jointly.specs.declared.counting.Actor.{Actor}
use Rattle.pua_jointly.proofs.JointWorst.{worse_never, worst_next}
use Rattle.pua_jointly.proofs.counting.worst.Goals as goal

pub loop-actor-preserved : goal.loop-actor-preserved
loop-actor-preserved c =
    let actors : List Actor = c.args.actors.now in
    let i : ℕ = c.loop-actor.actor-index in
    ap (λ (x : ExecBound). worse x (worst (map acting_of (drop (i + 1) actors)))) c.worse-all.ensures
    ∙ worst_next actors c.actor-item.result i c.loop-actor.all c.loop-actor-test.true c.actor-item.is
    ∙ c.loop-actor.invariant

pub returns : goal.returns
returns c =
    let actors : List Actor = c.args.actors.now in
    sym (ap (λ (ms : List Actor). worse c.loop-actor.all (worst (map acting_of ms)))
    (drop_of_length-le actors (omega (arith, c.loop-actor-test.false)))
    ∙ worse_never c.loop-actor.all)
    ∙ c.loop-actor.invariant
