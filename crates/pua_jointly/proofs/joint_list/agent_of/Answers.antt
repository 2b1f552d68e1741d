use Rattle.pua_jointly.proofs.Common.{arith, List, map, subst, sym}
use Rattle.std.specs.List.{Contains}
use Rattle.std.proofs.lemmas.Grind.{common_steps}
use Rattle.pua_jointly.specs.declared.agent.Agent.{Agent}
use Rattle.pua_jointly.proofs.JointGathered.{taken_all}
use Rattle.pua_jointly.proofs.joint_list.agent_of.Goals as goal

pub returns : goal.returns
returns c = λ among.
    c.loop-agent.invariant.none
    (subst (λ (xs : List Agent). Contains (map (λ (agent : Agent). agent.process.now) xs) c.args.process.now)
    (sym (taken_all c.args.agents.now c.loop-agent.agent-index (grind (arith, common_steps)))) among)
