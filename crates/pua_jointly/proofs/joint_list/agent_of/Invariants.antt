use Rattle.pua_jointly.proofs.Common.{map, take}
use Rattle.std.specs.List.{Contains}
use Rattle.pua_jointly.proofs.joint_list.agent_of.Given as goal

-- none so far is of the process
abbrev pub invariant-loop-agent : goal.invariant-loop-agent
invariant-loop-agent l = record {
  none : Contains (map (λ agent. agent.process.now) (take l.agent-index l.agents)) l.process → ⊥;
}
