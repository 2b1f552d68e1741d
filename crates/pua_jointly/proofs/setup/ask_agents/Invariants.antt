use Rattle.pua_jointly.proofs.Common.{◌≡◌, map, take}
use Rattle.pua_jointly.specs.JointMembers.{Each, states}
use Rattle.pua_jointly.specs.JointWords.{IsAgent}
use Rattle.pua_jointly.proofs.setup.ask_agents.Given as goal

abbrev pub invariant-loop-place : goal.invariant-loop-place
invariant-loop-place l = record {
  crew : map (λ agent. agent.process.now) l.agents.items ≡ states (take l.place l.processes);
  each : Each (λ i agent. IsAgent l.table (states l.processes) i agent.process.now agent) l.agents.items;
}
