use Rattle.pua_jointly.proofs.Common.{◌≡◌, ◌<◌, ◌∙◌, ◌∷◌, ◌++◌, [], ap, arith, length, map, ProcessState, subst, sym, ℕ, List}
use Rattle.std.specs.Borrow.{Bor}
use Rattle.std.specs.List.{list_any}
use Rattle.pua_jointly.specs.JointMembers.{Each, states}
use Rattle.pua_jointly.specs.Jointly.{sets_received}
use Rattle.pua_jointly.specs.JointWords.{IsAgent}
use Rattle.pua_jointly.specs.declared.agent.Agent.{Agent}
use Rattle.pua_jointly.proofs.JointGathered.{any_map, as_many, map_more}
use Rattle.pua_jointly.proofs.JointMembers.{each_more}
use Rattle.pua_jointly.proofs.setup.ask_agents.Goals as goal

pub loop-place-preserved : goal.loop-place-preserved
loop-place-preserved c =
    let table = c.args.table.now in
    let members = c.args.processes.now in
    let crew : List ProcessState = states members in
    let place : ℕ = c.loop-place.place in
    let agents : List Agent = c.loop-place.agents.items in
    let agent : Agent = c.in_ok-agent.agent in
    let inv = c.loop-place.invariant in
    let low : place < length members = c.loop-place-test.true in
    let items : c.push.new.self.items ≡ agents ++ agent ∷ [] = c.in_ok-push.ensures.items in
    let count : length agents ≡ place =
    as_many (λ (agent : Agent). agent.process.now) (λ (p : Bor ProcessState). p.now) agents members place inv.crew (omega (arith, low)) in
    let received : list_any sets_received crew ≡ c.is_some_setter-received.result =
    sym (c.is_some_setter-received.ensures ∙ any_map sets_received (λ (p : Bor ProcessState). p.now) members) in
    let here : IsAgent table crew place agent.process.now agent =
    subst (λ b. IsAgent table crew place b agent) (sym c.in_ok-agent.ensures.process) (c.in_ok-agent.ensures.is crew received) in
    record {
      crew = ap (map (λ (agent : Agent). agent.process.now)) items
          ∙ map_more (λ (agent : Agent). agent.process.now) (λ (p : Bor ProcessState). p.now) agents members place agent
          c.index-processes-place.result low c.index-processes-place.is inv.crew c.in_ok-agent.ensures.process;
      each = subst (Each (λ i agent. IsAgent table crew i agent.process.now agent)) (sym items)
          (each_more (λ i agent. IsAgent table crew i agent.process.now agent) agents agent inv.each
          (subst (λ k. IsAgent table crew k agent.process.now agent) (sym count) here));
    }
