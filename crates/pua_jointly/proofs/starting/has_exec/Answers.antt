use Rattle.pua_jointly.proofs.Common.{List, subst}
use Rattle.pua_jointly.specs.JointCalls.{IsAgentIn, IsOf}
use Rattle.pua_jointly.specs.declared.agent.Agent.{Agent}
use Rattle.pua_jointly.proofs.JointTold.{agent_is}
use Rattle.pua_jointly.proofs.starting.has_exec.Goals as goal

pub returns-in_default : goal.returns-in_default
returns-in_default c = λ t crew are among.
    let h = c.args.process.now in
    let found : IsAgentIn c.args.facts.now.crew.agents.items h c.in_ok-of.field-0 =
    subst (λ (xs : List Agent). IsAgentIn xs h c.in_ok-of.field-0) c.deref.ensures.value c.in_ok-of.ensures in
    absurd (subst (IsAgentIn c.args.facts.now.crew.agents.items h) c.in_default.is found (are.members.there h among))

pub returns : goal.returns
returns c = λ t crew are among.
    let h = c.args.process.now in
    let of : Agent = c.in-Some.of.now in
    let found : IsAgentIn c.args.facts.now.crew.agents.items h c.in_ok-of.field-0 =
    subst (λ (xs : List Agent). IsAgentIn xs h c.in_ok-of.field-0) c.deref.ensures.value c.in_ok-of.ensures in
    let agent = subst (IsAgentIn c.args.facts.now.crew.agents.items h) c.in-Some.is found in
    let is : IsOf t c.args.table.now crew c.args.facts.now h of =
    agent_is t c.args.table.now crew c.args.facts.now h of are agent.0 agent.1 in
    c.starts_any.ensures t crew h is
