use Rattle.pua_jointly.proofs.Common.{ap, None, Option, ProcessState, refl, Some, subst, sym}
use Rattle.std.specs.Borrow.{Bor}
use Rattle.pua_jointly.specs.JointCalls.{IsAgentIn, IsProgramIn}
use Rattle.pua_jointly.specs.JointPrograms.{now_of}
use Rattle.pua_jointly.proofs.joint_list.group_of.Goals as goal

pub returns-in_default : goal.returns-in_default
returns-in_default c = λ has all.
    subst (IsAgentIn c.args.agents.now c.args.process.now) c.in_default.is c.in_ok-own.ensures has

pub returns-in_default-program : goal.returns-in_default-program
returns-in_default-program c = (
  subst (IsAgentIn c.args.agents.now c.args.process.now) c.in-Some.is c.in_ok-own.ensures,
  subst (λ (o : Option (Bor ProcessState)). IsProgramIn c.args.agents.now (now_of o) None) (sym c.in_default-program.is) refl,
)

pub returns-in_default-2 : goal.returns-in_default-2
returns-in_default-2 c = λ has all.
    subst (IsAgentIn c.args.agents.now c.in-Some-program.started.now) c.in_default-2.is c.in_ok-program.ensures
    (all c.in-Some-program.started.now (ap now_of c.in-Some-program.is))

pub returns : goal.returns
returns c = (
  subst (IsAgentIn c.args.agents.now c.args.process.now) c.in-Some.is c.in_ok-own.ensures,
  subst (λ (o : Option (Bor ProcessState)). IsProgramIn c.args.agents.now (now_of o) (Some c.in-Some-2.program)) (sym c.in-Some-program.is)
      (c.in-Some-2.program, refl, subst (IsAgentIn c.args.agents.now c.in-Some-program.started.now) c.in-Some-2.is c.in_ok-program.ensures),
)
