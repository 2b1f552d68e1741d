use Rattle.std.proofs.Common.{◌≡◌, List, sym, ap, subst, ◌∙◌}
use Rattle.std.specs.Prelude.{IfSome}
use Rattle.std.specs.Cmp.Lexicographic.{pointwise}
use Rattle.pua_how.specs.Served.{IsStaged, Tried}
use Rattle.pua_how.specs.contracts.step.StepPartialEq.TheImpl.{ghosts as step_ghosts}
use Rattle.pua_how.specs.declared.step.Step.{Step}
use Rattle.pua_how.proofs.SameSteps.{steps_are}
use Rattle.pua_how.proofs.trials.Trials.stage_of.Goals as goal

pub returns-then-eq-clause-first : goal.returns-then-eq-clause-first
returns-then-eq-clause-first g c =
    steps_are c.in-Some.stage.first.items c.args.first.now
    (ap (λ steps. pointwise step_ghosts.eq steps c.args.first.now) (sym c.as_slice.ensures.value) ∙ sym c.eq.ensures ∙ c.if-eq.true)

pub returns-then-eq-clause-staged : goal.returns-then-eq-clause-staged
returns-then-eq-clause-staged g c =
    let same : c.in-Some.stage.first.items ≡ c.args.first.now = returns-then-eq-clause-first g c in
    subst (λ (steps : List Step). IsStaged c.args.self.now.rules c.args.self.now.world c.args.self.now.process steps c.in-Some.stage.world
    c.in-Some.stage.served) same
    (subst (λ o. IfSome o (λ stage. IsStaged c.args.self.now.rules c.args.self.now.world c.args.self.now.process stage.first.items stage.world
    stage.served)) (sym c.take.ensures.value ∙ c.in-Some.is)
    (subst (λ (s : Tried). IfSome c.self.inside.stage (λ stage. IsStaged s.rules s.world s.process stage.first.items stage.world stage.served))
    c.self.view_is c.self.invariant))
