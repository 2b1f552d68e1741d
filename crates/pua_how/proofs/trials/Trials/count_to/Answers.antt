use Rattle.std.proofs.Common.{◌≡◌, true, ℕ, List, [], ◌∷◌, Option, Some, None, length, sym, ap, subst, ◌∙◌}
use Rattle.std.specs.Prelude.{IfSome, is_some}
use Rattle.std.proofs.lemmas.Bool.{false≢true}
use Rattle.pua_calls.specs.Calls.{effect_of}
use Rattle.pua_calls.specs.declared.effect.Effect.TheVariants.{Looks}
use Rattle.pua_script.specs.Worlds.{WorldState, world_of}
use Rattle.pua_how.specs.Served.{AreGranted, AreWay, IsStaged, Tried}
use Rattle.pua_how.specs.Steps.{comes, is_some_by}
use Rattle.pua_how.specs.declared.line.WayLine.{WayLine}
use Rattle.pua_how.specs.declared.step.Step.{Step}
use Rattle.pua_how.proofs.trials.Trials.count_to.Goals.{in-Looks, in_default-matches}
use Rattle.pua_how.proofs.trials.Trials.count_to.Goals as goal

there : {P : Type 0} (o : Option ℕ) → is_some o ≡ true → IfSome o (λ _. P) → P
there (Some n) some p = p
there None some p = absurd (false≢true some)

-- a call that changes nothing leaves the copy as the first steps left it
pub invariant_of-self-then-matches : goal.invariant_of-self-then-matches
invariant_of-self-then-matches g c =
    let stage = c.in_ok-stage.stage in
    let own = c.self.view_is ∙ c.in_ok-stage.ensures.same in
    let staged = subst (λ (s : Tried). IsStaged s.rules s.world s.process c.in-Some.first.now stage.world stage.served) (sym own) c.in_ok-stage.ensures.staged in
    let looks : effect_of c.args.call ≡ Looks = elim c.match-matches.branch [
      | in-Looks w ↦ sym c.effect.ensures ∙ w.in-Looks.is
      | in_default-matches w ↦ absurd (false≢true (sym w.matches-is ∙ c.if-matches.true))
    ] in
    let world : c.count_lines.new.world ≡ stage.world =
    there c.in_ok-count.count (sym c.is_some.ensures ∙ c.if-is_some.true) c.in_ok-count.ensures.kept looks in
    subst (λ (steps : List Step). IsStaged c.self.inside.rules c.self.inside.world.now c.self.inside.process steps c.count_lines.new.world stage.served)
    (sym c.in_ok-stage.ensures.first)
    (subst (λ (w : WorldState). IsStaged c.self.inside.rules c.self.inside.world.now c.self.inside.process c.in-Some.first.now w stage.served)
    (sym world) staged)

pub returns-clause-way : goal.returns-clause-way
returns-clause-way g c =
    let stage = c.in_ok-stage.stage in
    let own = c.self.view_is ∙ c.in_ok-stage.ensures.same in
    let staged = subst (λ (s : Tried). IsStaged s.rules s.world s.process c.in-Some.first.now stage.world stage.served) (sym own) c.in_ok-stage.ensures.staged in
    let granted = subst (λ o. IfSome o (λ s. AreGranted c.self.inside.rules c.self.inside.world.now c.self.inside.process s.lines.items stage.world))
    c.in-Some-served.is staged.granted in
    subst (λ (s : Tried). IfSome c.in_ok-count.count (λ n. (lines : List WayLine) × AreWay s.rules s.world s.process c.args.call c.args.target.now lines × (length lines ≡ n)))
    own (c.in_ok-count.ensures.way c.self.inside.world.now granted)

pub returns-clause-found : goal.returns-clause-found
returns-clause-found g c =
    let stage = c.in_ok-stage.stage in
    let own = c.self.view_is ∙ c.in_ok-stage.ensures.same in
    let call = c.args.call in
    let target = c.args.target.now in
    let last = c.in-Some.last.now in
    let rules = c.self.inside.rules in
    let process = c.self.inside.process in
    let before = c.self.inside.world.now in
    let staged = subst (λ (s : Tried). IsStaged s.rules s.world s.process c.in-Some.first.now stage.world stage.served) (sym own) c.in_ok-stage.ensures.staged in
    c.in_ok-count.ensures.found
    ∙ sym (staged.on call target last
    ∙ ap (is_some_by (λ s. comes rules stage.world.table process call target (last ∷ []) (world_of stage.world) s.made)) c.in-Some-served.is)
    ∙ ap (λ steps. comes rules before.table process call target steps (world_of before) 0) (sym c.in-Some.ensures.cases.0)
    ∙ ap (λ (s : Tried). comes s.rules s.world.table s.process call target c.args.steps.now (world_of s.world) 0) own
