use Rattle.pua_script.proofs.Common.{ap, subst, WellFormed, WorldState}
use Rattle.pua_script.proofs.WorldsLeft.{is_narrowing, is_sparing, stays_narrow}
use Rattle.pua_script.proofs.world.World.apply.Goals as goal

pub returns-in_err-answer-clause-narrows : goal.returns-in_err-answer-clause-narrows
returns-in_err-answer-clause-narrows g c =
    stays_narrow c.args.self.now c.args.request.now c.answer.new.self c.in_err-answer.ensures.unchanged

pub returns-clause-narrows : goal.returns-clause-narrows
returns-clause-narrows g c =
    is_narrowing c.args.self.now c.args.request.now c.answer.new.self c.in_ok-answer.answer c.in_ok-answer.ensures.served

pub returns-clause-spares : goal.returns-clause-spares
returns-clause-spares g c = is_sparing c.args.self.now c.args.request.now c.answer.new.self c.in_ok-answer.answer
    (subst WellFormed (ap (λ (s : WorldState). s.tree) c.self.view_is) c.known.ensures)
    (subst WellFormed (ap (λ (s : WorldState). s.tree) c.self-2.view_is) c.known-2.ensures) c.in_ok-answer.ensures.served

pub returns-clause-tree : goal.returns-clause-tree
returns-clause-tree g c = subst WellFormed (ap (λ (s : WorldState). s.tree) c.self-2.view_is) c.known-2.ensures
