use Rattle.pua_steps.proofs.Common.{◌≤◌, ◌+◌, ◌*◌, length, ◌<◌, ◌∙◌, ap, sym, subst, arith, AllByRecursion, pairs_after}
use Rattle.pua_steps.specs.Limits.{search_cost}
use Rattle.pua_steps.specs.declared.tables.Tables.{Tables}
use Rattle.pua_steps.proofs.walk.Walk.resume.Goals as goal

pub go_to-requires-clause-word : goal.go_to-requires-clause-word
go_to-requires-clause-word c = subst (λ (t : Tables). AllByRecursion (λ letter. letter < t.steps.letters) c.args.word.now)
    (sym c.in_ok-walk.ensures.of.0) c.requires.word

pub returns-clause-left : goal.returns-clause-left
returns-clause-left c = c.go_to.ensures.left ∙ ap (pairs_after (c.args.word.now, c.args.call)) c.in_ok-walk.ensures.left

pub returns-clause-of : goal.returns-clause-of
returns-clause-of c = (
  c.go_to.ensures.same.steps ∙ ap (λ (t : Tables). t.steps) c.in_ok-walk.ensures.of.0,
  c.go_to.ensures.same.limit ∙ c.in_ok-walk.ensures.of.1,
)

pub returns-clause-reads : goal.returns-clause-reads
returns-clause-reads c = subst (λ (t : Tables). c.go_to.new.self.tables.counted.reads ≤ t.counted.reads + search_cost * length c.args.word.now)
    c.in_ok-walk.ensures.of.0 c.go_to.ensures.reads

pub returns-clause-raised : goal.returns-clause-raised
returns-clause-raised c = omega (arith, ap (λ (t : Tables). t.counted.reads) c.in_ok-walk.ensures.of.0, c.go_to.ensures.raised)

pub returns-clause-lists : goal.returns-clause-lists
returns-clause-lists c = c.go_to.ensures.same.lists ∙ ap (λ (t : Tables). t.counted.lists) c.in_ok-walk.ensures.of.0
