use Rattle.pua_since.proofs.Common.{◌∙◌, sym, ap, Answer, WorldState, world_of}
use Rattle.std.proofs.lemmas.Result.{on_ok_weaker}
use Rattle.pua_since.proofs.Handing.{told_stay}
use Rattle.pua_since.proofs.Serving.{served_watched}
use Rattle.pua_since.proofs.watches.Watches.serve.Goals as goal

pub returns-then-not-has_changed-clause-watched : goal.returns-then-not-has_changed-clause-watched
returns-then-not-has_changed-clause-watched g c = λ s done left at told number watched.
    told_stay c.action.result.now c.args.answer (c.has_changed.ensures.stays c.if-not-has_changed.true)
    (sym c.has_changed.ensures.exact ∙ c.if-not-has_changed.true)
    s.table (world_of s) done c.args.request.now left c.args.self.now c.action.ensures.action told watched

pub returns-clause-watched : goal.returns-clause-watched
returns-clause-watched g c =
    on_ok_weaker c.ask_again.result
    (served_watched c.args.world.now c.apply.new.self c.args.self.now c.pass_fork.new.self c.ask_again.new.self c.args.request.now
    c.args.answer c.touched_by.result c.args.line c.touched_by.ensures (ap (λ (done : Answer × WorldState). done.1) c.in-Ok.ensures.served)
    (λ table w done left told watched. c.pass_fork.ensures.passed table w done c.args.request.now left
    (sym c.action-2.ensures.action) told watched))
    c.ask_again.ensures.asked
