use Rattle.pua_since.proofs.Common.{◌∙◌, refl, ap, Watches, world_of, forebear_by, made_by}
use Rattle.std.proofs.Common.{is_ok}
use Rattle.pua_since.proofs.Handing.{one_added}
use Rattle.pua_since.proofs.Topics.{kept_by_try}
use Rattle.pua_since.proofs.watches.Watches.add.Goals as goal

pub returns-clause-watched : goal.returns-clause-watched
returns-clause-watched g c = λ left watched.
    let after : Watches = record { forks = c.args.self.now.forks; watches = c.push.new.self } in
    one_added c.args.world.now.table (world_of c.args.world.now) left c.args.self.now after c.args.process c.forebear-asker.result c.args.question c.args.last
    c.in_ok-watch.watch watched
    (c.forebear-asker.ensures ∙ ap (λ forks. forebear_by (made_by forks) c.args.process) c.deref.ensures.value)
    c.in_ok-watch.ensures.about c.in_ok-watch.ensures.begun refl c.in_ok-push.ensures.items

pub returns-clause-kept : goal.returns-clause-kept
returns-clause-kept g c = kept_by_try (is_ok c.push.result) c.args.self.now.watches.items c.in_ok-watch.watch c.push.new.self.items
    c.push.ensures.items
