use Rattle.pua_since.proofs.Common.{◌≡◌, ◌∙◌, refl, sym, length, true, None, apply, world_after, has_forked}
use Rattle.pua_since.proofs.Handing.{are_served, emptied, stay_served}
use Rattle.pua_since.proofs.watches.Watches.pass_fork.Goals as goal

pub returns-then-has_forked-clause-passed : goal.returns-then-has_forked-clause-passed
returns-then-has_forked-clause-passed c = λ table w done ask left action told watched.
    let forked : has_forked ask.action (apply table (world_after table w done) ask).0 ≡ true = (λ i. has_forked (action i) (sym told i))
    ∙ sym c.has_forked.ensures ∙ c.if-has_forked.true in
    let none : c.pop.result ≡ None → length c.args.self.now.forks.items ≡ 0 = λ none. sym c.args.self.now.forks.ok.0
    ∙ emptied c.pop.result c.args.self.now.forks.len c.pop.ensures.variant none in
    are_served table w done ask left c.args.self.now watched c.pop.new.self.items c.pop.result
    (record { forks = c.pop.new.self; watches = c.args.self.now.watches }) forked c.pop.ensures.items none refl refl

pub returns-else-has_forked-clause-passed : goal.returns-else-has_forked-clause-passed
returns-else-has_forked-clause-passed c = λ table w done ask left action told watched.
    stay_served table w done ask left c.args.self.now watched
    ((λ i. has_forked (action i) (sym told i)) ∙ sym c.has_forked.ensures ∙ c.if-has_forked.false)
