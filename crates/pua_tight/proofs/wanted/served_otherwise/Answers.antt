use Rattle.std.proofs.Common.{◌≡◌, ◌≢◌, ◌∙◌, ap, sym, arith, rules, length, Some}
use Rattle.std.proofs.lemmas.Bool.{ltb-true}
use Rattle.std.proofs.lemmas.Option.{slice_get-get_or}
use Rattle.pua_tight.proofs.FirstOtherAnswer.{goes_on, more_wanted, stops}
use Rattle.pua_tight.proofs.wanted.served_otherwise.Goals as goal

pub returns-then-requests-wanted : goal.returns-then-requests-wanted
returns-then-requests-wanted c = λ within.
    let gone : length c.args.requests.now ≡ c.loop-index.index = omega (arith, c.loop-index-test.false, c.loop-index.auto.index-end within) in
    ap Some gone
    ∙ more_wanted _ c.loop-index.world c.args.requests.now c.args.wanted.now c.loop-index.index (c.loop-index.invariant within)
    c.loop-index-test.false (omega (arith, gone, c.if-requests-wanted.true))

pub returns-in_default : goal.returns-in_default
returns-in_default c = λ within.
    let other : c.in-Some.wanted.now ≢ c.in_ok-answer.answer = search rules in
    stops _ c.loop-index.world c.apply.new.self c.args.requests.now c.args.wanted.now c.loop-index.index
    c.index-requests-index.result c.in_ok-answer.answer
    (slice_get-get_or c.args.requests.now c.loop-index.index c.index-requests-index.result c.loop-index-test.true ∙ ap Some (sym c.index-requests-index.is))
    c.in_ok-answer.ensures.served (c.loop-index.invariant within) c.in-Some.wanted.now
    (slice_get-get_or c.args.wanted.now c.loop-index.index c.in-Some.wanted.now (ltb-true _ _ (sym c.in-Some.ensures.lookup.0)) ∙ ap Some (sym c.in-Some.ensures.lookup.1))
    other

pub loop-index-preserved : goal.loop-index-preserved
loop-index-preserved c = λ within.
    let same : c.in-Some.wanted.now ≡ c.in_ok-answer.answer = search rules in
    goes_on _ c.loop-index.world c.apply.new.self c.args.requests.now c.args.wanted.now c.loop-index.index
    c.index-requests-index.result c.in_ok-answer.answer
    (slice_get-get_or c.args.requests.now c.loop-index.index c.index-requests-index.result c.loop-index-test.true ∙ ap Some (sym c.index-requests-index.is))
    c.in_ok-answer.ensures.served (c.loop-index.invariant within) c.in-Some.wanted.now
    (slice_get-get_or c.args.wanted.now c.loop-index.index c.in-Some.wanted.now (ltb-true _ _ (sym c.in-Some.ensures.lookup.0)) ∙ ap Some (sym c.in-Some.ensures.lookup.1))
    same
