use Rattle.pua_since.proofs.Common.{◌≡◌, sym, subst, length}
use Rattle.std.specs.Iterator.Adapters.{enumerate_source}
use Rattle.std.proofs.lemmas.Iterator.{YieldsList-from_slice, YieldsList-from_zip}
use Rattle.std.proofs.lemmas.Iterator.Consumers.{YieldsList-at, YieldsList-from_enumerate, YieldsList-turn, YieldsList-end}
use Rattle.std.proofs.lemmas.List.{length_push}
use Rattle.pua_since.proofs.Replays.{AreServedSo, one_served, all_moved, all_watched}
use Rattle.pua_since.proofs.watches.Watches.serve_all.Goals as goal

pub loop-index-preserved : goal.loop-index-preserved
loop-index-preserved g c =
    let start = c.args.self.now in
    let asks = c.args.requests.now in
    let told = c.args.answers.now in
    let done = c.loop-index.yielded in
    let source : enumerate_source c.into_iter-index-iterator.result ≡ c.zip.result = cc in
    let road = YieldsList-from_enumerate {s = c.into_iter-index-iterator.result}
    (YieldsList-at source (YieldsList-from_zip (YieldsList-from_slice asks cc) (YieldsList-from_slice told cc))) (cc) in
    let turn = YieldsList-turn road done c.loop-index.index-iterator c.loop-index.yielded_by c.next.result c.next.new.self
    (c.in-Some.index, (c.in-Some.request, c.in-Some.answer)) c.in-Some.is c.next.ensures.steps in
    subst (λ n. AreServedSo c.args.world.now start asks told n c.serve.new.world c.serve.new.self)
    (sym (length_push done (c.in-Some.index, (c.in-Some.request, c.in-Some.answer))))
    (one_served c.args.world.now start asks told (length done) c.loop-index.world c.loop-index.self c.loop-index.invariant c.in-Some.index
    c.in-Some.request.now c.in-Some.answer.now c.serve.new.world c.serve.new.self
    turn.0 turn.1 c.in_ok-serve.ensures.watched c.in_ok-serve.ensures.world c.serve.ensures.kept)

pub returns-clause-watched : goal.returns-clause-watched
returns-clause-watched g c =
    let start = c.args.self.now in
    let asks = c.args.requests.now in
    let told = c.args.answers.now in
    let done = c.loop-index.yielded in
    let source : enumerate_source c.into_iter-index-iterator.result ≡ c.zip.result = cc in
    let road = YieldsList-from_enumerate {s = c.into_iter-index-iterator.result}
    (YieldsList-at source (YieldsList-from_zip (YieldsList-from_slice asks cc) (YieldsList-from_slice told cc))) (cc) in
    let ended = YieldsList-end road done c.loop-index.index-iterator c.loop-index.yielded_by c.next.result c.next.new.self c.in-None.is
    c.next.ensures.steps in
    λ is watched. all_watched c.args.world.now start asks told (length done) c.loop-index.world c.loop-index.self
    c.loop-index.invariant ended.1 is watched

pub returns-clause-world : goal.returns-clause-world
returns-clause-world g c =
    let start = c.args.self.now in
    let asks = c.args.requests.now in
    let told = c.args.answers.now in
    let done = c.loop-index.yielded in
    let source : enumerate_source c.into_iter-index-iterator.result ≡ c.zip.result = cc in
    let road = YieldsList-from_enumerate {s = c.into_iter-index-iterator.result}
    (YieldsList-at source (YieldsList-from_zip (YieldsList-from_slice asks cc) (YieldsList-from_slice told cc))) (cc) in
    let ended = YieldsList-end road done c.loop-index.index-iterator c.loop-index.yielded_by c.next.result c.next.new.self c.in-None.is
    c.next.ensures.steps in
    λ is. all_moved c.args.world.now start asks told (length done) c.loop-index.world c.loop-index.self c.loop-index.invariant
    ended.1 is
