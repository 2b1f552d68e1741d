use Rattle.pua_since.proofs.Common.{◌≡◌, ◌<◌, ◌≤◌, refl, sym, ap, subst, get_or, set, length, arith, Watch, Watches, IsKeptThrough, forebear_by, made_by}
use Rattle.pua_since.proofs.Common.{◌∙◌}
use Rattle.std.specs.Vec.{with_items}
use Rattle.std.proofs.lemmas.List.{length-set, with_items_is}
use Rattle.pua_since.proofs.Rounds.{kept_more, one_asked, all_asked}
use Rattle.pua_since.proofs.watches.Watches.ask_again.Goals as goal

pub loop-watch-preserved : goal.loop-watch-preserved
loop-watch-preserved g c =
    let items = c.loop-watch.watch-items in
    let place = c.loop-watch.watch-index in
    let watch : Watch = get_or items place c.watch-item.result in
    let within : place < length items = omega (arith, c.loop-watch-test.true, c.loop-watch.auto.watch-items) in
    one_asked c.args.world.now c.args.touched c.args.line place c.args.self.now items c.loop-watch.invariant within watch c.ask.new.self
    (ap (get_or items place) c.watch-item.is) c.ask.ensures.topic c.forebear-asker.result
    (c.forebear-asker.ensures ∙ (λ i. forebear_by (made_by (c.deref.ensures.value i)) (c.process.ensures i))) c.in_ok-ask.ensures.asked

pub returns-clause-asked : goal.returns-clause-asked
returns-clause-asked g c =
    let items = c.loop-watch.watch-items in
    let old = c.args.self.now.watches in
    let after : Watches = record { forks = c.args.self.now.forks; watches = with_items old items } in
    let same : length items ≡ old.len =
    omega (arith, c.loop-watch.auto.watch-items, ap length c.deref_mut-watch-items.ensures.value, old.ok.0) in
    let all : length items ≤ c.loop-watch.watch-index = omega (arith, c.loop-watch-test.false, c.loop-watch.auto.watch-items) in
    all_asked c.args.world.now c.args.touched c.args.line c.loop-watch.watch-index c.args.self.now after items refl
    (with_items_is old items same)
    c.loop-watch.invariant all

pub returns-in_err-ask-clause-kept : goal.returns-in_err-ask-clause-kept
returns-in_err-ask-clause-kept g c =
    let items = c.loop-watch.watch-items in
    let place = c.loop-watch.watch-index in
    let old = c.args.self.now.watches in
    let watch : Watch = get_or items place c.watch-item.result in
    let after = set items place c.ask.new.self in
    let within : place < length items = omega (arith, c.loop-watch-test.true, c.loop-watch.auto.watch-items) in
    let same : length after ≡ old.len =
    omega (
      arith,
      length-set items place c.ask.new.self,
      c.loop-watch.auto.watch-items,
      ap length c.deref_mut-watch-items.ensures.value,
      old.ok.0,
    ) in
    subst (IsKeptThrough old.items) (sym (with_items_is old after same))
    (kept_more c.args.world.now c.args.touched c.args.line place c.args.self.now items c.loop-watch.invariant within watch
    c.ask.new.self
    (ap (get_or items place) c.watch-item.is) c.ask.ensures.topic)
