use Rattle.pua_since.proofs.Common.{[], sym, subst, CallTable, ArePlacesOf, AreWatched, world_of}
use Rattle.std.proofs.lemmas.Result.{IfOk-weaker}
use Rattle.pua_since.proofs.reason_lines.reason_text.Goals as goal

pub returns : goal.returns
returns g c = IfOk-weaker c.lines_text.result _ _ (λ text told rules read answered.
    let table : CallTable = c.args.world.now.table in
    let w = world_of c.args.world.now in
    let asks = c.args.requests.now in
    let placed : AreWatched table w [] asks c.watch_lines.new.watches =
    c.in_ok-places.ensures.watched asks (c.in_ok-watches.ensures.watched table w answered) in
    let places : ArePlacesOf c.watch_lines.new.watches.watches.items 0 asks c.args.answers.now c.as_slice.result.now =
    subst (λ at. ArePlacesOf c.watch_lines.new.watches.watches.items 0 asks c.args.answers.now at) (sym c.as_slice.ensures.value)
    (c.in_ok-places.ensures.places rules read answered) in
    told answered placed places) c.lines_text.ensures.text
