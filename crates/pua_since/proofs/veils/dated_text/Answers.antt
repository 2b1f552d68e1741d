use Rattle.pua_since.proofs.Common.{◌≡◌, ◌∙◌, [], sym, ap, map, length, subst, CallTable, ArePlacesOf, AreVeilsAt, veil_seen, AreWatched, world_of}
use Rattle.pua_since.proofs.Common.{line_at}
use Rattle.pua_since.proofs.Keeping.{kept_twice, veils_kept}
use Rattle.pua_since.proofs.Veiled.{veils_at}
use Rattle.pua_since.proofs.veils.dated_text.Goals as goal

pub returns : goal.returns
returns g c rules read told =
    let table : CallTable = c.args.world.now.table in
    let w = world_of c.args.world.now in
    let asks = c.args.requests.now in
    let kept = c.lines_text.new.watches in
    let placed : AreWatched table w [] asks c.watch_lines.new.watches =
    c.in_ok-places.ensures.watched asks (c.in_ok-own.ensures.watched asks (c.in_ok-watches.ensures.watched table w told))
    in
    let places : ArePlacesOf c.watch_lines.new.watches.watches.items 0 asks c.args.answers.now c.as_slice.result.now =
    subst (λ at. ArePlacesOf c.watch_lines.new.watches.watches.items 0 asks c.args.answers.now at) (sym c.as_slice.ensures.value)
    (c.in_ok-places.ensures.places rules read told) in
    let served : AreWatched table w asks [] kept = c.in_ok-text.ensures.watched told placed in
    let own : AreVeilsAt kept.watches.items (length asks) (map veil_seen c.args.veils.now) c.in_ok-own.own.items =
    veils_kept c.watch_veils.new.watches.watches.items kept.watches.items (length asks)
    (kept_twice c.watch_veils.new.watches.watches.items c.watch_lines.new.watches.watches.items kept.watches.items
    c.in_ok-places.ensures.kept c.in_ok-text.ensures.kept)
    (map veil_seen c.args.veils.now) c.in_ok-own.own.items c.in_ok-own.ensures.places in
    let lines : c.in_ok-lines_at.field-0.items ≡ map (line_at kept.watches.items) c.as_slice-2.result.now = c.in_ok-lines_at.ensures in (
      c.in_ok-text.ensures.text told placed places,
      lines ∙ ap (map (line_at kept.watches.items)) c.as_slice-2.ensures.value ∙
          veils_at table w asks kept served (map veil_seen c.args.veils.now) c.in_ok-own.own.items own,
    )
