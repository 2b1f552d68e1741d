use Rattle.pua_since.proofs.Common.{◌≡◌, ◌∙◌, ◌++◌, sym, ap, map, flat_map, take, get_or, veil_seen, veils_at, with_number}
use Rattle.pua_since.proofs.Lent.{flat_more, lent_at}
use Rattle.pua_since.proofs.veils.veils_of.Goals as goal

pub loop-number-preserved : goal.loop-number-preserved
loop-number-preserved g c =
    let number = get_or c.args.numbers.now c.loop-number.number-index 0 in
    let added : map veil_seen c.add_veils.new.all.items ≡ map veil_seen c.loop-number.all.items ++ map (with_number number)
    c.as_slice.result.now = c.in_ok-add_veils.ensures in
    added
    ∙ ap (λ front. front ++ map (with_number number) c.as_slice.result.now) c.loop-number.invariant
    ∙ ap (λ lent. flat_map (veils_at c.args.world.now) (take c.loop-number.number-index c.args.numbers.now) ++ lent)
    (lent_at c.args.world.now number c.in-Some.process.now c.as_slice.result.now (sym c.in-Some.ensures)
    (ap (map (λ place. place.now)) c.as_slice.ensures.value ∙ c.in_ok-places.ensures))
    ∙ sym (flat_more (veils_at c.args.world.now) c.args.numbers.now c.loop-number.number-index 0 c.loop-number-test.true)
