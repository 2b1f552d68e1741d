use Rattle.pua_tree.proofs.Common.{◌≡◌, ◌∙◌, ◌++◌, ◌∷◌, [], Some, sym, ap, subst, keys_of}
use Rattle.std.specs.Prelude.{slice_get, option_copied}
use Rattle.std.specs.List.{IsDistinct}
use Rattle.std.specs.Map.Iter.{deref_pair}
use Rattle.std.proofs.lemmas.Map.Iter.{rest_more}
use Rattle.std.proofs.lemmas.Option.{get_or_from_slice_get}
use Rattle.pua_tree.specs.NamedRows.{HeldRows}
use Rattle.pua_tree.specs.contracts.spot.SpotPartialEq.TheImpl.{ghosts as spot_ghosts}
use Rattle.pua_tree.proofs.NamedRows.{distinct_spots, one_lent}
use Rattle.pua_tree.proofs.named_rows.NamedRows.lent.Goals as goal

pub loop-key-preserved-in-Some-get_index : goal.loop-key-preserved-in-Some-get_index
loop-key-preserved-in-Some-get_index c =
    let names = c.args.self.now.names in
    let place = c.in-Some.key.now.name in
    let said : slice_get names place ≡ Some c.in-Some-get_index.name.now =
    ap (λ (rows : HeldRows). slice_get rows.names place) (sym c.self.view_is) ∙ sym c.get_index.ensures.key
    ∙ ap option_copied c.in-Some-get_index.is in
    one_lent names c.loop-key.rows.items c.push_reserved.new.self.items
    (record { dir = c.in-Some.key.now.dir; name = c.in-Some-get_index.name; node = c.in-Some.row.now.node })
    (c.in-Some.key.now, c.in-Some.row.now) c.loop-key.key-iterator c.next.new.self _
    (λ i. ((c.in-Some.key.now.dir, sym (get_or_from_slice_get names place c.in-Some-get_index.name.now [] said) i), c.in-Some.row.now.node))
    (c.push_reserved.ensures.items ∙ ap (λ rows. rows ++ record { dir = c.in-Some.key.now.dir; name = c.in-Some-get_index.name; node = c.in-Some.row.now.node } ∷ []) c.reserve.ensures.items)
    (rest_more deref_pair c.loop-key.key-iterator c.next.new.self c.next.result (c.in-Some.key, c.in-Some.row) c.in-Some.is
    c.next.ensures.steps) c.loop-key.invariant

pub returns-clause-unique : goal.returns-clause-unique
returns-clause-unique c =
    subst (λ (rows : HeldRows). IsDistinct spot_ghosts.eq (keys_of rows.entries)) c.self.view_is
    (distinct_spots c.self.inside.names.keys c.self.invariant.0 c.self.inside.rows.entries c.self.invariant.1 c.len.ensures.unique)
