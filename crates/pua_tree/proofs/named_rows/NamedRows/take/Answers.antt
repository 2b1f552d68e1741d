use Rattle.pua_tree.proofs.Common.{◌<◌, ◌∙◌, sym, ap, cond, length, lookup, subst, None}
use Rattle.pua_tree.specs.NamedRows.{HeldRows, IsPlaceOf, key_at, row_of, AreNamed}
use Rattle.pua_tree.specs.declared.spot.RowKey.{RowKey}
use Rattle.pua_tree.specs.declared.spot.RowNode.{RowNode}
use Rattle.pua_tree.specs.contracts.spot.SpotPartialEq.TheImpl.{ghosts as spot_ghosts}
use Rattle.pua_tree.specs.contracts.spot.RowKeyPartialEq.TheImpl.{ghosts as key_ghosts}
use Rattle.pua_tree.proofs.NamedRows.{placed, not_named, changed_by, gone_already, all_left}
use Rattle.pua_tree.proofs.named_rows.NamedRows.take.Goals as goal

pub invariant_of-self : goal.invariant_of-self
invariant_of-self c = (
  c.self.invariant.0,
  subst (AreNamed c.self.inside.names.keys) (sym c.swap_remove.ensures.entries)
      (all_left (λ (e : RowKey × RowNode). e.0.name < length c.self.inside.names.keys)
      (key_ghosts.eq (placed c.args.dir c.in-Some.name)) c.self.inside.rows.entries c.self.invariant.1),
)

pub returns-in-Some-clause-taken : goal.returns-in-Some-clause-taken
returns-in-Some-clause-taken c q =
    changed_by c.self.inside.names.keys c.self.invariant.0 (key_at (c.args.dir, c.args.name.now)) c.in-Some.name
    (subst (IsPlaceOf c.self.inside.names.keys c.args.name.now) c.in-Some.is c.place_of.ensures)
    c.self.inside.rows.entries c.swap_remove.new.self.entries c.self.invariant.1 (invariant_of-self c).1 None
    c.swap_remove.ensures.updates.0 q
    ∙ ap (λ (rows : HeldRows). cond (spot_ghosts.eq (key_at (c.args.dir, c.args.name.now)) q) None (lookup (spot_ghosts.eq q) rows.entries))
    c.self.view_is

pub returns-in_default-clause-taken : goal.returns-in_default-clause-taken
returns-in_default-clause-taken c q =
    gone_already c.args.self.now.entries (key_at (c.args.dir, c.args.name.now))
    (sym (ap (λ (rows : HeldRows). row_of rows (c.args.dir, c.args.name.now)) c.self.view_is)
    ∙ not_named c.self.inside.names.keys c.self.inside.rows.entries c.self.invariant.1 (key_at (c.args.dir, c.args.name.now))
    (subst (IsPlaceOf c.self.inside.names.keys c.args.name.now) c.in_default.is c.place_of.ensures)) q
