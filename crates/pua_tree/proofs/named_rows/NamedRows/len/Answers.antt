use Rattle.pua_tree.proofs.Common.{subst, keys_of}
use Rattle.std.specs.List.{IsDistinct}
use Rattle.pua_tree.specs.NamedRows.{HeldRows}
use Rattle.pua_tree.specs.contracts.spot.SpotPartialEq.TheImpl.{ghosts as spot_ghosts}
use Rattle.pua_tree.proofs.NamedRows.{distinct_spots}
use Rattle.pua_tree.proofs.named_rows.NamedRows.len.Goals as goal

pub returns-clause-unique : goal.returns-clause-unique
returns-clause-unique c =
    subst (λ (rows : HeldRows). IsDistinct spot_ghosts.eq (keys_of rows.entries)) c.self.view_is
    (distinct_spots c.self.inside.names.keys c.self.invariant.0 c.self.inside.rows.entries c.self.invariant.1 c.len.ensures.unique)
