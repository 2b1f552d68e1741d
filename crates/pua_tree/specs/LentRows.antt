-- Rows and spots that a tree lends.
use Rattle.std.specs.Prelude.{ℕ}
use Rattle.pua_tree.specs.Tree.{Spot}
use Rattle.pua_tree.specs.declared.tree.LentRow.{LentRow}
use Rattle.pua_tree.specs.declared.tree.LentSpot.{LentSpot}

abbrev pub lent_entry : LentRow → Spot × ℕ
lent_entry row = ((row.dir, row.name.now), row.node)

abbrev pub lent_spot : LentSpot → Spot
lent_spot spot = (spot.dir, spot.name.now)
