-- Rows as the code holds them.
use Rattle.std.specs.Prelude.{List, map}
use Rattle.pua_listing.specs.Order.{Row}
use Rattle.pua_listing.specs.declared.order.TreeRow.{TreeRow}

abbrev pub row_held : TreeRow → Row
row_held row = ((row.dir, row.name.now), row.node)

abbrev pub rows_held : List TreeRow → List Row
rows_held rows = map row_held rows
