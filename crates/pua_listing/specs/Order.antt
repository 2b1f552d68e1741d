-- The rows of a tree in the order of their lines.
use Rattle.std.specs.Prelude.{ℕ, zero, suc, ◌==◌, List, [], ◌∷◌, ◌++◌, filter, length}
use Rattle.pua_tree.specs.Tree.{Spot, Tree}

-- a spot and the node there
abbrev pub Row : Type 0
Row = Spot × ℕ

-- the rows in a directory
abbrev pub rows_under : List Row → ℕ → List Row
rows_under rows dir = filter (λ row. row.0.0 == dir) rows

-- so many of the rows that wait, each followed by those beneath it
abbrev pub rows_from : ℕ → List Row → List Row → List Row
rows_from zero rows waiting = []
rows_from (suc n) rows [] = []
rows_from (suc n) rows (row ∷ waiting) = row ∷ rows_from n rows (rows_under rows row.1 ++ waiting)

-- all rows: those of the root's names, each followed by those beneath it, and those of one directory by the bytes of their names
abbrev pub order_of : List Row → List Row
order_of rows = rows_from (length rows) rows (rows_under rows 0)

abbrev pub in_order : Tree → List Row
in_order t = order_of t.rows
