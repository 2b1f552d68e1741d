use Rattle.std.specs.Prelude.{◌≡◌}
use Rattle.pua_tree.proofs.SoFar.{IsSoFar}
use Rattle.pua_tree.proofs.listing.read_entries.Given as goal

abbrev pub invariant-loop-text : goal.invariant-loop-text
invariant-loop-text g l =
    (l.reading.form ≡ l.fn.form) × IsSoFar l.fn.form l.fn.lines l.text-iterator l.n (g.T.FileTree.content l.reading.tree) l.reading.greatest
