use Rattle.pua_since.proofs.Common.{◌≡◌, map, take, line_at}
use Rattle.pua_since.proofs.veils.lines_at.Given as goal

abbrev pub invariant-loop-place : goal.invariant-loop-place
invariant-loop-place l = l.lines.items ≡ map (line_at l.watches.watches.items) (take l.place-index l.places)
