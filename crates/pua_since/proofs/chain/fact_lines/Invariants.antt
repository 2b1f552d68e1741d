use Rattle.pua_since.proofs.Common.{◌≡◌, map, take, fact_line}
use Rattle.pua_since.proofs.chain.fact_lines.Given as goal

abbrev pub invariant-loop-place : goal.invariant-loop-place
invariant-loop-place l = l.lines.items ≡ map (fact_line l.watches.watches.items) (take l.place-index l.places)
