use Rattle.pua_why.proofs.Common.{◌≡◌, ◌++◌, map, take, Follows, fact_seen, side_seen}
use Rattle.pua_why.proofs.passed.add_links.Given as goal

abbrev pub invariant-loop-spot : goal.invariant-loop-spot
invariant-loop-spot l =
    map fact_seen l.told.items ≡ map fact_seen l.fn.told.items ++ map (Follows (side_seen l.side)) (take l.spot-index l.links)
