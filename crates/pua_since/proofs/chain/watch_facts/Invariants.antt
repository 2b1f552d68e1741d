use Rattle.pua_since.proofs.Common.{map, take, List, [], Asked, world_of, fact_seen, AreFactsAt, AreWatched, IsKeptThrough, Watch}
use Rattle.pua_since.proofs.chain.watch_facts.Given as goal

-- whatever keeps the questions so far has those of the first facts at these places
abbrev pub invariant-loop-fact : goal.invariant-loop-fact
invariant-loop-fact g l = record {
  places : (later : List Watch) → IsKeptThrough l.watches.watches.items later →
      AreFactsAt later l.process l.last (map fact_seen (take l.fact-index l.passed)) l.veils.items;
  watched : (left : List Asked) → AreWatched l.world.table (world_of l.world) [] left l.fn.watches →
      AreWatched l.world.table (world_of l.world) [] left l.watches;
  kept : IsKeptThrough l.fn.watches.watches.items l.watches.watches.items;
}
