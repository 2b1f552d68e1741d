use Rattle.pua_since.proofs.Common.{map, take, List, [], Asked, world_of, AreVeilsAt, veil_seen, AreWatched, IsKeptThrough, Watch}
use Rattle.pua_since.proofs.veils.watch_veils.Given as goal

-- whatever keeps the questions so far has those of the first veils at these places
abbrev pub invariant-loop-number : goal.invariant-loop-number
invariant-loop-number g l = record {
  places : (later : List Watch) → IsKeptThrough l.watches.watches.items later →
      AreVeilsAt later l.last (map veil_seen (take l.number-index l.veils)) l.own.items;
  watched : (left : List Asked) → AreWatched l.world.table (world_of l.world) [] left l.fn.watches →
      AreWatched l.world.table (world_of l.world) [] left l.watches;
  kept : IsKeptThrough l.fn.watches.watches.items l.watches.watches.items;
}
