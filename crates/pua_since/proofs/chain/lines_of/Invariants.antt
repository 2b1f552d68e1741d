use Rattle.pua_since.proofs.Common.{◌≡◌, ◌++◌, map, flat_map, string_bytes, iter_rest, with_end, fact_seen}
use Rattle.pua_since.proofs.Chained.{dated_lines}
use Rattle.pua_since.proofs.chain.lines_of.Given as goal

-- the lines so far stand in front of those that are still to come
abbrev pub invariant-loop-fact : goal.invariant-loop-fact
invariant-loop-fact g l = record {
  tree : l.paths.tree ≡ l.world.tree;
  told : flat_map with_end (dated_lines l.world.tree (map fact_seen l.fn.passed) l.fn.dates.facts.items)
      ≡ string_bytes l.text ++ flat_map with_end (dated_lines l.world.tree (map fact_seen (iter_rest l.fact-iterator.a))
      (iter_rest l.fact-iterator.b));
}
