use Rattle.pua_why.proofs.Common.{◌≡◌, ◌++◌, length, map, dir_names, names_to}
use Rattle.std.proofs.Common.{◌+◌, ◌-◌, vec_capacity, vec_len, reverse}
use Rattle.pua_why.proofs.tree_paths.climb.Given as goal

-- the names above are still to come, and stand before those so far
abbrev pub invariant-loop : goal.invariant-loop
invariant-loop g l = record {
  all : l.end ≡ length (g.T.FileTree.content l.fn.tree).rows;
  room : vec_capacity l.names ≡ vec_capacity l.fn.names;
  count : vec_len l.names ≡ vec_len l.fn.names + l.counter;
  names : names_to (l.end - l.counter) (g.T.FileTree.content l.fn.tree) l.at ++ reverse (map (λ name. name.now) l.names.items)
      ≡ dir_names (g.T.FileTree.content l.fn.tree) l.fn.dir ++ reverse (map (λ name. name.now) l.fn.names.items);
}
