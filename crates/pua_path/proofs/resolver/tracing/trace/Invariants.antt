use Rattle.pua_path.proofs.Common.{◌≡◌, ◌≤◌, ◌+◌, after_links, as_path_trace, trace_from}
use Rattle.std.proofs.Common.{vec_len, vec_capacity}
use Rattle.pua_path.specs.Limits.{most_links}
use Rattle.pua_path.specs.Walks.{potential_of, walk_trace}
use Rattle.pua_path.proofs.resolver.tracing.trace.Given as goal

abbrev pub invariant-loop-piece : goal.invariant-loop-piece
invariant-loop-piece g l =
    let t = g.P.Probe.tree l.fn.probe in
    record {
      tree : g.P.Probe.tree l.probe ≡ t;
      so_far : as_path_trace (after_links l.links-inside.spots.items (walk_trace t l.fn.mode l.walk))
          ≡ trace_from t l.fn.from l.fn.text.ending l.fn.text.bytes l.fn.mode;
      room : vec_len l.links-inside.spots + l.walk.rest.left ≤ vec_capacity l.links-inside.spots;
      all_room : most_links ≤ vec_capacity l.links-inside.spots;
    }

abbrev pub decreases-loop-piece : goal.decreases-loop-piece
decreases-loop-piece g l = potential_of (g.P.Probe.tree l.fn.probe) l.walk
