use Rattle.pua_path.proofs.Common.{rooted, ◌≡◌, length, rest_parts, resolve_parts, way_of, Top}
use Rattle.pua_path.proofs.resolver.resolve_text.Given as goal

abbrev pub invariant-loop-way : goal.invariant-loop-way
invariant-loop-way g l =
    let t = g.P.Probe.tree l.fn.probe in
    record {
      tree : g.P.Probe.tree l.probe ≡ t;
      so_far : resolve_parts l.fn.left.count (rooted t l.fn.start.root) l.fn.mode l.dir (way_of l.way) (rest_parts l.rest.bytes.now)
          ≡ resolve_parts l.fn.left.count (rooted t l.fn.start.root) l.fn.mode l.fn.start.dir Top (rest_parts l.fn.text.bytes.now);
    }

abbrev pub decreases-loop-way : goal.decreases-loop-way
decreases-loop-way g l = length (rest_parts l.rest.bytes.now)
