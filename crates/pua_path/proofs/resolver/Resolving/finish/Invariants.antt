use Rattle.pua_path.proofs.Common.{rooted, ◌≡◌, ◌≤◌, ◌+◌, resolve_parts, way_of}
use Rattle.std.proofs.Common.{◌*◌}
use Rattle.pua_path.specs.Walks.{potential}
use Rattle.pua_path.proofs.resolver.Resolving.finish.Given as goal

abbrev pub invariant-loop-piece : goal.invariant-loop-piece
invariant-loop-piece g l =
    let t = g.P.Probe.tree l.fn.probe in
    record {
      tree : g.P.Probe.tree l.probe ≡ t;
      left : l.self.rest.left ≤ l.fn.self.rest.left;
      so_far : resolve_parts l.self.rest.left (rooted t l.self.root) l.fn.mode l.self.here (way_of l.self.way) l.self.rest.parts ≡ resolve_parts l.fn.self.rest.left
          (rooted t l.fn.self.root) l.fn.mode l.fn.self.here (way_of l.fn.self.way) l.fn.self.rest.parts;
      count : g.P.Probe.count l.probe + 3 * potential t l.self.rest ≤ g.P.Probe.count l.fn.probe
          + 3 * potential t l.fn.self.rest;
    }

abbrev pub decreases-loop-piece : goal.decreases-loop-piece
decreases-loop-piece g l = potential (g.P.Probe.tree l.fn.probe) l.self.rest
