use Rattle.pua_policy.proofs.Common.{◌≡◌, ◌+◌, length, is_dir, climb, Dir, veil_at, first_veiled}
use Rattle.std.proofs.Common.{◌≤◌, IsTrue}
use Rattle.pua_policy.proofs.process.Process.nearest.Given as goal

abbrev pub invariant-loop-perms : goal.invariant-loop-perms
invariant-loop-perms g l = record {
  same_tree : g.P.Probe.tree l.probe ≡ g.P.Probe.tree l.fn.probe;
  living : IsTrue (is_dir (g.P.Probe.tree l.fn.probe) l.fn.from) → IsTrue (is_dir (g.P.Probe.tree l.fn.probe) l.dir);
  still_nearest : first_veiled (λ dir. veil_at l.self.veils (Dir dir)) (climb (g.P.Probe.tree l.fn.probe) l.dir)
      ≡ first_veiled (λ dir. veil_at l.self.veils (Dir dir)) (climb (g.P.Probe.tree l.fn.probe) l.fn.from);
  cost : g.P.Probe.count l.probe + length (climb (g.P.Probe.tree l.fn.probe) l.dir) ≤ g.P.Probe.count l.fn.probe
      + length (climb (g.P.Probe.tree l.fn.probe) l.fn.from);
}

abbrev pub decreases-loop-perms : goal.decreases-loop-perms
decreases-loop-perms g l = length (climb (g.P.Probe.tree l.probe) l.dir)
