use Rattle.pua_steps.proofs.Common.{◌≡◌, ◌<◌, ◌+◌, ◌-◌, ◌*◌, ℕ, get_or}
use Rattle.pua_steps.proofs.live.Live.repeats.Given as goal

abbrev pub invariant-loop-dir : goal.invariant-loop-dir
invariant-loop-dir l = record {
  so_far : (d : ℕ) → d < l.dir →
      get_or l.self.bounds.items (l.left * l.self.dirs + d) 0 ≡ get_or l.self.bounds.items ((l.left - 1) * l.self.dirs + d) 0;
}
