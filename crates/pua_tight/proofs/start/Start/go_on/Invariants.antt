use Rattle.std.proofs.Common.{◌≤◌, ◌-◌, ℕ}
use Rattle.pua_calls.specs.Calls.{CallTable}
use Rattle.pua_script.specs.Replay.{World}
use Rattle.pua_tight.specs.Starts.{IsStart}
use Rattle.pua_tight.proofs.start.Start.go_on.Given as goal

-- so many lines are served
abbrev pub invariant-loop-self : goal.invariant-loop-self
invariant-loop-self l = record {
  start : (table : CallTable) (w : World) → IsStart table w l.requests l.fn.self → IsStart table w l.requests l.self;
  before : (last : ℕ) → l.line ≤ last → l.fn.self.line ≤ last → l.self.line ≤ last;
}

abbrev pub decreases-loop-self : goal.decreases-loop-self
decreases-loop-self l = l.line - l.self.line
