use Rattle.std.proofs.Common.{◌≤◌, ◌-◌, length}
use Rattle.pua_script.specs.Replay.{new_world}
use Rattle.pua_tight.specs.Several.{AreDone, IsToTry}
use Rattle.pua_tight.specs.Starts.{IsStart}
use Rattle.pua_tight.proofs.together.try_all.Given as goal

-- so many trials were done
abbrev pub invariant-loop-done : goal.invariant-loop-done
invariant-loop-done l = record {
  within : l.done ≤ length l.trials;
  start : IsToTry l.wanted.table.now (new_world l.wanted.tree) l.wanted.answers.items l.trials l.fn.requests.items →
      IsStart l.wanted.table.now (new_world l.wanted.tree) l.requests.items l.start;
  told : IsToTry l.wanted.table.now (new_world l.wanted.tree) l.wanted.answers.items l.trials l.fn.requests.items →
      AreDone l.wanted.table.now (new_world l.wanted.tree) l.wanted.answers.items l.trials l.done l.fn.requests.items l.requests.items;
}

abbrev pub decreases-loop-done : goal.decreases-loop-done
decreases-loop-done l = length l.trials - l.done
