use Rattle.std.proofs.Common.{◌≡◌, ◌≤◌, ◌-◌, length, take}
use Rattle.pua_script.specs.Replay.{new_world}
use Rattle.pua_tight.specs.Several.{IsToTry, all_left}
use Rattle.pua_tight.proofs.WithoutSeveral.{IsFront}
use Rattle.pua_tight.specs.Starts.{IsStart}
use Rattle.pua_tight.proofs.together.try_front.Given as goal

-- so many are left out, and how many at most can be
abbrev pub invariant-loop-spare : goal.invariant-loop-spare
invariant-loop-spare l = record {
  order : l.spare ≤ l.most;
  within : l.most ≤ length l.trials;
  left : l.requests.items ≡ all_left (take l.spare l.trials) l.fn.requests.items;
  start : IsToTry l.wanted.table.now (new_world l.wanted.tree) l.wanted.answers.items l.trials l.fn.requests.items →
      IsStart l.wanted.table.now (new_world l.wanted.tree) l.fn.requests.items l.fn.start →
      IsStart l.wanted.table.now (new_world l.wanted.tree) l.requests.items l.start;
  told : IsToTry l.wanted.table.now (new_world l.wanted.tree) l.wanted.answers.items l.trials l.fn.requests.items →
      IsStart l.wanted.table.now (new_world l.wanted.tree) l.fn.requests.items l.fn.start →
      IsFront l.wanted.table.now (new_world l.wanted.tree) l.wanted.answers.items l.trials l.fn.requests.items l.most l.requests.items;
}

abbrev pub decreases-loop-spare : goal.decreases-loop-spare
decreases-loop-spare l = l.most - l.spare
