use Rattle.std.proofs.Common.{◌≡◌, take}
use Rattle.pua_tight.specs.Several.{all_back, all_left}
use Rattle.pua_tight.proofs.together.leave_all.Given as goal

-- the pieces so far
abbrev pub invariant-loop-trial : goal.invariant-loop-trial
invariant-loop-trial l = record {
  left : l.requests.items ≡ all_left (take l.trial-index l.trials) l.fn.requests.items;
  back : all_back l.kept.items l.requests.items ≡ l.fn.requests.items;
}
