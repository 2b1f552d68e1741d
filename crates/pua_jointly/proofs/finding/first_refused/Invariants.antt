use Rattle.pua_jointly.proofs.Common.{◌≡◌, take}
use Rattle.std.specs.List.{AllByRecursion}
use Rattle.std.proofs.Common.{drop}
use Rattle.pua_jointly.specs.JointMembers.{states}
use Rattle.pua_jointly.specs.JointRefusals.{IsLasting, first_refusal}
use Rattle.pua_jointly.proofs.finding.first_refused.Given as goal

-- none so far has a reason
abbrev pub invariant-loop-place : goal.invariant-loop-place
invariant-loop-place l = record {
  first : first_refusal l.table 0 (states l.processes) ≡ first_refusal l.table l.place (states (drop l.place l.processes));
  none : AllByRecursion (IsLasting l.table) (states (take l.place l.processes));
}
