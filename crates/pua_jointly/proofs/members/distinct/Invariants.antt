use Rattle.pua_jointly.proofs.Common.{take}
use Rattle.pua_jointly.specs.JointMembers.{SameMembers, states}
use Rattle.pua_jointly.specs.JointPlace.{Once}
use Rattle.pua_jointly.proofs.members.distinct.Given as goal

abbrev pub invariant-loop-process : goal.invariant-loop-process
invariant-loop-process l = record {
  once : Once (states l.kept.items);
  same : SameMembers (states (take l.process-index l.processes)) (states l.kept.items);
}
