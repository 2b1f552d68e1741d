use Rattle.pua_jointly.specs.JointCovers.{does}
use Rattle.pua_jointly.proofs.JointDoing.{AreSoFar}
use Rattle.pua_jointly.proofs.doing.covers_for.Given as goal

abbrev pub invariant-loop-bit : goal.invariant-loop-bit
invariant-loop-bit l = record { covers : AreSoFar (does l.table l.process l.doing) l.word l.bit }
