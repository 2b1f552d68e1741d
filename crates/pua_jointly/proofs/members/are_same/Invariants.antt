use Rattle.pua_jointly.proofs.Common.{◌≡◌, map, take}
use Rattle.pua_jointly.specs.JointMembers.{veil_now}
use Rattle.pua_jointly.proofs.members.are_same.Given as goal

-- so many are the same
abbrev pub invariant-loop-place : goal.invariant-loop-place
invariant-loop-place l = record { same : map veil_now (take l.place l.own) ≡ map veil_now (take l.place l.others) }
