use Rattle.pua_jointly.proofs.Common.{◌≡◌, map, take}
use Rattle.pua_jointly.specs.JointMembers.{file_now}
use Rattle.pua_jointly.proofs.members.are_same_files.Given as goal

-- so many are the same
abbrev pub invariant-loop-place : goal.invariant-loop-place
invariant-loop-place l = record { same : map file_now (take l.place l.own) ≡ map file_now (take l.place l.others) }
