use Rattle.pua_tool.proofs.Common.{◌≡◌, map}
use Rattle.std.proofs.Common.{take}
use Rattle.pua_tool.proofs.together.join_all.Given as goal

-- those so far are lent
abbrev pub invariant-loop-member : goal.invariant-loop-member
invariant-loop-member l = l.others.items ≡ map (λ member. member.process) (take l.member-index l.more)
