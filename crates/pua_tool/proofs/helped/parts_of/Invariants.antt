use Rattle.pua_tool.proofs.Common.{◌≡◌, ◌∷◌, map}
use Rattle.std.proofs.Common.{take}
use Rattle.pua_texts.specs.Members.{named_by}
use Rattle.pua_tool.specs.BesideFound.{part_by, part_seen}
use Rattle.pua_tool.proofs.helped.parts_of.Given as goal

-- the process's is there, and those of the others so far
abbrev pub invariant-loop-member : goal.invariant-loop-member
invariant-loop-member l =
    map part_seen l.parts.items
    ≡ part_by l.table l.process ∷ map (λ member. part_by l.table member.1) (named_by (take l.member-index l.living))
