use Rattle.pua_tool.proofs.Common.{◌≡◌, ◌++◌}
use Rattle.std.proofs.Common.{drop}
use Rattle.pua_texts.specs.Members.{named_by}
use Rattle.pua_tool.specs.BesideTexts.{others_than}
use Rattle.pua_tool.proofs.beside.others_of.Given as goal

-- the others so far are there, and the rest is still to come
abbrev pub invariant-loop-member : goal.invariant-loop-member
invariant-loop-member l =
    named_by l.others.items ++ others_than l.number (named_by (drop l.member-index l.members)) ≡ others_than l.number (named_by l.members)
