use Rattle.pua_tool.proofs.Common.{◌≡◌, ◌++◌}
use Rattle.std.proofs.Common.{drop}
use Rattle.pua_texts.specs.Members.{named_by}
use Rattle.pua_texts.specs.TogetherLines.{living}
use Rattle.pua_tool.proofs.acting.living_of.Given as goal

-- those that live so far are there, and the others are still to come
abbrev pub invariant-loop-member : goal.invariant-loop-member
invariant-loop-member l = named_by l.left.items ++ living (named_by (drop l.member-index l.members)) ≡ living (named_by l.members)
