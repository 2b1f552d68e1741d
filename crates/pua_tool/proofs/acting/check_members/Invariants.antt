use Rattle.pua_tool.proofs.Common.{◌≡◌}
use Rattle.std.proofs.Common.{drop}
use Rattle.pua_texts.specs.Members.{named_by}
use Rattle.pua_tool.specs.TogetherTexts.{first_refused}
use Rattle.pua_tool.proofs.acting.check_members.Given as goal

-- there is a list of each so far, and the others are still to come
abbrev pub invariant-loop-member : goal.invariant-loop-member
invariant-loop-member l = first_refused l.table (named_by (drop l.member-index l.members)) ≡ first_refused l.table (named_by l.members)
