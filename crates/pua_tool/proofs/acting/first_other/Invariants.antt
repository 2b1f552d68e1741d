use Rattle.pua_tool.proofs.Common.{◌≡◌}
use Rattle.std.proofs.Common.{drop}
use Rattle.pua_texts.specs.Members.{named_by}
use Rattle.pua_tool.specs.TogetherTexts.{first_other}
use Rattle.pua_tool.proofs.acting.first_other.Given as goal

-- those so far have the same veils, and the others are still to come
abbrev pub invariant-loop-member : goal.invariant-loop-member
invariant-loop-member l = first_other l.first (named_by (drop l.member-index l.members)) ≡ first_other l.first (named_by l.members)
