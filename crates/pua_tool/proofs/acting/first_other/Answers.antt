use Rattle.pua_tool.proofs.Common.{sym, ap, ◌∙◌, arith}
use Rattle.std.proofs.Math.ListN.{drop_of_length-le}
use Rattle.pua_texts.specs.Members.{named_by}
use Rattle.pua_tool.specs.TogetherTexts.{first_other}
use Rattle.pua_tool.proofs.ActingNext.{alike_next, other_here}
use Rattle.pua_tool.proofs.acting.first_other.Goals as goal

pub loop-member-preserved : goal.loop-member-preserved
loop-member-preserved c =
    alike_next c.args.members.now c.member-item.result c.loop-member.member-index c.loop-member-test.true c.member-item.is c.args.first.now
    (sym c.if-not-alike.false ∙ c.in_ok-alike.ensures)
    ∙ c.loop-member.invariant

pub returns-then-not-alike : goal.returns-then-not-alike
returns-then-not-alike c =
    other_here c.args.members.now c.member-item.result c.loop-member.member-index c.loop-member-test.true c.member-item.is c.args.first.now
    (sym c.if-not-alike.true ∙ c.in_ok-alike.ensures)
    ∙ c.loop-member.invariant

pub returns : goal.returns
returns c =
    sym (ap (λ ms. first_other c.args.first.now (named_by ms))
    (drop_of_length-le c.args.members.now (omega (arith, c.loop-member-test.false))))
    ∙ c.loop-member.invariant
