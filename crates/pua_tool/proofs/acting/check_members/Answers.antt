use Rattle.pua_tool.proofs.Common.{sym, ap, ◌∙◌, arith, Some}
use Rattle.std.proofs.Math.ListN.{drop_of_length-le}
use Rattle.pua_texts.specs.Members.{named_by}
use Rattle.pua_tool.specs.TogetherTexts.{first_refused}
use Rattle.pua_tool.proofs.ActingNext.{refused_here, refused_next}
use Rattle.pua_tool.proofs.acting.check_members.Goals as goal

pub loop-member-preserved : goal.loop-member-preserved
loop-member-preserved c =
    refused_next c.args.members.now c.member-item.result c.loop-member.member-index c.loop-member-test.true c.member-item.is c.args.table.now
    (sym c.in_default.is ∙ c.why_refused.ensures.exact)
    ∙ c.loop-member.invariant

pub returns-in-Some-clause-refused : goal.returns-in-Some-clause-refused
returns-in-Some-clause-refused c =
    sym (refused_here c.args.members.now c.member-item.result c.loop-member.member-index c.loop-member-test.true c.member-item.is c.args.table.now
    c.in-Some.reason (sym c.in-Some.is ∙ c.why_refused.ensures.exact)
    ∙ c.loop-member.invariant)
    ∙ ap (λ fault. Some fault) (sym c.reason_of.ensures)

pub returns-clause-listed : goal.returns-clause-listed
returns-clause-listed c =
    sym c.loop-member.invariant
    ∙ ap (λ ms. first_refused c.args.table.now (named_by ms)) (drop_of_length-le c.args.members.now (omega (arith, c.loop-member-test.false)))
