use Rattle.pua_tool.proofs.Common.{◌++◌, List, sym, ap, ◌∙◌, arith}
use Rattle.std.proofs.Common.{append-nil}
use Rattle.std.proofs.Math.ListN.{drop_of_length-le}
use Rattle.pua_texts.specs.Members.{named_by}
use Rattle.pua_texts.specs.TogetherLines.{living}
use Rattle.pua_texts.specs.declared.members.Member.{Member}
use Rattle.pua_tool.proofs.ActingNext.{ended_next, living_next}
use Rattle.pua_tool.proofs.acting.living_of.Goals as goal

pub loop-member-init : goal.loop-member-init
loop-member-init c = ap (λ (left : List Member). named_by left ++ living (named_by c.args.members.now)) c.new-left.ensures.items

pub loop-member-preserved-then-ended : goal.loop-member-preserved-then-ended
loop-member-preserved-then-ended c =
    ap (λ named. named_by c.loop-member.left.items ++ named)
    (ended_next c.args.members.now c.member-item.result c.loop-member.member-index c.loop-member-test.true c.member-item.is
    (sym c.if-ended.true ∙ c.ended.ensures.state))
    ∙ c.loop-member.invariant

pub loop-member-preserved : goal.loop-member-preserved
loop-member-preserved c =
    living_next c.args.members.now c.member-item.result c.loop-member.member-index c.loop-member-test.true c.member-item.is
    c.loop-member.left.items _ c.in_ok-push.ensures.items (sym c.if-ended.false ∙ c.ended.ensures.state)
    ∙ c.loop-member.invariant

pub returns : goal.returns
returns c =
    sym (ap (λ ms. named_by c.loop-member.left.items ++ living (named_by ms))
    (drop_of_length-le c.args.members.now (omega (arith, c.loop-member-test.false)))
    ∙ append-nil (named_by c.loop-member.left.items))
    ∙ c.loop-member.invariant
