use Rattle.pua_tool.proofs.Common.{◌++◌, List, sym, ap, ◌∙◌, arith}
use Rattle.std.proofs.Common.{append-nil}
use Rattle.std.proofs.lemmas.Bool.{eq-eqb, ne_eqb}
use Rattle.std.proofs.Math.ListN.{drop_of_length-le}
use Rattle.pua_texts.specs.Members.{named_by}
use Rattle.pua_texts.specs.declared.members.Member.{Member}
use Rattle.pua_tool.specs.BesideTexts.{others_than}
use Rattle.pua_tool.proofs.BesideTexts.{other_next, own_next}
use Rattle.pua_tool.proofs.beside.others_of.Goals as goal

pub loop-member-init : goal.loop-member-init
loop-member-init c = ap (λ (left : List Member). named_by left ++ others_than c.args.number (named_by c.args.members.now)) c.new-others.ensures.items

pub loop-member-preserved-then-is_own : goal.loop-member-preserved-then-is_own
loop-member-preserved-then-is_own c =
    ap (λ named. named_by c.loop-member.others.items ++ named)
    (own_next c.args.members.now c.member-item.result c.loop-member.member-index c.loop-member-test.true c.member-item.is c.args.number
    (eq-eqb c.member-item.result.number c.args.number c.if-is_own.true))
    ∙ c.loop-member.invariant

pub loop-member-preserved : goal.loop-member-preserved
loop-member-preserved c =
    other_next c.args.members.now c.member-item.result c.loop-member.member-index c.loop-member-test.true c.member-item.is c.args.number
    c.loop-member.others.items _ c.in-Ok.ensures.items (ne_eqb c.member-item.result.number c.args.number c.if-is_own.false)
    ∙ c.loop-member.invariant

pub returns : goal.returns
returns c =
    sym (ap (λ ms. named_by c.loop-member.others.items ++ others_than c.args.number (named_by ms))
    (drop_of_length-le c.args.members.now (omega (arith, c.loop-member-test.false)))
    ∙ append-nil (named_by c.loop-member.others.items))
    ∙ c.loop-member.invariant
