use Rattle.pua_tool.proofs.Common.{◌∙◌, ◌∷◌, ◌++◌, [], ap, arith, List, map, sym, CallTable, ProcessState, ℕ}
use Rattle.std.proofs.Common.{take_all}
use Rattle.pua_texts.specs.Members.{named_by}
use Rattle.pua_texts.specs.declared.members.Member.{Member}
use Rattle.pua_tool.specs.BesideFound.{PartSeen, part_by, part_seen}
use Rattle.pua_tool.specs.declared.helped.Part.{Part}
use Rattle.pua_tool.proofs.BesideFound.{members_more}
use Rattle.pua_tool.proofs.helped.parts_of.Goals as goal

pub loop-member-init : goal.loop-member-init
loop-member-init c =
    c.in_ok-add_part.ensures
    ∙ ap (λ (ps : List Part). map part_seen ps ++ part_by c.args.table.now c.args.process.now ∷ []) c.new-parts.ensures.items

pub loop-member-preserved : goal.loop-member-preserved
loop-member-preserved c =
    let table : CallTable = c.args.table.now in
    let living : List Member = c.args.living.now in
    let item : Member = c.member-item.result in
    let first : PartSeen = part_by table c.args.process.now in
    c.in_ok-add_part-2.ensures
    ∙ ap (λ (ps : List PartSeen). ps ++ part_by table item.process.now ∷ []) c.loop-member.invariant
    ∙ ap (λ (ps : List PartSeen). first ∷ ps)
    (sym (members_more (λ (member : ℕ × ProcessState). part_by table member.1) living c.loop-member.member-index item c.loop-member-test.true
    c.member-item.is))

pub returns : goal.returns
returns c =
    let table : CallTable = c.args.table.now in
    let living : List Member = c.args.living.now in
    c.loop-member.invariant
    ∙ ap (λ (ms : List Member). part_by table c.args.process.now ∷ map (λ (member : ℕ × ProcessState). part_by table member.1) (named_by ms))
    (take_all c.loop-member.member-index living (omega (arith, c.loop-member-test.false)))
