use Rattle.pua_ever.proofs.Common.{◌∷◌, List, map, sym, ap, ◌∙◌, arith, ProcessState}
use Rattle.std.proofs.Common.{◌+◌, drop, drop_of_length-le}
use Rattle.std.proofs.lemmas.List.{drop_more}
use Rattle.std.specs.Borrow.{Bor}
use Rattle.pua_ever.specs.Joints.{joint_told}
use Rattle.pua_ever.specs.Together.{Joint, joint_after}
use Rattle.pua_ever.proofs.joining.joint_after.Goals as goal

pub loop-process-preserved : goal.loop-process-preserved
loop-process-preserved c =
    let table = c.args.table.now in
    let more = c.args.more.now in
    let i = c.loop-process.process-index in
    let now : List (Bor ProcessState) → List ProcessState = map (λ process. process.now) in
    ap (λ (joint : Joint). joint_after table joint (now (drop (i + 1) more))) c.with-joint.ensures ∙
    ap (λ left. joint_after table (joint_told c.loop-process.joint) (now left)) (sym (drop_more more i c.process-item.result c.loop-process-test.true ∙
    ap (λ process. process ∷ drop (i + 1) more) (sym c.process-item.is))) ∙ c.loop-process.invariant

pub returns : goal.returns
returns c =
    ap (λ (left : List (Bor ProcessState)). joint_after c.args.table.now (joint_told c.loop-process.joint) (map (λ process. process.now) left))
    (sym (drop_of_length-le c.args.more.now (omega (arith, c.loop-process-test.false)))) ∙ c.loop-process.invariant
