use Rattle.pua_tool.proofs.Common.{◌++◌, ap, sym, ◌∙◌, arith}
use Rattle.std.proofs.Common.{◌+◌}
use Rattle.pua_tool.proofs.WhyTexts.{fields_done, fields_left, field_more}
use Rattle.pua_tool.proofs.why.line_of.Goals as goal

pub loop-field-preserved : goal.loop-field-preserved
loop-field-preserved c =
    let fields = c.args.fields.now in
    let i = c.loop-field.field-index in
    ap (λ line. line ++ fields_left fields (i + 1)) c.in_ok-push_field.ensures
    ∙ sym (field_more c.loop-field.line.items fields i _ c.loop-field-test.true)
    ∙ c.loop-field.invariant

pub returns : goal.returns
returns c =
    sym (fields_done c.loop-field.line.items c.args.fields.now c.loop-field.field-index (omega (arith, c.loop-field-test.false))) ∙
    c.loop-field.invariant
