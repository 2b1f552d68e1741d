use Rattle.pua_words.proofs.words.audit_command.Goals as goal

pub returns : goal.returns
returns c =
    let walk = c.with_walk-audit.ensures _ c.command-audit.ensures in
    let inputs = c.with_inputs-audit.ensures _ (c.with.ensures _ _ walk.2 c.at.ensures) in
    (walk.0, walk.1, inputs.0, c.with-2.ensures _ _ inputs.1 c.operands.ensures)
