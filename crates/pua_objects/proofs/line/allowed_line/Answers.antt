use Rattle.pua_objects.proofs.line.allowed_line.Goals as goal

pub returns : goal.returns
returns c = λ process table t subject worked_out.
    c.line_with.ensures t table process subject (λ judged. c.on.ensures process table t judged worked_out)
