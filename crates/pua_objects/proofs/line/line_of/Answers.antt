use Rattle.pua_objects.proofs.line.line_of.Goals as goal

pub returns : goal.returns
returns c = λ t subject. c.line_with.ensures t c.args.table.now c.args.process.now subject (c.allowed.ensures t)
