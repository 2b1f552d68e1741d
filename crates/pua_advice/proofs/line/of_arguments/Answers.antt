use Rattle.std.proofs.Common.{◌∙◌, sym, arith}
use Rattle.pua_advice.proofs.LineParts.{many_arguments}
use Rattle.pua_advice.proofs.line.of_arguments.Goals as goal

pub returns-in_default : goal.returns-in_default
returns-in_default c = c.misused.ensures ∙ sym (many_arguments c.args.word.now c.args.what c.args.arguments.now (omega arith))
