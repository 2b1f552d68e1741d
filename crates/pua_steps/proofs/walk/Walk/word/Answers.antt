use Rattle.pua_steps.proofs.Common.{rules}
use Rattle.pua_steps.proofs.walk.Walk.word.Goals as goal

pub returns : goal.returns
returns c = search rules
