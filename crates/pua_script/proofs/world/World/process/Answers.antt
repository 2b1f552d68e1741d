use Rattle.pua_script.proofs.Common.{rules}
use Rattle.pua_script.proofs.world.World.process.Goals as goal

pub returns : goal.returns
returns c = search rules
