use Rattle.pua_script.proofs.Composition.{replay_composes}
use Rattle.pua_script.proofs.laws.replay_law.Goals as goal

pub returns : goal.returns
returns c = replay_composes
