use Rattle.pua_io.proofs.Common.{rules}
use Rattle.pua_io.proofs.inputs.MemoryInputs.new.Goals as goal

pub returns : goal.returns
returns c = search rules
