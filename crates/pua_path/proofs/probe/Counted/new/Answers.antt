use Rattle.pua_path.proofs.Common.{rules}
use Rattle.pua_path.proofs.probe.Counted.new.Goals as goal

pub returns-clause-count : goal.returns-clause-count
returns-clause-count g c = search rules
