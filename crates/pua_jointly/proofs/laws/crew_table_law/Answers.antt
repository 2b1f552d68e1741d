use Rattle.pua_jointly.proofs.JointTabled.{table_law}
use Rattle.pua_jointly.proofs.laws.crew_table_law.Goals as goal

pub returns : goal.returns
returns c = table_law
