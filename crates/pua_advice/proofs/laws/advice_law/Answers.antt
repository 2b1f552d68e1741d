use Rattle.pua_advice.proofs.Scripts.{refused_are_advised, scripts_are_advised}
use Rattle.pua_advice.proofs.laws.advice_law.Goals as goal

pub returns-clause-lines : goal.returns-clause-lines
returns-clause-lines c = refused_are_advised

pub returns-clause-scripts : goal.returns-clause-scripts
returns-clause-scripts c = scripts_are_advised
