use Rattle.pua_script.proofs.Grammar.{scripts_are_read}
use Rattle.pua_script.proofs.laws.script_law.Goals as goal

pub returns : goal.returns
returns c = scripts_are_read
