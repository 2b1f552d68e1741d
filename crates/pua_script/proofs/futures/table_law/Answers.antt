use Rattle.pua_script.proofs.WorldsLeft.{rules_narrow, read_tables_narrow}
use Rattle.pua_script.proofs.futures.table_law.Goals as goal

pub returns : goal.returns
returns c = record { rules = rules_narrow; read = read_tables_narrow }
