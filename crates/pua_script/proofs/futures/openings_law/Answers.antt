use Rattle.pua_script.proofs.Opened.{okays_are_accounted, openings_are_held, openings_narrow}
use Rattle.pua_script.proofs.Widened.{tmp_table_allows}
use Rattle.pua_script.proofs.futures.openings_law.Goals as goal

pub returns-clause-held : goal.returns-clause-held
returns-clause-held c = openings_are_held

pub returns-clause-narrow : goal.returns-clause-narrow
returns-clause-narrow c = openings_narrow

pub returns-clause-okays : goal.returns-clause-okays
returns-clause-okays c = okays_are_accounted

pub returns-clause-tmp : goal.returns-clause-tmp
returns-clause-tmp c = tmp_table_allows
