use Rattle.pua_script.proofs.Renaming.{slash_by}
use Rattle.pua_script.proofs.rename.ends_in_slash.Goals as goal

pub returns-in-Some : goal.returns-in-Some
returns-in-Some c = slash_by _ _ _ c.in-Some.ensures.cases.0
