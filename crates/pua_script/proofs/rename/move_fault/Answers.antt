use Rattle.pua_script.proofs.Renaming.{first_fault}
use Rattle.pua_script.proofs.rename.move_fault.Goals as goal

pub returns : goal.returns
returns g c = λ named. simp (c.or.ensures, first_fault, c.inside_fault.ensures named, c.kinds_fault.ensures c.args.node)
