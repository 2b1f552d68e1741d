use Rattle.pua_script.proofs.Common.{ap}
use Rattle.pua_script.proofs.world.World.new.Goals as goal

pub returns : goal.returns
returns g c = ap (λ processes. record { tree = g.T.FileTree.content c.args.tree; table = c.args.table; processes = processes }) c.in_ok-processes.ensures
