use Rattle.pua_script.proofs.Common.{subst}
use Rattle.pua_script.specs.Worlds.{AreNumbersOf}
use Rattle.pua_script.proofs.world.World.numbers.Goals as goal

pub returns : goal.returns
returns g c = subst (λ s. AreNumbersOf s c.in_ok-sorted_keys.field-0.items) c.self.view_is
    (c.in_ok-sorted_keys.ensures (g.T.FileTree.content c.self.inside.tree) c.self.inside.table)
