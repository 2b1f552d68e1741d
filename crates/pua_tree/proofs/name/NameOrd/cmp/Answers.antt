use Rattle.pua_tree.proofs.Common.{◌∙◌, sym}
use Rattle.pua_tree.proofs.Fronts.{front_decides}
use Rattle.pua_tree.proofs.name.NameOrd.cmp.Goals as goal

pub returns-then-is_ne : goal.returns-then-is_ne
returns-then-is_ne c =
    front_decides c.args.self.now c.args.other.now c.cmp-order.result _ _ c.front.ensures.name c.front-2.ensures.name c.front.ensures.number
    c.front-2.ensures.number c.cmp-order.ensures (sym c.is_ne.ensures ∙ c.if-is_ne.true)
