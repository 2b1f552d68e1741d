use Rattle.pua_tree.proofs.Common.{◌∙◌, sym}
use Rattle.pua_tree.proofs.SlotsCount.{node_count_is}
use Rattle.pua_tree.proofs.slots.Slots.node_count.Goals as goal

pub returns : goal.returns
returns c filed = c.len.ensures.len ∙ sym (node_count_is c.args.self.now c.len.ensures.unique filed)
