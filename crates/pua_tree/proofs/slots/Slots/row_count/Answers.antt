use Rattle.pua_tree.proofs.Common.{◌∙◌, sym}
use Rattle.pua_tree.proofs.SlotsCount.{row_count_is}
use Rattle.pua_tree.proofs.slots.Slots.row_count.Goals as goal

pub returns-clause-count : goal.returns-clause-count
returns-clause-count c = c.len.ensures.len ∙ sym (row_count_is c.args.self.now c.len.ensures.unique)
