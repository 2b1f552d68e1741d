use Rattle.pua_tree.proofs.Common.{sym, subst, WellFormed}
use Rattle.pua_tree.proofs.SlabEdits.{root_is_tree}
use Rattle.pua_tree.proofs.slab_tree.SlabTreeGathered.root_alone.Goals as goal

pub invariant_of-result : goal.invariant_of-result
invariant_of-result c = (subst WellFormed (sym (c.in_ok-slots.ensures.root c.args.room)) (root_is_tree c.args.room), c.in_ok-slots.ensures.kept)

pub returns : goal.returns
returns c = c.in_ok-slots.ensures.root c.args.room
