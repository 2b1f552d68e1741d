use Rattle.pua_tree.proofs.Common.{sym, subst, ◌∙◌, WellFormed}
use Rattle.pua_tree.proofs.SlotsCopied.{copied_held, copied_kept}
use Rattle.pua_tree.proofs.slab_tree.SlabTreeCopiedTree.copy.Goals as goal

pub invariant_of-result : goal.invariant_of-result
invariant_of-result c = let copied = c.in_ok-slots.ensures in (
  subst WellFormed (sym (copied_held c.self.inside.slots c.in_ok-slots.slots copied c.self.inside.numbering)) c.self.invariant.0,
  copied_kept c.self.inside.slots c.in_ok-slots.slots copied c.self.invariant.1,
)

pub returns : goal.returns
returns c = copied_held c.self.inside.slots c.in_ok-slots.slots c.in_ok-slots.ensures c.self.inside.numbering ∙ c.self.view_is
