use Rattle.pua_tree.proofs.Common.{◌∙◌, ap, Tree}
use Rattle.pua_tree.specs.Tree.{target_at}
use Rattle.pua_tree.proofs.SlabTrees.{target_known}
use Rattle.pua_tree.proofs.slab_tree.SlabTreeFileTree.target.Goals as goal

pub returns : goal.returns
returns c = c.target.ensures ∙ target_known c.self.inside.slots c.self.inside.numbering c.args.id ∙
    ap (λ (t : Tree). target_at t c.args.id) c.self.view_is
