use Rattle.pua_tree.proofs.Common.{◌∙◌, ap, Tree, kind_at}
use Rattle.pua_tree.proofs.SlabTrees.{kind_known}
use Rattle.pua_tree.proofs.slab_tree.SlabTreeJudged.kind_of.Goals as goal

pub returns : goal.returns
returns c = c.kind.ensures ∙ kind_known c.self.inside.slots c.self.inside.numbering c.args.id ∙
    ap (λ (t : Tree). kind_at t c.args.id) c.self.view_is
