use Rattle.pua_tree.proofs.Common.{◌∙◌, ap, Tree}
use Rattle.pua_tree.specs.Tree.{is_mount}
use Rattle.pua_tree.proofs.SlabTrees.{mount_known}
use Rattle.pua_tree.proofs.slab_tree.SlabTreeJudged.has_mount.Goals as goal

pub returns : goal.returns
returns c = c.has_mount.ensures ∙ mount_known c.self.inside.slots c.self.inside.numbering c.args.id ∙
    ap (λ (t : Tree). is_mount t c.args.id) c.self.view_is
