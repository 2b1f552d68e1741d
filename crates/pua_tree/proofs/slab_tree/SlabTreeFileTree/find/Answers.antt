use Rattle.pua_tree.proofs.Common.{◌∙◌, sym, ap, option_map, Tree}
use Rattle.pua_tree.specs.Tree.{found_at}
use Rattle.pua_tree.specs.declared.spot.RowNode.{RowNode}
use Rattle.pua_tree.proofs.SlabTrees.{found_known}
use Rattle.pua_tree.proofs.slab_tree.SlabTreeFileTree.find.Goals as goal

pub returns-in-Some : goal.returns-in-Some
returns-in-Some c =
    ap (option_map (λ (row : RowNode). (row.node, row.kind))) (sym c.in-Some.is ∙ c.found.ensures)
    ∙ found_known c.self.inside.slots c.self.inside.numbering (c.args.dir, c.args.bytes.now) c.self.invariant.0 c.self.invariant.1
    ∙ ap (λ (t : Tree). found_at t c.args.dir c.args.bytes.now) c.self.view_is

pub returns-in-None : goal.returns-in-None
returns-in-None c =
    ap (option_map (λ (row : RowNode). (row.node, row.kind))) (sym c.in-None.is ∙ c.found.ensures)
    ∙ found_known c.self.inside.slots c.self.inside.numbering (c.args.dir, c.args.bytes.now) c.self.invariant.0 c.self.invariant.1
    ∙ ap (λ (t : Tree). found_at t c.args.dir c.args.bytes.now) c.self.view_is
