use Rattle.pua_tree.proofs.Common.{◌∙◌, sym, ap, option_map, List, ℕ, Tree}
use Rattle.pua_tree.specs.Slots.{row_in}
use Rattle.pua_tree.specs.Tree.{found_at}
use Rattle.pua_tree.specs.declared.spot.RowNode.{RowNode}
use Rattle.pua_tree.proofs.SlabTrees.{found_known}
use Rattle.pua_tree.proofs.slab_tree.SlabTree.placed.Goals as goal

pub returns-in-Some : goal.returns-in-Some
returns-in-Some c =
    ap (option_map (λ (row : RowNode). (row.node, row.kind))) (sym c.in-Some.is ∙ c.found_at_place.ensures c.bytes.result.now c.place-place.ensures
    ∙ ap (λ (bytes : List ℕ). row_in c.self.inside.slots (c.args.dir, bytes)) c.bytes.ensures.bytes)
    ∙ found_known c.self.inside.slots c.self.inside.numbering (c.args.dir, c.args.name.now) c.self.invariant.0 c.self.invariant.1
    ∙ ap (λ (t : Tree). found_at t c.args.dir c.args.name.now) c.self.view_is

pub returns-in-None : goal.returns-in-None
returns-in-None c =
    ap (option_map (λ (row : RowNode). (row.node, row.kind))) (sym c.in-None.is ∙ c.found_at_place.ensures c.bytes.result.now c.place-place.ensures
    ∙ ap (λ (bytes : List ℕ). row_in c.self.inside.slots (c.args.dir, bytes)) c.bytes.ensures.bytes)
    ∙ found_known c.self.inside.slots c.self.inside.numbering (c.args.dir, c.args.name.now) c.self.invariant.0 c.self.invariant.1
    ∙ ap (λ (t : Tree). found_at t c.args.dir c.args.name.now) c.self.view_is
