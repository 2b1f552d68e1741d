use Rattle.pua_tree.proofs.Common.{◌≡◌, ◌∙◌, Ok, sym, ap, subst, WellFormed, without_row, without_unnamed}
use Rattle.pua_tree.proofs.Common.{held_in_slots}
use Rattle.pua_tree.specs.Tree as tree
use Rattle.pua_tree.proofs.EditsKeep.{edits_keep_trees}
use Rattle.pua_tree.proofs.SlabEdits.{has_row}
use Rattle.pua_tree.proofs.slab_tree.SlabTreeFileTree.cut.Goals as goal

pub returns-clause-exact : goal.returns-clause-exact
returns-clause-exact c =
    let numbering = c.self.inside.numbering in
    let has = has_row c.self.inside.slots numbering c.args.self.now c.args.dir c.args.name.now c.in_ok-node.node c.self.invariant.1
    c.self.view_is (c.in_ok-node.ensures.found c.placed-place.ensures) in
    let taken : held_in_slots c.take_row-names.new.self numbering ≡ without_row c.args.self.now c.args.dir c.args.name.now =
    (λ i. record { rows = c.take_row-names.ensures.rows i; nodes = c.take_row-names.ensures.nodes has i; next = numbering.next; room = numbering.room }) ∙
    ap (λ (t : tree.Tree). without_row t c.args.dir c.args.name.now) c.self.view_is in
    c.in_ok-node.ensures.exact c.placed-place.ensures ∙
    ap (λ (t : tree.Tree). Ok (c.in_ok-node.node, t)) (sym (c.drop_unnamed.ensures.unnamed (c.take_row-names.ensures.kept has)
    (c.take_row-names.ensures.left has) numbering ∙ ap (λ (t : tree.Tree). without_unnamed t c.in_ok-node.node) taken))

pub invariant_of-self : goal.invariant_of-self
invariant_of-self c = (
  (edits_keep_trees.cutting c.args.self.now _ c.args.dir c.in_ok-node.node c.args.name.now
      (subst WellFormed c.self.view_is c.self.invariant.0) (returns-clause-exact c)).0,
  c.drop_unnamed.ensures.kept (c.take_row-names.ensures.kept (has_row c.self.inside.slots c.self.inside.numbering c.args.self.now c.args.dir
      c.args.name.now c.in_ok-node.node c.self.invariant.1 c.self.view_is (c.in_ok-node.ensures.found c.placed-place.ensures))),
)
