use Rattle.pua_tree.proofs.Common.{◌≡◌, ◌∙◌, Ok, sym, ap, subst, WellFormed, without_row, without_unnamed, held_tree}
use Rattle.pua_tree.specs.Tree as tree
use Rattle.pua_tree.proofs.EditsKeep.{edits_keep_trees}
use Rattle.pua_tree.proofs.ListEdits.{row_gone}
use Rattle.pua_tree.proofs.list.ListTreeFileTree.cut.Goals as goal

pub returns-clause-exact : goal.returns-clause-exact
returns-clause-exact c =
    let numbering = c.self.inside.numbering in
    let nodes = c.self.inside.nodes.items in
    let gone : held_tree c.take_row.new.rows.items nodes numbering ≡ without_row c.args.self.now c.args.dir c.args.name.now =
    row_gone c.self.inside.rows.items c.take_row.new.rows.items nodes numbering c.args.dir c.args.name.now c.take_row.ensures.rows ∙
    ap (λ (t : tree.Tree). without_row t c.args.dir c.args.name.now) c.self.view_is in
    let left : held_tree c.take_row.new.rows.items c.take_unnamed.new.nodes.items numbering
    ≡ without_unnamed (without_row c.args.self.now c.args.dir c.args.name.now) c.in_ok-node.node =
    (rw c.deref.ensures.value at (c.take_unnamed.ensures numbering)) ∙ ap (λ (t : tree.Tree). without_unnamed t c.in_ok-node.node) gone in
    c.in_ok-node.ensures.exact c.standing.ensures ∙ ap (λ (t : tree.Tree). Ok (c.in_ok-node.node, t)) (sym left)

pub invariant_of-self : goal.invariant_of-self
invariant_of-self c =
    (edits_keep_trees.cutting c.args.self.now _ c.args.dir c.in_ok-node.node c.args.name.now
    (subst WellFormed c.self.view_is c.self.invariant) (returns-clause-exact c)).0
