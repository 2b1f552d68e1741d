use Rattle.pua_tree.proofs.Common.{◌≡◌, ◌∙◌, sym, ap, subst, map, put, WellFormed, spot_cmp, with_row, held_tree, row_entry}
use Rattle.pua_tree.specs.Tree as tree
use Rattle.pua_tree.proofs.EditsKeep.{edits_keep_trees}
use Rattle.pua_tree.proofs.ListEdits.{row_came}
use Rattle.pua_tree.proofs.list.ListTreeFileTree.tie.Goals as goal

pub invariant_of-self-2 : goal.invariant_of-self-2
invariant_of-self-2 c =
    let inside = c.self.inside in
    let after = λ (t : tree.Tree). with_row t c.args.dir c.args.name c.args.node in
    let row : map row_entry c.put_row.new.rows.items ≡ put spot_cmp (c.args.dir, c.args.name) c.args.node (map row_entry inside.rows.items)
    = rw c.reserve.ensures.items at c.put_row.ensures in
    let came : held_tree c.put_row.new.rows.items inside.nodes.items inside.numbering ≡ after c.args.self.now =
    row_came inside.rows.items c.put_row.new.rows.items inside.nodes.items inside.numbering c.args.dir c.args.name c.args.node row ∙
    ap after c.self.view_is in
    let was : WellFormed c.args.self.now = subst WellFormed c.self.view_is c.self.invariant in
    subst WellFormed (sym came) (edits_keep_trees.tying c.args.self.now (after c.args.self.now) c.args.dir c.args.node c.args.name was
    c.may_tie.ensures.name c.in_ok-may_tie.ensures.exact).0
