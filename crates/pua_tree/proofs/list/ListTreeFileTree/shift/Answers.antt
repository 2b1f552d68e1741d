use Rattle.pua_tree.proofs.Common.{◌≡◌, ◌∙◌, ℕ, Option, Some, None, Ok, sym, ap, subst, map, WellFormed, with_row, without_row}
use Rattle.pua_tree.proofs.Common.{without_unnamed, with_row_moved, held_tree, row_entry}
use Rattle.pua_tree.specs.Tree as tree
use Rattle.pua_tree.proofs.EditsKeep.{edits_keep_trees}
use Rattle.pua_tree.proofs.ListEdits.{row_moved, sorted_without}
use Rattle.pua_tree.proofs.list.ListTreeFileTree.shift.Goals as goal

pub put_row-requires-clause-order : goal.put_row-requires-clause-order
put_row-requires-clause-order c =
    rw c.take_row.ensures.rows (sorted_without c.args.from c.args.name.now (map row_entry c.self.inside.rows.items)
    c.self.invariant.rows_in_order)

pub returns-in-Some-displaced-clause-exact : goal.returns-in-Some-displaced-clause-exact
returns-in-Some-displaced-clause-exact c =
    let numbering = c.self.inside.numbering in
    let change = λ (t : tree.Tree). with_row (without_row t c.args.from c.args.name.now) c.args.to c.args.new_name c.in-Some.moving.node in
    let after = λ (there : Option ℕ). with_row_moved c.args.self.now c.args.from c.args.name.now c.args.to c.args.new_name c.in-Some.moving.node
    there in
    let came : held_tree c.put_row.new.rows.items c.self.inside.nodes.items numbering ≡ change c.args.self.now =
    row_moved c.self.inside.rows.items c.take_row.new.rows.items c.put_row.new.rows.items c.self.inside.nodes.items numbering c.args.from
    c.args.name.now c.args.to c.args.new_name c.in-Some.moving.node c.take_row.ensures.rows c.put_row.ensures
    ∙ ap change c.self.view_is in
    let left : held_tree c.put_row.new.rows.items c.take_unnamed.new.nodes.items numbering ≡ after (Some c.in-Some-displaced.displaced) =
    (rw c.deref.ensures.value at (c.take_unnamed.ensures numbering)) ∙
    ap (λ (t : tree.Tree). without_unnamed t c.in-Some-displaced.displaced) came in
    (rw c.in-Some.is at c.in_ok-moving.ensures.exact c.standing-row.ensures c.standing-there.ensures)
    ∙ ap (λ (there : Option ℕ). Ok (after there)) c.in-Some-displaced.is
    ∙ ap (λ (t : tree.Tree). Ok t) (sym left)

pub invariant_of-self : goal.invariant_of-self
invariant_of-self c =
    (edits_keep_trees.shifting c.args.self.now _ c.args.from c.args.to c.args.name.now c.args.new_name
    (subst WellFormed c.self.view_is c.self.invariant) c.may_shift.ensures.name (returns-in-Some-displaced-clause-exact c)).0

pub returns-in_default-displaced-clause-exact : goal.returns-in_default-displaced-clause-exact
returns-in_default-displaced-clause-exact c =
    let numbering = c.self.inside.numbering in
    let change = λ (t : tree.Tree). with_row (without_row t c.args.from c.args.name.now) c.args.to c.args.new_name c.in-Some.moving.node in
    let after = λ (there : Option ℕ). with_row_moved c.args.self.now c.args.from c.args.name.now c.args.to c.args.new_name c.in-Some.moving.node
    there in
    let came : held_tree c.put_row.new.rows.items c.self.inside.nodes.items numbering ≡ after None =
    row_moved c.self.inside.rows.items c.take_row.new.rows.items c.put_row.new.rows.items c.self.inside.nodes.items numbering c.args.from
    c.args.name.now c.args.to c.args.new_name c.in-Some.moving.node c.take_row.ensures.rows c.put_row.ensures
    ∙ ap change c.self.view_is in
    (rw c.in-Some.is at c.in_ok-moving.ensures.exact c.standing-row.ensures c.standing-there.ensures)
    ∙ ap (λ (there : Option ℕ). Ok (after there)) c.in_default-displaced.is
    ∙ ap (λ (t : tree.Tree). Ok t) (sym came)

pub invariant_of-self-in_default-displaced : goal.invariant_of-self-in_default-displaced
invariant_of-self-in_default-displaced c =
    (edits_keep_trees.shifting c.args.self.now _ c.args.from c.args.to c.args.name.now c.args.new_name
    (subst WellFormed c.self.view_is c.self.invariant) c.may_shift.ensures.name (returns-in_default-displaced-clause-exact c)).0
