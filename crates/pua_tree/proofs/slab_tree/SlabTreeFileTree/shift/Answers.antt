use Rattle.pua_tree.proofs.Common.{rules, arith, ◌≡◌, ◌<◌, ◌∙◌, ℕ, Option, Some, None, Ok, sym, ap, subst, WellFormed}
use Rattle.pua_tree.proofs.Common.{with_row, without_row, without_unnamed, with_row_moved, held_in_slots, held_rows}
use Rattle.pua_tree.specs.Tree as tree
use Rattle.pua_tree.specs.Slots.{HasRow, MayMove}
use Rattle.pua_tree.proofs.EditsKeep.{edits_keep_trees}
use Rattle.pua_tree.proofs.SlotsHold.{rows_sorted}
use Rattle.pua_tree.proofs.SlabEdits.{has_row, may_move, may_move_there, put_over}
use Rattle.pua_tree.proofs.SlotsDrop.{left_after_move}
use Rattle.pua_tree.proofs.slab_tree.SlabTreeFileTree.shift.Goals as goal

pub invariant_of-self : goal.invariant_of-self
invariant_of-self c = (
  subst WellFormed (sym (c.reserve_row.ensures.same c.self.inside.numbering)) c.self.invariant.0,
  c.reserve_row.ensures.kept c.self.invariant.1,
)

pub returns-in_err-reserve_row-clause-unchanged : goal.returns-in_err-reserve_row-clause-unchanged
returns-in_err-reserve_row-clause-unchanged c = grind (rules, c.reserve_row.ensures.same c.self.inside.numbering, c.self.view_is)

-- room is left for the row that moves
room : (c : goal.After-drop_unnamed) → 0 < c.take_row-names.new.self.rows.room
room c = let made = c.in_ok-reserve_row.ensures.room in omega (arith, made, c.take_row-names.ensures.room)

-- the row of the other node that goes
goes : (c : goal.After-drop_unnamed) → HasRow c.reserve_row.new.self (c.args.to, c.args.new_name) c.in-Some-displaced.displaced
goes c =
    let displaced = rw c.in-Some.is at (c.in_ok-moving.ensures.displaced c.placed-new_place.ensures) in
    has_row c.reserve_row.new.self c.self.inside.numbering c.args.self.now c.args.to c.args.new_name c.in-Some-displaced.displaced
    (c.reserve_row.ensures.kept c.self.invariant.1) (c.reserve_row.ensures.same c.self.inside.numbering ∙ c.self.view_is) (sym displaced.0 ∙
    c.in-Some-displaced.is)

-- and the one that comes to its spot
comes : (c : goal.After-drop_unnamed) →
    MayMove c.take_row-names.new.self (c.args.from, c.args.name.now) (c.args.to, c.args.new_name) c.in-Some.moving.node
comes c =
    let numbering = c.self.inside.numbering in
    let found = rw c.in-Some.is at (c.in_ok-moving.ensures.found c.placed-place.ensures) in
    let displaced = rw c.in-Some.is at (c.in_ok-moving.ensures.displaced c.placed-new_place.ensures) in
    may_move_there c.reserve_row.new.self numbering c.args.self.now (subst WellFormed c.self.view_is c.self.invariant.0)
    (c.reserve_row.ensures.kept c.self.invariant.1) (c.reserve_row.ensures.same numbering ∙ c.self.view_is) c.args.from c.args.name.now c.args.to
    c.args.new_name c.in-Some.moving.node found c.in-Some-displaced.displaced (sym displaced.0 ∙ c.in-Some-displaced.is)
    (λ e. displaced.1 (c.in-Some-displaced.is ∙ ap Some e)) c.take_row-names.new.self (c.take_row-names.ensures.kept (goes c))
    c.take_row-names.ensures.rows (c.take_row-names.ensures.nodes (goes c))

pub returns-in-Some-displaced-clause-exact : goal.returns-in-Some-displaced-clause-exact
returns-in-Some-displaced-clause-exact c =
    let s = c.reserve_row.new.self in
    let numbering = c.self.inside.numbering in
    let same : held_in_slots s numbering ≡ c.args.self.now = c.reserve_row.ensures.same numbering ∙ c.self.view_is in
    let change = λ (t : tree.Tree). with_row (without_row t c.args.from c.args.name.now) c.args.to c.args.new_name c.in-Some.moving.node in
    let after =
    λ (o : Option ℕ). with_row_moved c.args.self.now c.args.from c.args.name.now c.args.to c.args.new_name c.in-Some.moving.node o in
    let first : held_in_slots c.take_row-names.new.self numbering ≡ without_row (held_in_slots s numbering) c.args.to c.args.new_name =
    λ i. record { rows = c.take_row-names.ensures.rows i; nodes = c.take_row-names.ensures.nodes (goes c) i; next = numbering.next; room = numbering.room } in
    let second : held_in_slots c.move_row.new.self numbering ≡ change (held_in_slots c.take_row-names.new.self numbering) =
    λ i. record { rows = c.move_row.ensures.rows (room c) i; nodes = c.move_row.ensures.nodes (comes c) i; next = numbering.next; room = numbering.room } in
    let over : change (without_row (held_in_slots s numbering) c.args.to c.args.new_name) ≡ change (held_in_slots s numbering) =
    λ i. record (held_in_slots s numbering)
    { rows = put_over (c.args.to, c.args.new_name) (c.args.from, c.args.name.now) c.in-Some.moving.node (held_rows s) (rows_sorted s) i } in
    let came : held_in_slots c.move_row.new.self numbering ≡ change c.args.self.now = second ∙ ap change first ∙ over ∙ ap change same in
    let left : held_in_slots c.drop_unnamed.new.self numbering ≡ after (Some c.in-Some-displaced.displaced) =
    c.drop_unnamed.ensures.unnamed (c.move_row.ensures.kept (room c) (comes c))
    (left_after_move c.take_row-names.new.self c.move_row.new.self (c.args.from, c.args.name.now) (c.args.to, c.args.new_name) c.in-Some.moving.node (c.move_row.ensures.rows (room c)) (c.move_row.ensures.nodes (comes c))
    (comes c).has.there (comes c).free c.in-Some-displaced.displaced c.take_row-names.result (c.take_row-names.ensures.left (goes c))) numbering
    ∙ ap (λ (t : tree.Tree). without_unnamed t c.in-Some-displaced.displaced) came in
    (rw c.in-Some.is at (c.in_ok-moving.ensures.exact c.placed-place.ensures c.placed-new_place.ensures)) ∙ ap (λ (o : Option ℕ). Ok (after o)) c.in-Some-displaced.is ∙
    ap (λ (t : tree.Tree). Ok t) (sym left)

pub invariant_of-self-in-Some-displaced : goal.invariant_of-self-in-Some-displaced
invariant_of-self-in-Some-displaced c = (
  (edits_keep_trees.shifting c.args.self.now _ c.args.from c.args.to c.args.name.now c.args.new_name
      (subst WellFormed c.self.view_is c.self.invariant.0) c.may_shift.ensures.name (returns-in-Some-displaced-clause-exact c)).0,
  c.drop_unnamed.ensures.kept (c.move_row.ensures.kept (room c) (comes c)),
)

-- a row that comes to a spot that has none
comes_alone : (c : goal.After-move_row-in-None) →
    MayMove c.reserve_row.new.self (c.args.from, c.args.name.now) (c.args.to, c.args.new_name) c.in-Some.moving.node
comes_alone c =
    let numbering = c.self.inside.numbering in
    let found = rw c.in-Some.is at (c.in_ok-moving.ensures.found c.placed-place.ensures) in
    let displaced = rw c.in-Some.is at (c.in_ok-moving.ensures.displaced c.placed-new_place.ensures) in
    may_move c.reserve_row.new.self numbering c.args.self.now (subst WellFormed c.self.view_is c.self.invariant.0)
    (c.reserve_row.ensures.kept c.self.invariant.1) (c.reserve_row.ensures.same numbering ∙ c.self.view_is) c.args.from c.args.name.now c.args.to
    c.args.new_name c.in-Some.moving.node found (sym displaced.0 ∙ c.in-None.is)

pub returns-in-None-clause-exact : goal.returns-in-None-clause-exact
returns-in-None-clause-exact c =
    let s = c.reserve_row.new.self in
    let numbering = c.self.inside.numbering in
    let same : held_in_slots s numbering ≡ c.args.self.now = c.reserve_row.ensures.same numbering ∙ c.self.view_is in
    let change = λ (t : tree.Tree). with_row (without_row t c.args.from c.args.name.now) c.args.to c.args.new_name c.in-Some.moving.node in
    let after =
    λ (o : Option ℕ). with_row_moved c.args.self.now c.args.from c.args.name.now c.args.to c.args.new_name c.in-Some.moving.node o in
    let second : held_in_slots c.move_row-in-None.new.self numbering ≡ change (held_in_slots s numbering) =
    λ i. record {
      rows = c.move_row-in-None.ensures.rows c.in_ok-reserve_row.ensures.room i;
      nodes = c.move_row-in-None.ensures.nodes (comes_alone c) i;
      next = numbering.next;
      room = numbering.room;
    } in
    let came : held_in_slots c.move_row-in-None.new.self numbering ≡ after None = second ∙ ap change same in
    (rw c.in-Some.is at (c.in_ok-moving.ensures.exact c.placed-place.ensures c.placed-new_place.ensures)) ∙ ap (λ (o : Option ℕ). Ok (after o)) c.in-None.is ∙
    ap (λ (t : tree.Tree). Ok t) (sym came)

pub invariant_of-self-in-None : goal.invariant_of-self-in-None
invariant_of-self-in-None c = (
  (edits_keep_trees.shifting c.args.self.now _ c.args.from c.args.to c.args.name.now c.args.new_name
      (subst WellFormed c.self.view_is c.self.invariant.0) c.may_shift.ensures.name (returns-in-None-clause-exact c)).0,
  c.move_row-in-None.ensures.kept c.in_ok-reserve_row.ensures.room (comes_alone c),
)
