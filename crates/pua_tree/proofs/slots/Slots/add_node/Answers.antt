use Rattle.pua_tree.proofs.Common.{◌≡◌, ◌+◌, ◌∙◌, ℕ, Option, Some, None, is_some, cond, ◌==◌, refl, sym, ap, eq-eqb, index_map_len}
use Rattle.pua_tree.proofs.Common.{slot_of, Slots, SlotNode}
use Rattle.std.proofs.Common.{ne_eqb}
use Rattle.pua_tree.specs.Slots.{HasNodeRoom, IsNew}
use Rattle.pua_tree.proofs.Base.{ok_value}
use Rattle.pua_tree.proofs.SlotsHold.{nodes_put}
use Rattle.pua_tree.proofs.SlotsNodes.{found_added, kept_added}
use Rattle.pua_tree.proofs.slots.Slots.add_node.Goals as goal

abbrev after : goal.After-insert-2 → Slots
after c = record c.args.self.now { numbers = c.insert-2.new.self; nodes = c.insert.new.self }

abbrev node : goal.After-insert-2 → SlotNode
node c = record { kind = c.args.kind; target = c.args.target; mount = c.args.mount; standing = record { key = record { dir = 0; name = 0 }; rows = 0; names = 0 } }

-- with room, the number has the slot
numbered : (c : goal.After-insert-2) → HasNodeRoom c.args.self.now → IsNew c.args.self.now c.args.id
    → ((q : ℕ) → slot_of (after c) q ≡ cond (c.args.id == q) (Some c.in-Ok.slot) (slot_of c.args.self.now q))
    × (index_map_len c.insert-2.new.self ≡ index_map_len c.args.self.now.numbers + 1)
numbered c room new_id =
    let put_in = ok_value c.insert-2.result (c.insert-2.ensures.succeeds room.1) in
    let was : put_in.0 ≡ None = (rw put_in.1 at c.insert-2.ensures.old) ∙ new_id.no_slot in (
      (rw put_in.1 at c.insert-2.ensures.updates).0,
      (rw put_in.1 at c.insert-2.ensures.len) ∙ ap (λ (o : Option ℕ). index_map_len c.args.self.now.numbers + cond (is_some o) 0 1) was,
    )

pub returns-clause-kept : goal.returns-clause-kept
returns-clause-kept c room kept new_id =
    let had = numbered c room new_id in
    kept_added c.args.self.now (after c) c.args.id c.in-Ok.slot (node c) kept.filed new_id.no_slot had.0 c.in-Ok.ensures.was_vacant
    c.in-Ok.ensures.updates c.in-Ok.ensures.len had.1 kept refl new_id.no_rows new_id.no_names refl refl

pub returns-clause-nodes : goal.returns-clause-nodes
returns-clause-nodes c room kept new_id =
    let had = numbered c room new_id in
    nodes_put c.args.self.now (after c) c.args.id (node c) (found_added c.args.self.now (after c) c.args.id c.in-Ok.slot (node c)
    kept.filed new_id.no_slot had.0 c.in-Ok.ensures.was_vacant c.in-Ok.ensures.updates c.in-Ok.ensures.len had.1)

pub returns-clause-others : goal.returns-clause-others
returns-clause-others c room kept new_id x other =
    (numbered c room new_id).0 x ∙
    ap (λ b. cond b (Some c.in-Ok.slot) (slot_of c.args.self.now x)) (ne_eqb c.args.id x (λ e. other (sym e)))

pub returns-clause-slot : goal.returns-clause-slot
returns-clause-slot c room kept new_id =
    sym ((numbered c room new_id).0 c.args.id ∙
    ap (λ b. cond b (Some c.in-Ok.slot) (slot_of c.args.self.now c.args.id)) (eq-eqb c.args.id c.args.id refl))
