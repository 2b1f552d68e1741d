use Rattle.pua_tree.proofs.Common.{◌∙◌, sym, ap, cond, eq-eqb, ne_eqb, held_in_slots}
use Rattle.pua_tree.specs.Edits.{without_node}
use Rattle.pua_tree.proofs.SlotsDrop.{unnamed_goes}
use Rattle.pua_tree.proofs.SlotsKeep.{rows_by}
use Rattle.pua_tree.proofs.slots.Slots.drop_unnamed.Goals as goal

pub returns-then-names-eq0-clause-unnamed : goal.returns-then-names-eq0-clause-unnamed
returns-then-names-eq0-clause-unnamed c kept left next =
    let old = c.args.self.now in
    let rows = rows_by c.drop_node.new.self old c.drop_node.ensures.rows in
    let held = held_in_slots old next in
    (λ i. record { rows = rows i; nodes = c.drop_node.ensures.nodes kept i; next = next.next; room = next.room })
    ∙ sym (ap (λ b. cond b (without_node held c.args.id) held) (eq-eqb c.args.names 0 c.if-names-eq0.true))
    ∙ unnamed_goes old next c.args.id c.args.names left

pub returns-else-names-eq0-clause-unnamed : goal.returns-else-names-eq0-clause-unnamed
returns-else-names-eq0-clause-unnamed c kept left next =
    let held = held_in_slots c.args.self.now next in
    sym (ap (λ b. cond b (without_node held c.args.id) held) (ne_eqb c.args.names 0 c.if-names-eq0.false))
    ∙ unnamed_goes c.args.self.now next c.args.id c.args.names left
