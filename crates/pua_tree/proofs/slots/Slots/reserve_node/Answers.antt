use Rattle.pua_tree.proofs.Common.{ℕ, length, ap, sym, lookup, Slab, Slots, SlotNode}
use Rattle.slab.specs.Slab.{get as slot_get, slab_len}
use Rattle.pua_tree.specs.contracts.node.NodeIdPartialEq.TheImpl.{ghosts as number_ghosts}
use Rattle.pua_tree.proofs.SlotsNodes.{kept_alike, filed_alike, found_alike}
use Rattle.pua_tree.proofs.slots.Slots.reserve_node.Goals as goal

pub returns-clause-kept : goal.returns-clause-kept
returns-clause-kept c kept =
    let old = c.args.self.now in
    let new : Slots = record { rows = c.reserve.new.self; numbers = c.reserve-2.new.self; nodes = c.reserve-3.new.self } in
    let slots = λ (x : ℕ). ap (lookup (number_ghosts.eq x)) c.reserve-2.ensures.entries in
    let got = λ (slot : ℕ). ap (λ (s : Slab SlotNode). slot_get s slot) c.reserve-3.ensures.rest_kept in
    let filed = filed_alike old new slots got (ap (λ (s : Slab SlotNode). slab_len s) c.reserve-3.ensures.rest_kept)
    (ap length c.reserve-2.ensures.entries) kept.filed in
    kept_alike old new (sym c.reserve.ensures.entries) (sym c.reserve.ensures.names) (found_alike old new slots got) filed kept

pub returns-clause-slots : goal.returns-clause-slots
returns-clause-slots c x = ap (lookup (number_ghosts.eq x)) c.reserve-2.ensures.entries
