use Rattle.pua_tree.proofs.Common.{◌≡◌, ◌+◌, ◌∙◌, ℕ, Option, Some, is_some, cond, refl, sym, ap, length, lookup}
use Rattle.pua_tree.proofs.Common.{index_map_len, slot_of, Slots}
use Rattle.pua_tree.specs.contracts.node.NodeIdPartialEq.TheImpl.{ghosts as number_ghosts}
use Rattle.pua_tree.proofs.SlotsHold.{nodes_taken}
use Rattle.pua_tree.proofs.SlotsNodes.{found_dropped, filed_dropped, kept_dropped, when_some}
use Rattle.pua_tree.proofs.SlotsNodes.{found_absent, found_alike, filed_alike, kept_alike}
use Rattle.pua_tree.proofs.slots.Slots.drop_node.Goals as goal

pub returns-in-Some-clause-kept : goal.returns-in-Some-clause-kept
returns-in-Some-clause-kept c kept =
    let old = c.args.self.now in
    let new : Slots = record old { numbers = c.swap_remove.new.self; nodes = c.try_remove.new.self } in
    let had : slot_of old c.args.id ≡ Some c.in-Some.slot = sym c.swap_remove.ensures.value ∙ c.in-Some.is in
    let shorter : index_map_len c.swap_remove.new.self + 1 ≡ index_map_len old.numbers =
    ap (λ (o : Option ℕ). index_map_len c.swap_remove.new.self + cond (is_some o) 1 0) (sym c.in-Some.is) ∙
    c.swap_remove.ensures.len in
    let fewer = when_some c.try_remove.result (ap is_some c.try_remove.ensures.value ∙ kept.filed.filled c.args.id c.in-Some.slot had)
    c.try_remove.ensures.len in
    let found = found_dropped old new c.args.id c.in-Some.slot kept.filed had c.swap_remove.ensures.updates.0
    c.try_remove.ensures.updates fewer shorter in
    let filed = filed_dropped old new c.args.id c.in-Some.slot kept.filed had c.swap_remove.ensures.updates.0
    c.try_remove.ensures.updates fewer shorter in
    kept_dropped old new c.args.id kept refl found filed

pub returns-in-Some-clause-nodes : goal.returns-in-Some-clause-nodes
returns-in-Some-clause-nodes c kept =
    let old = c.args.self.now in
    let new : Slots = record old { numbers = c.swap_remove.new.self; nodes = c.try_remove.new.self } in
    let had : slot_of old c.args.id ≡ Some c.in-Some.slot = sym c.swap_remove.ensures.value ∙ c.in-Some.is in
    let shorter : index_map_len c.swap_remove.new.self + 1 ≡ index_map_len old.numbers =
    ap (λ (o : Option ℕ). index_map_len c.swap_remove.new.self + cond (is_some o) 1 0) (sym c.in-Some.is) ∙
    c.swap_remove.ensures.len in
    let fewer = when_some c.try_remove.result (ap is_some c.try_remove.ensures.value ∙ kept.filed.filled c.args.id c.in-Some.slot had)
    c.try_remove.ensures.len in
    nodes_taken old new c.args.id (found_dropped old new c.args.id c.in-Some.slot kept.filed had
    c.swap_remove.ensures.updates.0 c.try_remove.ensures.updates fewer shorter)

pub returns-in_default-clause-kept : goal.returns-in_default-clause-kept
returns-in_default-clause-kept c kept =
    let old = c.args.self.now in
    let new : Slots = record old { numbers = c.swap_remove.new.self } in
    let same = rw c.in_default.is at c.swap_remove.ensures.unchanged in
    let slots = λ (q : ℕ). ap (lookup (number_ghosts.eq q)) same in
    kept_alike old new refl refl (found_alike old new slots (λ _. refl)) (filed_alike old new slots (λ _. refl) refl (ap length same)
    kept.filed) kept

pub returns-in_default-clause-nodes : goal.returns-in_default-clause-nodes
returns-in_default-clause-nodes c kept =
    let old = c.args.self.now in
    let new : Slots = record old { numbers = c.swap_remove.new.self } in
    let slots = λ (q : ℕ). ap (lookup (number_ghosts.eq q)) (rw c.in_default.is at c.swap_remove.ensures.unchanged) in
    nodes_taken old new c.args.id (found_absent old new c.args.id (found_alike old new slots (λ _. refl)) (sym c.swap_remove.ensures.value ∙
    c.in_default.is))
