use Rattle.pua_tree.proofs.Common.{◌≡◌, sym, ap, subst, ◌∙◌, ◌<◌, ◌^◌, length, true≢false, IsSome, held_rows, slot_of, SlotNode}
use Rattle.pua_tree.proofs.Common.{Option, option_map, unwrap_or, Kind, File, Slots}
use Rattle.indexmap.specs.IndexMap.{get}
use Rattle.pua_tree.specs.contracts.node.NodeIdPartialEq.TheImpl.{ghosts as number_ghosts}
use Rattle.pua_tree.specs.Tree as tree
use Rattle.pua_tree.proofs.SlotsHold.{rows_put}
use Rattle.pua_tree.proofs.SlotsKeep.{rows_by, nodes_after_put, kept_after_put}
use Rattle.pua_tree.proofs.slots.Slots.put_row_under.Goals as goal

-- the node is in the same slot
still : (c : goal.After-gain_name) → c.args.slot ≡ slot_of c.args.self.now c.args.node → c.args.slot ≡ slot_of c.gain_row.new.self c.args.node
still c slot = slot ∙ ap (λ numbers. get number_ghosts.eq numbers c.args.node) (sym c.gain_row.ensures.numbers)

abbrev spot : goal.After-gain_name → tree.Spot
spot c = (c.args.dir, c.args.name.now)

few : (c : goal.After-gain_name) → length (held_rows c.args.self.now) < 2 ^ 63
few c = rw c.row_count-count.ensures.count at c.row_count-count.ensures.small

pub returns-in-Some-clause-kept : goal.returns-in-Some-clause-kept
returns-in-Some-clause-kept c above slot room enters =
    kept_after_put c.args.self.now c.gain_row.new.self c.gain_name.new.self c.put.new.self (spot c) c.args.node c.in-Some.key enters (few c)
    (c.gain_row.ensures.restands c.args.dir above) (c.gain_name.ensures.restands c.args.node (still c slot)) _
    c.in-Some.ensures.put c.put.ensures.names c.in-Some.ensures.key (c.gain_name.ensures.rows ∙ c.gain_row.ensures.rows)
    (λ n e. sym (c.unwrap_or-kind.ensures ∙ ap (λ (o : Option Kind). unwrap_or o File)
    (c.kind_in.ensures c.args.node slot ∙ ap (option_map (λ (m : SlotNode). m.kind)) e)))

pub returns-in-Some-clause-rows : goal.returns-in-Some-clause-rows
returns-in-Some-clause-rows c room =
    let between : Slots = record c.args.self.now { rows = c.put.new.self } in
    rows_by c.gain_name.new.self between (c.gain_name.ensures.rows ∙ c.gain_row.ensures.rows)
    ∙ rows_put c.args.self.now between (spot c) _ c.in-Some.ensures.put

pub returns-in-Some-clause-nodes : goal.returns-in-Some-clause-nodes
returns-in-Some-clause-nodes c above slot enters =
    nodes_after_put c.args.self.now c.gain_row.new.self c.gain_name.new.self c.put.new.self (spot c) c.args.node c.in-Some.key enters (few c)
    (c.gain_row.ensures.restands c.args.dir above) (c.gain_name.ensures.restands c.args.node (still c slot))

pub returns-in_default-clause-kept : goal.returns-in_default-clause-kept
returns-in_default-clause-kept c above slot room enters =
    absurd (true≢false (sym (subst IsSome c.in_default.is (c.put.ensures.room room))))

pub returns-in_default-clause-rows : goal.returns-in_default-clause-rows
returns-in_default-clause-rows c room = absurd (true≢false (sym (subst IsSome c.in_default.is (c.put.ensures.room room))))
