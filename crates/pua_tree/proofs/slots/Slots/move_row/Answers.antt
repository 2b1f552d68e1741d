use Rattle.pua_tree.proofs.Common.{◌∙◌, ◌<◌, arith, ap, put, spot_cmp}
use Rattle.pua_tree.specs.Slots.{MayEnter, MayMove}
use Rattle.pua_tree.proofs.SlabEdits.{moved_may_enter}
use Rattle.pua_tree.proofs.slots.Slots.move_row.Goals as goal

-- what is left once the row is taken
still_room : (c : goal.After-put_row) → 0 < c.args.self.now.rows.room → 0 < c.take_row.new.self.rows.room
still_room c room = omega (arith, room, c.take_row.ensures.room)

comes : (c : goal.After-put_row) → MayMove c.args.self.now (c.args.from, c.args.name.now) (c.args.to, c.args.new_name.now) c.args.node →
    MayEnter c.take_row.new.self (c.args.to, c.args.new_name.now) c.args.node
comes c may =
    moved_may_enter c.args.self.now c.take_row.new.self (c.args.from, c.args.name.now) (c.args.to, c.args.new_name.now) c.args.node may
    (c.take_row.ensures.kept may.has) c.take_row.ensures.rows (c.take_row.ensures.nodes may.has)

pub returns-clause-kept : goal.returns-clause-kept
returns-clause-kept c room may = c.put_row.ensures.kept (still_room c room) (comes c may)

pub returns-clause-rows : goal.returns-clause-rows
returns-clause-rows c room = c.put_row.ensures.rows (still_room c room) ∙
    ap (put spot_cmp (c.args.to, c.args.new_name.now) c.args.node) c.take_row.ensures.rows

pub returns-clause-nodes : goal.returns-clause-nodes
returns-clause-nodes c may = c.put_row.ensures.nodes (comes c may) ∙ c.take_row.ensures.nodes may.has
