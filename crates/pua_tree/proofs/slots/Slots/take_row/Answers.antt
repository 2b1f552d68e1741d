use Rattle.pua_tree.proofs.Common.{◌∙◌, Slots}
use Rattle.pua_tree.proofs.SlotsHold.{rows_taken}
use Rattle.pua_tree.proofs.SlotsKeep.{names_known, rows_by, nodes_after_take, kept_after_take}
use Rattle.pua_tree.proofs.slots.Slots.take_row.Goals as goal

pub returns-clause-kept : goal.returns-clause-kept
returns-clause-kept c has =
    kept_after_take c.args.self.now c.lose_row.new.self c.lose_name.new.self c.take.new.self (
      c.args.dir,
      c.args.name.now,
    ) c.args.node has c.take.ensures.taken c.take.ensures.names c.lose_row.ensures.restands c.lose_name.ensures.restands
    (c.lose_name.ensures.rows ∙ c.lose_row.ensures.rows)

pub returns-clause-rows : goal.returns-clause-rows
returns-clause-rows c =
    let old = c.args.self.now in
    let between : Slots = record old { rows = c.take.new.self } in
    rows_by c.lose_name.new.self between (c.lose_name.ensures.rows ∙ c.lose_row.ensures.rows)
    ∙ rows_taken old between (c.args.dir, c.args.name.now) c.take.ensures.taken

pub returns-clause-nodes : goal.returns-clause-nodes
returns-clause-nodes c has =
    nodes_after_take c.args.self.now c.lose_row.new.self c.lose_name.new.self c.take.new.self (
      c.args.dir,
      c.args.name.now,
    ) c.args.node has c.take.ensures.taken c.take.ensures.names c.lose_row.ensures.restands c.lose_name.ensures.restands
    (c.lose_name.ensures.rows ∙ c.lose_row.ensures.rows)

pub returns-clause-left : goal.returns-clause-left
returns-clause-left c has =
    names_known c.lose_name.new.self c.args.node c.lose_name.result (returns-clause-kept c has) c.lose_name.ensures.left
