use Rattle.pua_tool.proofs.Common.{◌≡◌, ◌≢◌, ◌∙◌, Ok, Err, ap, sym, rules, CallTable, if_err, if_ok, choice_of, replay_of, table_by, OutOfMemory}
use Rattle.pua_tool.proofs.Replays.{replayed_is, table_refuses, listing_refuses, script_refuses}
use Rattle.pua_tool.proofs.script.replay_script.Goals as goal

pub returns-in_err-table-clause-refused : goal.returns-in_err-table-clause-refused
returns-in_err-table-clause-refused c =
    let fault = c.in_err-table.field-0.0 in
    let refuses : fault ≢ OutOfMemory → replay_of (choice_of c.args.table) c.args.tree_bytes.now c.args.script_bytes.now ≡ Err fault =
    λ other.
    table_refuses (choice_of c.args.table) c.args.tree_bytes.now c.args.script_bytes.now fault (c.in_err-table.ensures.refused other) in
    search (rules, refuses)

pub returns-in_err-tree-clause-refused : goal.returns-in_err-tree-clause-refused
returns-in_err-tree-clause-refused c =
    let fault = c.in_err-tree.field-0.0 in
    let table : (table : CallTable) × (table_by (choice_of c.args.table) ≡ Ok table) = search rules in
    let refuses : fault ≢ OutOfMemory → replay_of (choice_of c.args.table) c.args.tree_bytes.now c.args.script_bytes.now ≡ Err fault =
    λ other.
    listing_refuses (choice_of c.args.table) c.args.tree_bytes.now c.args.script_bytes.now table.0 fault table.1
    (c.in_err-tree.ensures.refused other) in
    search (rules, refuses)

pub returns-clause-refused : goal.returns-clause-refused
returns-clause-refused c = if_err c.replay_over.result (λ fault refused other.
    script_refuses (choice_of c.args.table) c.args.tree_bytes.now c.args.script_bytes.now c.in_ok-table.table c.in_ok-tree.tree fault
    c.in_ok-table.ensures.read c.in_ok-tree.ensures.read (refused other)) c.replay_over.ensures.refused

pub returns-clause-done : goal.returns-clause-done
returns-clause-done c = if_ok c.replay_over.result (λ replay done.
    replayed_is (choice_of c.args.table) c.args.tree_bytes.now c.args.script_bytes.now c.in_ok-table.table c.in_ok-tree.tree done.0
    c.in_ok-table.ensures.read c.in_ok-tree.ensures.read done.1
    ∙ ap Ok (sym done.2)) c.replay_over.ensures.done
