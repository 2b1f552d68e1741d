use Rattle.pua_tool.proofs.Common.{◌≡◌, ◌≢◌, Ok, Err, ap, sym, ◌∙◌, rules, Tree, script_by, new_world, choice_of}
use Rattle.pua_tool.proofs.Common.{OutOfMemory}
use Rattle.pua_script.specs.Worlds.{WorldState, with_table}
use Rattle.pua_tool.specs.TwoWorlds.{asked_over}
use Rattle.pua_tool.specs.WhyTexts.{served_script}
use Rattle.pua_tool.proofs.WhyTexts.{posed_is, table_refuses, listing_refuses, script_refuses, script_is}
use Rattle.pua_tool.proofs.two_worlds.two_worlds.Goals as goal

pub returns-in_err-table-clause-refused : goal.returns-in_err-table-clause-refused
returns-in_err-table-clause-refused c =
    let fault = c.in_err-table.field-0.0 in
    let refuses : fault ≢ OutOfMemory → served_script (choice_of c.args.choice) c.args.tree_bytes.now c.args.script_bytes.now ≡ Err fault =
    λ other.
    table_refuses (choice_of c.args.choice) c.args.tree_bytes.now c.args.script_bytes.now fault (c.in_err-table.ensures.refused other) in
    search (rules, refuses)

pub returns-in_err-before-clause-refused : goal.returns-in_err-before-clause-refused
returns-in_err-before-clause-refused c =
    let fault = c.in_err-before.field-0.0 in
    let refuses : fault ≢ OutOfMemory → served_script (choice_of c.args.choice) c.args.tree_bytes.now c.args.script_bytes.now ≡ Err fault =
    λ other.
    listing_refuses (choice_of c.args.choice) c.args.tree_bytes.now c.args.script_bytes.now c.in_ok-table.table fault
    c.in_ok-table.ensures.read (c.in_err-before.ensures.refused other) in
    search (rules, refuses)

pub returns-in-Err-clause-refused : goal.returns-in-Err-clause-refused
returns-in-Err-clause-refused c = λ other.
    let before = c.in_ok-before.ensures.new in
    script_refuses (choice_of c.args.choice) c.args.tree_bytes.now c.args.script_bytes.now c.in_ok-table.table c.in_ok-before.before.tree
    c.in-Err.fault c.in_ok-table.ensures.read before.read (c.in-Err.ensures.refused other)

pub returns-in_ok-serve-in-Ok-clause-done : goal.returns-in_ok-serve-in-Ok-clause-done
returns-in_ok-serve-in-Ok-clause-done c =
    let rules = c.in_ok-table.table in
    let asks = c.in-Ok.requests in
    let before = c.in_ok-before.ensures.new in
    let tree = c.in_ok-before.before.tree in
    let alike : c.in-Ok.after ≡ c.in_ok-before.before =
    c.in-Ok.ensures.world ∙ ap (λ (t : Tree). with_table rules (new_world t)) c.tree.ensures ∙ sym before.new in
    let read = script_is (script_by c.args.choice.rules c.args.script_bytes.now) asks c.in-Ok.ensures.script in
    let asked = posed_is (choice_of c.args.choice) c.args.tree_bytes.now c.args.script_bytes.now rules tree asks c.in_ok-table.ensures.read
    before.read c.in-Ok.ensures.script
    ∙ ap (λ (s : WorldState). Ok (asked_over s asks)) (sym before.new) in
    let served = c.in_ok-serve-in-Ok.ensures in (
      asked ∙ ap Ok (sym served.0),
      read ∙ ap (λ p. Ok p.asks) (sym served.0),
      served.1 alike,
    )
