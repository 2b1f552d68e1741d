use Rattle.pua_tool.proofs.Common.{◌≡◌, ◌≢◌, Err, Ok, rules, choice_of, err_from_is_err_and, OutOfMemory}
use Rattle.pua_tool.specs.TightTexts.{tight_text}
use Rattle.pua_tool.proofs.TightTexts.{no_memory, text_is, text_refused}
use Rattle.pua_tool.proofs.tight.text_of.Goals as goal

pub returns-in_err-table-clause-refused : goal.returns-in_err-table-clause-refused
returns-in_err-table-clause-refused c =
    let refuses : c.in_err-table.field-0.0 ≢ OutOfMemory →
    tight_text (choice_of c.args.table) c.args.tree_bytes.now c.args.script_bytes.now ≡ Err c.in_err-table.field-0.0 = λ other.
    text_refused (choice_of c.args.table) c.args.tree_bytes.now c.args.script_bytes.now c.in_err-table.field-0.0
    (c.in_err-table.ensures.refused other) in
    search (rules, refuses)

pub returns-clause-done : goal.returns-clause-done
returns-clause-done c =
    text_is (choice_of c.args.table) c.args.tree_bytes.now c.args.script_bytes.now c.in_ok-table.table (Ok c.in_ok-tight_text.field-0.items)
    c.in_ok-table.ensures.read c.in_ok-tight_text.ensures.done

pub returns-in_err-tight_text-clause-refused : goal.returns-in_err-tight_text-clause-refused
returns-in_err-tight_text-clause-refused c =
    let fault = c.in_err-tight_text.field-0.0 in
    let p = err_from_is_err_and c.from_residual-in_err-tight_text.result c.from_residual-in_err-tight_text.ensures.1 in
    rw (p.1, p.2) (λ other. text_is (choice_of c.args.table) c.args.tree_bytes.now c.args.script_bytes.now c.in_ok-table.table (Err fault)
    c.in_ok-table.ensures.read (c.in_err-tight_text.ensures.refused (no_memory fault other)))
