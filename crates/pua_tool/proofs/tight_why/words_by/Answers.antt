use Rattle.pua_tool.proofs.Common.{◌≡◌, ◌≢◌, Err, Ok, rules, choice_of, err_from_is_err_and, OutOfMemory}
use Rattle.pua_tool.specs.TightTexts.{words_by}
use Rattle.pua_tool.proofs.TightTexts.{no_memory, words_are, words_refused}
use Rattle.pua_tool.proofs.tight_why.words_by.Goals as goal

pub returns-in_err-table-clause-refused : goal.returns-in_err-table-clause-refused
returns-in_err-table-clause-refused c =
    let refuses : c.in_err-table.field-0.0 ≢ OutOfMemory →
    words_by (choice_of c.args.table) c.args.tree_bytes.now c.args.script_bytes.now ≡ Err c.in_err-table.field-0.0 = λ other.
    words_refused (choice_of c.args.table) c.args.tree_bytes.now c.args.script_bytes.now c.in_err-table.field-0.0
    (c.in_err-table.ensures.refused other) in
    search (rules, refuses)

pub returns-clause-done : goal.returns-clause-done
returns-clause-done c =
    words_are (choice_of c.args.table) c.args.tree_bytes.now c.args.script_bytes.now c.in_ok-table.table (Ok c.in_ok-word_uses.field-0.items)
    c.in_ok-table.ensures.read c.in_ok-word_uses.ensures.done

pub returns-in_err-word_uses-clause-refused : goal.returns-in_err-word_uses-clause-refused
returns-in_err-word_uses-clause-refused c =
    let fault = c.in_err-word_uses.field-0.0 in
    let p = err_from_is_err_and c.from_residual-in_err-word_uses.result c.from_residual-in_err-word_uses.ensures.1 in
    rw (p.1, p.2) (λ other. words_are (choice_of c.args.table) c.args.tree_bytes.now c.args.script_bytes.now c.in_ok-table.table (Err fault)
    c.in_ok-table.ensures.read (c.in_err-word_uses.ensures.refused (no_memory fault other)))
