use Rattle.pua_tool.proofs.Common.{◌≡◌, ◌≢◌, Ok, Err, ap, sym, ◌∙◌, err_from_is_err_and, ◌>>=◌, choice_of, OutOfMemory}
use Rattle.pua_tool.specs.TightTexts.{tight_why_text, use_lines}
use Rattle.pua_tool.proofs.tight_why.text_of.Goals as goal

pub returns-in_err-words-clause-refused : goal.returns-in_err-words-clause-refused
returns-in_err-words-clause-refused c =
    let fault = c.in_err-words.field-0.0 in
    let refuses : fault ≢ OutOfMemory → tight_why_text (choice_of c.args.table) c.args.tree_bytes.now c.args.script_bytes.now ≡ Err fault =
    λ other.
    λ i. c.in_err-words.ensures.refused other i >>= λ words. Ok (use_lines c.args.table.rules words) in
    let p = err_from_is_err_and c.from_residual.result c.from_residual.ensures.1 in
    rw (p.1, p.2) refuses

pub returns-clause-done : goal.returns-clause-done
returns-clause-done c =
    (λ i. c.in_ok-words.ensures.done i >>= λ words. Ok (use_lines c.args.table.rules words))
    ∙ ap Ok (sym (c.in_ok-lines_of.ensures ∙ ap (use_lines c.args.table.rules) c.as_slice.ensures.value))
