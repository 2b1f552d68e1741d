use Rattle.pua_tool.proofs.Common.{map, line_seen}
use Rattle.pua_tool.proofs.Common.{◌≡◌, ◌≢◌, Ok, Err, ap, sym, ◌∙◌, err_from_is_err_and, ◌>>=◌, answer_lines, choice_of, OutOfMemory}
use Rattle.pua_tool.specs.Texts.{run_text}
use Rattle.pua_tool.proofs.run.text_of.Goals as goal

pub returns-in_err-replay-clause-refused : goal.returns-in_err-replay-clause-refused
returns-in_err-replay-clause-refused c =
    let fault = c.in_err-replay.field-0.0 in
    let refuses : fault ≢ OutOfMemory → run_text (choice_of c.args.table) c.args.tree_bytes.now c.args.script_bytes.now ≡ Err fault =
    λ other.
    λ i. c.in_err-replay.ensures.refused other i >>= λ done. Ok (answer_lines 1 done.answers) in
    let p = err_from_is_err_and c.from_residual.result c.from_residual.ensures.1 in
    rw (p.1, p.2) refuses

pub returns-clause-done : goal.returns-clause-done
returns-clause-done c =
    (λ i. c.in_ok-replay.ensures.done i >>= λ done. Ok (answer_lines 1 done.answers))
    ∙ ap Ok (sym (c.in_ok-text.ensures ∙ ap (λ told. answer_lines 1 (map line_seen told)) c.as_slice.ensures.value))
