use Rattle.std.proofs.Common.{◌∙◌, ap}
use Rattle.std.proofs.lemmas.Result.{err_from_is_err_and}
use Rattle.pua_tight.specs.Texts.{thinned_text}
use Rattle.pua_tight.proofs.Trying.{no_text, text_made}
use Rattle.pua_tight.proofs.tighten.tight_text.Goals as goal

pub returns-in_err-wanted-clause-refused : goal.returns-in_err-wanted-clause-refused
returns-in_err-wanted-clause-refused c =
    let p = err_from_is_err_and c.from_residual.result c.from_residual.ensures.1 in
    rw (p.1, p.2) (λ some.
    no_text c.args.rules c.args.table.now c.args.tree_bytes.now c.args.script_bytes.now _ (c.in_err-wanted.ensures.refused some))

pub returns-clause-done : goal.returns-clause-done
returns-clause-done c =
    let wanted = c.in_ok-wanted.wanted in
    text_made c.args.rules c.args.table.now wanted.table.now c.args.tree_bytes.now c.args.script_bytes.now wanted.tree wanted.answers.items
    c.in_ok-wanted.requests.items c.tighten.new.requests.items c.in_ok-wanted.ensures.table c.in_ok-wanted.ensures.given
    c.in_ok-tighten.ensures c.in_ok-thinned_text.field-0.items
    (c.in_ok-thinned_text.ensures ∙ ap (λ l. thinned_text c.args.rules l c.args.script_bytes.now) c.as_slice.ensures.value)
