use Rattle.std.proofs.Common.{◌∙◌, ap}
use Rattle.std.proofs.lemmas.Result.{err_from_is_err_and}
use Rattle.pua_tight.specs.Left.{lines_by}
use Rattle.pua_tight.specs.Tight.{asked_in}
use Rattle.pua_tight.specs.Uses.{words_from}
use Rattle.pua_tight.proofs.Trying.{no_uses, uses_made}
use Rattle.pua_tight.proofs.word_use.word_uses.Goals as goal

pub returns-in_err-wanted-clause-refused : goal.returns-in_err-wanted-clause-refused
returns-in_err-wanted-clause-refused c =
    let p = err_from_is_err_and c.from_residual.result c.from_residual.ensures.1 in
    rw (p.1, p.2) (λ some.
    no_uses c.args.rules c.args.table.now c.args.tree_bytes.now c.args.script_bytes.now _ (c.in_err-wanted.ensures.refused some))

pub returns-clause-done : goal.returns-clause-done
returns-clause-done c =
    let wanted = c.in_ok-wanted.wanted in
    uses_made c.args.rules c.args.table.now wanted.table.now c.args.tree_bytes.now c.args.script_bytes.now wanted.tree wanted.answers.items
    c.in_ok-wanted.requests.items c.tighten.new.requests.items c.in_ok-wanted.ensures.table c.in_ok-wanted.ensures.given
    c.in_ok-tighten.ensures c.as_slice-4.result.now c.in_ok-uses_of.field-0.items
    (c.as_slice-4.ensures.value ∙ c.in_ok-words.ensures
    ∙ (λ j. words_from 0 (lines_by ((c.asked_in.ensures ∙ ap (asked_in c.args.table.now) c.as_slice.ensures.value) j) (c.as_slice-2.ensures.value j)
    (c.as_slice-3.ensures.value j)))) c.in_ok-uses_of.ensures
