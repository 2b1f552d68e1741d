use Rattle.pua_tree.proofs.Common.{◌∙◌, Ok, sym, ap, err_from_is_err_and}
use Rattle.pua_tree.proofs.SoFar.{by_lines, no_root, entries_fault, entries_tree}
use Rattle.pua_tree.proofs.listing.read_tree.Goals as goal

pub returns-in_default-clause-err : goal.returns-in_default-clause-err
returns-in_default-clause-err g c = λ _.
    by_lines c.args.bytes.now c.lines-lines.result c.lines-lines.ensures.value ∙ c.in_default.ensures

pub returns-then-not-take_line-clause-err : goal.returns-then-not-take_line-clause-err
returns-then-not-take_line-clause-err g c = λ _.
    by_lines c.args.bytes.now c.lines-lines.result c.lines-lines.ensures.value ∙ c.in-Some.ensures
    ∙ no_root c.in-Some.form c.take_header.new.lines c.if-not-take_line.ensures.other

pub returns-in_err-tree-clause-err : goal.returns-in_err-tree-clause-err
returns-in_err-tree-clause-err g c =
    let failed = err_from_is_err_and c.from_residual.result c.from_residual.ensures.1 in
    rw (failed.1, failed.2) (λ other.
    by_lines c.args.bytes.now c.lines-lines.result c.lines-lines.ensures.value ∙ c.in-Some.ensures
    ∙ entries_fault c.in-Some.form c.take_header.new.lines c.take_line.new.lines c.in_err-tree.field-0.0 c.if-not-take_line.ensures.this
    (c.in_err-tree.ensures.err other))

pub returns-clause-ok : goal.returns-clause-ok
returns-clause-ok g c =
    let entries = c.in_ok-tree.ensures.ok in
    by_lines c.args.bytes.now c.lines-lines.result c.lines-lines.ensures.value ∙ c.in-Some.ensures
    ∙ entries_tree c.in-Some.form c.take_header.new.lines c.take_line.new.lines entries.0 c.if-not-take_line.ensures.this entries.2
    ∙ ap Ok (sym entries.1.tree)
