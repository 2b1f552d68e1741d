use Rattle.pua_tree.proofs.Common.{◌∙◌, ◌+◌, ◌∷◌, get_or, sym, ap, arith, take, ne_eqb, fields}
use Rattle.std.proofs.lemmas.List.{take_rest}
use Rattle.pua_tree.proofs.VisibleFields.{some_byte, whole_line, field_taken, no_byte, bad_byte}
use Rattle.pua_tree.proofs.field.take_field.Goals.{then-end-eq0-via-then-end-eq0, then-end-eq0-via-else-end-eq0+then-line-end-ne32}
use Rattle.pua_tree.proofs.field.take_field.Goals as goal

pub returns-in_default-clause-field : goal.returns-in_default-clause-field
returns-in_default-clause-field c =
    (whole_line c.args.line.now (sym c.in_default.ensures) (some_byte c.args.line.now (sym c.is_empty.ensures ∙ c.if-is_empty.false))).0

pub returns-in_default-clause-fields : goal.returns-in_default-clause-fields
returns-in_default-clause-fields c =
    (whole_line c.args.line.now (sym c.in_default.ensures) (some_byte c.args.line.now (sym c.is_empty.ensures ∙ c.if-is_empty.false))).1

pub returns-then-end-eq0-clause-none : goal.returns-then-end-eq0-clause-none
returns-then-end-eq0-clause-none c =
    let line = c.args.line.now in
    elim c.then-end-eq0.branch [
      | then-end-eq0-via-then-end-eq0 w ↦ no_byte line c.in-Some.end (sym c.in-Some.ensures) w.if-end-eq0.true
      | then-end-eq0-via-else-end-eq0+then-line-end-ne32 w ↦
          bad_byte line c.in-Some.end (sym c.in-Some.ensures) (ne_eqb (get_or line c.in-Some.end 0) 32 w.if-line-end-ne32.true)
    ]

pub returns-clause-field : goal.returns-clause-field
returns-clause-field c = (field_taken c.args.line.now c.in-Some.end (sym c.in-Some.ensures) (omega arith) c.if-line-end-ne32.false).0

pub returns-clause-fields : goal.returns-clause-fields
returns-clause-fields c =
    (field_taken c.args.line.now c.in-Some.end (sym c.in-Some.ensures) (omega arith) c.if-line-end-ne32.false).1
    ∙ ap (λ rest. take c.in-Some.end c.args.line.now ∷ fields rest) (sym (take_rest c.args.line.now (c.in-Some.end + 1)))
