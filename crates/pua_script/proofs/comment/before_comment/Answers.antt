use Rattle.pua_script.proofs.Common.{◌&&◌, eqb, arith, refl, sym, ap}
use Rattle.std.proofs.Common.{get_or}
use Rattle.std.proofs.lemmas.List.{length-take-le}
use Rattle.std.proofs.lemmas.Bool.{ne_eqb}
use Rattle.pua_script.proofs.Commenting.{begins, all_read, no_comment, on_comment, on_blank, on_byte}
use Rattle.pua_script.proofs.comment.before_comment.Goals as goal

pub loop-at-init : goal.loop-at-init
loop-at-init c = (omega arith, omega arith, begins c.args.line.now)

pub slice_bounds-result-end : goal.slice_bounds-result-end
slice_bounds-result-end c =
    let so = c.loop-at.invariant in let kept = so.1 in let within = so.0 in
    sym (length-take-le c.loop-at.length c.args.line.now (omega (arith, kept, within)))

pub returns-then-byte-eq35 : goal.returns-then-byte-eq35
returns-then-byte-eq35 c =
    let line = c.args.line.now in
    let so = c.loop-at.invariant in
    on_comment line c.loop-at.length c.loop-at.at c.loop-at.may_begin (get_or line c.loop-at.at 0) c.loop-at-test.true refl so.2
    (λ i. c.if-may_begin.true i && eqb (c.if-byte-eq35.true i) 35)

pub loop-at-preserved-then-not-may_begin : goal.loop-at-preserved-then-not-may_begin
loop-at-preserved-then-not-may_begin c =
    let line = c.args.line.now in
    let so = c.loop-at.invariant in
    let b = get_or line c.loop-at.at 0 in
    let here = c.loop-at-test.true in (
      omega (arith, here),
      omega arith,
      on_byte line c.loop-at.length c.loop-at.at c.loop-at.may_begin b here refl so.2
          (no_comment c.loop-at.may_begin b c.else-may_begin.either) (ne_eqb b 32 c.if-not-may_begin.true),
    )

pub loop-at-preserved : goal.loop-at-preserved
loop-at-preserved c =
    let line = c.args.line.now in
    let so = c.loop-at.invariant in
    let b = get_or line c.loop-at.at 0 in
    let here = c.loop-at-test.true in
    let kept = so.1 in (
      omega (arith, here),
      omega (arith, kept),
      on_blank line c.loop-at.length c.loop-at.at c.loop-at.may_begin b here refl so.2
          (no_comment c.loop-at.may_begin b c.else-may_begin.either) (ap (λ x. eqb x 32) c.if-not-may_begin.false),
    )

pub returns : goal.returns
returns c =
    let so = c.loop-at.invariant in
    let end = c.loop-at-test.false in
    all_read c.args.line.now c.loop-at.length c.loop-at.at c.loop-at.may_begin (omega (arith, end)) so.2
