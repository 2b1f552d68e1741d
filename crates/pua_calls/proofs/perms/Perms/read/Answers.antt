use Rattle.pua_calls.proofs.Common.{◌≡◌, ◌∙◌, get_or, sym, refl, arith, Some}
use Rattle.pua_calls.specs.Promises.{letter_of}
use Rattle.pua_calls.proofs.Sets.{with_rest-known, with_rest-end}
use Rattle.pua_calls.proofs.perms.Perms.read.Goals as goal

pub loop-byte-preserved : goal.loop-byte-preserved
loop-byte-preserved c =
    let text = c.args.text.now in
    let i = c.loop-byte.byte-index in
    let known : letter_of (get_or text i 0) ≡ Some c.in_ok-ok_or.field-0 = grind (arith, c.in_ok-ok_or.was) in
    let next = with_rest-known letter_of text c.loop-byte.perms c.in_ok-ok_or.field-0 i (get_or text i 0) 0 (
      c.loop-byte-test.true,
      refl,
    ) known in
    rw c.union-perms.ensures (sym next ∙ c.loop-byte.invariant)

pub returns : goal.returns
returns c = sym (with_rest-end letter_of c.args.text.now c.loop-byte.perms c.loop-byte.byte-index c.loop-byte-test.false) ∙
    c.loop-byte.invariant
