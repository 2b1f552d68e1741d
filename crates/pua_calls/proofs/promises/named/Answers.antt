use Rattle.pua_calls.proofs.Common.{◌≡◌, ◌∙◌, sym, rules, tests, arith, length, slice_split, Some, None, ◌==◌, promise_of}
use Rattle.std.proofs.lemmas.Iterator.Splits.{YieldsList-from_slice_split}
use Rattle.std.proofs.lemmas.Iterator.Consumers.{YieldsList-turn, YieldsList-end}
use Rattle.std.proofs.lemmas.List.{length_push}
use Rattle.std.proofs.lemmas.Result.{err_from_is_err_and}
use Rattle.pua_path.specs.declared.errno.Errno.TheVariants.{EINVAL}
use Rattle.pua_calls.proofs.Sets.{with_rest-known, with_rest-unknown, with_rest-end}
use Rattle.pua_calls.proofs.promises.named.Goals as goal

pub returns-in_err-ok_or : goal.returns-in_err-ok_or
returns-in_err-ok_or c =
    let words = slice_split (λ b. b == 44) c.args.text.now in
    let at = YieldsList-turn (YieldsList-from_slice_split _ (λ b. b == 44) c.args.text.now (cc) (cc) (cc) (λ x b q k. search (
      rules,
      tests,
    ))) c.loop-word.yielded _ c.loop-word.yielded_by _ _ c.in-Some.word c.in-Some.is c.next.ensures.steps in
    let unknown : promise_of c.in-Some.word.now ≡ None = grind (arith, c.in_err-ok_or.was) in
    let refused = with_rest-unknown promise_of words c.loop-word.promises (length c.loop-word.yielded) c.in-Some.word.now c.in-Some.word.now
    at unknown in
    let errno : c.in_err-ok_or.field-0.0 ≡ EINVAL = grind (arith, c.in_err-ok_or.was) in
    let p = err_from_is_err_and c.from_residual.result c.from_residual.ensures.1 in
    rw (p.1, p.2, errno) (sym refused ∙ c.loop-word.invariant)

pub loop-word-preserved : goal.loop-word-preserved
loop-word-preserved c =
    let words = slice_split (λ b. b == 44) c.args.text.now in
    let at = YieldsList-turn (YieldsList-from_slice_split _ (λ b. b == 44) c.args.text.now (cc) (cc) (cc) (λ x b q k. search (
      rules,
      tests,
    ))) c.loop-word.yielded _ c.loop-word.yielded_by _ _ c.in-Some.word c.in-Some.is c.next.ensures.steps in
    let known : promise_of c.in-Some.word.now ≡ Some c.in_ok-ok_or.field-0 = grind (arith, c.in_ok-ok_or.was) in
    let next = with_rest-known promise_of words c.loop-word.promises c.in_ok-ok_or.field-0 (length c.loop-word.yielded) c.in-Some.word.now
    c.in-Some.word.now at known in
    rw (c.union-promises.ensures, length_push c.loop-word.yielded c.in-Some.word) (sym next ∙ c.loop-word.invariant)

pub returns : goal.returns
returns c =
    let words = slice_split (λ b. b == 44) c.args.text.now in
    let all = YieldsList-end (YieldsList-from_slice_split _ (λ b. b == 44) c.args.text.now (cc) (cc) (cc) (λ x b q k. search (
      rules,
      tests,
    ))) c.loop-word.yielded _ c.loop-word.yielded_by _ _ c.in-None.is c.next.ensures.steps in
    let end = with_rest-end promise_of words c.loop-word.promises (length c.loop-word.yielded) (omega (arith, all.1)) in
    sym end ∙ c.loop-word.invariant
