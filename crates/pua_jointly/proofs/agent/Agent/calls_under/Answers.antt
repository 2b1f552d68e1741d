use Rattle.pua_jointly.proofs.Common.{◌≡◌, ◌<◌, ◌≤◌, ◌&&◌, ◌∙◌, ◌||◌, ◌==◌, ap, arith, Bool, covered_verdict, empty_tree, false, has, is_allowed, list_any, subst, sym, true, ℕ}
use Rattle.std.specs.Prelude.{◌+◌, ◌-◌}
use Rattle.std.specs.Int.{bit_at}
use Rattle.pua_calls.proofs.ForCallers.{has_none}
use Rattle.pua_jointly.specs.JointCovers.{allows_under, cover_of, numbered}
use Rattle.pua_jointly.proofs.JointDoing.{any_more, any_still, or_none}
use Rattle.pua_jointly.proofs.agent.Agent.calls_under.Goals as goal
use Rattle.pua_jointly.proofs.agent.Agent.calls_under.Goals.{else-has, then-has}

-- no bit between is one
skipped : (covers : ℕ) (allowed : ℕ → Bool) (from next : ℕ) → from ≤ next → ((i : ℕ) → from ≤ i → i < next → bit_at covers i ≡ 0) →
    list_any (λ i. (bit_at covers i == 1) && allowed i) (numbered next) ≡ list_any (λ i. (bit_at covers i == 1) && allowed i) (numbered from)
skipped covers allowed from next more none =
    let same : next ≡ from + (next - from) = omega (arith, more) in
    ap (λ n. list_any (λ i. (bit_at covers i == 1) && allowed i) (numbered n)) same
    ∙ any_still (λ i. (bit_at covers i == 1) && allowed i) from (next - from)
    (λ i least most. ap (λ n. (n == 1) && allowed i) (none i least (omega (arith, most, same))))

pub loop-bit-init : goal.loop-bit-init
loop-bit-init c = record {
  told = λ known judged same call.
      let h = c.args.self.now.process.now in
      has_none call
      ∙ sym (skipped c.args.covers (λ i. is_allowed (covered_verdict empty_tree c.args.table.now h call (cover_of i) judged)) 0 c.first_from-bit.result
      (omega arith) c.first_from-bit.ensures.none);
  low = c.first_from-bit.ensures.within;
}

pub loop-bit-preserved : goal.loop-bit-preserved
loop-bit-preserved c = record {
  told = λ known judged same call.
      let h = c.args.self.now.process.now in
      let table = c.args.table.now in
      let bit : ℕ = c.loop-bit.bit in
      let p = allows_under table h c.args.covers judged call in
      let before = c.loop-bit.invariant.told known judged same call in
      elim c.if-has.branch [
        | then-has w ↦
            (let set : (bit_at c.args.covers bit == 1) ≡ true = sym c.has.ensures ∙ w.if-has.true in
            let piece : has w.calls_at-more.result call ≡ p bit = w.calls_at-more.ensures w.cover_at.ensures known judged same call
            ∙ sym (ap (λ b. b && is_allowed (covered_verdict empty_tree table h call (cover_of bit) judged)) set) in
            ap (λ x. has x call) w.calls-is ∙ w.union-calls.ensures call ∙ (λ z. before z || piece z) ∙ sym (any_more p bit))
        | else-has w ↦
            (let set : (bit_at c.args.covers bit == 1) ≡ false = sym c.has.ensures ∙ w.if-has.false in
            let none : p bit ≡ false = ap (λ b. b && is_allowed (covered_verdict empty_tree table h call (cover_of bit) judged)) set in
            ap (λ x. has x call) w.calls-is ∙ before ∙ sym (ap (λ b. list_any p (numbered bit) || b) none ∙ or_none (list_any p (numbered bit)))
            ∙ sym (any_more p bit))
      ]
      ∙ sym (skipped c.args.covers (λ i. is_allowed (covered_verdict empty_tree table h call (cover_of i) judged)) (bit + 1)
      c.first_from-bit-in-loop-bit.result
      (c.first_from-bit-in-loop-bit.ensures.more (let low = c.loop-bit-test.true in omega (arith, low)))
      c.first_from-bit-in-loop-bit.ensures.none);
  low = c.first_from-bit-in-loop-bit.ensures.within;
}

pub returns : goal.returns
returns c = λ known judged same call.
    let low = c.loop-bit.invariant.low in
    let past = c.loop-bit-test.false in
    let last : c.loop-bit.bit ≡ 18 = omega (arith, low, past) in
    subst (λ n. has c.loop-bit.calls call
    ≡ list_any (allows_under c.args.table.now c.args.self.now.process.now c.args.covers judged call) (numbered n)) last
    (c.loop-bit.invariant.told known judged same call)
