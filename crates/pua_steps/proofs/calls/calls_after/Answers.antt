use Rattle.pua_steps.proofs.Common.{call_count, ◌≡◌, ◌+◌, ◌<◌, refl, arith, ◌∙◌, subst, inl, inr, cases_lt, bit_at}
use Rattle.pua_steps.proofs.Sets.{calls_dropped}
use Rattle.pua_steps.proofs.calls.calls_after.Goals as goal

pub loop-other-init : goal.loop-other-init
loop-other-init c = record { small = omega arith; gone = λ i h. absurd (omega (arith, h)); kept = λ i h low. refl }

pub loop-other-preserved : goal.loop-other-preserved
loop-other-preserved c =
    let inv = c.loop-other.invariant in
    let within : c.loop-other.other < call_count = omega (arith, c.loop-other-test.true, c.requires.call) in
    record {
      small = omega (arith, c.without-rest.ensures.within, inv.small);
      gone = λ i h. elim (cases_lt i c.loop-other.other) [
        | inl less ↦ c.without-rest.ensures.others i (omega (arith, less, within)) (λ same. omega (arith, same, less)) ∙ inv.gone i less
        | inr past ↦ (let same : c.loop-other.other ≡ i = omega (arith, past, h) in
            subst (λ k. bit_at c.without-rest.result k ≡ 0) same c.without-rest.ensures.here)
      ];
      kept = λ i h low. c.without-rest.ensures.others i h (λ same. omega (arith, same, low)) ∙ inv.kept i h (omega (arith, low));
    }

pub returns-clause-after : goal.returns-clause-after
returns-clause-after c =
    let inv = c.loop-other.invariant in
    let end : c.loop-other.other ≡ c.args.call + 1 = omega (arith, c.loop-other-test.false, c.loop-other.auto.other-end) in
    calls_dropped c.args.set c.loop-other.rest c.args.call (λ i h. inv.gone i (omega (arith, h, end)))
    (λ i h low. inv.kept i h (omega (arith, low, end)))
