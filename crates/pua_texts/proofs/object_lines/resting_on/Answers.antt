use Rattle.pua_texts.proofs.Common.{◌+◌, ◌≤◌, ap, sym, ◌∙◌, drop, arith, bit_or, filter, calls, has}
use Rattle.pua_texts.proofs.Common.{resting_on}
use Rattle.pua_calls.specs.Calls.{call_count}
use Rattle.pua_texts.proofs.WhyColumns.{rest_done, rest_passed, rest_taken}
use Rattle.pua_texts.proofs.object_lines.resting_on.Goals.{then-contains, else-contains}
use Rattle.pua_texts.proofs.object_lines.resting_on.Goals as goal

pub loop-call-preserved : goal.loop-call-preserved
loop-call-preserved c =
    let i = c.loop-call.call-index in
    let set = c.args.calls in
    let table = c.args.table.now in
    let h = c.args.process.now in
    elim c.if-contains.branch [
      | then-contains w ↦ rw w.resting-is (
          ap (λ r. bit_or r (resting_on table h (filter (has set) (drop (i + 1) calls)))) w.union-resting.ensures
          ∙ sym (rest_taken table h set c.loop-call.resting w.let_by.result i c.loop-call-test.true (sym c.contains.ensures ∙
          w.if-contains.true) w.let_by.ensures)
          ∙ c.loop-call.invariant)
      | else-contains w ↦ rw w.resting-is
          (sym (rest_passed table h set c.loop-call.resting i c.loop-call-test.true (sym c.contains.ensures ∙
          w.if-contains.false)) ∙ c.loop-call.invariant)
    ]

pub returns : goal.returns
returns c =
    let i = c.loop-call.call-index in
    let past : call_count ≤ i = omega (arith, c.loop-call-test.false) in
    sym (rest_done c.args.table.now c.args.process.now c.args.calls c.loop-call.resting i past) ∙ c.loop-call.invariant
