use Rattle.pua_tool.proofs.Common.{ap, sym, ◌∙◌, arith}
use Rattle.std.proofs.Common.{◌+◌, ◌≤◌, drop, bit_or}
use Rattle.std.specs.Prelude.{filter}
use Rattle.pua_calls.specs.Calls.{call_count, calls}
use Rattle.pua_calls.specs.CallSets.{has}
use Rattle.pua_tool.specs.EverWhyTexts.{let_by_one, rests_on}
use Rattle.pua_tool.proofs.EverColumns.{rest_done, rest_passed, rest_taken}
use Rattle.pua_tool.proofs.ever_columns.rests_on.Goals.{then-contains, else-contains}
use Rattle.pua_tool.proofs.ever_columns.rests_on.Goals as goal

pub loop-call-preserved : goal.loop-call-preserved
loop-call-preserved c =
    let i = c.loop-call.call-index in
    let set = c.args.calls in
    let table = c.args.table.now in
    let held = c.args.held in
    let given = c.args.given in
    elim c.if-contains.branch [
      | then-contains w ↦ rw w.resting-is (
          ap (λ r. bit_or r (rests_on table held given (filter (has set) (drop (i + 1) calls)))) w.union-resting.ensures
          ∙ sym (rest_taken table held given set c.loop-call.resting w.let_by_one.result i c.loop-call-test.true (sym c.contains.ensures ∙
          w.if-contains.true) (w.let_by_one.ensures ∙ ap (let_by_one held given) w.alternatives.ensures))
          ∙ c.loop-call.invariant)
      | else-contains w ↦ rw w.resting-is
          (sym (rest_passed table held given set c.loop-call.resting i c.loop-call-test.true (sym c.contains.ensures ∙
          w.if-contains.false)) ∙ c.loop-call.invariant)
    ]

pub returns : goal.returns
returns c =
    let i = c.loop-call.call-index in
    let past : call_count ≤ i = omega (arith, c.loop-call-test.false) in
    sym (rest_done c.args.table.now c.args.held c.args.given c.args.calls c.loop-call.resting i past) ∙ c.loop-call.invariant
