use Rattle.pua_tool.proofs.Common.{◌≡◌, ℕ, ◌∙◌, ◌∷◌, ◌++◌, [], List, ap, arith, sym, subst, Result}
use Rattle.std.proofs.Common.{◌≤◌, get_or}
use Rattle.std.specs.List.{AllByRecursion}
use Rattle.pua_calls.specs.Calls.{call_count, calls}
use Rattle.pua_calls.specs.declared.call.Call.{Call}
use Rattle.pua_calls.specs.declared.call.Call.TheVariants.{Stat}
use Rattle.std.specs.Prelude.{IfErr}
use Rattle.pua_script.specs.Worlds.{world_of}
use Rattle.pua_how.specs.Served.{Tried}
use Rattle.pua_how.specs.Steps.{NoneComes}
use Rattle.pua_how.specs.declared.way.NoWay.{NoWay}
use Rattle.pua_tool.specs.RowColumns.{IsCountTo, done_behind}
use Rattle.pua_tool.proofs.Counts.{Count, all_counted, call_counted, call_passed, calls_of, steps_counted}
use Rattle.pua_tool.proofs.columns.counts_on.Goals.{then-contains+in_ok-steps+in_ok-push, else-contains}
use Rattle.pua_tool.proofs.columns.counts_on.Goals as goal

pub loop-call-preserved : goal.loop-call-preserved
loop-call-preserved c =
    let set : ℕ = c.args.calls in
    let i : ℕ = c.loop-call.call-index in
    let call : Call = get_or calls i Stat in
    let n : ℕ = c.args.behind.now.number in
    let rules = c.args.behind.now.rules in
    let done = done_behind c.args.behind.now in
    let target = c.args.target.now in
    let counts : List Count = c.loop-call.counts.items in
    let things = c.in_ok-meant.meant.targets.items in
    elim c.if-contains.branch [
      | then-contains+in_ok-steps+in_ok-push w ↦
          let found : Result ℕ NoWay = w.in_ok-steps.steps in
          let all : w.push.new.self.items ≡ counts ++ (call, found) ∷ [] = w.in_ok-push.ensures.items in
          rw w.counts-is (record {
            calls = ap calls_of all ∙ call_counted set i c.loop-call-test.true counts found (sym c.contains.ensures ∙ w.if-contains.true)
                c.loop-call.invariant.calls;
            counted =
                subst (AllByRecursion (IsCountTo rules done n target)) (sym all)
                (steps_counted rules done n target counts call found things c.in_ok-meant.ensures c.loop-call.invariant.counted
                (w.in_ok-steps.ensures.steps c.args.behind.now c.loop-call.invariant.trials)
                (subst (λ (t : Tried). IfErr found (NoneComes t.rules t.world.table t.process call things (world_of t.world)))
                c.loop-call.invariant.trials w.in_ok-steps.ensures.none));
            trials = w.trials-is ∙ w.in_ok-steps.ensures.same ∙ c.loop-call.invariant.trials;
          })
      | else-contains w ↦ rw w.counts-is (record {
        calls = call_passed set i c.loop-call-test.true counts (sym c.contains.ensures ∙ w.if-contains.false) c.loop-call.invariant.calls;
        counted = c.loop-call.invariant.counted;
        trials = w.trials-is ∙ c.loop-call.invariant.trials;
      })
    ]

pub returns-clause-calls : goal.returns-clause-calls
returns-clause-calls c =
    let past : call_count ≤ c.loop-call.call-index = omega (arith, c.loop-call-test.false) in
    all_counted c.args.calls c.loop-call.call-index past c.loop-call.counts.items c.loop-call.invariant.calls
