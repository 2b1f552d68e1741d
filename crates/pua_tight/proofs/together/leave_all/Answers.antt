use Rattle.pua_tight.proofs.WithoutSeveral.{kept_more, left_more}
use Rattle.pua_tight.proofs.together.leave_all.Goals as goal

pub loop-trial-preserved : goal.loop-trial-preserved
loop-trial-preserved c =
    let given = c.args.requests.now.items in
    let now = c.loop-trial.requests.items in
    let left = c.leave_out-arguments.new.requests.items in
    record {
      left = left_more c.args.trials.now c.loop-trial.trial-index c.trial-item.result given now left c.loop-trial-test.true c.trial-item.is
          c.loop-trial.invariant.left c.leave_out-arguments.ensures.left;
      back = kept_more c.loop-trial.kept.items c.push.new.self.items
          (record { line = c.trial-item.result.line; arguments = c.leave_out-arguments.result }) given now left
          c.loop-trial.invariant.back c.leave_out-arguments.ensures.back c.in_ok-push.ensures.items;
    }
