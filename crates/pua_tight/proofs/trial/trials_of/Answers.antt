use Rattle.std.proofs.Common.{◌∙◌, ◌-◌, arith}
use Rattle.pua_tight.specs.Left.{lines_by}
use Rattle.pua_tight.proofs.Trying.{no_trials, as_many_lines, trials_back}
use Rattle.pua_tight.proofs.trial.trials_of.Goals as goal

pub loop-line-init : goal.loop-line-init
loop-line-init c =
    let lines = lines_by c.args.asked c.args.requests.now c.args.answers.now in
    c.new-trials.ensures.items ∙ no_trials lines _ (omega (arith, as_many_lines c.args.asked c.args.requests.now c.args.answers.now))

pub loop-line-preserved : goal.loop-line-preserved
loop-line-preserved c =
    trials_back c.args.asked c.args.requests.now c.args.answers.now (c.loop-line.line - 1) c.index-requests-line.result c.get.result
    c.as_slice.result.now c.loop-line.trials.items c.add_trials.new.trials.items (omega (arith, c.loop-line-test.true, c.loop-line.auto.line))
    c.index-requests-line.is c.get.ensures.lookup (c.as_slice.ensures.value ∙ c.in_ok-pieces.ensures) c.in_ok-add_trials.ensures
    c.loop-line.line (omega (arith, c.loop-line-test.true)) c.loop-line.invariant
