use Rattle.std.proofs.Common.{◌∙◌}
use Rattle.pua_tight.proofs.Trying.{words_all, words_on}
use Rattle.pua_tight.proofs.word_use.words_of.Goals as goal

pub loop-line-preserved : goal.loop-line-preserved
loop-line-preserved c =
    words_on c.args.asked c.args.requests.now c.args.answers.now c.loop-line.line c.index-requests-line.result c.get.result
    c.as_slice.result.now c.loop-line.words.items c.add_trials.new.trials.items c.loop-line-test.true c.index-requests-line.is
    c.get.ensures.lookup (c.as_slice.ensures.value ∙ c.in_ok-pieces.ensures) c.in_ok-add_trials.ensures c.loop-line.invariant

pub returns : goal.returns
returns c =
    words_all c.args.asked c.args.requests.now c.args.answers.now c.loop-line.line c.loop-line.words.items c.loop-line-test.false
    c.loop-line.invariant
