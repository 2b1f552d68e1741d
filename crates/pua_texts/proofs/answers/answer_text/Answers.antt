use Rattle.pua_texts.proofs.Common.{string_bytes}
use Rattle.pua_texts.proofs.AnswerLines.{answer_added}
use Rattle.pua_texts.proofs.answers.answer_text.Goals as goal

pub loop-place-preserved : goal.loop-place-preserved
loop-place-preserved c =
    answer_added c.args.answers.now c.loop-place.place _ (string_bytes c.loop-place.text) c.format.result.now
    (string_bytes c.push_line.new.text)
    c.loop-place-test.true c.format.ensures.text c.in_ok-push_line.ensures c.loop-place.invariant
