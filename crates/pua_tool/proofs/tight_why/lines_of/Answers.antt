use Rattle.pua_tool.proofs.Common.{◌++◌, ap, sym, ◌∙◌, arith}
use Rattle.std.proofs.Common.{◌+◌}
use Rattle.std.specs.Prelude.{string_bytes}
use Rattle.pua_tool.proofs.TightTexts.{lines_left, word_more, words_done}
use Rattle.pua_tool.proofs.tight_why.lines_of.Goals as goal

pub loop-word-preserved : goal.loop-word-preserved
loop-word-preserved c =
    let words = c.args.words.now in
    let i = c.loop-word.word-index in
    ap (λ text. text ++ lines_left c.args.rules words (i + 1)) c.in_ok-push_use.ensures
    ∙ sym (word_more c.args.rules (string_bytes c.loop-word.text) words i c.word-item.result c.loop-word-test.true c.word-item.is)
    ∙ c.loop-word.invariant

pub returns : goal.returns
returns c =
    sym (words_done c.args.rules (string_bytes c.loop-word.text) c.args.words.now c.loop-word.word-index (omega (arith, c.loop-word-test.false))) ∙
    c.loop-word.invariant
