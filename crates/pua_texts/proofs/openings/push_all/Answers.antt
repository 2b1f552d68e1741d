use Rattle.pua_texts.proofs.Common.{◌++◌, ◌+◌, ap, sym, ◌∙◌, string_bytes, arith}
use Rattle.pua_texts.proofs.OpeningLines.{still_open, keyword_next, keywords_done}
use Rattle.pua_texts.proofs.openings.push_all.Goals as goal

pub loop-keyword-preserved : goal.loop-keyword-preserved
loop-keyword-preserved c =
    let keywords = c.args.keywords.now in
    let i = c.loop-keyword.keyword-index in
    ap (λ text. text ++ still_open keywords (i + 1)) c.in_ok-push_opened_by.ensures
    ∙ sym (keyword_next (string_bytes c.loop-keyword.text) keywords i _ c.loop-keyword-test.true)
    ∙ c.loop-keyword.invariant

pub returns : goal.returns
returns c =
    sym (keywords_done (string_bytes c.loop-keyword.text) c.args.keywords.now c.loop-keyword.keyword-index
    (omega (arith, c.loop-keyword-test.false)))
    ∙ c.loop-keyword.invariant
