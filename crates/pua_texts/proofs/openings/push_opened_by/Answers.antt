use Rattle.pua_texts.proofs.Common.{◌++◌, ◌+◌, ap, sym, ◌∙◌, string_bytes, arith, flat_map}
use Rattle.pua_texts.specs.Openings.{line_if}
use Rattle.pua_texts.proofs.OpeningLines.{still_of, row_next, rows_done}
use Rattle.pua_texts.proofs.openings.push_opened_by.Goals as goal

pub loop-row-preserved : goal.loop-row-preserved
loop-row-preserved c =
    let rows = c.openings-row-items.result.now in
    let i = c.loop-row.row-index in
    let keyword = c.args.keyword.now in
    ap (λ text. text ++ still_of keyword rows (i + 1)) c.in_ok-push_if.ensures
    ∙ sym (row_next keyword (string_bytes c.loop-row.text) rows i _ c.loop-row-test.true)
    ∙ c.loop-row.invariant

pub returns : goal.returns
returns c =
    let rows = c.openings-row-items.result.now in
    sym (rows_done c.args.keyword.now (string_bytes c.loop-row.text) rows c.loop-row.row-index (omega (arith, c.loop-row-test.false)))
    ∙ c.loop-row.invariant
    ∙ ap (λ rows. string_bytes c.args.text.now ++ flat_map (line_if c.args.keyword.now) rows) c.openings-row-items.ensures
