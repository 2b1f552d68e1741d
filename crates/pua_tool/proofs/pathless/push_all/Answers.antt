use Rattle.pua_tool.proofs.Common.{◌++◌, ◌∙◌, ap, sym, arith}
use Rattle.std.proofs.Common.{◌+◌}
use Rattle.std.specs.Prelude.{string_bytes}
use Rattle.pua_tool.proofs.PathlessLines.{still_told, next_told, all_told}
use Rattle.pua_tool.proofs.pathless.push_all.Goals as goal

pub loop-keyword-preserved : goal.loop-keyword-preserved
loop-keyword-preserved c =
    let keywords = c.args.keywords.now in
    let i = c.loop-keyword.keyword-index in
    ap (λ text. text ++ still_told keywords (i + 1)) c.in_ok-push_calls.ensures
    ∙ sym (next_told (string_bytes c.loop-keyword.text) keywords i _ c.loop-keyword-test.true)
    ∙ c.loop-keyword.invariant

pub returns : goal.returns
returns c =
    sym (all_told (string_bytes c.loop-keyword.text) c.args.keywords.now c.loop-keyword.keyword-index
    (omega (arith, c.loop-keyword-test.false)))
    ∙ c.loop-keyword.invariant
