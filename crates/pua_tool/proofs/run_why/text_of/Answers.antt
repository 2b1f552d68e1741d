use Rattle.pua_tool.proofs.Common.{◌≡◌, Ok, ap, sym, ◌∙◌, answers_to, if_ok}
use Rattle.pua_tool.specs.TwoWorlds.{as_served}
use Rattle.pua_tool.specs.WhyTexts.{reason_lines}
use Rattle.pua_tool.proofs.run_why.text_of.Goals as goal

pub returns : goal.returns
returns c = if_ok c.reason_text.result (λ text told rules read is.
    let p = as_served c.args.worlds.now in
    let asks : c.requests-requests.result.now ≡ p.asks = c.requests-requests.ensures in
    told rules (read ∙ ap Ok (sym asks)) (c.as_slice-answers.ensures.value ∙ is.answers ∙ ap (answers_to p.table p.world) (sym asks))
    ∙ (λ i. reason_lines (record { table = p.table; world = p.world; asks = asks i }))) c.reason_text.ensures
