use Rattle.pua_tool.proofs.Common.{◌≡◌, ap, sym, ◌∙◌, answers_to, if_ok}
use Rattle.pua_script.specs.Worlds.{state_after_all}
use Rattle.pua_tool.specs.TwoWorlds.{as_served}
use Rattle.pua_tool.specs.WhyTexts.{chain_lines}
use Rattle.pua_tool.proofs.why.text_of.Goals as goal

pub returns : goal.returns
returns c = if_ok c.chain_text.result (λ text told is.
    let p = as_served c.args.worlds.now in
    let asks : c.requests-requests.result.now ≡ p.asks = c.requests-requests.ensures in
    told (c.as_slice-answers.ensures.value ∙ is.answers ∙ ap (answers_to p.table p.world) (sym asks))
    (is.after ∙ ap (state_after_all c.args.worlds.now.before) (sym asks))
    ∙ (λ i. chain_lines (record { table = p.table; world = p.world; asks = asks i }) c.args.request.now)) c.chain_text.ensures
