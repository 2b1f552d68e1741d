use Rattle.pua_tool.proofs.Common.{◌≡◌, ◌∙◌, Ok, ap, sym, map, answers_to, if_ok}
use Rattle.std.proofs.Common.{append-nil}
use Rattle.pua_since.specs.Dates.{veil_date, veil_seen, veils_at}
use Rattle.pua_tool.specs.TwoWorlds.{as_served}
use Rattle.pua_tool.specs.WhyTexts.{reason_lines}
use Rattle.pua_tool.proofs.ever_why.dated_front.Goals as goal

pub returns-clause-dated : goal.returns-clause-dated
returns-clause-dated c =
    let p = as_served c.args.worlds.now in
    let asks : c.requests-requests.result.now ≡ p.asks = c.requests-requests.ensures in
    let date = veil_date p.table p.world p.asks in
    if_ok c.dated_text.result
    (λ dated given. λ read is.
    let said = given c.args.rules (read ∙ ap Ok (sym asks)) (c.as_slice-answers.ensures.value ∙ is.answers ∙ ap (answers_to p.table p.world) (sym asks)) in (
      said.0 ∙ (λ i. reason_lines (record { table = p.table; world = p.world; asks = asks i })),
      said.1
          ∙ (λ i. map (veil_date p.table p.world (asks i)) (map veil_seen c.as_slice-veils.result.now))
          ∙ ap (λ veils. map date (map veil_seen veils)) c.as_slice-veils.ensures.value
          ∙ ap (map date) (c.in_ok-veils.ensures ∙ append-nil (veils_at c.args.worlds.now.after c.args.number)),
    )) c.dated_text.ensures
