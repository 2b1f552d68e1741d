use Rattle.pua_tool.proofs.Common.{◌≡◌, ◌++◌, ◌∙◌, List, ℕ, Ok, ap, sym, subst, map, answers_to, world_of, AnswersTo}
use Rattle.pua_since.specs.Dates.{veil_date, veil_seen}
use Rattle.pua_texts.specs.ListLines.{lists_text}
use Rattle.pua_tool.specs.TwoWorlds.{as_served}
use Rattle.pua_tool.specs.WhyTexts.{reason_lines}
use Rattle.pua_tool.proofs.objects_why.write_all.Goals as goal

pub returns : goal.returns
returns g c = λ read is.
    let p = as_served c.args.worlds.now in
    let asks : c.requests-requests.result.now ≡ p.asks = c.requests-requests.ensures in
    let dated = c.in_ok-front.ensures c.args.rules (read ∙ ap Ok (sym asks))
    (c.as_slice-answers.ensures.value ∙ is.answers ∙ ap (answers_to p.table p.world) (sym asks)) in
    let date = veil_date p.table p.world p.asks in
    let lines = c.as_slice.ensures.value ∙ dated.1
    ∙ (λ i. map (veil_date p.table p.world (asks i)) (map veil_seen c.as_slice-veils.result.now))
    ∙ ap (λ veils. map date (map veil_seen veils)) c.as_slice-veils.ensures.value
    ∙ ap (map date) c.in_ok-veils.ensures in
    let front : c.as_str.result.now ≡ reason_lines p = c.as_str.ensures.value ∙ dated.0
    ∙ (λ i. reason_lines (record { table = p.table; world = p.world; asks = asks i })) in
    subst (λ (text : List ℕ). AnswersTo g.S.Sink.written g.S.Sink.failed (Ok text) c.put_lists.result c.args.sink.now c.put_lists.new.sink)
    ((λ i. front i ++ lists_text (c.tree.ensures i) c.in_ok-lists.lists.items)
    ∙ (λ i. reason_lines p ++ lists_text (world_of (is.after i)).tree c.in_ok-lists.lists.items)
    ∙ ap (λ text. reason_lines p ++ text) (c.in_ok-lists.ensures p (λ i. world_of (is.after i)) (λ i. (is.after i).table) lines))
    c.put_lists.ensures
