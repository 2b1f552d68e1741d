use Rattle.pua_tool.proofs.Common.{◌≡◌, ◌++◌, ◌∙◌, List, ℕ, Ok, ap, sym, subst, answers_to, answer_lines, told_to, world_of, AnswersTo}
use Rattle.pua_texts.specs.ListLines.{lists_text}
use Rattle.pua_texts.specs.ObjectLines.{lists_of}
use Rattle.pua_texts.specs.WhyLines.{world_left}
use Rattle.pua_tool.specs.ImageTexts.{images_from}
use Rattle.pua_tool.specs.TwoWorlds.{as_served}
use Rattle.pua_tool.proofs.images.write_all.Goals as goal

pub returns : goal.returns
returns g c = λ is.
    let p = as_served c.args.worlds.now in
    let numbers = c.args.numbers.now in
    let asks : c.requests-requests.result.now ≡ p.asks = c.requests-requests.ensures in
    let front : c.as_slice.result.now
    ≡ answer_lines 1 (told_to p.table p.world p.asks) ++ images_from c.args.rules p.table p.world numbers 1 p.asks =
    c.as_slice.ensures.value
    ∙ c.in_ok-front.ensures (c.as_slice-answers.ensures.value ∙ is.answers ∙ ap (answers_to p.table p.world) (sym asks))
    ∙ (λ i. answer_lines 1 (told_to p.table p.world (asks i)) ++ images_from c.args.rules p.table p.world numbers 1 (asks i)) in
    let listed : lists_text c.args.worlds.now.after.tree c.in_ok-lists.lists.items ≡ lists_of c.args.rules p.table (world_left p) numbers =
    c.in_ok-lists.ensures ∙ (λ i. lists_of c.args.rules (is.after i).table (world_of (is.after i)) numbers) in
    subst (λ (text : List ℕ). AnswersTo g.S.Sink.written g.S.Sink.failed (Ok text) c.put_behind.result c.args.sink.now c.put_behind.new.sink)
    ((λ i. front i ++ lists_text (c.tree.ensures i) c.in_ok-lists.lists.items)
    ∙ ap (λ lists. (answer_lines 1 (told_to p.table p.world p.asks) ++ images_from c.args.rules p.table p.world numbers 1 p.asks) ++ lists) listed)
    c.put_behind.ensures
