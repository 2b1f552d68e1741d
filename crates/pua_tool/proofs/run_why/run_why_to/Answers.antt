use Rattle.pua_tool.proofs.Common.{◌≡◌, ◌∙◌, List, ℕ, Ok, subst, choice_of, AnswersTo}
use Rattle.pua_tool.specs.TwoWorlds.{as_served}
use Rattle.pua_tool.specs.WhyTexts.{served_script, reason_lines}
use Rattle.pua_tool.proofs.TextAnswers.{next_answers}
use Rattle.pua_tool.proofs.run_why.run_why_to.Goals as goal

pub returns : goal.returns
returns g c =
    let worlds = c.in_ok-worlds.ensures.done in
    let asked = as_served c.in_ok-worlds.worlds in
    let text : c.as_str.result.now ≡ reason_lines asked = c.as_str.ensures.value ∙ c.in_ok-text.ensures c.args.table.rules worlds.1 worlds.2 in
    record {
      text = next_answers g.S.Sink.written g.S.Sink.failed
          (served_script (choice_of c.args.table) c.args.tree_bytes.now c.args.script_bytes.now) (λ p. Ok (reason_lines p)) asked
          c.put_text.result c.args.sink.now c.put_text.new.sink worlds.0
          (subst (λ (text : List ℕ). AnswersTo g.S.Sink.written g.S.Sink.failed (Ok text) c.put_text.result c.args.sink.now c.put_text.new.sink)
          text c.put_text.ensures);
    }
