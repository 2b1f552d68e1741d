use Rattle.pua_tool.proofs.Common.{◌∙◌, Ok, ap, map, sym, choice_of}
use Rattle.pua_tool.specs.TwoWorlds.{as_served}
use Rattle.pua_tool.specs.WhyTexts.{why_text}
use Rattle.pua_tool.proofs.TextAnswers.{answers_told}
use Rattle.pua_tool.proofs.WhyTexts.{asked_is}
use Rattle.pua_tool.proofs.why.why_to.Goals as goal

pub returns : goal.returns
returns g c =
    let choice = choice_of c.args.table in
    let fields = map (λ field. field.now) c.args.fields.now in
    let worlds = c.in_ok-worlds.ensures.done in
    let asked = c.in_ok-text.ensures.done worlds.2 in
    record {
      text = answers_told g.S.Sink.written g.S.Sink.failed (why_text choice c.args.tree_bytes.now c.args.script_bytes.now c.args.process fields)
          c.as_str.result.now c.put_text.result c.args.sink.now c.put_text.new.sink
          (asked_is choice c.args.tree_bytes.now c.args.script_bytes.now c.args.process fields (as_served c.in_ok-worlds.worlds) asked.0 worlds.0 asked.1
          ∙ ap Ok (sym (c.as_str.ensures.value ∙ asked.2))) c.put_text.ensures;
    }
