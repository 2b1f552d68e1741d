use Rattle.pua_texts.proofs.Common.{refl, string_bytes, codes, with_end}
use Rattle.pua_texts.specs.States.{bound_lines, held_lines}
use Rattle.pua_texts.proofs.Outcomes.{ok_text}
use Rattle.pua_texts.proofs.States.{text_more}
use Rattle.pua_texts.proofs.state.push_living.Goals as goal

pub returns : goal.returns
returns c =
    let h = c.args.process.now in
    let head = c.args.heading in
    let old = string_bytes c.args.text.now in
    let alive = string_bytes c.push_line.new.text in
    let held = string_bytes c.push_held.new.text in
    ok_text c.push_bounds.result (string_bytes c.push_bounds.new.text)
    (text_more old _ (bound_lines head.rules head.time c.args.root.now h) held _ (text_more old (with_end (codes "process alive")) (held_lines head.rules h)
    alive held c.in_ok-push_line.ensures c.in_ok-push_held.ensures) refl) c.push_bounds.ensures
