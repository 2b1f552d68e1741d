use Rattle.pua_texts.proofs.Common.{refl, string_bytes, codes, with_end}
use Rattle.pua_texts.specs.BesideLines.{beside_bounds}
use Rattle.pua_texts.specs.Members.{beside_of}
use Rattle.pua_texts.specs.States.{held_lines}
use Rattle.pua_texts.proofs.Outcomes.{ok_text}
use Rattle.pua_texts.proofs.States.{text_more}
use Rattle.pua_texts.proofs.beside_list.push_living.Goals as goal

pub returns : goal.returns
returns c =
    let b = beside_of c.args.helped.now in
    let old = string_bytes c.args.text.now in
    let alive = string_bytes c.push_line.new.text in
    let held = string_bytes c.push_held.new.text in
    ok_text c.push_bounds.result (string_bytes c.push_bounds.new.text)
    (text_more old _ (beside_bounds c.args.rules c.args.root.now b) held _ (text_more old (with_end (codes "process alive")) (held_lines c.args.rules b.process)
    alive held c.in_ok-push_line.ensures c.in_ok-push_held.ensures) refl) c.push_bounds.ensures
