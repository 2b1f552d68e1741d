use Rattle.pua_texts.proofs.Common.{◌++◌, [], ℕ, Bool, ap, append-nil, sym, ◌∙◌, string_bytes}
use Rattle.std.specs.Prelude.{if◌then◌else◌}
use Rattle.pua_calls.specs.Promises.{keywords_of}
use Rattle.pua_texts.specs.Openings.{opening_lines}
use Rattle.pua_texts.specs.States.{opening_set}
use Rattle.pua_texts.proofs.Outcomes.{ok_text}
use Rattle.pua_texts.proofs.state.push_opened.Goals as goal

pub returns-then-has_openings : goal.returns-then-has_openings
returns-then-has_openings c =
    let old = string_bytes c.args.text.now in
    let told = opening_lines (keywords_of (opening_set c.args.time c.args.process.now)) in
    ok_text c.push_openings.result (string_bytes c.push_openings.new.text)
    (ap (λ (set : ℕ). old ++ opening_lines (keywords_of set)) c.opening_promises.ensures
    ∙ ap (λ (b : Bool). old ++ (if b then told else [])) (sym c.if-has_openings.true ∙ c.has_openings.ensures))
    c.push_openings.ensures

pub returns-else-has_openings : goal.returns-else-has_openings
returns-else-has_openings c =
    let old = string_bytes c.args.text.now in
    let told = opening_lines (keywords_of (opening_set c.args.time c.args.process.now)) in
    sym (append-nil old) ∙ ap (λ (b : Bool). old ++ (if b then told else [])) (sym c.if-has_openings.false ∙ c.has_openings.ensures)
