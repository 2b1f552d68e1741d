use Rattle.pua_calls.proofs.Common.{◌≡◌, ◌∙◌, ap, sym, rules, tests, YieldsList-from_slice, same_bytes}
use Rattle.std.proofs.Common.{option_map}
use Rattle.std.specs.Prelude.{find}
use Rattle.std.proofs.lemmas.Iterator.Search.{find_from_yields_List}
use Rattle.pua_calls.proofs.Neighbours.{neighbour_seen}
use Rattle.pua_calls.proofs.neighbour.neighbour_in.Goals as goal

pub returns-in_err-row : goal.returns-in_err-row
returns-in_err-row c = λ is.
    let found : c.copied.result ≡ find (λ row. same_bytes row.name.now c.args.word.now) c.args.rows.now =
    c.copied.ensures
    ∙ find_from_yields_List (λ row. same_bytes row.name.now c.args.word.now) _ _ c.find.result c.find.ensures.ran
    (YieldsList-from_slice c.args.rows.now cc) (λ x b q k. search (rules, tests)) in
    c.from_residual.ensures
    ∙ sym (neighbour_seen (λ row. (row.name.now, row.call)) c.args.rows.now c.args.word.now is
    ∙ ap (option_map (λ row. row.call)) (sym found ∙ c.in_err-row.was))

pub returns : goal.returns
returns c = λ is.
    let found : c.copied.result ≡ find (λ row. same_bytes row.name.now c.args.word.now) c.args.rows.now =
    c.copied.ensures
    ∙ find_from_yields_List (λ row. same_bytes row.name.now c.args.word.now) _ _ c.find.result c.find.ensures.ran
    (YieldsList-from_slice c.args.rows.now cc) (λ x b q k. search (rules, tests)) in
    sym (neighbour_seen (λ row. (row.name.now, row.call)) c.args.rows.now c.args.word.now is
    ∙ ap (option_map (λ row. row.call)) (sym found ∙ c.in_ok-row.was))
