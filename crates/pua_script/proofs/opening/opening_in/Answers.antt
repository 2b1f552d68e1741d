use Rattle.pua_script.proofs.Common.{◌≡◌, rules, ◌∙◌, ap, map, option_map, ◌&&◌, holds, list_all, true}
use Rattle.std.proofs.Common.{tests}
use Rattle.std.specs.List.{find}
use Rattle.std.proofs.lemmas.Iterator.{YieldsList-from_slice}
use Rattle.std.proofs.lemmas.Iterator.Search.{find_from_yields_List}
use Rattle.pua_script.specs.Openings.{is_opening, opening_seen, opens_call}
use Rattle.pua_script.proofs.Openers.{find_seen, has_bits, held_first, seen_twice}
use Rattle.pua_script.proofs.opening.opening_in.Goals as goal

pub returns : goal.returns
returns c =
    let rows = c.as_slice.result.now in
    let have : list_all has_bits rows ≡ true = ap (list_all has_bits) c.as_slice.ensures in
    seen_twice opening_seen c.find.result
    ∙ ap (option_map opening_seen) (find_from_yields_List
    (λ row. holds c.args.promises row.bits && opens_call c.args.call c.args.text.now (opening_seen row)) _ _ c.find.result c.find.ensures.ran
    (YieldsList-from_slice rows cc) (λ x b q k. search (rules, tests))
    ∙ held_first c.args.promises c.args.call c.args.text.now rows have)
    ∙ find_seen opening_seen (is_opening c.args.promises c.args.call c.args.text.now) rows
    ∙ ap (λ seen. find (is_opening c.args.promises c.args.call c.args.text.now) (map opening_seen seen)) c.as_slice.ensures
