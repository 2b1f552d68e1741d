use Rattle.std.proofs.Common.{◌∙◌, sym, ap, Some, slice_set}
use Rattle.std.proofs.lemmas.Bool.{ltb-false, ltb-true}
use Rattle.std.proofs.lemmas.Option.{slice_get_past, slice_get-get_or}
use Rattle.pua_tight.proofs.Trying.{beyond_back, set_back}
use Rattle.pua_tight.proofs.trial.put_back.Goals as goal

pub returns-in-Some : goal.returns-in-Some
returns-in-Some c =
    let seen = c.in-Some.ensures.item in
    ap (slice_set c.args.requests.now.items c.args.line) c.give.ensures
    ∙ set_back c.args.requests.now.items c.args.line c.args.arguments c.in-Some.request.now
    (slice_get-get_or _ _ _ (ltb-true _ _ (sym seen.0)) ∙ ap Some (sym seen.1))

pub returns-in_default : goal.returns-in_default
returns-in_default c =
    beyond_back c.args.requests.now.items c.args.line c.args.arguments
    (slice_get_past _ _ (ltb-false _ _ (sym c.in_default.ensures.item.0)))
