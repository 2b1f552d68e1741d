use Rattle.pua_calls.proofs.Common.{◌∙◌, ap}
use Rattle.std.specs.Option.{option_or}
use Rattle.pua_calls.specs.Calls.{call_named_by}
use Rattle.pua_calls.proofs.call.Call.asked_by.Goals as goal

pub returns : goal.returns
returns c =
    c.or.ensures
    ∙ ap (λ o. option_or o c.neighbour_by.result) c.read_by.ensures
    ∙ ap (option_or (call_named_by c.args.rules c.args.word.now)) c.neighbour_by.ensures
