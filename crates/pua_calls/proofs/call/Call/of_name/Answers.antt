use Rattle.pua_calls.proofs.Common.{◌∙◌, rules, tests, YieldsList-from_slice, same_bytes, calls}
use Rattle.std.proofs.lemmas.Iterator.Search.{find_from_yields_List}
use Rattle.pua_calls.specs.Calls.{call_name}
use Rattle.pua_calls.proofs.call.Call.of_name.Goals as goal

pub returns : goal.returns
returns c =
    c.copied.ensures
    ∙ find_from_yields_List (λ call. same_bytes (call_name call) c.args.word.now) _ _ c.find.result c.find.ensures.ran
    (YieldsList-from_slice calls cc) (λ x b q k. search (rules, tests))
