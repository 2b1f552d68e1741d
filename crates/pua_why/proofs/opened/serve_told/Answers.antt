use Rattle.pua_why.proofs.Common.{◌≡◌, ◌∙◌, sym, ap}
use Rattle.pua_script.specs.Requests.{Asked}
use Rattle.pua_script.specs.Worlds.{world_of}
use Rattle.pua_why.specs.Openings.{opener}
use Rattle.pua_why.proofs.ToldAnswers.{served_told, silent_told}
use Rattle.pua_why.proofs.opened.serve_told.Goals as goal

pub returns-then-says_nothing-clause-told : goal.returns-then-says_nothing-clause-told
returns-then-says_nothing-clause-told g c =
    silent_told c.args.world.now.table (world_of c.args.world.now) c.args.request.now (sym c.says_nothing.ensures ∙ c.if-says_nothing.true)

pub returns-clause-told : goal.returns-clause-told
returns-clause-told g c =
    let s = c.args.world.now in
    let asked : Asked = record { process = c.process.result; action = c.action.result.now } in
    let same : asked ≡ c.args.request.now = λ i. record { process = c.process.ensures.process i; action = c.action.ensures.action i } in
    served_told s c.args.request.now c.in-Ok.answer c.apply.new.self _ _ (sym c.says_nothing.ensures ∙ c.if-says_nothing.false)
    c.in-Ok.ensures.served (c.in_ok-promise.ensures ∙ ap (opener s.table (world_of s)) same) c.if_okay.ensures
