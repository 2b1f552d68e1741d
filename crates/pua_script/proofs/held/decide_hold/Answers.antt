use Rattle.pua_script.proofs.Common.{ap, ◌∙◌, Ok, asker_of}
use Rattle.std.proofs.lemmas.Result.{err_from_is_err_and}
use Rattle.pua_script.specs.Decide.{filing}
use Rattle.pua_script.proofs.held.decide_hold.Goals as goal

pub returns : goal.returns
returns g c =
    c.filing.ensures (asker_of c.args.process.now) ∙ ap (λ file. Ok (filing c.args.number file)) c.file_opened.ensures
    ∙ c.in_ok-node.ensures c.args.number

pub returns-in_err-node : goal.returns-in_err-node
returns-in_err-node g c =
    let p = err_from_is_err_and c.from_residual.result c.from_residual.ensures.1 in
    rw (p.1, p.2) (c.in_err-node.ensures c.args.number)
