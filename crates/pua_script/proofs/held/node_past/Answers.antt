use Rattle.pua_script.proofs.Common.{sym, ap, ◌∙◌, node_named, Found, Decision}
use Rattle.pua_script.specs.Decide.{if_named}
use Rattle.pua_script.proofs.held.node_past.Goals as goal

pub returns-in-Ok : goal.returns-in-Ok
returns-in-Ok g c = λ further.
    let f : Found → Decision = λ object. further (node_named object) in
    ap further (c.node_named.ensures ∙ ap node_named c.lent.ensures) ∙ sym (c.judge_past.ensures f ∙ ap (λ r. if_named r f) c.in-Ok.is)

pub returns-in-Err : goal.returns-in-Err
returns-in-Err g c = λ further.
    let f : Found → Decision = λ object. further (node_named object) in
    sym (c.judge_past.ensures f ∙ ap (λ r. if_named r f) c.in-Err.is)
