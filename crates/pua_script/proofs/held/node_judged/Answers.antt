use Rattle.pua_script.proofs.Common.{sym, ap, ◌∙◌, node_named, Found, Decision}
use Rattle.pua_path.specs.Walks.{founds_seen}
use Rattle.pua_script.specs.Decide.{if_named}
use Rattle.pua_script.proofs.held.node_judged.Goals as goal

pub returns-in-Ok : goal.returns-in-Ok
returns-in-Ok g c = λ further.
    let f : Found → Decision = λ object. further (node_named object) in
    ap further c.node_named.ensures ∙ sym (c.judge_object.ensures f ∙ ap (λ r. if_named (founds_seen r) f) c.in-Ok.is)

pub returns-in-Err : goal.returns-in-Err
returns-in-Err g c = λ further.
    let f : Found → Decision = λ object. further (node_named object) in
    sym (c.judge_object.ensures f ∙ ap (λ r. if_named (founds_seen r) f) c.in-Err.is)
