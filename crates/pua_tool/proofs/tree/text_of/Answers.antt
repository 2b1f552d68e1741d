use Rattle.pua_tool.proofs.Common.{◌≡◌, ◌≢◌, ◌∙◌, ap, sym, Err, err_from_is_err_and, ◌>>=◌, choice_of, OutOfMemory}
use Rattle.pua_listing.specs.Listed.{listed}
use Rattle.pua_tool.specs.TreeTexts.{as_listed, list_fault, tree_text}
use Rattle.pua_tool.proofs.tree.text_of.Goals as goal

pub returns-in_err-replay-clause-refused : goal.returns-in_err-replay-clause-refused
returns-in_err-replay-clause-refused c =
    let fault = c.in_err-replay.field-0.0 in
    let refuses : fault ≢ OutOfMemory → tree_text (choice_of c.args.table) c.args.tree_bytes.now c.args.script_bytes.now ≡ Err fault =
    λ other.
    λ i. c.in_err-replay.ensures.refused other i >>= λ done. as_listed (listed done.world.tree) in
    let p = err_from_is_err_and c.from_residual.result c.from_residual.ensures.1 in
    rw (p.1, p.2) refuses

pub returns-clause-done : goal.returns-clause-done
returns-clause-done c =
    (λ i. c.in_ok-replay.ensures.done i >>= λ done. as_listed (listed done.world.tree))
    ∙ ap as_listed (ap listed (sym c.tree.ensures) ∙ c.in_ok-text.ensures.text)

pub returns-in_err-text-clause-refused : goal.returns-in_err-text-clause-refused
returns-in_err-text-clause-refused c =
    let p = err_from_is_err_and c.from_residual-in_err-text.result c.from_residual-in_err-text.ensures.1 in
    rw (p.1, p.2) (λ other.
    (λ i. c.in_ok-replay.ensures.done i >>= λ done. as_listed (listed done.world.tree))
    ∙ ap as_listed (ap listed (sym c.tree.ensures) ∙ c.in_err-text.ensures.fault (λ is. other (ap list_fault is))))
