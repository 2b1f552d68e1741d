use Rattle.pua_jointly.proofs.Common.{◌≡◌, ◌∙◌, ap, option_map, ProcessState, Some, sym, ℕ}
use Rattle.pua_calls.specs.declared.rules.ExecPromises.TheVariants.{Unset}
use Rattle.pua_policy.specs.States.{state_by_exec}
use Rattle.pua_ever.proofs.ForCallers.{bound_parts}
use Rattle.pua_ever.specs.Through.{bound_of}
use Rattle.pua_jointly.specs.Jointly.{as_started}
use Rattle.pua_jointly.proofs.starting.started.Goals as goal

pub returns-in_default : goal.returns-in_default
returns-in_default c = ap (option_map (as_started c.args.process.now)) (sym c.in_default.is ∙ c.bound.ensures)

pub returns : goal.returns
returns c =
    let h = c.args.process.now in
    let given : ℕ = c.in-Some.field-0 in
    let bound : bound_of c.args.table.now h ≡ Some given = sym c.bound.ensures ∙ c.in-Some.is in
    let parts = bound_parts c.args.table.now h given bound in
    ap Some (c.exec_by.ensures.state ∙ ap (λ (p : ProcessState). state_by_exec Unset p.execpromises p) c.in_ok-program.ensures
    ∙ ap (λ o. state_by_exec Unset o h) parts.set)
    ∙ sym (ap (option_map (as_started h)) bound)
