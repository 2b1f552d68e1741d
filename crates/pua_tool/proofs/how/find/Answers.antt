use Rattle.pua_tool.proofs.Common.{refl, sym, err_from_is_err_and}
use Rattle.std.specs.Prelude.{vec_items}
use Rattle.pua_tool.proofs.HowTexts.{served_found}
use Rattle.pua_tool.proofs.how.find.Goals as goal

pub returns-in_default-clause-refused : goal.returns-in_default-clause-refused
returns-in_default-clause-refused c = λ other. (refl, sym c.in_default.ensures)

pub returns-in_err-planner-clause-refused : goal.returns-in_err-planner-clause-refused
returns-in_err-planner-clause-refused c =
    let p = err_from_is_err_and c.from_residual.result c.from_residual.ensures.1 in
    rw p.1 (λ other. absurd (other p.2))

pub returns-in_err-plans-clause-refused : goal.returns-in_err-plans-clause-refused
returns-in_err-plans-clause-refused c =
    let p = err_from_is_err_and c.from_residual-in_err-plans.result c.from_residual-in_err-plans.ensures.1 in
    rw p.1 (λ other. absurd (other p.2))

pub returns-in_err-serve-clause-refused : goal.returns-in_err-serve-clause-refused
returns-in_err-serve-clause-refused c =
    let p = err_from_is_err_and c.from_residual-in_err-serve.result c.from_residual-in_err-serve.ensures.1 in
    rw p.1 (λ other. absurd (other p.2))

pub returns-clause-way : goal.returns-clause-way
returns-clause-way c = served_found vec_items c.args.rules c.args.replay.now c.args.number c.args.question.now c.in_ok-serve.field-0 c.in_ok-serve.ensures.way

pub returns-clause-none : goal.returns-clause-none
returns-clause-none c = c.in_ok-serve.ensures.none
