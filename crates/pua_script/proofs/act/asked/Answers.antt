use Rattle.pua_script.proofs.Common.{sym, ap, ◌∙◌, OnPath, None}
use Rattle.std.specs.Prelude.{Err}
use Rattle.std.specs.Result.{result_err}
use Rattle.pua_script.proofs.Acting.{acts, opened_by}
use Rattle.pua_script.proofs.Doing.{promises_allow, promises_refuse}
use Rattle.pua_script.proofs.act.asked.Goals as goal

pub returns-in-Err-clause-exact : goal.returns-in-Err-clause-exact
returns-in-Err-clause-exact g c = λ none.
    acts c.args.table.now _ c.args.process.now (OnPath c.args.call c.args.path.now) (Err c.in-Err.refusal)
    (sym (promises_refuse _ c.in-Err.refusal _ (sym c.promised_for.ensures.state ∙ ap result_err c.in-Err.is))
    ∙ opened_by c.args.table.now _ c.args.process.now c.args.call c.args.path.now None none)
    _ _ c.answer.result c.answer.ensures.exact

pub returns-clause-exact : goal.returns-clause-exact
returns-clause-exact g c = λ none.
    let t = g.T.FileTree.content c.args.tree.now in
    c.unasked.ensures.exact (sym (opened_by c.args.table.now t c.args.process.now c.args.call c.args.path.now None none)
    ∙ promises_allow _ _ (sym c.promised_for.ensures.state ∙ ap result_err c.in_default.is))
