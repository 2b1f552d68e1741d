use Rattle.std.proofs.Common.{◌∙◌, sym, subst}
use Rattle.std.proofs.Common.{rules, tests}
use Rattle.std.proofs.lemmas.Iterator.{YieldsList-from_slice}
use Rattle.std.proofs.lemmas.Iterator.Search.{any_from_yields_List}
use Rattle.pua_calls.specs.CallSets.{has}
use Rattle.pua_calls.specs.declared.call.Call.TheVariants.{Exec}
use Rattle.pua_ever.specs.Laws.{EditsNeedC, NoLineHasExec}
use Rattle.pua_examples.proofs.Starts.{never_starts, none_has_exec}
use Rattle.pua_examples.proofs.calling.can_ever_start.Goals as goal

pub returns-clause-never : goal.returns-clause-never
returns-clause-never g c = λ none.
    let t = g.T.FileTree.content c.args.tree.now in
    let wide = c.with_tmppath-wide.result in
    subst (λ table. NoLineHasExec t table c.args.process.now) c.with_tmppath-wide.ensures
    (none_has_exec t wide c.args.process.now c.in_ok-rows.rows.items c.in_ok-rows.ensures.rows
    (sym (any_from_yields_List (λ row. has row.line.calls Exec) _ _ _ c.any.ensures.ran (YieldsList-from_slice c.in_ok-rows.rows.items cc)
    (λ x b q k. search (rules, tests))) ∙ none))

pub returns-clause-none : goal.returns-clause-none
returns-clause-none g c = λ none.
    never_starts c.ever_law.ensures.exec (g.T.FileTree.content c.args.tree.now) c.args.process.now c.args.table.now
    c.known.ensures.no_error (subst EditsNeedC c.with_tmppath-wide.ensures c.in_ok-rows.ensures.table) (returns-clause-never g c none)
