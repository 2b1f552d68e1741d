use Rattle.pua_script.proofs.Common.{ℕ, List, ap, Result, Tree, ProcessState, Refusal, asker_of, Effect, come_of, Granted}
use Rattle.pua_script.specs.Judged.{decision_for}
use Rattle.pua_script.proofs.Doing.{as_same, attempts_same}
use Rattle.pua_script.proofs.act.answer.Goals as goal

-- what becomes of what was granted, or refused
comes : Tree → List (ℕ × ProcessState) → ProcessState → Result Granted Refusal → Effect
comes t processes h granted = come_of (record { tree = t; processes = processes }) h (decision_for (asker_of h) granted)

pub returns-in-Ok-clause-exact : goal.returns-in-Ok-clause-exact
unfolding comes
returns-in-Ok-clause-exact g c = λ processes.
    let t = g.T.FileTree.content c.args.tree.now in
    attempts_same t _ c.args.process.now c.make.result _ _ _ (ap (comes t processes c.args.process.now) c.in-Ok.is) (c.make.ensures.exact processes)

pub returns-in-Err-clause-exact : goal.returns-in-Err-clause-exact
unfolding comes
returns-in-Err-clause-exact g c = λ processes.
    let t = g.T.FileTree.content c.args.tree.now in
    as_same t t c.args.process.now c.refuse.result _ _ _ (ap (comes t processes c.args.process.now) c.in-Err.is) (c.refuse.ensures t)
