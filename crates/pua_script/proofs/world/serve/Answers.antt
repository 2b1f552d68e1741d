use Rattle.pua_script.proofs.Common.{sym, ◌∙◌}
use Rattle.pua_script.proofs.Serving.{all_serve, all_okay, all_kept, unserved}
use Rattle.pua_script.proofs.world.serve.Goals as goal

pub returns-in-Some-clause-served : goal.returns-in-Some-clause-served
returns-in-Some-clause-served g c alone =
    all_serve c.args.table.now (g.T.FileTree.content c.args.tree.now) c.args.processes.now.entries
    (record { process = c.args.number; action = c.args.action.now }) c.in-Some.process.now (sym c.in-Some.ensures.value)
    (sym c.ended.ensures.state ∙ c.if-not-ended.true) c.act.result _ c.act.new.process _ (c.get_mut.follows.holds c.act.new.process).0
    (c.act.ensures.exact alone)

pub returns-in-Some-clause-unchanged : goal.returns-in-Some-clause-unchanged
returns-in-Some-clause-unchanged g c =
    all_kept c.act.result _ _ c.args.number c.in-Some.process.now c.act.new.process c.args.processes.now.entries _ c.in-Some.ensures.value
    (c.get_mut.follows.holds c.act.new.process).0 c.act.ensures.unchanged

pub returns-in-Some-clause-memory : goal.returns-in-Some-clause-memory
returns-in-Some-clause-memory g c alone =
    all_okay c.args.table.now (g.T.FileTree.content c.args.tree.now) c.args.processes.now.entries
    (record { process = c.args.number; action = c.args.action.now }) c.in-Some.process.now (sym c.in-Some.ensures.value)
    (sym c.ended.ensures.state ∙ c.if-not-ended.true) c.act.result _ c.act.new.process (c.act.ensures.exact alone)

pub returns-in_default-clause-served : goal.returns-in_default-clause-served
returns-in_default-clause-served g c alone =
    unserved c.args.table.now (g.T.FileTree.content c.args.tree.now) c.args.processes.now.entries
    (record { process = c.args.number; action = c.args.action.now }) c.in-Some.process.now _ c.in-Some.ensures.value
    (sym c.ended.ensures.state ∙ c.if-not-ended.false) (c.get_mut.follows.holds c.in-Some.process.now).0
