use Rattle.pua_script.proofs.Common.{sym, ◌∙◌, rules, Fork}
use Rattle.std.specs.Prelude.{IsFalse}
use Rattle.pua_script.specs.Worlds.{is_of_two}
use Rattle.pua_script.specs.declared.request.Action.TheVariants.{Take}
use Rattle.pua_script.proofs.Serving.{answered, answered_okay, at_these, on_these, world_kept, processes_kept, as_asked}
use Rattle.pua_script.proofs.world.World.answer.Goals as goal

pub returns-in-Fork-clause-served : goal.returns-in-Fork-clause-served
returns-in-Fork-clause-served g c =
    let t = g.T.FileTree.content c.self.inside.tree in
    answered c.fork.result _ t _ (record { process = c.process-number.result; action = Fork c.in-Fork.new }) _ _ c.self.view_is
    (λ i. record { process = c.process-number.ensures.process i; action = (sym c.in-Fork.is ∙ c.action-action.ensures.action) i }) t _
    (at_these c.fork.result _ t c.self.inside.table c.fork.ensures.served)

pub returns-in-Fork-clause-memory : goal.returns-in-Fork-clause-memory
returns-in-Fork-clause-memory g c =
    let t = g.T.FileTree.content c.self.inside.tree in
    answered_okay c.fork.result _ t _ (record { process = c.process-number.result; action = Fork c.in-Fork.new }) _ _ c.self.view_is
    (λ i. record { process = c.process-number.ensures.process i; action = (sym c.in-Fork.is ∙ c.action-action.ensures.action) i })
    (on_these c.fork.result _ t c.self.inside.table c.fork.ensures.memory)

pub returns-in-Fork-clause-unchanged : goal.returns-in-Fork-clause-unchanged
returns-in-Fork-clause-unchanged g c = processes_kept c.fork.result _ _ _ _ _ c.self.view_is c.fork.ensures.unchanged

pub returns-in-Take-clause-served : goal.returns-in-Take-clause-served
returns-in-Take-clause-served g c =
    let t = g.T.FileTree.content c.self.inside.tree in
    answered c.take.result _ t _ (record { process = c.process-number.result; action = Take c.in-Take.descriptor c.in-Take.from c.in-Take.theirs })
    _ _ c.self.view_is
    (λ i. record { process = c.process-number.ensures.process i; action = (sym c.in-Take.is ∙ c.action-action.ensures.action) i }) t _
    (at_these c.take.result _ t c.self.inside.table c.take.ensures.served)

pub returns-in-Take-clause-memory : goal.returns-in-Take-clause-memory
returns-in-Take-clause-memory g c =
    let t = g.T.FileTree.content c.self.inside.tree in
    answered_okay c.take.result _ t _ (record { process = c.process-number.result; action = Take c.in-Take.descriptor c.in-Take.from c.in-Take.theirs })
    _ _ c.self.view_is
    (λ i. record { process = c.process-number.ensures.process i; action = (sym c.in-Take.is ∙ c.action-action.ensures.action) i })
    (on_these c.take.result _ t c.self.inside.table c.take.ensures.memory)

pub returns-in-Take-clause-unchanged : goal.returns-in-Take-clause-unchanged
returns-in-Take-clause-unchanged g c = processes_kept c.take.result _ _ _ _ _ c.self.view_is c.take.ensures.unchanged

pub returns-in_default : goal.returns-in_default
returns-in_default g c =
    let same = as_asked c.process-number.result c.action-action.result.now _ c.process-number.ensures.process c.action-action.ensures.action in
    let alone : IsFalse (is_of_two c.action-action.result.now) = search rules in
    record {
      served = answered c.serve.result _ _ _ _ _ _ c.self.view_is same _ _ (c.serve.ensures.served alone);
      memory = answered_okay c.serve.result _ _ _ _ _ _ c.self.view_is same (c.serve.ensures.memory alone);
      unchanged = world_kept c.serve.result _ _ _ _ _ _ c.self.view_is c.serve.ensures.unchanged;
    }
