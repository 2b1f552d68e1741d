use Rattle.std.proofs.Common.{List, Option, sym, ap, subst, ◌∙◌}
use Rattle.std.specs.Prelude.{IfSome}
use Rattle.pua_how.specs.Served.{AreGranted, IsLine}
use Rattle.pua_how.specs.Steps.{made_behind}
use Rattle.pua_how.specs.declared.line.WayLine.{WayLine}
use Rattle.pua_how.proofs.Granting.{one_more}
use Rattle.pua_how.proofs.StepsComeToCall.{exec_on, none_on, refused_on, step_on}
use Rattle.pua_how.proofs.serve.serve_first.Goals as goal

pub loop-step-preserved : goal.loop-step-preserved
loop-step-preserved g c = record {
  granted = subst (λ (lines : List WayLine). AreGranted c.args.rules c.args.world.now c.args.process lines c.answered.new.world) (sym c.in_ok-push.ensures.items)
      (one_more c.args.rules c.args.world.now c.loop-step.world c.answered.new.world c.args.process c.loop-step.lines.items c.in-Some.line
      c.loop-step.invariant.granted
      (subst (λ (o : Option WayLine). IfSome o (IsLine c.args.rules c.args.process)) c.in-Some.is c.in_ok-line.ensures.own)
      c.in_ok-answered.field-0 c.in-Okay.is c.in_ok-answered.ensures (sym c.is_exec.ensures ∙ c.if-is_exec.false));
  on = step_on c.args.rules c.args.world.now c.loop-step.world c.args.process c.args.steps.now c.loop-step.step-index c.step-item.result
      c.loop-step.made c.loop-step.invariant.on c.loop-step-test.true c.step-item.is
      (g.T.FileTree.content c.tree.result.now) c.tree.ensures c.start_of-from.result c.start_of-from.ensures c.in_ok-line.line c.in_ok-line.ensures.asked c.in-Some.line c.in-Some.is
      c.in_ok-answered.field-0 c.answered.new.world c.in_ok-answered.ensures (sym c.is_exec.ensures ∙ c.if-is_exec.false) c.in-Okay.is
      c.made_by-made.result
      (c.made_by-made.ensures ∙ ap (λ t. made_behind t c.loop-step.made c.step-item.result) c.tree-in-loop-step.ensures);
}

pub returns-in_default-clause-on : goal.returns-in_default-clause-on
returns-in_default-clause-on g c = λ call target last.
    none_on c.args.rules c.args.world.now c.loop-step.world c.args.process c.args.steps.now c.loop-step.step-index c.step-item.result
    c.loop-step.made c.loop-step.invariant.on c.loop-step-test.true c.step-item.is
    (g.T.FileTree.content c.tree.result.now) c.tree.ensures c.start_of-from.result c.start_of-from.ensures c.in_ok-line.line c.in_ok-line.ensures.asked call target last
    c.in_default.not-Some

pub returns-then-is_exec-clause-on : goal.returns-then-is_exec-clause-on
returns-then-is_exec-clause-on g c =
    exec_on c.args.rules c.args.world.now c.loop-step.world c.args.process c.args.steps.now c.loop-step.step-index c.step-item.result
    c.loop-step.made c.loop-step.invariant.on c.loop-step-test.true c.step-item.is
    (g.T.FileTree.content c.tree.result.now) c.tree.ensures c.start_of-from.result c.start_of-from.ensures c.in_ok-line.line c.in_ok-line.ensures.asked
    c.in-Some.line c.in-Some.is (sym c.is_exec.ensures ∙ c.if-is_exec.true)

pub returns-in_default-2 : goal.returns-in_default-2
returns-in_default-2 g c = record {
  granted = tt;
  on = refused_on c.args.rules c.args.world.now c.loop-step.world c.args.process c.args.steps.now c.loop-step.step-index c.step-item.result
      c.loop-step.made c.loop-step.invariant.on c.loop-step-test.true c.step-item.is
      (g.T.FileTree.content c.tree.result.now) c.tree.ensures c.start_of-from.result c.start_of-from.ensures c.in_ok-line.line c.in_ok-line.ensures.asked
      c.in-Some.line c.in-Some.is c.in_ok-answered.field-0 c.answered.new.world c.in_ok-answered.ensures
      (sym c.is_exec.ensures ∙ c.if-is_exec.false) c.in_default-2.not-Okay;
}
