use Rattle.std.proofs.Common.{Option, sym, subst, ◌∙◌}
use Rattle.std.specs.Prelude.{IfSome}
use Rattle.pua_how.specs.Served.{IsCall, IsLine}
use Rattle.pua_how.specs.declared.line.WayLine.{WayLine}
use Rattle.pua_how.proofs.Granting.{asked_by, last_one}
use Rattle.pua_how.proofs.Staying.{look_kept}
use Rattle.pua_how.proofs.serve.serve_last.Goals as goal

pub returns-clause-way : goal.returns-clause-way
returns-clause-way g c = λ before granted.
    last_one c.args.rules before c.args.world.now c.answered.new.world c.args.process c.args.served.now.lines.items c.in-Some.line granted
    (subst (λ (o : Option WayLine). IfSome o (IsLine c.args.rules c.args.process)) c.in-Some.is c.in_ok-line.ensures.own)
    c.in_ok-answered.field-0 c.in-Okay.is c.in_ok-answered.ensures c.args.call c.args.target.now
    (asked_by c.args.world.now c.args.process c.args.call c.args.target.now c.in-Some.line.request (sym c.is_asked.ensures ∙ c.if-not-is_asked.false))

pub returns-clause-kept : goal.returns-clause-kept
returns-clause-kept g c = λ looks.
    let asked : IsCall c.args.world.now c.args.process c.args.call c.args.target.now c.in-Some.line.request =
    asked_by c.args.world.now c.args.process c.args.call c.args.target.now c.in-Some.line.request (sym c.is_asked.ensures ∙ c.if-not-is_asked.false) in
    look_kept c.args.world.now c.answered.new.world c.in-Some.line.request c.args.call asked.text c.in_ok-answered.field-0
    c.in_ok-answered.ensures c.in-Okay.is asked.called looks
