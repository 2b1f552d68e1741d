use Rattle.std.proofs.Common.{Option, List, ◌∷◌, ◌++◌, [], sym, subst}
use Rattle.std.specs.Prelude.{IfSome}
use Rattle.pua_how.specs.Served.{AreWay}
use Rattle.pua_how.specs.declared.line.WayLine.{WayLine}
use Rattle.pua_how.proofs.serve.serve_way.Goals as goal

pub returns-clause-way : goal.returns-clause-way
returns-clause-way g c =
    let granted = rw c.in-Some-2.is at c.in_ok-served.ensures.granted in
    let is : List WayLine → Type 0 = AreWay c.args.rules c.args.world.now c.args.process c.args.call c.args.target.now in
    subst is (sym c.in_ok-push.ensures.items)
    (subst (λ (o : Option WayLine). IfSome o (λ line. is (c.in-Some-2.served.lines.items ++ line ∷ []))) c.in-Some-line.is
    (c.in_ok-line.ensures.way c.args.world.now granted))
