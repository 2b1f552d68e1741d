use Rattle.pua_steps.proofs.Common.{arith}
use Rattle.pua_steps.proofs.Costing.{pairs_by, cost_by}
use Rattle.pua_steps.proofs.walk.Walk.next_call.Goals as goal

pub returns-clause-line : goal.returns-clause-line
returns-clause-line c = let got = c.go_on.ensures.next in pairs_by c.args.self.now c.go_on.new.self c.go_on.result got.0 got.1.1.next

pub returns-clause-cost : goal.returns-clause-cost
returns-clause-cost c = let got = c.go_on.ensures.next in
    omega (arith, got.1.0.0, cost_by c.args.self.now c.go_on.new.self c.requires.ready c.go_on.result got.0 got.1.1.next)

pub returns-clause-count : goal.returns-clause-count
returns-clause-count c = let got = c.go_on.ensures.next in (got.0, (got.1.0, record { next = got.1.1.next }))

pub returns-clause-stays : goal.returns-clause-stays
returns-clause-stays c = λ some. ((c.go_on.ensures.stays some).0, omega (arith, (c.go_on.ensures.stays some).1, c.len-self.ensures))
