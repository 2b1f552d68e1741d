use Rattle.pua_policy.proofs.Common.{None, sym, subst}
use Rattle.pua_policy.specs.History.{StandsFor}
use Rattle.pua_policy.proofs.Histories.{stands_by_exec}
use Rattle.pua_policy.proofs.process.Process.exec_by.Goals as goal

pub returns-clause-history : goal.returns-clause-history
returns-clause-history c = λ h s. rw c.left_for_exec-self-inside.ensures (stands_by_exec _ h (subst (λ p. StandsFor p h) (sym c.self.view_is) s)
    c.args.left _ c.in-Some.is)

pub returns-in_default-clause-history : goal.returns-in_default-clause-history
returns-in_default-clause-history c = λ h s. rw (c.in_default.is, c.clear.ensures.empty)
    (stands_by_exec _ h (subst (λ p. StandsFor p h) (sym c.self.view_is) s) c.args.left None c.in_default.is)
