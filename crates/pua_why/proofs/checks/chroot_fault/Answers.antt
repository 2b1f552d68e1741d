use Rattle.pua_why.proofs.Common.{rules}
use Rattle.pua_script.specs.Decide.{rooting}
use Rattle.pua_why.proofs.Needing.{promises_passed}
use Rattle.pua_why.proofs.checks.chroot_fault.Goals as goal

pub returns : goal.returns
returns g c =
    promises_passed c.promise_fault-fault.result c.object_fault.result _ _ (search rules) c.promise_fault-fault.ensures
    (c.object_fault.ensures rooting)
