-- What contracts see of who holds what a process held and what it hands down.
use Rattle.std.specs.Prelude.{◌≡◌, ℕ, Some}
use Rattle.pua_calls.specs.Calls.{CallTable}
use Rattle.pua_calls.specs.CallSets.{has}
use Rattle.pua_calls.specs.declared.call.Call.{Call}
use Rattle.pua_policy.specs.States.{ProcessState, Locked, state_after, with_both}
use Rattle.pua_ever.specs.Through.{bound_of, is_promised_by_one}
use Rattle.pua_ever.specs.declared.lasting.BoundedExec.{BoundedExec}

pub record IsBoundedExec (table : CallTable) (h : ProcessState) (both : BoundedExec) : Type 0 where
  pub given : ℕ
  pub bound : bound_of table h ≡ Some given
  pub process : both.process ≡ state_after Locked (with_both h given)
  pub passes : (call : Call) → has both.passes call ≡ is_promised_by_one table h given call
