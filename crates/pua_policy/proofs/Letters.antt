-- Letters only take away from what is allowed where everything is in view.
use Rattle.pua_policy.proofs.Common.{◌≡◌, ℕ, Bool, true, false, refl, Option, Some, None, Errno, holds, Tree, Call, ProcessState, rule_of}
use Rattle.pua_policy.proofs.Common.{if_promised, allowed_unless, All, Only}
use Rattle.std.specs.Prelude.{◌&&◌, if◌then◌else◌}
use Rattle.pua_path.specs.declared.errno.Errno.TheVariants.{EACCES}
use Rattle.pua_calls.specs.Calls.{CallTable}
use Rattle.pua_policy.specs.Verdict.{Object, covered_verdict, is_allowed, or_fault, object_fault}
use Rattle.pua_policy.specs.States.{may_any}
use Rattle.pua_policy.specs.declared.answer.May.{May}
use Rattle.pua_policy.specs.declared.answer.May.TheVariants.{Yes, Enosys, Death}

pub within_letters : (t : Tree) (table : CallTable) (p : ProcessState) (call : Call) (perms : ℕ) (judged : Object) →
    is_allowed (covered_verdict t table p call All judged) && holds perms (rule_of table call).perms
    ≡ is_allowed (covered_verdict t table p call (Only perms) judged)
within_letters t table p call perms judged =
    by (may_any p (rule_of table call).alternatives) (holds perms (rule_of table call).perms) (object_fault table.whose t call judged)
  where
    by : (m : May) (b : Bool) (o : Option Errno) → is_allowed (if_promised m (allowed_unless o)) && b
        ≡ is_allowed (if_promised m (allowed_unless (or_fault (if b then None else Some EACCES) o)))
    by Yes true None = refl
    by Yes true (Some x) = refl
    by Yes false None = refl
    by Yes false (Some x) = refl
    by Enosys true o = refl
    by Enosys false o = refl
    by Death true o = refl
    by Death false o = refl
