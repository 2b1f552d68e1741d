-- What is worked out once of what a process is allowed.
use Rattle.std.specs.Prelude.{◌≡◌, ◌<◌, ℕ, suc, slice_index}
use Rattle.pua_tree.specs.Kinds.{about_kind, kind_count}
use Rattle.pua_tree.specs.Tree.{Tree}
use Rattle.pua_calls.specs.Calls.{CallTable, rule_of}
use Rattle.pua_calls.specs.CallSets.{has}
use Rattle.pua_calls.specs.Promises.{holds}
use Rattle.pua_calls.specs.declared.call.Call.{Call}
use Rattle.pua_policy.specs.States.{ProcessState}
use Rattle.pua_policy.specs.Objects.{object_seen}
use Rattle.pua_policy.specs.Verdict.{Object, covered_verdict, is_allowed}
use Rattle.pua_policy.specs.declared.allowed_calls.AllowedCalls.{AllowedCalls}
use Rattle.pua_policy.specs.declared.object.Object as seen
use Rattle.pua_policy.specs.declared.object.Object.TheVariants as see
use Rattle.pua_policy.specs.declared.answer.Cover.TheVariants.{All}

-- where the calls on an object stand
abbrev pub place_of_object : seen.Object → ℕ
place_of_object (see.Node kind) = (about_kind kind).number
place_of_object see.Removable = kind_count
place_of_object see.Missing = suc kind_count

-- a set of the calls that need no other permissions than these
abbrev pub IsWithin : CallTable → ℕ → ℕ → Type 0
IsWithin table perms set = (call : Call) → has set call ≡ holds perms (rule_of table call).perms

-- the calls that are allowed on each object where everything is in view, and those that each set of permissions leaves
pub record AreWorkedOut (process : ProcessState) (table : CallTable) (sets : AllowedCalls) : Type 0 where
  pub everything : (t : Tree) (object : seen.Object) (judged : Object) → object ≡ object_seen t judged → (call : Call) →
      has (slice_index sets.in_view (place_of_object object)) call
      ≡ is_allowed (covered_verdict t table process call All judged)
  pub permitted : (perms : ℕ) → perms < 16 → IsWithin table perms (slice_index sets.within perms)
