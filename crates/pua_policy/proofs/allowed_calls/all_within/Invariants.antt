use Rattle.std.proofs.Common.{◌<◌, ℕ, slice_index}
use Rattle.pua_policy.specs.AllowedCalls.{IsWithin}
use Rattle.pua_policy.proofs.allowed_calls.all_within.Given as goal

-- of the sets of permissions so far each has its calls
abbrev pub invariant-loop-perms : goal.invariant-loop-perms
invariant-loop-perms l = record { so_far : (set : ℕ) → set < l.perms → IsWithin l.table set (slice_index l.within set) }
