use Rattle.pua_audit.proofs.Common.{◌≡◌, ◌<◌, ℕ, List, [], Some, length, get_or, bytes_eq, get_by}
use Rattle.std.proofs.Common.{IfSome}
use Rattle.pua_audit.proofs.table.placed.placed.Given as goal

abbrev pub invariant-loop-place : goal.invariant-loop-place
invariant-loop-place l = record {
  each : (letter : ℕ) → letter < l.place → get_by (λ k. bytes_eq (get_or l.letters letter []) k.now) l.places
      ≡ Some letter;
  within : (bytes : List ℕ) → IfSome (get_by (λ k. bytes_eq bytes k.now) l.places) (λ place. place < length l.letters);
}
