use Rattle.pua_calls.proofs.Common.{◌≡◌, length, slice_split, ◌==◌, promise_of, union_of}
use Rattle.std.specs.Prelude.{map}
use Rattle.pua_calls.proofs.Sets.{with_rest}
use Rattle.pua_calls.proofs.promises.named.Given as goal

abbrev pub invariant-loop-word : goal.invariant-loop-word
invariant-loop-word l =
    with_rest promise_of (slice_split (λ b. b == 44) l.text) l.promises (length l.yielded)
    ≡ union_of (map promise_of (slice_split (λ b. b == 44) l.text))
