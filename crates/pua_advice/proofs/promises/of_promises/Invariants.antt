use Rattle.std.proofs.Common.{◌≡◌, length, eqb, drop}
use Rattle.std.specs.List.{slice_split}
use Rattle.pua_advice.specs.Advice.{keywords_advice, uses_advice}
use Rattle.pua_advice.proofs.promises.of_promises.Given as goal

abbrev pub invariant-loop-word : goal.invariant-loop-word
invariant-loop-word l =
    keywords_advice l.fn.call l.sets.items (drop (length l.yielded) (slice_split (λ b. eqb b 124) l.fn.field)) ≡ uses_advice l.fn.call l.fn.field
