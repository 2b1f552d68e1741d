use Rattle.pua_script.proofs.Common.{◌≡◌, length, eqb}
use Rattle.std.proofs.Common.{drop}
use Rattle.std.specs.List.{slice_split}
use Rattle.pua_script.specs.Scripts.{sets_in, sets_of}
use Rattle.pua_script.proofs.any_of.read_any_of.Given as goal

abbrev pub invariant-loop-word : goal.invariant-loop-word
invariant-loop-word l =
    sets_of l.fn.number l.sets.items (drop (length l.yielded) (slice_split (λ b. eqb b 124) l.fn.field)) ≡ sets_in l.fn.number l.fn.field
