use Rattle.pua_calls.proofs.Common.{ap, ◌∙◌}
use Rattle.std.specs.Int.Bits.{bit_xor, and_lt}
use Rattle.std.proofs.lemmas.Nat.{xor_lt}
use Rattle.pua_calls.specs.Promises.{lacking}
use Rattle.pua_calls.proofs.promises.Promises.without.Goals as goal

pub returns : goal.returns
returns c =
    c.symmetric_difference.ensures tt ∙ ap (bit_xor c.self.inside.keywords.0) (c.intersection-common.ensures tt)
    ∙ (λ i. lacking (c.others.view_is i) (c.self.view_is i))

pub invariant_of-result : goal.invariant_of-result
invariant_of-result c =
    rw (c.symmetric_difference.ensures tt, c.intersection-common.ensures tt)
    (xor_lt 36 _ _ c.self.invariant (and_lt 36 _ _ c.self.invariant c.others.invariant))
