use Rattle.pua_calls.proofs.Common.{◌≡◌, ◌<◌, ap, sym, subst, arith, ◌*◌, ◌^◌, ◌==◌, or_lt}
use Rattle.std.proofs.Common.{◌-◌, ◌%◌}
use Rattle.std.proofs.lemmas.Nat.Bits.{bit_at_set_same, bit_at_set_other}
use mir.Syntax.{w32}
use Rattle.pua_calls.specs.CallSets.{bit_of}
use Rattle.pua_calls.specs.Calls.{call_count}
use Rattle.pua_calls.proofs.CallBits.{bit_below, same_bit, single_below}
use Rattle.pua_calls.proofs.calls.Calls.with.Goals as goal

pub invariant_of-result : goal.invariant_of-result
invariant_of-result c =
    let bit : bit_of c.args.call ≡ c.number.result - 1 = ap (λ n. n - 1) (sym c.number.ensures) in
    or_lt call_count _ _ c.self.invariant (subst (λ n. 1 * 2 ^ n % 4294967296 < 2 ^ call_count) bit (single_below c.args.call))

pub returns-clause-here : goal.returns-clause-here
returns-clause-here c =
    let bit : c.number.result - 1 ≡ bit_of c.args.call = ap (λ n. n - 1) c.number.ensures in
    rw bit (ap (λ n. n == 1) (bit_at_set_same w32 c.self.inside.bits (bit_of c.args.call) (omega (arith, bit_below c.args.call))))

pub returns-clause-others : goal.returns-clause-others
returns-clause-others c = λ other apart.
    let bit : c.number.result - 1 ≡ bit_of c.args.call = ap (λ n. n - 1) c.number.ensures in
    rw (bit, c.self.view_is) (ap (λ n. n == 1) (bit_at_set_other w32 c.args.self (bit_of c.args.call) (omega (arith, bit_below c.args.call))
    (bit_of other) (λ e. apart (same_bit other c.args.call e))))
