use Rattle.pua_tree.proofs.Common.{◌<◌, ◌+◌, ◌*◌, ◌-◌, get_or, arith, rules}
use Rattle.pua_tree.proofs.Decimals.{above_bound, no_digit}
use Rattle.pua_tree.proofs.field.value_up_to.Goals as goal

pub returns-then-not-is_digit : goal.returns-then-not-is_digit
returns-then-not-is_digit c = no_digit c.args.digits.now c.loop-digit.digit-index c.args.high (omega arith) (search rules)

pub returns-then-value-from : goal.returns-then-value-from
returns-then-value-from c =
    let above : c.args.high < 10 * c.loop-digit.value + (get_or c.args.digits.now c.loop-digit.digit-index 0 - 48) =
    omega (arith, c.if-value-from.true, c.from.ensures, c.from-in-loop-digit.ensures, c.saturating_sub.ensures) in
    above_bound c.args.digits.now c.loop-digit.digit-index c.args.high (omega arith) (rw c.loop-digit.invariant.so_far at above)
