use Rattle.pua_tree.proofs.Common.{◌≡◌, ◌≤◌, take, IsTrue, list_all, decimal_value}
use Rattle.pua_tree.specs.Spelling.{is_digit}
use Rattle.pua_tree.proofs.field.value_up_to.Given as goal

-- what stands before are digits, and their value is not above the bound yet
abbrev pub invariant-loop-digit : goal.invariant-loop-digit
invariant-loop-digit l = record {
  digits : IsTrue (list_all is_digit (take l.digit-index l.digits));
  so_far : l.value ≡ decimal_value (take l.digit-index l.digits);
  low : l.value ≤ l.high;
}
