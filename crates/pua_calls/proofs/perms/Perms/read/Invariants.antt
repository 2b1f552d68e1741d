use Rattle.pua_calls.proofs.Common.{◌≡◌}
use Rattle.pua_calls.specs.Promises.{letter_of, perms_of}
use Rattle.pua_calls.proofs.Sets.{with_rest}
use Rattle.pua_calls.proofs.perms.Perms.read.Given as goal

abbrev pub invariant-loop-byte : goal.invariant-loop-byte
invariant-loop-byte l = with_rest letter_of l.text l.perms l.byte-index ≡ perms_of l.text
