use Rattle.pua_why.proofs.Common.{◌≡◌, ◌++◌, take}
use Rattle.pua_why.proofs.keys.add_bytes.Given as goal

abbrev pub invariant-loop-byte : goal.invariant-loop-byte
invariant-loop-byte l = l.numbers.items ≡ l.fn.numbers.items ++ take l.byte-index l.bytes
