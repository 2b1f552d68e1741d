use Rattle.pua_listing.proofs.Common.{◌≡◌, ◌++◌, ◌∷◌}
use Rattle.std.proofs.Common.{take}
use Rattle.pua_tree.specs.Spelling.{spelling}
use Rattle.pua_listing.proofs.line.add_spelled.Given as goal

abbrev pub invariant-loop-byte : goal.invariant-loop-byte
invariant-loop-byte l = l.text.items ≡ l.fn.text.items ++ (32 ∷ spelling (take l.byte-index l.bytes))
