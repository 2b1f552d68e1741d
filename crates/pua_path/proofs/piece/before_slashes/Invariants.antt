use Rattle.pua_path.proofs.Common.{◌≡◌, length, has_byte}
use Rattle.pua_tree.specs.Names.{components}
use Rattle.pua_path.proofs.piece.before_slashes.Given as goal

abbrev pub invariant-loop-byte : goal.invariant-loop-byte
invariant-loop-byte l = (components l.rest ≡ components l.fn.text) × (has_byte 0 l.rest ≡ has_byte 0 l.fn.text)

abbrev pub decreases-loop-byte : goal.decreases-loop-byte
decreases-loop-byte l = length l.rest
