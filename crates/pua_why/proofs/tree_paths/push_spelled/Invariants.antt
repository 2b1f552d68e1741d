use Rattle.pua_why.proofs.Common.{◌≡◌, ◌++◌, string_bytes, take}
use Rattle.pua_tree.specs.Spelling.{spelling}
use Rattle.pua_why.proofs.tree_paths.push_spelled.Given as goal

abbrev pub invariant-loop-byte : goal.invariant-loop-byte
invariant-loop-byte l = string_bytes l.text ≡ string_bytes l.fn.text ++ spelling (take l.byte-index l.bytes)
