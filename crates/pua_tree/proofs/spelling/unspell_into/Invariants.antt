use Rattle.pua_tree.proofs.Common.{◌≡◌, ◌+◌, ◌≤◌, length}
use Rattle.pua_tree.proofs.Decoding.{continued}
use Rattle.pua_tree.proofs.spelling.unspell_into.Given as goal

-- what is left to read goes on from what was read
abbrev pub invariant-loop-rest : goal.invariant-loop-rest
invariant-loop-rest l = record {
  same : continued l.fn.text l.fn.room 0 ≡ continued l.rest l.room l.len;
  short : l.len + length l.rest ≤ length l.fn.text;
}

abbrev pub decreases-loop-rest : goal.decreases-loop-rest
decreases-loop-rest l = length l.rest
