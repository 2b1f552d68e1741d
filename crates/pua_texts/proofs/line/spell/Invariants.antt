use Rattle.pua_texts.proofs.Common.{◌≡◌, ◌+◌, ◌≤◌, ◌++◌, take, length, spelling}
use Rattle.std.proofs.Common.{◌*◌}
use Rattle.pua_texts.proofs.line.spell.Given as goal

abbrev pub invariant-loop-byte : goal.invariant-loop-byte
invariant-loop-byte l = record {
  spelled : l.block ≡ l.fn.block ++ spelling (take l.byte-index l.path);
  short : length l.block ≤ length l.fn.block + 4 * l.byte-index;
}
