use Rattle.pua_listing.proofs.Common.{◌≡◌, ◌==◌, ℕ}
use Rattle.std.proofs.Common.{take}
use Rattle.indexmap.specs.IndexMap.{get}
use Rattle.pua_listing.specs.Entries.{first_line, has_second_lines}
use Rattle.pua_listing.specs.Lent.{rows_held}
use Rattle.pua_listing.proofs.numbers.Numbers.of.Given as goal

abbrev pub invariant-loop-place : goal.invariant-loop-place
invariant-loop-place l = record {
  lines : (x : ℕ) → get ◌==◌ l.lines x ≡ first_line 1 (rows_held (take l.place l.order)) x;
  second : l.second_lines ≡ has_second_lines (rows_held (take l.place l.order));
}
