use Rattle.pua_audit.proofs.Common.{◌<◌, ℕ, [], map, take, length, get_or, lent_entry, AreAtLetters, IsNowhere, IsUnmarked}
use Rattle.pua_audit.proofs.table.placed.Places.add_rows.Given as goal

abbrev pub invariant-loop-row : goal.invariant-loop-row
invariant-loop-row l = record {
  within : AreAtLetters l.self l.fn.spots.items → AreAtLetters l.self l.spots.items;
  rows : (dir letter : ℕ) → letter < length l.self → IsUnmarked dir letter l.spots.items →
      IsNowhere dir (get_or l.self letter []) (map lent_entry (take l.row-index l.rows));
  others : (dir letter : ℕ) → IsUnmarked dir letter l.spots.items → IsUnmarked dir letter l.fn.spots.items;
}
