use Rattle.pua_texts.proofs.Common.{◌≡◌, ℕ, map, take, string_bytes, veil_dates, veils_behind, ServedScript, world_left}
use Rattle.std.specs.Prelude.{vec_len}
use Rattle.pua_texts.proofs.States.{shown}
use Rattle.pua_texts.proofs.veil_columns.veil_texts.Given as goal

-- the columns so far are those of the veils so far
abbrev pub invariant-loop-veil : goal.invariant-loop-veil
invariant-loop-veil g l = record {
  tree : l.paths.tree ≡ l.fn.paths.tree;
  count : vec_len l.texts ≡ l.veil-index;
  texts : (p : ServedScript) (number : ℕ) → l.fn.paths.tree ≡ (world_left p).tree → l.lines ≡ veil_dates p number (map shown l.veils) →
      map string_bytes l.texts.items ≡ veils_behind p number (map shown (take l.veil-index l.veils));
}
