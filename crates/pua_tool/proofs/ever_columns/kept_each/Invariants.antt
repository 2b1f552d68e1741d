use Rattle.std.specs.Prelude.{◌≡◌, ℕ, map, take, vec_len}
use Rattle.std.specs.List.{AllZip}
use Rattle.pua_calls.specs.TmpTable.{tmp_table}
use Rattle.pua_policy.specs.States.{ProcessState}
use Rattle.pua_ever.specs.Comings.{AreComings}
use Rattle.pua_texts.specs.VeilDates.{veil_dates}
use Rattle.pua_texts.specs.WhyLines.{ServedScript, world_left}
use Rattle.pua_tool.specs.EverColumns.{IsKept}
use Rattle.pua_tool.proofs.EverColumns.{shown}
use Rattle.pua_tool.proofs.ever_columns.kept_each.Given as goal

-- the veils so far
abbrev pub invariant-loop-veil : goal.invariant-loop-veil
invariant-loop-veil g l = record {
  tree : l.paths.tree ≡ l.fn.paths.tree;
  count : vec_len l.kept ≡ l.veil-index;
  kept : (p : ServedScript) (number : ℕ) (holder : ProcessState) → l.fn.paths.tree ≡ (world_left p).tree → l.table ≡ tmp_table p.table →
      AreComings (world_left p).tree (tmp_table p.table) holder l.comings → l.dates ≡ veil_dates p number (map shown l.veils) →
      AllZip (IsKept p number holder) (map shown (take l.veil-index l.veils)) l.kept.items;
}
