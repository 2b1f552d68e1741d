use Rattle.pua_tool.proofs.Common.{◌≡◌, ◌++◌}
use Rattle.std.proofs.Common.{drop}
use Rattle.std.specs.Prelude.{string_bytes}
use Rattle.pua_tool.specs.EverHowTexts.{counts_text}
use Rattle.pua_tool.proofs.columns.push_others.Given as goal

-- the text so far, and the counts that are left
abbrev pub invariant-loop-count : goal.invariant-loop-count
invariant-loop-count l = record {
  text : string_bytes l.text ++ counts_text 44 (drop l.count-index l.counts) ≡ string_bytes l.fn.text ++ counts_text 44 l.counts;
}
