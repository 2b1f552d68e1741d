use Rattle.pua_tool.proofs.Common.{◌≡◌, ◌++◌, ℕ, List, ProcessState}
use Rattle.std.proofs.Common.{take}
use Rattle.std.specs.List.{AllZip}
use Rattle.std.specs.Prelude.{string_bytes}
use Rattle.pua_calls.specs.CallSets.{calls_in}
use Rattle.pua_policy.specs.declared.place.Place.{Place}
use Rattle.pua_ever.specs.Comings.{places_under}
use Rattle.pua_texts.specs.WhyLines.{ServedScript, world_left}
use Rattle.pua_tool.specs.EverColumns.{IsKept}
use Rattle.pua_tool.specs.EverWhyTexts.{told_of}
use Rattle.pua_tool.proofs.ever_columns.push_veils.Given as goal

-- the veils so far that are told
abbrev pub invariant-loop-veil : goal.invariant-loop-veil
invariant-loop-veil l = record {
  told : (p : ServedScript) (number : ℕ) (holder : ProcessState) (vs : List (Place × ℕ)) → AllZip (IsKept p number holder) vs l.veils →
      string_bytes l.text ≡ string_bytes l.fn.text
      ++ told_of p number (places_under (world_left p).tree holder l.under) (calls_in l.calls) (take l.veil-index vs);
}
