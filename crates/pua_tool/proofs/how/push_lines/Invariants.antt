use Rattle.pua_tool.proofs.Common.{◌≡◌, ◌++◌, flat_map, map, with_end}
use Rattle.std.proofs.Common.{drop}
use Rattle.std.specs.Prelude.{string_bytes}
use Rattle.pua_tool.proofs.how.push_lines.Given as goal

-- the text so far, and the lines that are left
abbrev pub invariant-loop-line : goal.invariant-loop-line
invariant-loop-line l = record {
  text : string_bytes l.text ++ flat_map with_end (map (λ line. string_bytes line.text) (drop l.line-index l.lines))
      ≡ string_bytes l.fn.text ++ flat_map with_end (map (λ line. string_bytes line.text) l.lines);
}
