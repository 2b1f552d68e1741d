use Rattle.pua_texts.proofs.Common.{◌≡◌, ◌++◌, string_bytes}
use Rattle.pua_texts.specs.FileLines.{line_of}
use Rattle.pua_texts.proofs.FileLines.{still_named}
use Rattle.pua_texts.proofs.file_lines.push_names.Given as goal

-- the lines of the rows so far are added, and the others are still to come
abbrev pub invariant-loop-row : goal.invariant-loop-row
invariant-loop-row g l = record {
  tree : l.paths.tree ≡ l.fn.paths.tree;
  text : string_bytes l.text ++ still_named (line_of l.held) l.fn.paths.tree l.held.node l.rows l.row-index
      ≡ string_bytes l.fn.text ++ still_named (line_of l.held) l.fn.paths.tree l.held.node l.rows 0;
}
