use Rattle.pua_tool.proofs.Common.{◌≡◌, ◌++◌}
use Rattle.std.specs.Prelude.{string_bytes}
use Rattle.pua_tool.specs.TightTexts.{use_lines}
use Rattle.pua_tool.proofs.TightTexts.{lines_left}
use Rattle.pua_tool.proofs.tight_why.lines_of.Given as goal

-- the lines so far are added, and the others are still to come
abbrev pub invariant-loop-word : goal.invariant-loop-word
invariant-loop-word l = string_bytes l.text ++ lines_left l.rules l.words l.word-index ≡ use_lines l.rules l.words
