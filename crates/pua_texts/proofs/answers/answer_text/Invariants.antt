use Rattle.pua_texts.proofs.Common.{◌≡◌, ◌++◌, suc, drop, map, string_bytes}
use Rattle.pua_why.specs.Seen.{line_seen}
use Rattle.pua_texts.specs.Lines.{answer_lines}
use Rattle.pua_texts.proofs.answers.answer_text.Given as goal

-- the lines so far stand in front of those that are still to come
abbrev pub invariant-loop-place : goal.invariant-loop-place
invariant-loop-place l =
    answer_lines 1 (map line_seen l.answers) ≡ string_bytes l.text ++ answer_lines (suc l.place) (map line_seen (drop l.place l.answers))
