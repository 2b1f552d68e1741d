use Rattle.pua_texts.proofs.Common.{◌≡◌, ◌++◌, string_bytes}
use Rattle.pua_texts.proofs.OpeningLines.{still_open}
use Rattle.pua_texts.proofs.openings.push_all.Given as goal

-- the lines so far are added, and the others are still to come
abbrev pub invariant-loop-keyword : goal.invariant-loop-keyword
invariant-loop-keyword l = string_bytes l.text ++ still_open l.keywords l.keyword-index
    ≡ string_bytes l.initial.text ++ still_open l.keywords 0
