use Rattle.pua_texts.proofs.Common.{◌≡◌, ◌++◌, string_bytes}
use Rattle.pua_texts.proofs.OpeningLines.{still_of}
use Rattle.pua_texts.proofs.openings.push_opened_by.Given as goal

-- the lines so far are added, and the others are still to come
abbrev pub invariant-loop-row : goal.invariant-loop-row
invariant-loop-row l = string_bytes l.text ++ still_of l.keyword l.row-items l.row-index
    ≡ string_bytes l.initial.text ++ still_of l.keyword l.row-items 0
