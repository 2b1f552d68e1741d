use Rattle.std.proofs.Common.{◌≡◌, ◌++◌, drop}
use Rattle.pua_tight.specs.Left.{lines_by}
use Rattle.pua_tight.specs.Uses.{words_from}
use Rattle.pua_tight.proofs.word_use.words_of.Given as goal

-- the words of the lines so far, and those that are left
abbrev pub invariant-loop-line : goal.invariant-loop-line
invariant-loop-line l =
    l.words.items ++ words_from l.line (drop l.line (lines_by l.asked l.requests l.answers)) ≡ words_from 0 (lines_by l.asked l.requests l.answers)
