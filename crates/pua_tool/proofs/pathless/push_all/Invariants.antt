use Rattle.pua_tool.proofs.Common.{◌≡◌, ◌++◌}
use Rattle.std.specs.Prelude.{string_bytes}
use Rattle.pua_tool.proofs.PathlessLines.{still_told}
use Rattle.pua_tool.proofs.pathless.push_all.Given as goal

-- the names so far are added, and the others are still to come
abbrev pub invariant-loop-keyword : goal.invariant-loop-keyword
invariant-loop-keyword l = string_bytes l.text ++ still_told l.keywords l.keyword-index
    ≡ string_bytes l.initial.text ++ still_told l.keywords 0
