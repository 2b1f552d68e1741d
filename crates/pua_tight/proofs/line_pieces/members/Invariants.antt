use Rattle.std.proofs.Common.{◌≡◌, map, take}
use Rattle.std.specs.Prelude.{filter}
use Rattle.pua_calls.specs.Promises.{holds, keyword_rows}
use Rattle.pua_tight.proofs.line_pieces.members.Given as goal

-- the members among the keywords so far
abbrev pub invariant-loop-index : goal.invariant-loop-index
invariant-loop-index l = l.bits.items ≡ filter (holds l.set) (map (λ row. row.1) (take l.index keyword_rows))
