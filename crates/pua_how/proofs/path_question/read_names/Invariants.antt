use Rattle.std.proofs.Common.{◌≡◌, ◌++◌, drop, map}
use Rattle.std.specs.Prelude.{option_map}
use Rattle.pua_how.specs.PathQuestion.{names_read}
use Rattle.pua_how.proofs.path_question.read_names.Given as goal

-- the names so far, and those of the pieces that are left
abbrev pub invariant-loop-piece : goal.invariant-loop-piece
invariant-loop-piece l = record {
  read : names_read (map (λ piece. piece.now) l.pieces)
      ≡ option_map (λ later. l.names.items ++ later) (names_read (map (λ piece. piece.now) (drop l.piece-index l.pieces)));
}
