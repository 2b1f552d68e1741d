-- What a line of pieces is.
use Rattle.std.specs.Prelude.{ℕ, List, [], ◌∷◌, ◌++◌, decimal}
use Rattle.pua_advice.specs.Texts.{wrong_part_text}
use Rattle.pua_texts.specs.Lines.{with_end}
use Rattle.pua_tool.specs.declared.line.Piece.{Piece}
use Rattle.pua_tool.specs.declared.line.Piece.TheVariants.{Text, Number, About}

abbrev pub piece_text : Piece → List ℕ
piece_text (Text text) = text.now
piece_text (Number number) = decimal number
piece_text (About subject) = wrong_part_text subject

-- the pieces one after another, and the line's end
abbrev pub line_of : List Piece → List ℕ
line_of [] = with_end []
line_of (piece ∷ more) = piece_text piece ++ line_of more
