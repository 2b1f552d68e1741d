-- What each word of a script is needed for that may be left out of it.
use Rattle.std.specs.Prelude.{ℕ, suc, ◌==◌, if◌then◌else◌, List, [], ◌∷◌, ◌++◌, map, Option, Some, None, option_map, Result, Ok}
use Rattle.pua_tree.specs.Listing.{listing}
use Rattle.pua_tree.specs.Steps.{◌>>=◌}
use Rattle.pua_calls.specs.Calls.{CallTable}
use Rattle.pua_calls.specs.declared.rules.Rules.{Rules}
use Rattle.pua_script.specs.Requests.{Asked}
use Rattle.pua_script.specs.Scripts.{script_by}
use Rattle.pua_script.specs.Replay.{World, new_world, answers_to}
use Rattle.pua_script.specs.declared.answer.Answer.{Answer}
use Rattle.pua_tight.specs.declared.fault.TightFault.{TightFault}
use Rattle.pua_tight.specs.Tight.{Line, answer_number, asks_of, lines_of, tight}
use Rattle.pua_tight.specs.Texts.{as_listing, as_script}
use Rattle.pua_tight.specs.Laws.{leave_out}
use Rattle.pua_tight.specs.Trials.{Trial}
pub use Rattle.pua_tight.specs.declared.word_use.WordUse.{WordUse}

-- the index of the first answer that is another one, or that only one of the lists has
abbrev pub first_other : List Answer → List Answer → Option ℕ
first_other [] [] = None
first_other (a ∷ more) (b ∷ rest) = if answer_number a == answer_number b then option_map suc (first_other more rest) else Some 0
first_other [] (b ∷ rest) = Some 0
first_other (a ∷ more) [] = Some 0

-- the pieces of lines of which the first has this index: the first line's first
abbrev pub words_from : ℕ → List Line → List Trial
words_from index [] = []
words_from index (line ∷ lines) = map (λ piece. record { line = index; piece = piece }) line.pieces ++ words_from (suc index) lines

-- the first line that is answered otherwise than is wanted, where a piece is left out of a script
abbrev pub use_by : CallTable → World → List Answer → List Asked → Trial → WordUse
use_by table w want asks word = record {
  line = word.line;
  word = word.piece;
  needed_by = first_other (answers_to table w (leave_out word.line word.piece asks)) want;
}

-- of each piece, by the tightened script: none where that doesn't have it
abbrev pub uses : CallTable → World → List Line → List WordUse
uses table w lines = map (use_by table w (answers_to table w (asks_of lines)) (tight table w lines)) (words_from 0 lines)

-- of a script over a listing, or the first fault: the listing's, or the script's
abbrev pub uses_over : Rules → CallTable → List ℕ → List ℕ → Result (List WordUse) TightFault
uses_over rules table tree_bytes script_bytes =
    as_listing (listing tree_bytes)
    >>= λ t. as_script (script_by rules script_bytes >>= λ asks. Ok (uses table (new_world t) (lines_of table (new_world t) asks)))
