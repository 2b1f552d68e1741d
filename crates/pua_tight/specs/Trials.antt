-- A script is tightened by one trial after another: in which order, and what each leaves.
use Rattle.std.specs.Prelude.{◌≡◌, ℕ, suc, if◌then◌else◌, List, [], ◌∷◌, ◌++◌, map}
use Rattle.pua_calls.specs.Calls.{CallTable}
use Rattle.pua_script.specs.Requests.{Asked}
use Rattle.pua_script.specs.Replay.{World, answers_to}
use Rattle.pua_script.specs.declared.answer.Answer.{Answer}
use Rattle.pua_tight.specs.Tight.{Line, asks_of, same_answers, tight}
use Rattle.pua_tight.specs.Laws.{leave_out}
pub use Rattle.pua_tight.specs.declared.trial.Trial.{Trial}

-- the pieces of lines of which the first has this index: the last line's first
abbrev pub trials_from : ℕ → List Line → List Trial
trials_from index [] = []
trials_from index (line ∷ lines) = trials_from (suc index) lines ++ map (λ piece. record { line = index; piece = piece }) line.pieces

-- without the piece, where all is then answered as is wanted
abbrev pub tried : CallTable → World → List Answer → Trial → List Asked → List Asked
tried table w want trial asks =
    if same_answers (answers_to table w (leave_out trial.line trial.piece asks)) want then leave_out trial.line trial.piece asks else asks

abbrev pub all_tried : CallTable → World → List Answer → List Trial → List Asked → List Asked
all_tried table w want [] asks = asks
all_tried table w want (trial ∷ trials) asks = all_tried table w want trials (tried table w want trial asks)

-- what one trial after another leaves is the tightened script
abbrev pub TriedOneByOne : Type 0
TriedOneByOne = (table : CallTable) (w : World) (lines : List Line) →
    all_tried table w (answers_to table w (asks_of lines)) (trials_from 0 lines) (asks_of lines) ≡ tight table w lines
