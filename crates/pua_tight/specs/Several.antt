-- What the code goes by that tries several words at once.
use Rattle.std.specs.Prelude.{◌≡◌, ◌≤◌, ℕ, List, [], ◌∷◌, Some, slice_get, drop}
use Rattle.pua_calls.specs.Calls.{CallTable}
use Rattle.pua_script.specs.Requests.{Asked}
use Rattle.pua_script.specs.Replay.{World, answers_to}
use Rattle.pua_script.specs.declared.answer.Answer.{Answer}
use Rattle.pua_script.specs.declared.answer.Answer.TheVariants.{Okay}
use Rattle.pua_tight.specs.declared.together.Kept.{Kept}
use Rattle.pua_tight.specs.Laws.{leave_out}
use Rattle.pua_tight.specs.Left.{put_back_at}
use Rattle.pua_tight.specs.Trials.{Trial, all_tried}

-- without all pieces, and with the arguments that lines had, the last ones that were kept first
abbrev pub all_left : List Trial → List Asked → List Asked
all_left [] asks = asks
all_left (trial ∷ trials) asks = all_left trials (leave_out trial.line trial.piece asks)

abbrev pub all_back : List Kept → List Asked → List Asked
all_back [] asks = asks
all_back (kept ∷ more) asks = put_back_at kept.line kept.arguments (all_back more asks)

-- pieces of lines that are wanted to be answered ok, the last line's first
abbrev pub AreUpTo : ℕ → List Trial → Type 0
AreUpTo line [] = Unit {0}
AreUpTo line (trial ∷ trials) = (trial.line ≤ line) × AreUpTo line trials

abbrev pub Descend : List Answer → List Trial → Type 0
Descend want [] = Unit {0}
Descend want (trial ∷ trials) = (slice_get want trial.line ≡ Some Okay) × AreUpTo trial.line trials × Descend want trials

-- pieces of no line before this one
abbrev pub AreFrom : ℕ → List Trial → Type 0
AreFrom line [] = Unit {0}
AreFrom line (trial ∷ trials) = (line ≤ trial.line) × AreFrom line trials

-- what is to be tried of a script that is answered as is wanted
pub record IsToTry (table : CallTable) (w : World) (want : List Answer) (trials : List Trial) (asks : List Asked) : Type 0 where
  pub same : answers_to table w asks ≡ want
  pub descend : Descend want trials

-- so many of the trials were done, and left this of it
pub record AreDone (table : CallTable) (w : World) (want : List Answer) (trials : List Trial) (done : ℕ) (given left : List Asked) : Type 0 where
  pub more : IsToTry table w want (drop done trials) left
  pub tried : all_tried table w want (drop done trials) left ≡ all_tried table w want trials given
