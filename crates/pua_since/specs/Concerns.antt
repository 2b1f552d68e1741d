-- What a request that was served touches of a world, and which questions that concerns.
use Rattle.std.specs.Prelude.{◌≡◌, ⊤, ℕ, Bool, true, false, not, ◌==◌, ◌||◌, if◌then◌else◌, length, is_some}
use Rattle.pua_calls.specs.Calls.{CallTable, effect_of}
use Rattle.pua_calls.specs.Effects.{edits}
use Rattle.pua_calls.specs.declared.call.Call.{Call}
use Rattle.pua_script.specs.Requests.{Asked}
use Rattle.pua_script.specs.Replay.{World, kept_at, apply}
use Rattle.pua_script.specs.declared.answer.Answer.{Answer}
use Rattle.pua_script.specs.declared.answer.Answer.TheVariants.{Okay}
use Rattle.pua_script.specs.declared.request.Action.{Action}
use Rattle.pua_script.specs.declared.request.Action.TheVariants.{OnPath, Symlink, Rename, Link, Fork}
use Rattle.pua_script.specs.Worlds.{is_take}
use Rattle.pua_why.specs.Since.{came_from}
use Rattle.pua_since.specs.declared.touched.Touched.{Touched}
use Rattle.pua_since.specs.declared.touched.Touched.TheVariants.{Process, Anything}
use Rattle.pua_since.specs.declared.watch.Question.{Question}
use Rattle.pua_since.specs.declared.watch.Question.TheVariants as asks

-- a call that changes no more than the process that asks: it makes no name, and takes none away
abbrev pub call_is_own : Call → Bool
call_is_own call = not (edits (effect_of call))

abbrev pub is_own : Action → Bool
is_own (OnPath call path) = call_is_own call
is_own (Symlink target path) = false
is_own (Rename old new) = false
is_own (Link old new) = false
is_own (Fork new) = false
is_own _ = true

-- what an action touches that is done
abbrev pub touched_if : Bool → ℕ → Touched
touched_if own process = if own then Process process else Anything

-- what a request touches by its answer: one that was killed ends its process, and any other that is not `ok` changes nothing
abbrev pub touched_by : Asked → Answer → Touched
touched_by ask Okay = touched_if (is_own ask.action) ask.process
touched_by ask _ = Process ask.process

-- the worlds differ in what one process keeps alone, which is in both
pub record ChangesProcess (process : ℕ) (w v : World) : Type 0 where
  pub tree : v.tree ≡ w.tree
  pub others : (other : ℕ) → other == process ≡ false → kept_at v other ≡ kept_at w other
  pub there : (other : ℕ) → is_some (kept_at v other) ≡ is_some (kept_at w other)
  pub count : length v.processes ≡ length w.processes

-- all that a touch changes
abbrev pub ChangesOnly : Touched → World → World → Type 0
ChangesOnly (Process process) w v = ChangesProcess process w v
ChangesOnly Anything w v = ⊤

-- each process is who it was
abbrev pub MakesNone : Touched → CallTable → World → Asked → Type 0
MakesNone (Process process) table w ask = (other : ℕ) → came_from table w ask other ≡ other
MakesNone Anything table w ask = ⊤

-- a request touches no more than this
pub record TouchesOnly (table : CallTable) (w : World) (ask : Asked) (touched : Touched) : Type 0 where
  pub changes : ChangesOnly touched w (apply table w ask).1
  pub makes_none : MakesNone touched table w ask

-- whether a question is about what another process has
abbrev pub asks_other : Question → Bool
asks_other (asks.Request action) = is_take action.now
asks_other (asks.Veil place) = false

-- whether a touch may concern a question of this process
abbrev pub is_concerned : Touched → ℕ → Question → Bool
is_concerned (Process process) asker question = asker == process || asks_other question
is_concerned Anything asker question = true
