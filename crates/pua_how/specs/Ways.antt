-- What a way is.
use Rattle.std.specs.Prelude.{◌≡◌, ℕ, true, false, List, [], ◌∷◌, ◌++◌, Option, Some, None, Ok}
use Rattle.std.specs.List.{AllByRecursion}
use Rattle.pua_path.specs.declared.found.Found.{Found}
use Rattle.pua_calls.specs.Calls.{CallTable}
use Rattle.pua_calls.specs.TmpTable.{tmp_table}
use Rattle.pua_calls.specs.declared.call.Call.{Call}
use Rattle.pua_calls.specs.declared.call.Call.TheVariants as call
use Rattle.pua_policy.specs.States.{ProcessState}
use Rattle.pua_policy.specs.Verdict.{object_named, verdict}
use Rattle.pua_policy.specs.declared.answer.Verdict.TheVariants.{Allowed}
use Rattle.pua_script.specs.Requests.{Asked}
use Rattle.pua_script.specs.Replay.{World, kept_at, answers_to, world_after}
use Rattle.pua_script.specs.Family.{is_exec}
use Rattle.pua_script.specs.declared.request.Action.{Action}
use Rattle.pua_script.specs.declared.request.Action.TheVariants.{OnPath, Symlink}
use Rattle.pua_script.specs.declared.answer.Answer.TheVariants.{Okay}
use Rattle.pua_how.specs.Targets.{is_of}
use Rattle.pua_how.specs.declared.target.Target.{Target}

-- the call that an action asks for, with the text of its path, if it has one path
abbrev pub call_of : Action → Option (Call × List ℕ)
call_of (OnPath call path) = Some (call, path)
call_of (Symlink target path) = Some (call.Symlink, path)
call_of _ = None

-- what a text names to the process before the last request is what is asked about, and the call is allowed on it, whatever promises
-- open by themselves: by the table by which lists for ever go
pub record Reaches (table : CallTable) (w : World) (process : ℕ) (call : Call) (target : Target) (text : List ℕ) : Type 0 where
  pub now : ProcessState
  pub kept : kept_at w process ≡ Some now
  pub object : Found
  pub named : object_named w.tree now call text ≡ Ok object
  pub asked : is_of w.tree now target object ≡ true
  pub allowed : verdict w.tree (tmp_table table) now call object ≡ Allowed

-- requests of one process, each answered `ok`, of which no exec comes before the last; the last one is the call, on a path
-- that names what is asked about in the world before it, and is allowed on that by the promises and the veils
pub record IsWay (table : CallTable) (w : World) (process : ℕ) (call : Call) (target : Target) (asks : List Asked) : Type 0 where
  pub first : List Asked
  pub last : Asked
  pub parts : asks ≡ first ++ last ∷ []
  pub own : AllByRecursion (λ ask. ask.process ≡ process) asks
  pub granted : AllByRecursion (λ answer. answer ≡ Okay) (answers_to table w asks)
  pub quiet : AllByRecursion (λ ask. is_exec ask.action ≡ false) first
  pub text : List ℕ
  pub called : call_of last.action ≡ Some (call, text)
  pub reaches : Reaches table (world_after table w first) process call target text
