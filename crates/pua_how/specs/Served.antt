-- What contracts see of the lines of a way that were served so far.
use Rattle.std.specs.Prelude.{◌≡◌, ℕ, false, List, [], ◌∷◌, ◌++◌, map, Option, Some, Ok, IfSome, string_bytes}
use Rattle.std.specs.List.{AllByRecursion}
use Rattle.pua_calls.specs.declared.call.Call.{Call}
use Rattle.pua_calls.specs.declared.rules.Rules.{Rules}
use Rattle.pua_script.specs.Requests.{Asked}
use Rattle.pua_script.specs.Replay.{answers_to}
use Rattle.pua_script.specs.Scripts.{request_by}
use Rattle.pua_script.specs.Family.{is_exec}
use Rattle.pua_script.specs.Worlds.{WorldState, state_after_all, world_of}
use Rattle.pua_script.specs.declared.answer.Answer.TheVariants.{Okay}
use Rattle.pua_how.specs.Ways.{Reaches, IsWay, call_of}
use Rattle.pua_how.specs.Steps.{comes, is_some_by}
use Rattle.pua_how.specs.declared.line.WayLine.{WayLine}
use Rattle.pua_how.specs.declared.serve.Served.{Served}
use Rattle.pua_how.specs.declared.step.Step.{Step}
use Rattle.pua_how.specs.declared.target.Target.{Target}

-- the text is a line of a script that is read by rules, of this process
pub record IsLine (rules : Rules) (process : ℕ) (line : WayLine) : Type 0 where
  pub read : request_by rules 1 (string_bytes line.text) ≡ Ok line.request
  pub own : line.request.process ≡ process

-- the requests of lines
abbrev pub asks_of : List WayLine → List Asked
asks_of lines = map (λ line. line.request) lines

-- these lines of a process were served, each was answered `ok`, and none is an exec
pub record AreGranted (rules : Rules) (before : WorldState) (process : ℕ) (lines : List WayLine) (after : WorldState) : Type 0 where
  pub are : AllByRecursion (IsLine rules process) lines
  pub quiet : AllByRecursion (λ line. is_exec line.request.action ≡ false) lines
  pub told : AllByRecursion (λ answer. answer ≡ Okay) (answers_to before.table (world_of before) (asks_of lines))
  pub left : after ≡ state_after_all before (asks_of lines)

-- the last line is the call, on what is asked about
pub record IsCall (before : WorldState) (process : ℕ) (call : Call) (target : Target) (ask : Asked) : Type 0 where
  pub text : List ℕ
  pub called : call_of ask.action ≡ Some (call, text)
  pub reaches : Reaches before.table (world_of before) process call target text

-- lines that are a way in a world
pub record AreWay (rules : Rules) (before : WorldState) (process : ℕ) (call : Call) (target : Target) (lines : List WayLine) : Type 0 where
  pub are : AllByRecursion (IsLine rules process) lines
  pub way : IsWay before.table (world_of before) process call target (asks_of lines)

-- where plans are tried: behind a world, for a process, in lines that are read by rules
pub record Tried : Type 0 where
  pub rules : Rules
  pub world : WorldState
  pub process : ℕ

-- steps were served in a copy of a world as far as the last one, or do not come so far
pub record IsStaged (rules : Rules) (before : WorldState) (process : ℕ) (first : List Step) (now : WorldState) (served : Option Served) : Type 0
  where
    pub granted : IfSome served (λ s. AreGranted rules before process s.lines.items now)
    pub on : (call : Call) (target : Target) (last : Step) →
        comes rules before.table process call target (first ++ last ∷ []) (world_of before) 0
        ≡ is_some_by (λ s. comes rules now.table process call target (last ∷ []) (world_of now) s.made) served
