-- What the steps of a plan ask for, and whether they come to a call when they are served one after another.
use Rattle.std.specs.Prelude.{◌≡◌, ℕ, Bool, false, ◌&&◌, ◌||◌, ◌==◌, if◌then◌else◌, List, [], ◌∷◌, ◌++◌, Option, Some, None, Result, Ok, Err}
use Rattle.std.specs.Prelude.{codes, decimal, drop, flat_map, length, slice_get, unwrap_or}
use Rattle.std.specs.List.{starts_with}
use Rattle.pua_tree.specs.Tree.{Tree, look}
use Rattle.pua_path.specs.declared.errno.Errno.{Errno}
use Rattle.pua_path.specs.Resolution.{from_top}
use Rattle.pua_path.specs.declared.found.Found.{Found}
use Rattle.pua_path.specs.declared.found.Start.{Start}
use Rattle.pua_calls.specs.Calls.{CallTable, call_name, call_number}
use Rattle.pua_calls.specs.TmpTable.{tmp_table}
use Rattle.pua_calls.specs.declared.call.Call.{Call}
use Rattle.pua_calls.specs.declared.call.Call.TheVariants as call
use Rattle.pua_calls.specs.declared.rules.Rules.{Rules}
use Rattle.pua_policy.specs.States.{ProcessState, start}
use Rattle.pua_policy.specs.Verdict.{is_allowed, object_named, verdict}
use Rattle.pua_script.specs.Requests.{Asked}
use Rattle.pua_script.specs.Replay.{World, kept_at, apply}
use Rattle.pua_script.specs.Scripts.{request_by}
use Rattle.pua_script.specs.Family.{is_exec, is_okay}
use Rattle.pua_script.specs.declared.fault.ScriptFault.{ScriptFault}
use Rattle.pua_script.specs.declared.request.Action.{Action}
use Rattle.pua_why.specs.Texts.{dir_text, spot_text}
use Rattle.pua_how.specs.Targets.{is_of}
use Rattle.pua_how.specs.Ways.{call_of}
use Rattle.pua_how.specs.declared.step.At.{At}
use Rattle.pua_how.specs.declared.step.At.TheVariants as at
use Rattle.pua_how.specs.declared.step.Dir.{Dir}
use Rattle.pua_how.specs.declared.step.Dir.TheVariants as dir
use Rattle.pua_how.specs.declared.step.Step.{Step}
use Rattle.pua_how.specs.declared.step.Step.TheVariants as step
use Rattle.pua_how.specs.declared.target.Target.{Target}
use Rattle.pua_how.specs.declared.way.BestPlans.{BestPlans}
use Rattle.pua_how.specs.declared.way.NoWay.{NoWay}
use Rattle.pua_how.specs.declared.way.Plan.{Plan}

-- the number of a directory, by that of the one that was made last
abbrev pub number_of : Dir → ℕ → ℕ
number_of (dir.Standing id) made = id
number_of dir.Made made = made

-- what a path leads to, by its path from node 0
abbrev pub whole_text : Tree → ℕ → At → List ℕ
whole_text t made (at.Directory id) = dir_text t id
whole_text t made (at.Name dir name) = spot_text t (number_of dir made, name)

-- what is behind the path of a root, or a slash where that is all; none where it isn't the whole of a path's front
abbrev pub behind_root : List ℕ → Option (List ℕ)
behind_root [] = Some (codes "/")
behind_root (byte ∷ more) = if byte == 47 then Some (byte ∷ more) else None

abbrev pub below_root : (root whole : List ℕ) → Option (List ℕ)
below_root root whole = if starts_with (λ a b. a == b) whole root then behind_root (drop (length root) whole) else None

-- `..` for each name of a path
abbrev pub climb_of : ℕ → List ℕ
climb_of byte = if byte == 47 then codes "/.." else []

abbrev pub climbs : List ℕ → List ℕ
climbs bytes = flat_map climb_of bytes

abbrev pub climbing : List ℕ → List ℕ
climbing [] = []
climbing (slash ∷ more) = codes ".." ++ climbs more

-- a path as a process spells it that has a root of its own: from there, and from its working directory where it leads elsewhere
abbrev pub seen_text : Tree → Start → List ℕ → List ℕ
seen_text t from whole = by (below_root (dir_text t from.root) whole)
  where
    by : Option (List ℕ) → List ℕ
    by (Some below) = below
    by None = climbing (dir_text t from.dir) ++ whole

abbrev pub path_text : Tree → Start → ℕ → At → List ℕ
path_text t from made at = if from.root == 0 then whole_text t made at else seen_text t from (whole_text t made at)

-- a blank, and what a path leads to as a script has it, by where the paths of its process start
abbrev pub path_behind : Tree → Start → ℕ → At → List ℕ
path_behind t from made at = codes " " ++ path_text t from made at

-- a call, with the target of a symlink
abbrev pub target_behind : Call → List ℕ
target_behind call.Symlink = codes " target"
target_behind _ = []

abbrev pub action_text : Tree → Start → ℕ → Step → List ℕ
action_text t from made (step.On call at) = (call_name call ++ target_behind call) ++ path_behind t from made at
action_text t from made (step.Rename old new) = (codes "rename" ++ path_behind t from made old) ++ path_behind t from made new
action_text t from made (step.Link old new) = (codes "link" ++ path_behind t from made old) ++ path_behind t from made new

-- the line of a step, by where directories stand, by where the paths of the process start, and by the directory that was made last
abbrev pub step_text : Tree → Start → ℕ → ℕ → Step → List ℕ
step_text t from process made step = (decimal process ++ codes " ") ++ action_text t from made step

-- the request as which it is read by rules; none where it is no line of the process: a path may be too long, or the rules have no
-- such call
abbrev pub own_request : ℕ → Result Asked ScriptFault → Option Asked
own_request process (Ok ask) = if ask.process == process then Some ask else None
own_request process (Err fault) = None

abbrev pub request_of_step : Rules → Tree → Start → ℕ → ℕ → Step → Option Asked
request_of_step rules t from process made step = own_request process (request_by rules 1 (step_text t from process made step))

-- where the paths of a process start in a world; at the top where it has no such process
abbrev pub start_kept : Option ProcessState → Start
start_kept None = from_top 0
start_kept (Some h) = start h

abbrev pub start_in : World → ℕ → Start
start_in w process = start_kept (kept_at w process)

-- the directory that was made last, once a step was served
abbrev pub made_behind : Tree → ℕ → Step → ℕ
made_behind t made (step.On call.Mkdir (at.Name dir name)) = unwrap_or (look t (number_of dir made) name) made
made_behind t made _ = made

-- what is so of the value, if there is one
abbrev pub is_some_by : {A : Type 0} → (A → Bool) → Option A → Bool
is_some_by test None = false
is_some_by test (Some x) = test x

-- the call is on a path that names what is asked about, and is allowed on it by the table by which lists for ever go
abbrev pub names_asked : CallTable → Tree → ProcessState → Call → Target → Result Found Errno → Bool
names_asked table t h call target (Ok object) = is_of t h target object && is_allowed (verdict t (tmp_table table) h call object)
names_asked table t h call target (Err errno) = false

module _ (table : CallTable) (process : ℕ) (call : Call) (target : Target) where
  abbrev pub reaches : World → List ℕ → Bool
  reaches w text = is_some_by (λ h. names_asked table w.tree h call target (object_named w.tree h call text)) (kept_at w process)

  abbrev pub is_the_call : World → Action → Bool
  is_the_call w action = is_some_by (λ two. (call_number two.0 == call_number call) && reaches w two.1) (call_of action)

  -- a request is the call on what is asked about, and is answered `ok`
  abbrev pub is_end : World → Asked → Bool
  is_end w ask = is_the_call w ask.action && is_okay (apply table w ask).0

  -- a request is no exec, and is answered `ok`; the world, and the directory that was made last, then are as they have to be
  abbrev pub goes_on : (World → ℕ → Bool) → World → ℕ → Step → Asked → Bool
  goes_on later w made step ask =
      if is_exec ask.action then false
      else (is_okay (apply table w ask).0 && later (apply table w ask).1 (made_behind (apply table w ask).1.tree made step))

module _ (rules : Rules) (table : CallTable) (process : ℕ) (call : Call) (target : Target) where
  -- these steps come to the call: each but the last is answered `ok` and is no exec, and the last is the call
  abbrev pub comes : List Step → World → ℕ → Bool
  comes [] w made = false
  comes (step ∷ []) w made = is_some_by (is_end table process call target w) (request_of_step rules w.tree (start_in w process) process made step)
  comes (step ∷ next ∷ more) w made =
      is_some_by (goes_on table process call target (comes (next ∷ more)) w made step) (request_of_step rules w.tree (start_in w process) process made step)

-- a plan comes to the call on the thing at its place, if there is one
abbrev pub plan_comes : Rules → CallTable → ℕ → Call → List Target → Plan → World → Bool
plan_comes rules table process call things plan w =
    is_some_by (λ target. comes rules table process call target plan.steps.items w 0) (slice_get things plan.place)

-- one of two plans comes to it
abbrev pub some_plan_comes : Rules → CallTable → ℕ → Call → List Target → BestPlans → World → Bool
some_plan_comes rules table process call things plans w =
    is_some_by (λ plan. plan_comes rules table process call things plan w) plans.first
    || is_some_by (λ plan. plan_comes rules table process call things plan w) plans.second

-- neither of the plans that were served comes to it
abbrev pub NoneComes : Rules → CallTable → ℕ → Call → List Target → World → NoWay → Type 0
NoneComes rules table process call things w none = some_plan_comes rules table process call things none.plans w ≡ false

-- without a plan none does
abbrev pub nothing_laid : NoWay
nothing_laid = record { plans = record { first = None; second = None } }
