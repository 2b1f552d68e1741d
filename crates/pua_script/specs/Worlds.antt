-- What a world keeps, and what it does of a request.
use Rattle.std.specs.Prelude.{◌≡◌, ℕ, Bool, true, false, List, nat_eq, Option, Result, Ok, Err, length}
use Rattle.std.specs.Map.{lookup, keys_of}
use Rattle.std.specs.Ordering.{nat_cmp}
use Rattle.std.specs.List.Sorted.{IsPermutation, IsStrictlySortedBy}
use Rattle.pua_tree.specs.Tree.{Tree}
use Rattle.pua_calls.specs.Calls.{CallTable}
use Rattle.pua_policy.specs.States.{ProcessState, state_after, Ended}
use Rattle.pua_script.specs.Requests.{Asked}
use Rattle.pua_script.specs.Replay.{World, Effect, Kills, Leaves, Copies, apply, effect, answers_to, world_after, answer_to}
use Rattle.pua_script.specs.declared.answer.Answer.{Answer}
use Rattle.pua_script.specs.declared.answer.Answer.TheVariants.{Okay}
use Rattle.pua_script.specs.declared.fault.WorldFault.{WorldFault}
use Rattle.pua_script.specs.declared.request.Action.{Action}
use Rattle.pua_script.specs.declared.request.Action.TheVariants.{Fork, Take}

-- a tree, the table of calls, and all processes ever made with their numbers, in the order in which they were made
pub record WorldState : Type 0 where
  pub tree : Tree
  pub table : CallTable
  pub processes : List (ℕ × ProcessState)

abbrev pub process_at : WorldState → ℕ → Option ProcessState
process_at s process = lookup (nat_eq process) s.processes

-- a state without its table, which stays, and with it
abbrev pub world_of : WorldState → World
world_of s = record { tree = s.tree; processes = s.processes }

abbrev pub with_table : CallTable → World → WorldState
with_table table w = record { tree = w.tree; table = table; processes = w.processes }

abbrev pub with_world : WorldState → World → WorldState
with_world s w = with_table s.table w

-- the answer to a request, and what the world keeps afterwards
abbrev pub apply_to : WorldState → Asked → Answer × WorldState
apply_to s ask = let done : Answer × World = apply s.table (world_of s) ask in (done.0, with_world s done.1)

-- and after a list of requests
abbrev pub state_after_all : WorldState → List Asked → WorldState
state_after_all s asks = with_world s (world_after s.table (world_of s) asks)

abbrev pub run_to : WorldState → List Asked → List Answer × WorldState
run_to s asks = (answers_to s.table (world_of s) asks, state_after_all s asks)

-- the numbers of all processes ever made, each above the one before it
pub record AreNumbersOf (s : WorldState) (numbers : List ℕ) : Type 0 where
  pub all : IsPermutation (keys_of s.processes) numbers
  pub rising : IsStrictlySortedBy nat_cmp numbers
  pub count : length numbers ≡ length s.processes

-- a request that makes a process
abbrev pub is_fork : Action → Bool
is_fork (Fork new) = true
is_fork _ = false

-- that asks what another one has
abbrev pub is_take : Action → Bool
is_take (Take number from theirs) = true
is_take _ = false

-- one of both
abbrev pub is_of_two : Action → Bool
is_of_two (Fork new) = true
is_of_two (Take number from theirs) = true
is_of_two _ = false

abbrev pub is_copy : Effect → Bool
is_copy (Copies new) = true
is_copy _ = false

-- the tree and the state that an effect leaves a process that had these
abbrev pub tree_left : Tree → Effect → Tree
tree_left t (Leaves after h) = after
tree_left t _ = t

abbrev pub state_left : ProcessState → Effect → ProcessState
state_left h Kills = state_after Ended h
state_left h (Leaves t after) = after
state_left h _ = h

-- a process was told of an effect and left with it
pub record Does (t : Tree) (h : ProcessState) (effect : Effect) (answer : Answer) (tree : Tree) (process : ProcessState) : Type 0 where
  pub told : answer ≡ answer_to effect
  pub left : tree ≡ tree_left t effect
  pub is : process ≡ state_left h effect
  pub alone : is_copy effect ≡ false

-- a process was told of an effect on the tree alone, and the tree was left with it
pub record Edits (t : Tree) (h : ProcessState) (effect : Effect) (answer : Answer) (tree : Tree) : Type 0 where
  pub told : answer ≡ answer_to effect
  pub left : tree ≡ tree_left t effect
  pub same : state_left h effect ≡ h
  pub alone : is_copy effect ≡ false

-- a process was told of an effect and left with it, or a growth was refused, where it would be told `ok`
abbrev pub Attempts : Tree → ProcessState → Effect → Result Answer WorldFault → Tree → ProcessState → Type 0
Attempts t h effect (Ok answer) tree process = Does t h effect answer tree process
Attempts t h effect (Err fault) tree process = answer_to effect ≡ Okay

-- the same of an effect on the tree alone
abbrev pub AttemptsEdit : Tree → ProcessState → Effect → Result Answer WorldFault → Tree → Type 0
AttemptsEdit t h effect (Ok answer) tree = Edits t h effect answer tree
AttemptsEdit t h effect (Err fault) tree = answer_to effect ≡ Okay

-- a living process did what it asked for
abbrev pub Acts : CallTable → Tree → ProcessState → Action → Result Answer WorldFault → Tree → ProcessState → Type 0
Acts table t before action result tree after = (processes : List (ℕ × ProcessState)) →
    Attempts t before (effect table (record { tree = t; processes = processes }) before action) result tree after
