-- The replay by histories: it keeps the histories of processes, and what is left of a history decides.
use Rattle.std.specs.Prelude.{◌≡◌, ℕ, if◌then◌else◌, List, [], ◌∷◌, map, nat_eq, Option, Some, None, Result, Ok, Err}
use Rattle.std.specs.Map.{lookup}
use Rattle.pua_tree.specs.Tree.{Tree}
use Rattle.pua_calls.specs.Calls.{CallTable}
use Rattle.pua_policy.specs.States.{Ended, Filed, is_pledged}
use Rattle.pua_policy.specs.declared.open_file.OpenFile.{OpenFile}
use Rattle.pua_policy.specs.History.{History, new_history, after_exec, is_ended, state_of}
use Rattle.pua_path.specs.declared.errno.Errno.{Errno}
use Rattle.pua_policy.specs.declared.answer.Refusal.TheVariants.{Failed, Killed}
use Rattle.pua_script.specs.Requests.{Asked}
use Rattle.pua_script.specs.Decide.{Decision, BeginProgram, AddEvent, CopyAs, TakeFile, decide}
use Rattle.pua_script.specs.Replay.{World, Effect, Leaves, Copies, new_world, put_at, fork_effect, change_effect, come_of, answer_to}
use Rattle.pua_script.specs.Replay.{answers_to, kept_at, sent_by, world_after}
use Rattle.pua_script.specs.declared.answer.Answer.{Answer}
use Rattle.pua_script.specs.declared.answer.Answer.TheVariants.{Gone}

-- a tree, and the histories of all processes ever made
pub record Past : Type 0 where
  pub tree : Tree
  pub histories : List (ℕ × History)

abbrev pub new_past : Tree → Past
new_past t = record { tree = t; histories = (1, new_history) ∷ [] }

-- what is left of the histories
abbrev pub left_of : Past → World
left_of past = record { tree = past.tree; processes = map (λ made. (made.0, state_of made.1)) past.histories }

abbrev pub with_past : Past → ℕ → History → Past
with_past past n h = record { tree = past.tree; histories = put_at n h past.histories }

abbrev pub past_forked : Past → History → Effect → Past
past_forked past h (Copies new) = with_past past new h
past_forked past h _ = past

abbrev pub past_edited : Past → ℕ → History → Effect → Past
past_edited past n h (Leaves t p) = record { tree = t; histories = put_at n h past.histories }
past_edited past n h _ = past

abbrev pub past_taken : Past → ℕ → History → ℕ → Result OpenFile Errno → Past
past_taken past n h number (Ok file) = with_past past n (Filed number (Some file) ∷ h)
past_taken past n h number (Err errno) = past

-- what a decision adds to the history of the one that asked
abbrev pub past_decided : Past → ℕ → History → Decision → Past
past_decided past n h (Ok (AddEvent event)) = with_past past n (event ∷ h)
past_decided past n h (Ok (BeginProgram left)) = with_past past n (after_exec left h)
past_decided past n h (Ok (CopyAs new)) = past_forked past h (fork_effect (left_of past) (state_of h) new)
past_decided past n h (Ok (TakeFile number from theirs)) =
    past_taken past n h number (sent_by (is_pledged (state_of h)) (kept_at (left_of past) from) theirs)
past_decided past n h (Ok change) = past_edited past n h (change_effect (left_of past) (state_of h) change)
past_decided past n h (Err (Failed errno)) = past
past_decided past n h (Err Killed) = with_past past n (Ended ∷ h)

abbrev pub past_served : CallTable → Past → Asked → Option History → Past
past_served table past ask None = past
past_served table past ask (Some h) =
    if is_ended h then past else past_decided past ask.process h (decide table past.tree (state_of h) ask.action)

abbrev pub past_after : CallTable → Past → List Asked → Past
past_after table past [] = past
past_after table past (ask ∷ asks) = past_after table (past_served table past ask (lookup (nat_eq ask.process) past.histories)) asks

-- what a request is answered, by the history of the process that asks
abbrev pub past_answer : CallTable → Past → Asked → Option History → Answer
past_answer table past ask None = Gone
past_answer table past ask (Some h) =
    if is_ended h then Gone else answer_to (come_of (left_of past) (state_of h) (decide table past.tree (state_of h) ask.action))

abbrev pub past_answers : CallTable → Past → List Asked → List Answer
past_answers table past [] = []
past_answers table past (ask ∷ asks) = let made : Option History = lookup (nat_eq ask.process) past.histories in
    past_answer table past ask made ∷ past_answers table (past_served table past ask made) asks

-- a replay answers as the replay by histories does, its tree is the same, and its processes keep what is left of the histories
pub record KeepsPasts : Type 0 where
  pub begins : (t : Tree) → new_world t ≡ left_of (new_past t)
  pub goes_on : (table : CallTable) (past : Past) (asks : List Asked) →
      world_after table (left_of past) asks ≡ left_of (past_after table past asks)
  pub answers : (table : CallTable) (past : Past) (asks : List Asked) → answers_to table (left_of past) asks ≡ past_answers table past asks
