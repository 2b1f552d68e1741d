-- The quoted statements by histories. Narrowing, NarrowingNow, NarrowingAsRead, Confinement and ConfinementAsRead (Futures), ObjectsAsWritten
-- (Listed), EverAsWritten (Forever) and TightAsWritten (Fewest) are about worlds of the replay: what their processes keep, their
-- trees, and what is answered. These are what the replay by histories leaves of its histories, so each is so of these, word by word.
use Rattle.std.specs.Prelude.{◌≡◌, ℕ, List, nat_eq, Option, Some, option_map}
use Rattle.std.specs.Map.{lookup}
use Rattle.pua_tree.specs.Tree.{Tree}
use Rattle.pua_calls.specs.Calls.{CallTable}
use Rattle.pua_policy.specs.States.{ProcessState}
use Rattle.pua_policy.specs.History.{History, state_of}
use Rattle.pua_script.specs.Requests.{Asked}
use Rattle.pua_script.specs.Replay.{new_world, kept_at, answers_to, world_after}
use Rattle.pua_script.specs.Pasts.{Past, new_past, left_of, past_after, past_answers, KeepsPasts}

-- the history of a process, where requests end that are made over a tree
abbrev pub history_in : CallTable → Tree → List Asked → ℕ → Option History
history_in table t asks process = lookup (nat_eq process) (past_after table (new_past t) asks).histories

-- what is left of it
abbrev pub state_in : CallTable → Tree → List Asked → ℕ → Option ProcessState
state_in table t asks process = option_map state_of (history_in table t asks process)

pub record IsOfHistories : Type 0 where
  -- over a tree: what each process keeps is what is left of its history, and the tree and the answers are those by histories
  pub states : (table : CallTable) (t : Tree) (asks : List Asked) (process : ℕ) →
      kept_at (world_after table (new_world t) asks) process ≡ state_in table t asks process
  pub trees : (table : CallTable) (t : Tree) (asks : List Asked) →
      (world_after table (new_world t) asks).tree ≡ (past_after table (new_past t) asks).tree
  pub answers : (table : CallTable) (t : Tree) (asks : List Asked) → answers_to table (new_world t) asks ≡ past_answers table (new_past t) asks
  -- so what is kept is what is left of some history
  pub histories : (table : CallTable) (t : Tree) (asks : List Asked) (process : ℕ) (now : ProcessState) →
      kept_at (world_after table (new_world t) asks) process ≡ Some now →
      (h : History) × (history_in table t asks process ≡ Some h) × (now ≡ state_of h)
  -- and where the histories are any, so is what is left of them, and what further requests leave
  pub kept : (past : Past) (process : ℕ) → kept_at (left_of past) process ≡ option_map state_of (lookup (nat_eq process) past.histories)
  pub further : KeepsPasts
