-- The first part of narrowing: a process that can put no veil any more reaches no more, whatever is asked afterwards.
use Rattle.std.specs.Prelude.{◌≡◌, ℕ, List, [], ◌∷◌, Some, IsTrue, IsFalse}
use Rattle.std.specs.List.{AllByRecursion}
use Rattle.pua_tree.specs.Tree.{Tree}
use Rattle.pua_path.specs.Paths.{is_absolute}
use Rattle.pua_calls.specs.Promises.{holds}
use Rattle.pua_calls.specs.Calls.{CallTable}
pub use Rattle.pua_calls.specs.Tables.{NamesNoError, NoCallNeedsError}
use Rattle.pua_policy.specs.States.{SameVeils, ProcessState, held_set, root_dir, working_dir}
use Rattle.pua_policy.specs.Verdict.{verdict_on, is_allowed}
use Rattle.pua_calls.specs.declared.call.Call.{Call}
use Rattle.pua_script.specs.Requests.{Asked}
use Rattle.pua_script.specs.Replay.{World, kept_at, apply, world_after}
use Rattle.pua_script.specs.Laws.{IsConfined}
use Rattle.pua_script.specs.Family.{family, is_member, is_done, none_done, is_exec, is_chdir, is_chroot, HasKept}
use Rattle.pua_script.specs.declared.request.Action.TheVariants.{Fork}
use Rattle.pua_script.specs.declared.answer.Answer.TheVariants.{Okay}

-- the later state has the veils of the earlier one, adds no promise but `error`, and can put no veil
pub record Tightens (before after : ProcessState) : Type 0 where
  pub unveils : SameVeils after before
  pub promises : (set : ℕ) → NamesNoError set → IsTrue (holds (held_set after) set) → IsTrue (holds (held_set before) set)
  pub confined : IsConfined after

-- what it is for a state to allow no more than another over each tree, where both have one root: on each absolute path, and on
-- each path at all where both work in one directory
pub record AllowsNoMore (table : CallTable) (before after : ProcessState) : Type 0 where
  pub absolute : root_dir after ≡ root_dir before → (t : Tree) (call : Call) (text : List ℕ) → IsTrue (is_absolute text) →
      IsTrue (is_allowed (verdict_on t table after call text)) → IsTrue (is_allowed (verdict_on t table before call text))
  pub relative : root_dir after ≡ root_dir before → working_dir after ≡ working_dir before → (t : Tree) (call : Call) (text : List ℕ) →
      IsTrue (is_allowed (verdict_on t table after call text)) → IsTrue (is_allowed (verdict_on t table before call text))

-- each request leaves the state of each process but the one that asks
abbrev pub OthersLeave : Type 0
OthersLeave = (table : CallTable) (w : World) (ask : Asked) (process : ℕ) (h : ProcessState) →
    kept_at w process ≡ Some h → (ask.process ≡ process → ⊥) → kept_at (apply table w ask).1 process ≡ Some h

-- so where others alone ask it stays: promises, execpromises, veils, lock, directory, root and end with it
abbrev pub OthersLeaveAlways : Type 0
OthersLeaveAlways = (table : CallTable) (w : World) (asks : List Asked) (process : ℕ) (h : ProcessState) →
    kept_at w process ≡ Some h → AllByRecursion (λ ask. ask.process ≡ process → ⊥) asks →
    kept_at (world_after table w asks) process ≡ Some h

-- one request of anyone: a confined process that did no exec is tightened, and stays in its directory but for its own chdir, and
-- below its root but for its own chroot
pub record IsNarrowedBy (table : CallTable) (w : World) (ask : Asked) (process : ℕ) (h after : ProcessState) : Type 0 where
  pub tightens : Tightens h after
  pub allows : NoCallNeedsError table → AllowsNoMore table h after
  pub dir : IsFalse (is_done is_chdir table w ask (process ∷ [])) → working_dir after ≡ working_dir h
  pub root : IsFalse (is_done is_chroot table w ask (process ∷ [])) → root_dir after ≡ root_dir h

-- so it is with each confined process that did no exec
abbrev pub RequestNarrows : CallTable → World → Asked → Type 0
RequestNarrows table w ask = (process : ℕ) (h : ProcessState) →
    kept_at w process ≡ Some h → IsConfined h → IsFalse (is_done is_exec table w ask (process ∷ [])) →
    HasKept (apply table w ask).1 process (IsNarrowedBy table w ask process h)

abbrev pub EachRequestNarrows : Type 0
EachRequestNarrows = (table : CallTable) (w : World) (ask : Asked) → RequestNarrows table w ask

-- and whoever it forks begins with its state
abbrev pub ForksCopy : Type 0
ForksCopy = (table : CallTable) (w : World) (process new : ℕ) (h : ProcessState) →
    kept_at w process ≡ Some h → (apply table w (record { process = process; action = Fork new })).0 ≡ Okay →
    kept_at (apply table w (record { process = process; action = Fork new })).1 new ≡ Some h

-- what is so of the last state of each member, by the state of the process that it began with
pub record EndsWithin (table : CallTable) (w : World) (asks : List Asked) (process : ℕ) (now last : ProcessState) : Type 0 where
  pub tightens : Tightens now last
  pub allows : NoCallNeedsError table → AllowsNoMore table now last
  pub dir : IsTrue (none_done is_chdir table w asks (process ∷ [])) → working_dir last ≡ working_dir now
  pub root : IsTrue (none_done is_chroot table w asks (process ∷ [])) → root_dir last ≡ root_dir now

-- each member of the family of a confined process is narrowed, as long as no exec of a member is answered ok, whatever is asked by anyone
abbrev pub FamilyNarrows : CallTable → World → List Asked → Type 0
FamilyNarrows table w asks = (process : ℕ) (now : ProcessState) →
    kept_at w process ≡ Some now → IsConfined now → IsTrue (none_done is_exec table w asks (process ∷ [])) →
    (member : ℕ) → IsTrue (is_member (family table w asks (process ∷ [])) member) →
    HasKept (world_after table w asks) member (EndsWithin table w asks process now)

abbrev pub FamiliesNarrow : Type 0
FamiliesNarrow = (table : CallTable) (w : World) (asks : List Asked) → FamilyNarrows table w asks
