-- The second part of narrowing: what a process can't touch with `c` stays, whatever it asks for.
use Rattle.std.specs.Prelude.{◌≡◌, ℕ, Bool, true, false, if◌then◌else◌, List, [], ◌∷◌, Some, IsTrue, IsFalse}
use Rattle.std.specs.List.{AllByRecursion, list_any}
use Rattle.pua_tree.specs.Tree.{Tree, WellFormed, Spot, is_dir, look, node_at}
use Rattle.pua_path.specs.declared.found.Found.{Found}
use Rattle.pua_path.specs.declared.found.Found.TheVariants.{Whole, Slot}
use Rattle.pua_path.specs.declared.found.Way.TheVariants.{Named}
use Rattle.pua_calls.specs.Promises.{holds, creating, tmppath}
use Rattle.pua_calls.specs.Calls.{Rule, CallTable, about_rules, rule_of, effect_of}
use Rattle.pua_calls.specs.Effects.{edits}
use Rattle.pua_calls.specs.Tables.{NamesNoError}
use Rattle.pua_policy.specs.States.{ProcessState, held_set}
use Rattle.pua_policy.specs.Verdict.{cover}
use Rattle.pua_policy.specs.declared.answer.Cover.{Cover}
use Rattle.pua_policy.specs.declared.answer.Cover.TheVariants.{All, Nothing, Only}
use Rattle.pua_calls.specs.declared.call.Call.{Call}
use Rattle.pua_calls.specs.declared.call.Call.TheVariants as call
use Rattle.pua_script.specs.Requests.{Asked}
use Rattle.pua_script.specs.Replay.{World, kept_at, apply, world_after}
use Rattle.pua_script.specs.Laws.{IsConfined}
use Rattle.pua_script.specs.Family.{is_exec, none_done, members_alone}

abbrev pub NeedsC : Rule → Type 0
NeedsC rule = IsTrue (holds rule.perms creating)

-- what takes a name away needs `c`: two calls, and rename, which takes away its old name and what has the new one. Link
-- takes none away, so nothing is asked of it: the row of its old name stays, but by the new one what it names may be
-- written
pub record TakingNeedsC (table : CallTable) : Type 0 where
  pub rmdir : NeedsC (rule_of table call.Rmdir)
  pub unlink : NeedsC (rule_of table call.Unlink)
  pub rename_old : NeedsC table.rename.old.needs
  pub rename_new : NeedsC table.rename.new.needs

-- each alternative names one of these promises
abbrev pub NamesOne : List ℕ → Rule → Type 0
NamesOne promises rule = AllByRecursion (λ set. IsTrue (list_any (holds set) promises)) rule.alternatives

-- the calls that make a name or take one away
abbrev pub changes_names : Call → Bool
changes_names call = edits (effect_of call)

-- these need one of some promises
abbrev pub CallsNeed : List ℕ → CallTable → Type 0
CallsNeed promises table = (c : Call) → IsTrue (changes_names c) → NamesOne promises (rule_of table c)

-- so do the new names of rename and of link; `tmppath` is one of them where promises open calls, since it opens such as change names; and
-- none of the promises is `error`, since a process can gain that
pub record ChangingNeeds (promises : List ℕ) (table : CallTable) : Type 0 where
  pub no_error : AllByRecursion NamesNoError promises
  pub calls : CallsNeed promises table
  pub rename : NamesOne promises table.rename.new.needs
  pub link : NamesOne promises table.link.new.needs
  pub opened : IsTrue (about_rules table.whose).has_openings → IsTrue (list_any (holds tmppath) promises)

-- a state doesn't hold any of these promises
abbrev pub HoldsNone : List ℕ → ProcessState → Type 0
HoldsNone promises h = IsFalse (list_any (holds (held_set h)) promises)

-- what stands in a row, as veils see it: a directory by its node, anything else by its name
abbrev pub object_in : Tree → Spot → ℕ → Found
object_in t spot x = if is_dir t x then Whole x (Named spot.0 spot.1) else Slot spot.0 spot.1 (Some x)

-- whether a cover has `c`
abbrev pub has_c : Cover → Bool
has_c All = true
has_c Nothing = false
has_c (Only perms) = holds perms creating

-- a row stays with its node, what that is, where it leads, and its cover
pub record RowStays (h : ProcessState) (t u : Tree) (spot : Spot) (x : ℕ) : Type 0 where
  pub row : look u spot.0 spot.1 ≡ Some x
  pub node : node_at u x ≡ node_at t x
  pub covered : cover u h (object_in u spot x) ≡ cover t h (object_in t spot x)

-- each row that the state doesn't cover with `c` stays
abbrev pub UncoveredStay : ProcessState → Tree → Tree → Type 0
UncoveredStay h t u = (spot : Spot) (x : ℕ) → look t spot.0 spot.1 ≡ Some x → IsFalse (has_c (cover t h (object_in t spot x))) →
    RowStays h t u spot x

-- one request, by the state of the one that asks, from one tree to another; nothing is asked of that state
abbrev pub EachRequestSpares : Type 0
EachRequestSpares = (table : CallTable) → TakingNeedsC table → (w : World) (ask : Asked) (h : ProcessState) →
    WellFormed w.tree → WellFormed (apply table w ask).1.tree → kept_at w ask.process ≡ Some h →
    UncoveredStay h w.tree (apply table w ask).1.tree

-- and without the promises by which the tree is changed it stays
abbrev pub PromisesChange : Type 0
PromisesChange = (table : CallTable) (promises : List ℕ) → ChangingNeeds promises table → (w : World) (ask : Asked) (h : ProcessState) →
    kept_at w ask.process ≡ Some h → HoldsNone promises h → (apply table w ask).1.tree ≡ w.tree

-- each world on the way has a tree
abbrev pub TreesAlong : CallTable → World → List Asked → Type 0
TreesAlong table w [] = WellFormed w.tree
TreesAlong table w (ask ∷ asks) = WellFormed w.tree × TreesAlong table (apply table w ask).1 asks

-- the second part over a list of requests: by the state at its beginning each uncovered row stays, and without the promises by
-- which the tree is changed the tree stays
pub record Confines (table : CallTable) (w : World) (now : ProcessState) (asks : List Asked) : Type 0 where
  pub spares : TakingNeedsC table → TreesAlong table w asks → UncoveredStay now w.tree (world_after table w asks).tree
  pub unchanged : (promises : List ℕ) → ChangingNeeds promises table → HoldsNone promises now → (world_after table w asks).tree ≡ w.tree

-- where members alone ask, and no exec of theirs is answered ok
abbrev pub FamilyConfines : CallTable → World → List Asked → Type 0
FamilyConfines table w asks = (process : ℕ) (now : ProcessState) →
    kept_at w process ≡ Some now → IsConfined now → IsTrue (none_done is_exec table w asks (process ∷ [])) →
    IsTrue (members_alone table w asks (process ∷ [])) → Confines table w now asks

abbrev pub FamiliesConfine : Type 0
FamiliesConfine = (table : CallTable) (w : World) (asks : List Asked) → FamilyConfines table w asks
