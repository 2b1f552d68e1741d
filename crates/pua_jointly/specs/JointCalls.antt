-- The calls that the facts of several processes give one of them.
use Rattle.std.specs.Prelude.{◌≡◌, ℕ, Bool, List, Option, Some, None, slice_get, true, false, map}
use Rattle.std.specs.Borrow.{Bor}
use Rattle.std.specs.List.{Contains, list_any}
use Rattle.pua_tree.specs.Tree.{Tree, Spot, empty_tree}
use Rattle.pua_path.specs.declared.found.Found.TheVariants.{Slot}
use Rattle.pua_calls.specs.Calls.{CallTable}
use Rattle.pua_calls.specs.CallSets.{has}
use Rattle.pua_calls.specs.declared.call.Call.{Call}
use Rattle.pua_policy.specs.States.{ProcessState, perms_kept}
use Rattle.pua_policy.specs.Verdict.{IsMissing, Object, covered_verdict, is_allowed}
use Rattle.pua_policy.specs.declared.answer.Cover.TheVariants.{Only}
use Rattle.pua_policy.specs.declared.place.Place.TheVariants as place
use Rattle.pua_objects.specs.Objects.{At}
use Rattle.pua_ever.specs.Ever.{Stands, Thing}
use Rattle.pua_jointly.specs.JointCovers.{allows_under, numbered}
use Rattle.pua_jointly.specs.JointFound.{AreFacts}
use Rattle.pua_jointly.specs.JointPrograms.{IsListedOfOne}
use Rattle.pua_jointly.specs.Jointly.{IsJointlyAllowed, IsJointlyListed, as_started}
use Rattle.pua_jointly.specs.declared.agent.Agent.{Agent}
use Rattle.pua_jointly.specs.declared.crew.Group.{Group}
use Rattle.pua_jointly.specs.declared.facts.Facts.{Facts}

-- one of the processes of which facts are
pub record IsOf (t : Tree) (table : CallTable) (crew : List ProcessState) (facts : Facts) (a : ProcessState) (of : Agent) : Type 0 where
  pub facts_are : AreFacts t table crew facts
  pub at : ℕ
  pub got : slice_get facts.crew.agents.items at ≡ Some of
  pub process : of.process.now ≡ a

-- calls are those that can ever be allowed to it on a thing, but for exec on what is made a program
pub record AreAllowedOf (t : Tree) (table : CallTable) (crew : List ProcessState) (a : ProcessState) (thing : Thing) (calls : ℕ) : Type 0 where
  pub all : (call : Call) → IsJointlyAllowed t table crew a thing call → has calls call ≡ true
  pub only : (call : Call) → has calls call ≡ true → IsJointlyAllowed t table crew a thing call

-- and those that its list has
pub record AreCallsOf (t : Tree) (table : CallTable) (crew : List ProcessState) (a : ProcessState) (thing : Thing) (calls : ℕ) : Type 0 where
  pub all : (call : Call) → IsJointlyListed t table crew a thing call → has calls call ≡ true
  pub only : (call : Call) → has calls call ≡ true → IsJointlyListed t table crew a thing call

-- calls are those that are allowed to a process on an object under some cover of a word
abbrev pub AreUnder : CallTable → ProcessState → ℕ → Object → ℕ → Type 0
AreUnder table a covers object calls = (call : Call) → has calls call ≡ list_any (allows_under table a covers object call) (numbered 18)

-- and on a name where nothing stands, by its own veil
abbrev pub free_allows : CallTable → ProcessState → Option ℕ → Call → Bool
free_allows table a None call = false
free_allows table a (Some perms) call = is_allowed (covered_verdict empty_tree table a call (Only perms) IsMissing)

abbrev pub AreFreeCalls : CallTable → ProcessState → ℕ → List ℕ → ℕ → Type 0
AreFreeCalls table a dir name calls = (call : Call) → has calls call ≡ free_allows table a (perms_kept a (place.Slot dir name)) call

-- of a name at which something stands, once that is taken away
abbrev pub AreOwnCalls : Tree → CallTable → List ProcessState → ProcessState → Option Spot → ℕ → Type 0
AreOwnCalls t table crew a None calls = (call : Call) → has calls call ≡ false
AreOwnCalls t table crew a (Some spot) calls = AreCallsOf t table crew a (Stands (At (Slot spot.0 spot.1 None))) calls

-- calls are those that the lists of some processes have, taken together
pub record AreCallsOfOne (t : Tree) (table : CallTable) (crew agents : List ProcessState) (thing : Thing) (calls : ℕ) : Type 0 where
  pub all : (call : Call) → IsListedOfOne t table crew agents thing call → has calls call ≡ true
  pub only : (call : Call) → has calls call ≡ true → IsListedOfOne t table crew agents thing call

abbrev pub AreOwnCallsOfOne : Tree → CallTable → List ProcessState → List ProcessState → Option Spot → ℕ → Type 0
AreOwnCallsOfOne t table crew agents None calls = (call : Call) → has calls call ≡ false
AreOwnCallsOfOne t table crew agents (Some spot) calls = AreCallsOfOne t table crew agents (Stands (At (Slot spot.0 spot.1 None))) calls

-- of a process, and of what it starts if that counts
abbrev pub HasAgents : Tree → CallTable → List ProcessState → Facts → ProcessState → Option ℕ → Group → Type 0
HasAgents t table crew facts a None group = IsOf t table crew facts a group.own.now × (group.program ≡ None)
HasAgents t table crew facts a (Some given) group =
    IsOf t table crew facts a group.own.now × (of : Bor Agent) × (group.program ≡ Some of) × IsOf t table crew facts (as_started a given) of.now

-- what is asked of a process, if it is one of these
abbrev pub IsAgentIn : List Agent → ProcessState → Option (Bor Agent) → Type 0
IsAgentIn agents a None = Contains (map (λ agent. agent.process.now) agents) a → ⊥
IsAgentIn agents a (Some of) = Contains agents of.now × (of.now.process.now ≡ a)

-- and of one with a program
abbrev pub IsProgramIn : List Agent → Option ProcessState → Option (Bor Agent) → Type 0
IsProgramIn agents None program = program ≡ None
IsProgramIn agents (Some h) program = (of : Bor Agent) × (program ≡ Some of) × IsAgentIn agents h (Some of)

abbrev pub IsGroupIn : List Agent → ProcessState → Option ProcessState → Option Group → Type 0
IsGroupIn agents a program None =
    Contains (map (λ agent. agent.process.now) agents) a
    → ((h : ProcessState) → program ≡ Some h → Contains (map (λ agent. agent.process.now) agents) h) → ⊥
IsGroupIn agents a program (Some group) = IsAgentIn agents a (Some group.own) × IsProgramIn agents program group.program
