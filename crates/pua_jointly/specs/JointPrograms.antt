-- Whose programs count where several processes act together: of those that can ever start one, where all that they start is bounded.
-- Others have nobody more in the crew, so these are the fewest for which each list holds.
use Rattle.std.specs.Prelude.{◌≡◌, ◌≢◌, ⊤, ℕ, false, Bool, List, [], ◌∷◌, flat_map, map, if◌then◌else◌, Option, Some, None}
use Rattle.std.specs.Prelude.{is_some, option_map, slice_get, IsTrue}
use Rattle.std.specs.Borrow.{Bor}
use Rattle.std.specs.List.{AllByRecursion, Contains}
use Rattle.pua_tree.specs.Tree.{Tree, is_dir}
use Rattle.pua_path.specs.declared.found.Found.TheVariants.{Slot}
use Rattle.pua_calls.specs.Calls.{CallTable}
use Rattle.pua_calls.specs.declared.call.Call.{Call}
use Rattle.pua_calls.specs.declared.call.Call.TheVariants as call
use Rattle.pua_policy.specs.States.{ProcessState}
use Rattle.pua_objects.specs.Objects.{At}
use Rattle.pua_ever.specs.Ever.{Thing, Stands}
use Rattle.pua_ever.specs.Through.{bound_of}
use Rattle.pua_ever.specs.declared.lasting_list.ExecBound.{ExecBound}
use Rattle.pua_ever.specs.declared.lasting_list.ExecBound.TheVariants.{Never, Bounded, Open}
use Rattle.pua_jointly.specs.Jointly.{IsJointlyListed, TellsJointly, agents_of, as_started}
use Rattle.pua_jointly.specs.declared.counting.Actor.{Actor}
use Rattle.pua_jointly.specs.declared.crew.Entry.{Entry}

-- the list of one of several processes has exec
pub record HasExec (t : Tree) (table : CallTable) (crew : List ProcessState) (a : ProcessState) : Type 0 where
  pub thing : Thing
  pub listed : IsJointlyListed t table crew a thing call.Exec

-- one of several processes, and what it says of execs: that it can never start a program, that all which it starts is bounded, or
-- that it isn't
pub record Acting : Type 0 where
  pub process : ProcessState
  pub execs : ExecBound

-- it acts by itself; and by what it hands down, where it can start a program and all of that is bounded
abbrev pub handed_by : ExecBound → Option ℕ → Option ℕ
handed_by Never given = None
handed_by Bounded given = given
handed_by Open given = None

abbrev pub who : CallTable → Acting → ProcessState × Option ℕ
who table m = (m.process, handed_by m.execs (bound_of table m.process))

abbrev pub agents_by : CallTable → Acting → List ProcessState
agents_by table m = agents_of (who table m)

-- by whom all of them act
abbrev pub crew_by : CallTable → List Acting → List ProcessState
crew_by table acting = flat_map (agents_by table) acting

-- what it says is so by its list
abbrev pub IsSaidOf : Tree → CallTable → List ProcessState → ProcessState → ExecBound → Type 0
IsSaidOf t table crew h Never = HasExec t table crew h → ⊥
IsSaidOf t table crew h Bounded = HasExec t table crew h × (bound_of table h ≢ None)
IsSaidOf t table crew h Open = HasExec t table crew h × (bound_of table h ≡ None)

abbrev pub AreSaid : Tree → CallTable → List Acting → Type 0
AreSaid t table acting = AllByRecursion (λ m. IsSaidOf t table (crew_by table acting) m.process m.execs) acting

-- the same processes, of which the second ones start bounded programs where the first ones do
abbrev pub CountsToo : Acting → Acting → Type 0
CountsToo m o = (m.process ≡ o.process) × (m.execs ≡ Bounded → o.execs ≡ Bounded)

abbrev pub AreNoMore : List Acting → List Acting → Type 0
AreNoMore [] [] = ⊤
AreNoMore [] (o ∷ os) = ⊥
AreNoMore (m ∷ ms) [] = ⊥
AreNoMore (m ∷ ms) (o ∷ os) = CountsToo m o × AreNoMore ms os

-- what these processes say of execs, with the fewest programs that count
pub record AreActing (t : Tree) (table : CallTable) (processes : List ProcessState) (acting : List Acting) : Type 0 where
  pub same : map (λ m. m.process) acting ≡ processes
  pub said : AreSaid t table acting
  pub fewest : (others : List Acting) → map (λ m. m.process) others ≡ processes → AreSaid t table others → AreNoMore acting others

-- what all of them say together: that some start what isn't bounded, or else that some start programs
abbrev pub worse : ExecBound → ExecBound → ExecBound
worse Never more = more
worse Bounded Never = Bounded
worse Bounded Bounded = Bounded
worse Bounded Open = Open
worse Open more = Open

abbrev pub worst : List Acting → ExecBound
worst [] = Never
worst (m ∷ more) = worse m.execs (worst more)

-- the list of one of some processes has a call, with the help of all
pub record IsListedOfOne (t : Tree) (table : CallTable) (crew agents : List ProcessState) (thing : Thing) (call : Call) : Type 0 where
  pub agent : ProcessState
  pub among : Contains agents agent
  pub listed : IsJointlyListed t table crew agent thing call

-- a test that tells this, and of each of them one that tells its own list
pub record TellsOfOne (t : Tree) (table : CallTable) (crew agents : List ProcessState) (test : Thing → Call → Bool) : Type 0 where
  pub all : (thing : Thing) (call : Call) → IsListedOfOne t table crew agents thing call → IsTrue (test thing call)
  pub only : (thing : Thing) (call : Call) → IsTrue (test thing call) → IsListedOfOne t table crew agents thing call
  pub each : (agent : ProcessState) → Contains agents agent → (own : Thing → Call → Bool) × TellsJointly t table crew agent own

-- Notes: what the code keeps, and what it asks.

-- what a process starts, where all of that is bounded
abbrev pub started_of : CallTable → ProcessState → Option ProcessState
started_of table h = option_map (as_started h) (bound_of table h)

abbrev pub now_of : Option (Bor ProcessState) → Option ProcessState
now_of o = option_map (λ (p : Bor ProcessState). p.now) o

abbrev pub acting_of : Actor → Acting
acting_of m = record { process = m.process.now; execs = m.execs }

abbrev pub HasProgram : CallTable → Actor → Type 0
HasProgram table m = now_of m.started ≡ started_of table m.process.now

-- what it starts, where that counts
abbrev pub program_by : ExecBound → Option (Bor ProcessState) → Option (Bor ProcessState)
program_by Never started = None
program_by Bounded started = started
program_by Open started = None

abbrev pub program_of : Actor → Option (Bor ProcessState)
program_of m = program_by m.execs m.started

abbrev pub started_now : Option (Bor ProcessState) → List ProcessState
started_now None = []
started_now (Some started) = started.now ∷ []

abbrev pub acting_now : Actor → List ProcessState
acting_now m = m.process.now ∷ started_now (program_of m)

abbrev pub process_of : Actor → ProcessState
process_of m = m.process.now

-- what stays of it, and that nothing is said yet
abbrev pub kept_of : Actor → Bor ProcessState × Option (Bor ProcessState)
kept_of m = (m.process, m.started)

abbrev pub IsSilent : CallTable → Actor → Type 0
IsSilent table m = HasProgram table m × (m.execs ≡ Never)

-- what it says once its list has exec
abbrev pub starting : Actor → Actor
starting m = record m { execs = if is_some m.started then Bounded else Open }

-- its list has exec on what stands at a name, and is no directory
abbrev pub StartsAt : Tree → CallTable → List ProcessState → ProcessState → Entry → Type 0
StartsAt t table crew a entry =
    (is_dir t entry.node ≡ false)
    × IsJointlyListed t table crew a (Stands (At (Slot entry.dir entry.name.now (Some entry.node)))) call.Exec

-- so it is of one of some names
pub record SomeStart (t : Tree) (table : CallTable) (crew : List ProcessState) (a : ProcessState) (entries : List Entry) : Type 0 where
  pub entry : Entry
  pub among : Contains entries entry
  pub starts : StartsAt t table crew a entry

-- at a place stands one that says that it never starts a program, and whose list has exec; or there is none
pub record StartsAfterAll (t : Tree) (table : CallTable) (crew : List ProcessState) (acting : List Acting) (at : ℕ) : Type 0 where
  pub one : Acting
  pub here : slice_get acting at ≡ Some one
  pub said : one.execs ≡ Never
  pub exec : HasExec t table crew one.process

abbrev pub IsNextStarting : Tree → CallTable → List ProcessState → List Acting → Option ℕ → Type 0
IsNextStarting t table crew acting None =
    AllByRecursion (λ m. m.execs ≡ Never → HasExec t table crew m.process → ⊥) acting
IsNextStarting t table crew acting (Some at) = StartsAfterAll t table crew acting at
