-- What a thinned script that is answered as the given one leaves to several of its processes: what all of them together can come to
-- touch, by the least facts of a crew.
use Rattle.std.specs.Prelude.{◌≡◌, ◌≢◌, ℕ, Bool, List, map, Some}
use Rattle.std.specs.List.{AllByRecursion, Contains}
use Rattle.pua_tree.specs.Tree.{Tree}
use Rattle.pua_calls.specs.Calls.{CallTable}
use Rattle.pua_calls.specs.declared.call.Call.{Call}
use Rattle.pua_policy.specs.States.{ProcessState}
use Rattle.pua_script.specs.Requests.{Asked}
use Rattle.pua_script.specs.Replay.{World, answers_to, kept_at, world_after}
use Rattle.pua_ever.specs.Ever.{EverLine, Thing}
use Rattle.pua_ever.specs.declared.lasting_list.ExecBound.TheVariants.{Never, Bounded, Open}
use Rattle.pua_jointly.specs.Jointly.{IsJointlyAllowed, IsJointlyListed, TellsJointly, joint_lines}
use Rattle.pua_jointly.specs.JointPrograms.{Acting, AreActing, AreSaid, IsListedOfOne, TellsOfOne, agents_by, crew_by}
use Rattle.pua_tight.specs.Laws.{IsListedForEver}
use Rattle.pua_tight.specs.Narrower.{AsksWithin, StateWithin, WorldWithin}
use Rattle.pua_tight.specs.Tight.{Line, asks_of, tight}

-- one of a crew has all that a process has
pub record HasOuter (crew : List ProcessState) (h : ProcessState) : Type 0 where
  pub outer : ProcessState
  pub among : Contains crew outer
  pub within : StateWithin h outer

-- of each process of one crew there is one in the other that has all of it
abbrev pub CrewWithin : List ProcessState → List ProcessState → Type 0
CrewWithin tight given = (h : ProcessState) → Contains tight h → HasOuter given h

-- a call that can ever be allowed to a process with the help of such a crew can be to one that it lies within, with the help of the other
abbrev pub WithinAllowsNoMoreJointly : Type 0
WithinAllowsNoMoreJointly =
    (t : Tree) (table : CallTable) (crew others : List ProcessState) → CrewWithin crew others → (tight given : ProcessState) →
    StateWithin tight given → (thing : Thing) (call : Call) →
    IsJointlyAllowed t table crew tight thing call → IsJointlyAllowed t table others given thing call

-- and so it is with exec on what is made a program: what can ever be listed of the one can be of the other
abbrev pub WithinListsNoMoreJointly : Type 0
WithinListsNoMoreJointly =
    (t : Tree) (table : CallTable) (crew others : List ProcessState) → CrewWithin crew others → (tight given : ProcessState) →
    StateWithin tight given → (thing : Thing) (call : Call) →
    IsJointlyListed t table crew tight thing call → IsJointlyListed t table others given thing call

-- so each line of the one's joint list has one in the other's: by the same names, about the same thing, with all of its calls
abbrev pub WithinHasNoMoreJointLines : Type 0
WithinHasNoMoreJointLines =
    (t : Tree) (table : CallTable) (crew others : List ProcessState) → CrewWithin crew others → (tight given : ProcessState) →
    StateWithin tight given → (test other : Thing → Call → Bool) →
    TellsJointly t table crew tight test → TellsJointly t table others given other →
    (line : EverLine) → Contains (joint_lines t tight test) line → IsListedForEver (joint_lines t given other) line

-- and with what they start, where that counts. One process in both scripts, and what it says of execs in each
pub record Twice : Type 0 where
  pub tight : Acting
  pub given : Acting

abbrev pub tight_of : List Twice → List Acting
tight_of every = map (λ both. both.tight) every

abbrev pub given_of : List Twice → List Acting
given_of every = map (λ both. both.given) every

abbrev pub processes_of : List Acting → List ProcessState
processes_of acting = map (λ m. m.process) acting

-- nothing counts of what it starts in the thinned script, where that is not bounded in the given one
abbrev pub CountsNoMore : Twice → Type 0
CountsNoMore both = both.given.execs ≡ Open → both.tight.execs ≢ Bounded

abbrev pub IsTwiceWithin : Twice → Type 0
IsTwiceWithin both = StateWithin both.tight.process both.given.process × CountsNoMore both

-- with the help of all it starts nothing where it starts nothing in the given script, and its list with that of what it starts lies within
pub record ActsNoMore (t : Tree) (table : CallTable) (every : List Twice) (both : Twice) : Type 0 where
  pub starts : both.given.execs ≡ Never → both.tight.execs ≡ Never
  pub calls : (thing : Thing) (call : Call) →
      IsListedOfOne t table (crew_by table (tight_of every)) (agents_by table both.tight) thing call →
      IsListedOfOne t table (crew_by table (given_of every)) (agents_by table both.given) thing call
  pub lines : (test other : Thing → Call → Bool) →
      TellsOfOne t table (crew_by table (tight_of every)) (agents_by table both.tight) test →
      TellsOfOne t table (crew_by table (given_of every)) (agents_by table both.given) other →
      (line : EverLine) → Contains (joint_lines t both.tight.process test) line →
      IsListedForEver (joint_lines t both.given.process other) line

abbrev pub WithinActsNoMoreJointly : Type 0
WithinActsNoMoreJointly =
    (t : Tree) (table : CallTable) (every : List Twice) → AllByRecursion IsTwiceWithin every →
    AreActing t table (processes_of (tight_of every)) (tight_of every) → AreSaid t table (given_of every) →
    (both : Twice) → Contains every both → ActsNoMore t table every both

-- one process of two worlds: by its number
pub record IsOfBoth (tight given : World) (both : Twice) : Type 0 where
  pub number : ℕ
  pub in_tight : kept_at tight number ≡ Some both.tight.process
  pub in_given : kept_at given number ≡ Some both.given.process

-- any processes of one world, all of them together, come to no more than those of the same numbers in the other, over the same tree
pub record ComesToNoMore (tight given : World) : Type 0 where
  pub tree : tight.tree ≡ given.tree
  pub acts : (table : CallTable) (every : List Twice) → AllByRecursion (λ both. IsOfBoth tight given both × CountsNoMore both) every →
      AreActing tight.tree table (processes_of (tight_of every)) (tight_of every) → AreSaid tight.tree table (given_of every) →
      (both : Twice) → Contains every both → ActsNoMore tight.tree table every both

abbrev pub WorldsComeToNoMore : Type 0
WorldsComeToNoMore = (tight given : World) → WorldWithin tight given → ComesToNoMore tight given

-- so it is behind a script of fewer keywords and letters that is answered alike
abbrev pub ScriptsComeToNoMore : Type 0
ScriptsComeToNoMore = (table : CallTable) (w : World) (less given : List Asked) → AsksWithin less given →
    answers_to table w less ≡ answers_to table w given → ComesToNoMore (world_after table w less) (world_after table w given)

-- and behind a tightened one
abbrev pub TightComesToNoMore : Type 0
TightComesToNoMore = (table : CallTable) (w : World) (lines : List Line) →
    ComesToNoMore (world_after table w (tight table w lines)) (world_after table w (asks_of lines))
