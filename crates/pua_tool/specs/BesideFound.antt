-- What the code finds of a process and of those who help it.
use Rattle.std.specs.Prelude.{◌≡◌, ℕ, Bool, true, false, List, [], ◌∷◌, Option}
use Rattle.pua_tree.specs.Tree.{Tree}
use Rattle.pua_calls.specs.Calls.{CallTable}
use Rattle.pua_calls.specs.declared.call.Call.{Call}
use Rattle.pua_policy.specs.States.{ProcessState}
use Rattle.pua_ever.specs.Ever.{Thing}
use Rattle.pua_ever.specs.EverList.{AreEverTold}
use Rattle.pua_ever.specs.declared.lasting_list.ExecBound.{ExecBound}
use Rattle.pua_ever.specs.declared.lasting_list.ExecBound.TheVariants.{Never}
use Rattle.pua_jointly.specs.Jointly.{joint_lines}
use Rattle.pua_jointly.specs.JointPrograms.{Acting, AreActing, TellsOfOne, agents_by, crew_by, now_of, started_of, worst}
use Rattle.pua_jointly.specs.declared.counting.Actor.{Actor}
use Rattle.pua_texts.specs.TogetherLines.{living}
use Rattle.pua_tool.specs.BesideTexts.{first_acting, states}
use Rattle.pua_tool.specs.declared.helped.Found.{Found}
use Rattle.pua_tool.specs.declared.helped.Part.{Part}

-- a process, and what it starts, where all of that is bounded
pub record PartSeen : Type 0 where
  pub process : ProcessState
  pub started : Option ProcessState

abbrev pub part_seen : Part → PartSeen
part_seen part = record { process = part.process.now; started = part.started }

abbrev pub part_by : CallTable → ProcessState → PartSeen
part_by table h = record { process = h; started = started_of table h }

-- the same, with what it says of execs
pub record ActorSeen : Type 0 where
  pub process : ProcessState
  pub started : Option ProcessState
  pub execs : ExecBound

abbrev pub actor_seen : Actor → ActorSeen
actor_seen actor = record { process = actor.process.now; started = now_of actor.started; execs = actor.execs }

abbrev pub silent_of : PartSeen → ActorSeen
silent_of part = record { process = part.process; started = part.started; execs = Never }

-- what a process can ever touch with the help of these, and what is said of execs
pub record IsFoundWith (t : Tree) (table : CallTable) (h : ProcessState) (helping : List ProcessState) (found : Found) : Type 0 where
  pub more : List Acting
  pub acting : AreActing t table (h ∷ helping) (first_acting h found.own ∷ more)
  pub execs : found.execs ≡ worst (first_acting h found.own ∷ more)
  pub test : Thing → Call → Bool
  pub tells : TellsOfOne t table (crew_by table (first_acting h found.own ∷ more)) (agents_by table (first_acting h found.own)) test
  pub rows : AreEverTold t [] found.rows.items (joint_lines t h test) []

-- nothing, of a process that has ended
pub record IsFoundEnded (found : Found) : Type 0 where
  pub own : found.own ≡ Never
  pub execs : found.execs ≡ Never
  pub rows : found.rows.items ≡ []

abbrev pub IsFound : Tree → CallTable → ProcessState → List (ℕ × ProcessState) → Bool → Found → Type 0
IsFound t table h others true found = IsFoundEnded found
IsFound t table h others false found = IsFoundWith t table h (states (living others)) found
