-- What the list of one of several processes says of the future, behind a listing and a script as a command reads them.
use Rattle.std.specs.Prelude.{◌≡◌, ℕ, Bool, List, [], ◌∷◌, map, Some, Ok, IsTrue}
use Rattle.std.specs.List.{AllByRecursion, Contains}
use Rattle.pua_tree.specs.Tree.{Tree}
use Rattle.pua_tree.specs.Listing.{listing}
use Rattle.pua_calls.specs.Calls.{CallTable}
use Rattle.pua_calls.specs.TmpTable.{tmp_table}
use Rattle.pua_calls.specs.declared.call.Call.{Call}
use Rattle.pua_calls.specs.declared.rules.Rules.{Rules}
use Rattle.pua_script.specs.Bytes.{are_in_bytes}
use Rattle.pua_script.specs.Family.{family, is_exec, is_member, none_done, HasKept}
use Rattle.pua_script.specs.Laws.{IsConfined}
use Rattle.pua_script.specs.Replay.{World, kept_at, new_world, world_after}
use Rattle.pua_script.specs.Requests.{Asked}
use Rattle.pua_script.specs.Scripts.{script_by}
use Rattle.pua_script.specs.Tightening.{NoCallNeedsError}
use Rattle.pua_ever.specs.Ever.{Thing}
use Rattle.pua_ever.specs.Laws.{EditsNeedC, ForeseesIn}
use Rattle.pua_ever.specs.declared.lasting_list.ExecBound.TheVariants.{Open}
use Rattle.pua_jointly.specs.Jointly.{GroupsEdit, joint_lines}
use Rattle.pua_jointly.specs.JointPrograms.{Acting, AreSaid, TellsOfOne, agents_by, crew_by}

-- one of several processes, and its number
abbrev pub Numbered : Type 0
Numbered = Acting × ℕ

abbrev pub acting_in : List Numbered → List Acting
acting_in ms = map (λ m. m.0) ms

-- each with what is its family at first: itself
abbrev pub families : List Numbered → List (Numbered × List ℕ)
families ms = map (λ m. (m, m.1 ∷ [])) ms

-- it has this number and can put no veil any more; and where it can start what isn't bounded, no exec of it or of its family is answered
-- ok
pub record StartsAsTold (table : CallTable) (w : World) (asks : List Asked) (m : Numbered) : Type 0 where
  pub here : kept_at w m.1 ≡ Some m.0.process
  pub confined : IsConfined m.0.process
  pub unbounded : m.0.execs ≡ Open → IsTrue (none_done is_exec table w asks (m.1 ∷ []))

-- whatever they and their families ask for, in bytes, all of them together, as long as others leave the tree as it is: each call that is
-- then allowed to one of a family has its line in the list of the process and of what it starts, if that counts
abbrev pub JointlyTold : Type 0
JointlyTold =
    (table : CallTable) → NoCallNeedsError table → EditsNeedC table →
    (rules : Rules) (tree_bytes script_bytes : List ℕ) (t : Tree) (before asks : List Asked) →
    listing tree_bytes ≡ Ok t → script_by rules script_bytes ≡ Ok before → IsTrue (are_in_bytes asks) →
    let w = world_after table (new_world t) before in
    let wide = tmp_table table in
    (ms : List Numbered) → AllByRecursion (StartsAsTold table w asks) ms → AreSaid w.tree wide (acting_in ms) →
    GroupsEdit table w asks (families ms) →
    (m : Numbered) → Contains ms m → (test : Thing → Call → Bool) →
    TellsOfOne w.tree wide (crew_by wide (acting_in ms)) (agents_by wide m.0) test →
    (member : ℕ) → IsTrue (is_member (family table w asks (m.1 ∷ [])) member) →
    let after = world_after table w asks in
    HasKept after member (ForeseesIn (joint_lines w.tree m.0.process test) w.tree wide m.0.process after.tree)
