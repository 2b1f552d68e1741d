-- What the line `never` says that a command writes in the place of a way.
use Rattle.std.specs.Prelude.{◌≡◌, ◌⊎◌, ℕ, true, List, [], ◌∷◌, Some, Ok, IsTrue, codes}
use Rattle.std.specs.List.{Contains}
use Rattle.pua_tree.specs.Tree.{Tree}
use Rattle.pua_tree.specs.Listing.{listing}
use Rattle.pua_path.specs.Resolution.{resolution_of_text}
use Rattle.pua_path.specs.declared.found.Found.{Found}
use Rattle.pua_calls.specs.Calls.{CallTable, call_in, ending_of, last_of}
use Rattle.pua_calls.specs.TmpTable.{tmp_table}
use Rattle.pua_calls.specs.declared.call.Call.{Call}
use Rattle.pua_policy.specs.States.{ProcessState, is_ended}
use Rattle.pua_policy.specs.Verdict.{verdict}
use Rattle.pua_policy.specs.declared.answer.Verdict.TheVariants.{Allowed}
use Rattle.pua_script.specs.Bytes.{are_in_bytes}
use Rattle.pua_script.specs.Family.{family, is_member, is_exec, none_done, HasKept}
use Rattle.pua_script.specs.Requests.{Asked}
use Rattle.pua_script.specs.Scripts.{script_by}
use Rattle.pua_script.specs.Replay.{World, new_world, kept_at, world_after}
use Rattle.pua_objects.specs.Laws.{StartsIn}
use Rattle.pua_ever.specs.EnclosedForEver.{PathsStartIn}
use Rattle.pua_ever.specs.Laws.{MembersEdit}
use Rattle.pua_ever.specs.ShownForEver.{shown_longest}
use Rattle.pua_how.specs.Targets.{IsLast, is_of}
use Rattle.pua_how.specs.declared.target.Target.{Target}
use Rattle.pua_texts.specs.Lines.{with_end}
use Rattle.pua_tool.specs.HowTexts.{HowWanted, IsHowText, things_asked}
use Rattle.pua_tool.specs.Texts.{Chosen, table_by}
use Rattle.pua_path.specs.declared.found.Start.{Start}

abbrev pub never_line : List ℕ
never_line = with_end (codes "never")

abbrev pub before_exec_line : List ℕ
before_exec_line = with_end (codes "never before an exec")

-- whatever is asked behind a world, in bytes, as long as nobody but a process and its family changes the tree, and `never` was told or
-- no exec of a member is answered ok: a call is then allowed to no member, by whatever path from where its paths can start, on anything
-- that is this, not even by the table with `tmppath`, which allows no less than that of the requests. Where they can start a list for
-- ever shows: anywhere, or in the root of a process that can never leave it
abbrev pub NeverComesBehind : CallTable → World → ℕ → ProcessState → Call → List ℕ → Target → Type 0
NeverComesBehind table w process now call text thing = (asks : List Asked) → IsTrue (are_in_bytes asks) →
    (text ≡ never_line) ⊎ IsTrue (none_done is_exec table w asks (process ∷ [])) → MembersEdit table w asks (process ∷ []) →
    (member : ℕ) → IsTrue (is_member (family table w asks (process ∷ [])) member) →
    let after = world_after table w asks in let shown = shown_longest w.tree (tmp_table table) now in
    HasKept after member (λ last. PathsStartIn shown after.tree last × ((from : Start) → StartsIn after.tree shown from →
    (path : List ℕ) (object : Found) → resolution_of_text after.tree from (ending_of call) path (last_of call) ≡ Ok object →
    is_of after.tree now thing object ≡ true → verdict after.tree (tmp_table table) last call object ≡ Allowed → ⊥))

-- so of each thing that may be meant by what is wanted, with any number above those of all that lives
abbrev pub NeverComesTo : CallTable → World → HowWanted → ProcessState → Call → List ℕ → Type 0
NeverComesTo table w wanted now call text = (last : ℕ) → IsLast w.tree last → (things : List Target) →
    things_asked w.tree now wanted last ≡ Ok things → (thing : Target) → Contains things thing →
    NeverComesBehind table w wanted.process now call text thing

-- the process and the call are those that are asked for, and the call never comes; or the process has ended
pub record IsNeverTold (table : CallTable) (t : Tree) (first : List Asked) (wanted : HowWanted) (text : List ℕ) : Type 0 where
  pub now : ProcessState
  pub here : kept_at (world_after table (new_world t) first) wanted.process ≡ Some now
  pub call : Call
  pub named : call_in table wanted.call ≡ Some call
  pub never : NeverComesTo table (world_after table (new_world t) first) wanted now call text ⊎ (is_ended now ≡ true)

abbrev pub NeverAsWritten : Type 0
NeverAsWritten = (choice : Chosen) (tree_bytes script_bytes : List ℕ) (table : CallTable) (t : Tree) (first : List Asked) (wanted : HowWanted)
    (text : List ℕ) → table_by choice ≡ Ok table → listing tree_bytes ≡ Ok t → script_by choice.rules script_bytes ≡ Ok first →
    IsHowText choice tree_bytes script_bytes wanted (Ok text) → (text ≡ never_line) ⊎ (text ≡ before_exec_line) →
    IsNeverTold table t first wanted text
