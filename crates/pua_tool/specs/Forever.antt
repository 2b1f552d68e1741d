-- What the list for ever that a command writes says of the future.
use Rattle.std.specs.Prelude.{◌≡◌, ◌≢◌, ◌⊎◌, ℕ, true, List, [], ◌∷◌, ◌++◌, Some, Ok, IsTrue, codes}
use Rattle.pua_tree.specs.Tree.{Tree}
use Rattle.pua_tree.specs.Listing.{listing}
use Rattle.pua_calls.specs.Calls.{CallTable}
use Rattle.pua_calls.specs.TmpTable.{tmp_table}
use Rattle.pua_calls.specs.declared.call.Call.{Call}
use Rattle.pua_calls.specs.declared.rules.Rules.{Rules}
use Rattle.pua_policy.specs.States.{ProcessState, is_ended}
use Rattle.pua_policy.specs.Verdict.{object_named}
use Rattle.pua_script.specs.Openings.{Opening, opens_call}
use Rattle.pua_script.specs.declared.answer.Answer.TheVariants.{Okay}
use Rattle.pua_script.specs.declared.request.Action.TheVariants.{OnPath}
use Rattle.pua_script.specs.Requests.{Asked}
use Rattle.pua_script.specs.Scripts.{script_by}
use Rattle.pua_script.specs.Replay.{World, apply, new_world, kept_at, world_after}
use Rattle.pua_script.specs.Bytes.{are_in_bytes}
use Rattle.pua_script.specs.Family.{family, is_member, is_exec, none_done, HasKept}
use Rattle.std.specs.List.{Contains}
use Rattle.pua_ever.specs.Ever.{EverLine, ever_line_text}
use Rattle.pua_ever.specs.EnclosedForEver.{ForeseesShown}
use Rattle.pua_ever.specs.Laws.{IsForeseenIn, MembersEdit}
use Rattle.pua_ever.specs.ShownForEver.{execs_shown, shown_lasting, shown_longest}
use Rattle.pua_ever.specs.declared.lasting_list.ExecBound.TheVariants.{Open}
use Rattle.pua_why.specs.Openings.{told_to}
use Rattle.pua_texts.specs.Lines.{answer_lines}
use Rattle.pua_texts.specs.EverLines.{ever_list}
use Rattle.pua_texts.specs.Openings.{opening_text}
use Rattle.pua_tool.specs.Listed.{HasLine}
use Rattle.pua_tool.specs.Texts.{Chosen, table_by}
use Rattle.pua_tool.specs.EverTexts.{ever_text}

-- whatever is asked behind a world, in bytes, as long as nobody but some processes and their families changes the tree, and their list,
-- which is that of one, doesn't say `exec open` or no exec of a member is answered ok: each call that is then allowed to a member has
-- its line, on whatever path from where its paths can start by what the list shows. The requests go by the table, and the list by the one
-- with `tmppath`: so what that one alone allows has its line too
abbrev pub IsForeseenBehind : CallTable → World → List ℕ → ProcessState → Type 0
IsForeseenBehind table w processes one = (asks : List Asked) → IsTrue (are_in_bytes asks) →
    (execs_shown w.tree (tmp_table table) one ≢ Open) ⊎ IsTrue (none_done is_exec table w asks processes) → MembersEdit table w asks processes →
    (member : ℕ) → IsTrue (is_member (family table w asks processes) member) →
    let after = world_after table w asks in
    HasKept after member (ForeseesShown (shown_longest w.tree (tmp_table table) one) (shown_lasting w.tree (tmp_table table) one)
    w.tree (tmp_table table) one after.tree)

-- and a call on a path for which a member asks then is answered ok only where what the path names has that line, or a promise opens the
-- path for the call, and that has its line
abbrev pub AreOkaysForeseen : CallTable → World → List ℕ → ProcessState → List ℕ → Type 0
AreOkaysForeseen table w processes one text = (asks : List Asked) → IsTrue (are_in_bytes asks) →
    (execs_shown w.tree (tmp_table table) one ≢ Open) ⊎ IsTrue (none_done is_exec table w asks processes) → MembersEdit table w asks processes →
    (member : ℕ) → IsTrue (is_member (family table w asks processes) member) → (call : Call) (path : List ℕ) →
    let after = world_after table w asks in
    (apply table after (record { process = member; action = OnPath call path })).0 ≡ Okay →
    HasKept after member (λ last.
    IsForeseenIn (shown_lasting w.tree (tmp_table table) one) w.tree one after.tree call (object_named after.tree last call path)
    ⊎ ((o : Opening) × IsTrue (opens_call call path o) × HasLine text (codes "opening " ++ opening_text o)))

-- the text is the answers and the list of the process, and the list is complete; or the process has ended
pub record IsEverWritten (rules : Rules) (table : CallTable) (t : Tree) (first : List Asked) (process : ℕ) (text : List ℕ) : Type 0 where
  pub now : ProcessState
  pub here : kept_at (world_after table (new_world t) first) process ≡ Some now
  pub is_text : text ≡ answer_lines 1 (told_to table (new_world t) first)
      ++ ever_list rules (tmp_table table) (world_after table (new_world t) first).tree process now
  pub complete : IsForeseenBehind table (world_after table (new_world t) first) (process ∷ []) now ⊎ (is_ended now ≡ true)
  pub okays : AreOkaysForeseen table (world_after table (new_world t) first) (process ∷ []) now text ⊎ (is_ended now ≡ true)
  -- and each line of it stands in the text
  pub printed : (line : EverLine) → Contains (shown_lasting (world_after table (new_world t) first).tree (tmp_table table) now) line →
      HasLine text (ever_line_text (world_after table (new_world t) first).tree line)

abbrev pub EverAsWritten : Type 0
EverAsWritten = (choice : Chosen) (tree_bytes script_bytes : List ℕ) (table : CallTable) (t : Tree) (first : List Asked)
    (process : ℕ) (text : List ℕ) →
    table_by choice ≡ Ok table → listing tree_bytes ≡ Ok t → script_by choice.rules script_bytes ≡ Ok first →
    ever_text choice tree_bytes script_bytes process ≡ Ok text → IsEverWritten choice.rules table t first process text
