-- What the lists for ever with the help of others that a command writes say of the future.
use Rattle.std.specs.Prelude.{◌≡◌, ◌≢◌, ◌⊎◌, ⊤, ℕ, Bool, true, false, List, [], ◌∷◌, ◌++◌, map, flat_map, Some, Ok, IsTrue, codes}
use Rattle.std.specs.List.{AllByRecursion, Contains}
use Rattle.pua_tree.specs.Tree.{Tree}
use Rattle.pua_tree.specs.Listing.{listing}
use Rattle.pua_calls.specs.Calls.{CallTable}
use Rattle.pua_calls.specs.TmpTable.{tmp_table}
use Rattle.pua_calls.specs.declared.call.Call.{Call}
use Rattle.pua_calls.specs.declared.rules.Rules.{Rules}
use Rattle.pua_policy.specs.States.{ProcessState, is_ended}
use Rattle.pua_policy.specs.Verdict.{object_named}
use Rattle.pua_script.specs.Bytes.{are_in_bytes}
use Rattle.pua_script.specs.Family.{family, is_exec, is_member, none_done, HasKept}
use Rattle.pua_script.specs.Openings.{Opening, opens_call}
use Rattle.pua_script.specs.Replay.{World, apply, kept_at, new_world, world_after}
use Rattle.pua_script.specs.Requests.{Asked}
use Rattle.pua_script.specs.Scripts.{script_by}
use Rattle.pua_script.specs.declared.answer.Answer.TheVariants.{Okay}
use Rattle.pua_script.specs.declared.request.Action.TheVariants.{OnPath}
use Rattle.pua_ever.specs.Ever.{EverLine, ever_line_text}
use Rattle.pua_ever.specs.Laws.{ForeseesIn, IsForeseenIn}
use Rattle.pua_ever.specs.declared.lasting_list.ExecBound.{ExecBound}
use Rattle.pua_ever.specs.declared.lasting_list.ExecBound.TheVariants.{Never, Open}
use Rattle.pua_jointly.specs.Jointly.{GroupsEdit, joint_lines}
use Rattle.pua_jointly.specs.JointPrograms.{worst}
use Rattle.pua_why.specs.Openings.{told_to}
use Rattle.pua_texts.specs.BesideLines.{beside_list}
use Rattle.pua_texts.specs.Lines.{answer_lines}
use Rattle.pua_texts.specs.Openings.{opening_text}
use Rattle.pua_texts.specs.TogetherLines.{living}
use Rattle.pua_words.specs.declared.command.Processes.{Processes}
use Rattle.pua_tool.specs.BesideTexts.{IsBesideText, IsHelped, beside, first_acting, others_than}
use Rattle.pua_tool.specs.Listed.{HasLine}
use Rattle.pua_tool.specs.Several.{numbers}
use Rattle.pua_tool.specs.Texts.{Chosen, table_by}
use Rattle.pua_tool.specs.TogetherTexts.{numbers_in}

-- each with what is its family at first: itself
abbrev pub alone : List (ℕ × ProcessState) → List ((ℕ × ProcessState) × List ℕ)
alone members = map (λ member. (member, member.0 ∷ [])) members

-- no exec of theirs or of their families is answered ok
abbrev pub NoneStarts : CallTable → World → List Asked → List (ℕ × ProcessState) → Type 0
NoneStarts table w asks members = AllByRecursion (λ member. IsTrue (none_done is_exec table w asks (member.0 ∷ []))) members

-- whatever is asked behind a world, in bytes, as long as nobody but these processes and their families changes the tree, and the list
-- doesn't say `exec open`, or no exec of theirs is answered ok: each call that is then allowed to one of the family of a process has its
-- line. The requests go by the table, and the list by the one with `tmppath`: so what that one alone allows has its line too
abbrev pub IsForeseenBeside : CallTable → World → List (ℕ × ProcessState) → ℕ × ProcessState → ExecBound → List EverLine → Type 0
IsForeseenBeside table w acting member execs lines = (asks : List Asked) → IsTrue (are_in_bytes asks) →
    (execs ≢ Open) ⊎ NoneStarts table w asks acting → GroupsEdit table w asks (alone acting) →
    (one : ℕ) → IsTrue (is_member (family table w asks (member.0 ∷ [])) one) →
    let after = world_after table w asks in
    HasKept after one (ForeseesIn lines w.tree (tmp_table table) member.1 after.tree)

-- and a call on a path for which one of that family asks then is answered ok only where what the path names has that line, or a promise
-- opens the path for the call, and that has its line in the list
abbrev pub AreOkaysBeside : CallTable → World → List (ℕ × ProcessState) → ℕ × ProcessState → ExecBound → List EverLine → List ℕ → Type 0
AreOkaysBeside table w acting member execs lines list = (asks : List Asked) → IsTrue (are_in_bytes asks) →
    (execs ≢ Open) ⊎ NoneStarts table w asks acting → GroupsEdit table w asks (alone acting) →
    (one : ℕ) → IsTrue (is_member (family table w asks (member.0 ∷ [])) one) → (call : Call) (path : List ℕ) →
    let after = world_after table w asks in
    (apply table after (record { process = one; action = OnPath call path })).0 ≡ Okay →
    HasKept after one (λ last.
    IsForeseenIn lines w.tree member.1 after.tree call (object_named after.tree last call path)
    ⊎ ((o : Opening) × IsTrue (opens_call call path o) × HasLine list (codes "opening " ++ opening_text o)))

-- the list of a process that lives, with the help of those others that live, is complete, and each line of it stands there
pub record IsForeseenList (rules : Rules) (table : CallTable) (w : World) (others : List (ℕ × ProcessState)) (member : ℕ × ProcessState) (list : List ℕ) : Type 0
  where
    pub is : IsHelped rules (tmp_table table) w.tree others member list
    pub complete : IsForeseenBeside table w (member ∷ living others) member (worst (first_acting member.1 is.own ∷ is.more))
        (joint_lines w.tree member.1 is.test)
    pub okays : AreOkaysBeside table w (member ∷ living others) member (worst (first_acting member.1 is.own ∷ is.more))
        (joint_lines w.tree member.1 is.test) list
    pub printed : (line : EverLine) → Contains (joint_lines w.tree member.1 is.test) line → HasLine list (ever_line_text w.tree line)

-- of one that has ended it has no line
abbrev pub IsForeseenBy : Bool → Rules → CallTable → World → List (ℕ × ProcessState) → ℕ × ProcessState → List ℕ → Type 0
IsForeseenBy true rules table w others member list = list ≡ beside_list rules w.tree (beside member others Never Never) []
IsForeseenBy false rules table w others member list = IsForeseenList rules table w others member list

abbrev pub AreForeseenLists : Rules → CallTable → World → List (ℕ × ProcessState) → List (ℕ × ProcessState) → List (List ℕ) → Type 0
AreForeseenLists rules table w helpers [] [] = ⊤
AreForeseenLists rules table w helpers [] (list ∷ lists) = ⊥
AreForeseenLists rules table w helpers (member ∷ members) [] = ⊥
AreForeseenLists rules table w helpers (member ∷ members) (list ∷ lists) =
    IsForeseenBy (is_ended member.1) rules table w (others_than member.0 helpers) member list
    × AreForeseenLists rules table w helpers members lists

-- the text is the answers, and the lists of the processes that are asked for, each of which is complete
pub record IsBesideWritten (rules : Rules) (table : CallTable) (t : Tree) (first : List Asked) (which helping : Processes) (text : List ℕ) : Type 0
  where
    -- those that are asked for, and those that help, each with what it keeps where the script ends
    pub members : List (ℕ × ProcessState)
    pub helpers : List (ℕ × ProcessState)
    pub asked : numbers members ≡ numbers_in (world_after table (new_world t) first) which
    pub helped : numbers helpers ≡ numbers_in (world_after table (new_world t) first) helping
    pub here : AllByRecursion (λ member. kept_at (world_after table (new_world t) first) member.0 ≡ Some member.1) members
    pub too : AllByRecursion (λ member. kept_at (world_after table (new_world t) first) member.0 ≡ Some member.1) helpers
    pub lists : List (List ℕ)
    pub is_text : text ≡ answer_lines 1 (told_to table (new_world t) first) ++ flat_map (λ list. list) lists
    pub each : AreForeseenLists rules table (world_after table (new_world t) first) helpers members lists

abbrev pub BesideAsWritten : Type 0
BesideAsWritten = (choice : Chosen) (tree_bytes script_bytes : List ℕ) (table : CallTable) (t : Tree) (first : List Asked)
    (which helping : Processes) (text : List ℕ) →
    table_by choice ≡ Ok table → listing tree_bytes ≡ Ok t → script_by choice.rules script_bytes ≡ Ok first →
    IsBesideText choice tree_bytes script_bytes which helping (Ok text) → IsBesideWritten choice.rules table t first which helping text
