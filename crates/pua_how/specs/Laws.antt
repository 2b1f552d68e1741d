-- What is true of ways, and of what no line of the list for ever has.
use Rattle.std.specs.Prelude.{◌≡◌, ◌≢◌, ◌⊎◌, ℕ, [], ◌∷◌, List, true, Some, Ok, IsTrue, IsFalse}
use Rattle.std.specs.List.{Contains}
use Rattle.pua_tree.specs.Tree.{Tree, WellFormed}
use Rattle.pua_path.specs.Resolution.{resolution_of_text}
use Rattle.pua_path.specs.declared.found.Found.{Found}
use Rattle.pua_calls.specs.Calls.{CallTable, ending_of, last_of}
use Rattle.pua_calls.specs.TmpTable.{tmp_table}
use Rattle.pua_calls.specs.declared.call.Call.{Call}
use Rattle.pua_policy.specs.States.{ProcessState}
use Rattle.pua_policy.specs.Verdict.{verdict}
use Rattle.pua_policy.specs.declared.answer.Verdict.TheVariants.{Allowed}
use Rattle.pua_script.specs.Requests.{Asked}
use Rattle.pua_script.specs.Replay.{World, kept_at, world_after}
use Rattle.pua_script.specs.Laws.{IsConfined}
use Rattle.pua_script.specs.Family.{family, none_done, is_member, is_exec, HasKept}
use Rattle.pua_script.specs.Tightening.{NoCallNeedsError}
use Rattle.pua_script.specs.Confinement.{TreesAlong}
use Rattle.pua_objects.specs.Laws.{StartsIn}
use Rattle.pua_objects.specs.Lines.{kind_word}
use Rattle.pua_objects.specs.declared.kind.ObjectKind.{ObjectKind}
use Rattle.pua_ever.specs.Ever.{EverLine, ever}
use Rattle.pua_ever.specs.Laws.{EditsNeedC, VeilsStand, MembersEdit}
use Rattle.pua_ever.specs.EnclosedForEver.{PathsStartIn}
use Rattle.pua_ever.specs.ShownForEver.{execs_shown, shown_lasting, shown_longest}
use Rattle.pua_ever.specs.Through.{bound_of, ever_lasting}
use Rattle.pua_ever.specs.declared.lasting_list.ExecBound.TheVariants.{Open}
use Rattle.pua_how.specs.PathQuestion.{question_by, targets_of, thing_word}
use Rattle.pua_how.specs.Targets.{IsGiven, is_listed, is_of, target_about}
use Rattle.pua_how.specs.Ways.{IsWay}
use Rattle.pua_how.specs.declared.target.Target.{Target}
use Rattle.pua_path.specs.declared.found.Start.{Start}

-- a call that no line about a thing has: whatever the process and what it forks alone ask for, as long as no exec of theirs
-- is answered `ok`, it is then allowed to none of them on anything that is this thing, by whatever path from wherever. The requests
-- go by the table, and the list by the one that has `tmppath` as one more set of some calls: nor does that one allow it
abbrev pub NeverComes : Type 0
NeverComes =
    (table : CallTable) → NoCallNeedsError table → EditsNeedC table →
    (w : World) (asks : List Asked) (process : ℕ) (now : ProcessState) →
    kept_at w process ≡ Some now → IsConfined now → VeilsStand w.tree now → TreesAlong table w asks →
    IsTrue (none_done is_exec table w asks (process ∷ [])) →
    MembersEdit table w asks (process ∷ []) →
    (asked : Target) (call : Call) → IsGiven w.tree asked → IsFalse (is_listed (ever w.tree (tmp_table table) now) asked call) →
    (member : ℕ) → IsTrue (is_member (family table w asks (process ∷ [])) member) →
    let after = world_after table w asks in
    HasKept after member (λ last. (from : Start) (text : List ℕ) (object : Found) →
    resolution_of_text after.tree from (ending_of call) text (last_of call) ≡ Ok object → is_of after.tree now asked object ≡ true →
    verdict after.tree (tmp_table table) last call object ≡ Allowed → ⊥)

-- and where there is a way, a line about the thing has the call
abbrev pub WaysAreListed : Type 0
WaysAreListed =
    (table : CallTable) → NoCallNeedsError table → EditsNeedC table →
    (w : World) (process : ℕ) (now : ProcessState) → kept_at w process ≡ Some now → IsConfined now → VeilsStand w.tree now →
    (asked : Target) (call : Call) → IsGiven w.tree asked → (asks : List Asked) (way : IsWay table w process call asked asks) →
    TreesAlong table w way.first → IsTrue (is_listed (ever w.tree (tmp_table table) now) asked call)

-- the same of the list that holds longest, through execs, where all that is started is bounded, and whatever others do that leaves
-- the tree as it is
abbrev pub NeverComesThrough : Type 0
NeverComesThrough =
    (table : CallTable) → NoCallNeedsError table → EditsNeedC table →
    (w : World) (asks : List Asked) (process : ℕ) (now : ProcessState) (given : ℕ) →
    kept_at w process ≡ Some now → bound_of table now ≡ Some given → VeilsStand w.tree now → TreesAlong table w asks →
    MembersEdit table w asks (process ∷ []) →
    (asked : Target) (call : Call) → IsGiven w.tree asked → IsFalse (is_listed (ever_lasting w.tree (tmp_table table) now) asked call) →
    (member : ℕ) → IsTrue (is_member (family table w asks (process ∷ [])) member) →
    let after = world_after table w asks in
    HasKept after member (λ last. (from : Start) (text : List ℕ) (object : Found) →
    resolution_of_text after.tree from (ending_of call) text (last_of call) ≡ Ok object → is_of after.tree now asked object ≡ true →
    verdict after.tree (tmp_table table) last call object ≡ Allowed → ⊥)

-- so of what is shown of it, cut where the process is enclosed for ever, by paths from where theirs start then; as long as it doesn't say
-- `exec open`, or no exec of theirs is answered ok
abbrev pub NeverComesShown : Type 0
NeverComesShown =
    (table : CallTable) → NoCallNeedsError table → EditsNeedC table →
    (w : World) (asks : List Asked) (process : ℕ) (now : ProcessState) →
    kept_at w process ≡ Some now → IsConfined now → VeilsStand w.tree now → TreesAlong table w asks →
    (execs_shown w.tree (tmp_table table) now ≢ Open) ⊎ IsTrue (none_done is_exec table w asks (process ∷ [])) →
    MembersEdit table w asks (process ∷ []) →
    (asked : Target) (call : Call) → IsGiven w.tree asked → IsFalse (is_listed (shown_lasting w.tree (tmp_table table) now) asked call) →
    (member : ℕ) → IsTrue (is_member (family table w asks (process ∷ [])) member) →
    let after = world_after table w asks in let shown = shown_longest w.tree (tmp_table table) now in
    HasKept after member (λ last. PathsStartIn shown after.tree last × ((from : Start) → StartsIn after.tree shown from →
    (text : List ℕ) (object : Found) → resolution_of_text after.tree from (ending_of call) text (last_of call) ≡ Ok object →
    is_of after.tree now asked object ≡ true → verdict after.tree (tmp_table table) last call object ≡ Allowed → ⊥))

-- the path and the kind of a line of a list mean what the line is about, and nothing else
abbrev pub LinesMeanTheirOwn : (Tree → CallTable → ProcessState → List EverLine) → Type 0
LinesMeanTheirOwn list =
    (t : Tree) (table : CallTable) (h : ProcessState) → WellFormed t → (line : EverLine) → Contains (list t table h) line →
    (kind : ObjectKind) → kind_word kind ≡ thing_word t line.thing → (last : ℕ) →
    targets_of t h last (question_by line.word line.thing) (Some kind) ≡ target_about last line.thing ∷ []
