-- The text of the list for ever of a process with the number of steps of a way to each call that the list of now lacks, and what
-- refuses it. Which plans are laid is in no contract, and so which ways are found: what is, is that there is one of so many steps, or that
-- none of the plans comes to one, and which calls are told of.
use Rattle.std.specs.Prelude.{◌≡◌, ℕ, Bool, true, false, not, ◌&&◌, if◌then◌else◌, List, [], ◌∷◌, ◌++◌, map, filter, length, Option, Some, None}
use Rattle.std.specs.Prelude.{option_and_then, Result, Ok, Err, ok_or, codes, decimal}
use Rattle.std.specs.List.{AllByRecursion, Contains, starts_with}
use Rattle.pua_tree.specs.Names.{same_bytes}
use Rattle.pua_tree.specs.Steps.{◌>>=◌}
use Rattle.pua_tree.specs.Tree.{Tree, is_dir, look}
use Rattle.pua_path.specs.declared.found.Found.TheVariants.{Whole, Slot}
use Rattle.pua_path.specs.declared.found.Way.TheVariants.{Named, Top}
use Rattle.pua_calls.specs.Calls.{CallTable, call_name}
use Rattle.pua_calls.specs.TmpTable.{tmp_table}
use Rattle.pua_calls.specs.declared.call.Call.{Call}
use Rattle.pua_calls.specs.declared.rules.Rules.{Rules}
use Rattle.pua_policy.specs.States.{ProcessState}
use Rattle.pua_policy.specs.Verdict.{is_allowed}
use Rattle.pua_script.specs.Requests.{Asked}
use Rattle.pua_script.specs.Replay.{kept_at}
use Rattle.pua_audit.specs.Reach.{Word}
use Rattle.pua_objects.specs.Lines.{kind_word}
use Rattle.pua_objects.specs.Objects.{Subject, At, Others, is_named_by, subject_verdict}
use Rattle.pua_objects.specs.declared.kind.ObjectKind.{ObjectKind}
use Rattle.pua_objects.specs.declared.kind.ObjectKind.TheVariants as kind
use Rattle.pua_tree.specs.declared.node.Kind.TheVariants.{Dir}
use Rattle.pua_ever.specs.Ever.{EverLine, Thing, Stands, Comes}
use Rattle.pua_ever.specs.Refusals.{refusal}
use Rattle.pua_ever.specs.ShownForEver.{shown_lasting}
use Rattle.pua_how.specs.PathQuestion.{PathQuestion, Standing, Making, question_by, path_question, directory_at_name, targets_of, thing_word}
use Rattle.pua_how.specs.Steps.{NoneComes}
use Rattle.pua_how.specs.Targets.{IsLast}
use Rattle.pua_how.specs.Ways.{IsWay}
use Rattle.pua_how.specs.declared.target.Target.{Target}
use Rattle.pua_how.specs.declared.target.Target.TheVariants as target
use Rattle.pua_how.specs.declared.way.NoWay.{NoWay}
use Rattle.pua_texts.specs.EverHowLines.{ever_list_with}
use Rattle.pua_texts.specs.Lines.{answer_lines, with_end}
use Rattle.pua_tool.specs.EverTexts.{unless_reason}
use Rattle.pua_tool.specs.Texts.{Chosen, Replayed, replay_of}
use Rattle.pua_tool.specs.declared.fault.ToolFault.{ToolFault}
use Rattle.pua_tool.specs.declared.fault.ToolFault.TheVariants.{NoProcess, BelowPath, BelowThing}

-- what stands at a name now, as a line of a kind is about it: a directory or its further names, what is no directory, or the name
-- where nothing stands; nothing, where a line of this kind is about what doesn't stand there now
abbrev pub dir_there : ObjectKind → ℕ → List ℕ → ℕ → Option Subject
dir_there (kind.Node Dir) dir name node = Some (At (Whole node (Named dir name)))
dir_there kind.Other dir name node = Some (Others node)
dir_there _ dir name node = None

abbrev pub node_there : ObjectKind → ℕ → List ℕ → ℕ → Option Subject
node_there (kind.Node Dir) dir name node = None
node_there kind.Other dir name node = None
node_there kind.Missing dir name node = None
node_there _ dir name node = Some (At (Slot dir name (Some node)))

abbrev pub none_there : ObjectKind → ℕ → List ℕ → Option Subject
none_there kind.Missing dir name = Some (At (Slot dir name None))
none_there _ dir name = None

abbrev pub subject_there : Tree → ObjectKind → ℕ → List ℕ → Option ℕ → Option Subject
subject_there t kind dir name None = none_there kind dir name
subject_there t kind dir name (Some node) = if is_dir t node then dir_there kind dir name node else node_there kind dir name node

abbrev pub subject_in : Tree → ObjectKind → ℕ → List ℕ → List (List ℕ) → Option Subject
subject_in t kind dir name [] = subject_there t kind dir name (look t dir name)
subject_in t kind dir name (next ∷ more) = option_and_then (λ node. subject_in t kind node next more) (directory_at_name t dir name)

-- the same at the end of names, which lead there from the root; without a name that is the root
abbrev pub root_subject : ObjectKind → Option Subject
root_subject (kind.Node Dir) = Some (At (Whole 0 Top))
root_subject kind.Other = Some (Others 0)
root_subject _ = None

abbrev pub subject_at : Tree → ObjectKind → Word → Option Subject
subject_at t kind [] = root_subject kind
subject_at t kind (name ∷ more) = subject_in t kind 0 name more

-- what a line of the list for ever is about, as the list of now has it: nothing of what is still to be made
abbrev pub subject_now : Tree → ObjectKind → Word → Thing → Option Subject
subject_now t kind word (Stands subject) = subject_at t kind word
subject_now t kind word (Comes new) = None

-- the list of now has the call on it
abbrev pub is_now : Tree → CallTable → ProcessState → Option Subject → Call → Bool
is_now t table h None call = false
is_now t table h (Some subject) call = is_named_by t call subject && is_allowed (subject_verdict t table h call subject)

-- the calls of a line that the list of now lacks
abbrev pub lacking : Tree → CallTable → ProcessState → ObjectKind → EverLine → List Call
lacking t table h kind line = filter (λ call. not (is_now t table h (subject_now t kind line.word line.thing) call)) line.calls

-- so many requests are a way to a call on what is meant by a path and a kind
pub record IsWayOf (done : Replayed) (process : ℕ) (h : ProcessState) (asking : PathQuestion) (kind : ObjectKind) (call : Call) (steps : ℕ) : Type 0
  where
    pub last : ℕ
    pub above : IsLast done.world.tree last
    pub thing : Target
    pub meant : Contains (targets_of done.world.tree h last asking (Some kind)) thing
    pub asks : List Asked
    pub way : IsWay done.table done.world process call thing asks
    pub long : length asks ≡ steps

-- none of these plans comes to a call on what is meant by a path and a kind
pub record IsNoWayOf (rules : Rules) (done : Replayed) (process : ℕ) (h : ProcessState) (asking : PathQuestion) (kind : ObjectKind) (call : Call) (plans : NoWay) : Type 0
  where
    pub last : ℕ
    pub none : NoneComes rules done.table process call (targets_of done.world.tree h last asking (Some kind)) done.world plans

-- a number of steps is that of a way; without one none of the plans comes to one
abbrev pub IsCount : Rules → Replayed → ℕ → ProcessState → PathQuestion → ObjectKind → Call × Result ℕ NoWay → Type 0
IsCount rules done process h asking kind count = by count.1
  where
    by : Result ℕ NoWay → Type 0
    by (Err none) = IsNoWayOf rules done process h asking kind count.0 none
    by (Ok steps) = IsWayOf done process h asking kind count.0 steps

-- a number, or `?` without one
abbrev pub steps_text : Result ℕ NoWay → List ℕ
steps_text (Err none) = codes "?"
steps_text (Ok steps) = decimal steps

abbrev pub count_text : Call × Result ℕ NoWay → List ℕ
count_text count = call_name count.0 ++ 32 ∷ steps_text count.1

-- calls, each with the number of its steps, the first behind a mark, the others behind commas
abbrev pub counts_text : ℕ → List (Call × Result ℕ NoWay) → List ℕ
counts_text mark [] = []
counts_text mark (count ∷ more) = (mark ∷ count_text count) ++ counts_text 44 more

-- what stands behind the calls of a line: those that the list of now lacks, in their order, each with the number of steps of a way to
-- it on what the line's path and kind mean, behind a blank; and LF
pub record IsColumn (rules : Rules) (done : Replayed) (process : ℕ) (h : ProcessState) (line : EverLine) (text : List ℕ) : Type 0 where
  pub kind : ObjectKind
  pub told : kind_word kind ≡ thing_word done.world.tree line.thing
  pub counts : List (Call × Result ℕ NoWay)
  pub calls : map (λ count. count.0) counts ≡ lacking done.world.tree done.table h kind line
  pub counted : AllByRecursion (IsCount rules done process h (question_by line.word line.thing) kind) counts
  pub is : text ≡ with_end (counts_text 32 counts)

-- what stands or could stand now has a path
abbrev pub has_path : Thing → Bool
has_path (Stands subject) = true
has_path (Comes new) = false

-- a line is at a path, or below it
abbrev pub is_below : Word → EverLine → Bool
is_below path line = has_path line.thing && starts_with same_bytes line.word path

-- all lines, or those at or below a path
abbrev pub lines_below : Option Word → List EverLine → List EverLine
lines_below None lines = lines
lines_below (Some path) lines = filter (is_below path) lines

-- something stands at a path, or its last name has a veil of its own: more is meant by it than one of the further names of a directory
abbrev pub is_known : List Target → Bool
is_known [] = false
is_known (target.Others dir ∷ more) = false
is_known (thing ∷ more) = true

-- the names of a path at or below which lines are asked for, or its fault: no list prints it, or nothing is known there
abbrev pub names_asked : Tree → ProcessState → Option PathQuestion → Result (Option Word) ToolFault
names_asked t h None = Err BelowPath
names_asked t h (Some Making) = Err BelowPath
names_asked t h (Some (Standing names)) =
    if is_known (targets_of t h 0 (Standing names) None) then Ok (Some names) else Err BelowThing

abbrev pub below_asked : Tree → ProcessState → Option (List ℕ) → Result (Option Word) ToolFault
below_asked t h None = Ok None
below_asked t h (Some path) = names_asked t h (path_question path)

-- the list for ever of a process, which goes by the table with `tmppath`, or its lines at or below a path, and behind the calls of
-- each line its column
pub record IsEverHowList (rules : Rules) (done : Replayed) (process : ℕ) (h : ProcessState) (below : Option Word) (text : List ℕ) : Type 0 where
  pub lines : List (EverLine × List ℕ)
  pub are : map (λ line. line.0) lines ≡ lines_below below (shown_lasting done.world.tree (tmp_table done.table) h)
  pub columns : AllByRecursion (λ line. IsColumn rules done process h line.0 line.1) lines
  pub is : text ≡ ever_list_with rules (tmp_table done.table) done.world.tree process h lines

-- a text, unless there is a reason for none, or a fault of the path
abbrev pub unless_refused : Replayed → ℕ → Option (List ℕ) → List ℕ → ProcessState → Result (List ℕ) ToolFault
unless_refused done process path text h =
    unless_reason process (refusal done.table h) text >>= λ told. below_asked done.world.tree h path >>= λ below. Ok told

-- the answers, and then such a list, at or below a path if one is given; or what refuses it: the process was never made, there is a
-- reason for none, or a fault of the path
pub record IsEverHowAfter (rules : Rules) (done : Replayed) (process : ℕ) (path : Option (List ℕ)) (answer : Result (List ℕ) ToolFault) : Type 0
  where
    pub list : List ℕ
    pub sound : (h : ProcessState) (below : Option Word) → kept_at done.world process ≡ Some h → refusal done.table h ≡ None
        → below_asked done.world.tree h path ≡ Ok below → IsEverHowList rules done process h below list
    pub is : answer
        ≡ (ok_or (kept_at done.world process) NoProcess >>= unless_refused done process path (answer_lines 1 done.answers ++ list))

-- the same of a script over a listing, by the table that is chosen, or the first fault: the table's, the listing's, or the script's
abbrev pub IsEverHowBehind : Rules → Result Replayed ToolFault → ℕ → Option (List ℕ) → Result (List ℕ) ToolFault → Type 0
IsEverHowBehind rules (Ok done) process path answer = IsEverHowAfter rules done process path answer
IsEverHowBehind rules (Err fault) process path answer = answer ≡ Err fault

unfoldable pub IsEverHowText : Chosen → List ℕ → List ℕ → ℕ → Option (List ℕ) → Result (List ℕ) ToolFault → Type 0
IsEverHowText choice tree_bytes script_bytes process path answer =
    IsEverHowBehind choice.rules (replay_of choice tree_bytes script_bytes) process path answer
