-- The text of what processes can ever touch with the help of others, and what refuses it.
use Rattle.std.specs.Prelude.{◌≡◌, ◌⊎◌, ⊤, ℕ, Bool, true, false, not, ◌==◌, List, [], ◌∷◌, ◌++◌, map, filter, flat_map, Option, Some, None, Result, Ok, Err}
use Rattle.pua_tree.specs.Tree.{Tree}
use Rattle.pua_calls.specs.Calls.{CallTable}
use Rattle.pua_calls.specs.TmpTable.{tmp_table}
use Rattle.pua_calls.specs.declared.call.Call.{Call}
use Rattle.pua_calls.specs.declared.rules.Rules.{Rules}
use Rattle.pua_policy.specs.States.{ProcessState, is_ended}
use Rattle.pua_ever.specs.Ever.{Thing}
use Rattle.pua_ever.specs.declared.lasting_list.ExecBound.{ExecBound}
use Rattle.pua_ever.specs.declared.lasting_list.ExecBound.TheVariants.{Never}
use Rattle.pua_jointly.specs.Jointly.{joint_lines}
use Rattle.pua_jointly.specs.JointPrograms.{Acting, AreActing, TellsOfOne, agents_by, crew_by, worst}
use Rattle.pua_words.specs.declared.command.Processes.{Processes}
use Rattle.pua_texts.specs.BesideLines.{Beside, beside_list}
use Rattle.pua_texts.specs.Lines.{answer_lines}
use Rattle.pua_texts.specs.TogetherLines.{living}
use Rattle.pua_tool.specs.Texts.{Chosen, Replayed, replay_of}
use Rattle.pua_tool.specs.TogetherTexts.{all_made, first_refused, numbers_in}
use Rattle.pua_tool.specs.declared.fault.ToolFault.{ToolFault}
use Rattle.pua_tool.specs.declared.fault.ToolFault.TheVariants.{OutOfMemory}

-- the others than the process with this number
abbrev pub others_than : ℕ → List (ℕ × ProcessState) → List (ℕ × ProcessState)
others_than process members = filter (λ member. not (member.0 == process)) members

abbrev pub states : List (ℕ × ProcessState) → List ProcessState
states members = map (λ member. member.1) members

-- a process, and what it says of execs of its own
abbrev pub first_acting : ProcessState → ExecBound → Acting
first_acting h own = record { process = h; execs = own }

abbrev pub beside : ℕ × ProcessState → List (ℕ × ProcessState) → ExecBound → ExecBound → Beside
beside member others own execs = record { number = member.0; process = member.1; others = others; own = own; execs = execs }

-- the list of a process that lives, with the help of those others that live: each of them says of execs what is so by its own list,
-- with the fewest programs that count; and a test tells what the process, and what it starts if that counts, can ever touch
pub record IsHelped (rules : Rules) (table : CallTable) (t : Tree) (others : List (ℕ × ProcessState)) (member : ℕ × ProcessState) (text : List ℕ) : Type 0
  where
    pub own : ExecBound
    pub more : List Acting
    pub acting : AreActing t table (member.1 ∷ states (living others)) (first_acting member.1 own ∷ more)
    pub test : Thing → Call → Bool
    pub tells : TellsOfOne t table (crew_by table (first_acting member.1 own ∷ more)) (agents_by table (first_acting member.1 own)) test
    pub is : text
        ≡ beside_list rules t (beside member others own (worst (first_acting member.1 own ∷ more))) (joint_lines t member.1 test)

-- of one that has ended there is a list without a line
abbrev pub IsBesideBy : Rules → CallTable → Tree → Bool → List (ℕ × ProcessState) → ℕ × ProcessState → List ℕ → Type 0
IsBesideBy rules table t true others member text = text ≡ beside_list rules t (beside member others Never Never) []
IsBesideBy rules table t false others member text = IsHelped rules table t others member text

abbrev pub IsBesideList : Rules → CallTable → Tree → List (ℕ × ProcessState) → ℕ × ProcessState → List ℕ → Type 0
IsBesideList rules table t helpers member text =
    IsBesideBy rules table t (is_ended member.1) (others_than member.0 helpers) member text

-- a list of each of these processes, with the help of these others, in their order
abbrev pub AreBesideLists : Rules → CallTable → Tree → List (ℕ × ProcessState) → List (ℕ × ProcessState) → List (List ℕ) → Type 0
AreBesideLists rules table t helpers [] [] = ⊤
AreBesideLists rules table t helpers [] (text ∷ texts) = ⊥
AreBesideLists rules table t helpers (member ∷ members) [] = ⊥
AreBesideLists rules table t helpers (member ∷ members) (text ∷ texts) =
    IsBesideList rules table t helpers member text × AreBesideLists rules table t helpers members texts

-- the answers, and then the lists, one after another, by the table with `tmppath`
pub record IsBesideWhole (rules : Rules) (done : Replayed) (members helpers : List (ℕ × ProcessState)) (text : List ℕ) : Type 0 where
  pub lists : List (List ℕ)
  pub are : AreBesideLists rules (tmp_table done.table) done.world.tree helpers members lists
  pub is : text ≡ answer_lines 1 done.answers ++ flat_map (λ list. list) lists

-- such a text, unless there is a fault
abbrev pub IsBesideUnless : Option ToolFault → Rules → Replayed → List (ℕ × ProcessState) → List (ℕ × ProcessState) → Result (List ℕ) ToolFault →
    Type 0
IsBesideUnless (Some fault) rules done members helpers answer = answer ≡ Err fault
IsBesideUnless None rules done members helpers answer =
    (text : List ℕ) × (answer ≡ Ok text) × IsBesideWhole rules done members helpers text

-- the fault is why there is no list for ever of the first of them of which there is none: those whose lists are asked for, and then those
-- who help
abbrev pub IsBesideOf : Rules → Replayed → List (ℕ × ProcessState) → List (ℕ × ProcessState) → Result (List ℕ) ToolFault → Type 0
IsBesideOf rules done members helpers answer =
    IsBesideUnless (first_refused done.table (members ++ helpers)) rules done members helpers answer

-- the fault of a step, or what comes behind it
abbrev pub IsBehind : {X : Type 0} → (X → Result (List ℕ) ToolFault → Type 0) → Result X ToolFault → Result (List ℕ) ToolFault → Type 0
IsBehind next (Err fault) answer = answer ≡ Err fault
IsBehind next (Ok x) answer = next x answer

-- one of the processes that are asked for was never made, or one of those that help, or else that text
abbrev pub IsBesideAfter : Rules → Replayed → Processes → Processes → Result (List ℕ) ToolFault → Type 0
IsBesideAfter rules done which helping answer =
    IsBehind (λ members. IsBehind (λ helpers. IsBesideOf rules done members helpers) (all_made done.world (numbers_in done.world helping)))
    (all_made done.world (numbers_in done.world which)) answer

-- such an answer, or that memory is lacking for the facts of them all
abbrev pub OrMemory : (Result (List ℕ) ToolFault → Type 0) → Result (List ℕ) ToolFault → Type 0
OrMemory Is answer = (answer ≡ Err OutOfMemory) ⊎ Is answer

-- the lists for ever of processes with the help of others at the end of a script over a listing, or the first fault: the table's, the
-- listing's, the script's, or what refuses the lists
unfoldable pub IsBesideText : Chosen → List ℕ → List ℕ → Processes → Processes → Result (List ℕ) ToolFault → Type 0
IsBesideText choice tree_bytes script_bytes which helping answer =
    OrMemory (IsBehind (λ done. IsBesideAfter choice.rules done which helping) (replay_of choice tree_bytes script_bytes)) answer
