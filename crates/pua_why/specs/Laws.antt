-- What is true of reasons.
use Rattle.std.specs.Prelude.{◌≡◌, ℕ, suc, ◌+◌, true, false, List, [], ◌∷◌, ◌++◌, map, Option, Some, None, option_map, Result, Ok, Err, bit_or, decimal}
use Rattle.std.specs.Prelude.{length}
use Rattle.pua_tree.specs.Tree.{Tree}
use Rattle.pua_path.specs.Paths.{is_absolute}
use Rattle.pua_path.specs.declared.text.Ending.{Ending}
use Rattle.pua_path.specs.declared.text.Ending.TheVariants as ending
use Rattle.pua_path.specs.declared.found.Found.{Found}
use Rattle.pua_path.specs.declared.traced.PathFault.{PathFault}
use Rattle.pua_path.specs.declared.traced.PathFault.TheVariants.{NoStart}
use Rattle.pua_calls.specs.Promises.{holds}
use Rattle.pua_calls.specs.Calls.{CallTable, PairRule, about_rules, rule_of}
use Rattle.pua_policy.specs.States.{ProcessState, is_ended, start}
use Rattle.pua_policy.specs.Verdict.{object_of, object_named, verdict_of}
use Rattle.pua_policy.specs.ReasonLaws.{LackSome, MisfitHolds}
use Rattle.pua_calls.specs.declared.call.Call.{Call}
use Rattle.pua_script.specs.Requests.{Asked}
use Rattle.pua_script.specs.Replay.{World, apply, lines_told, world_after}
use Rattle.pua_calls.specs.Promises.{lacking}
use Rattle.pua_policy.specs.Misfits.{misfit}
use Rattle.pua_policy.specs.declared.reason.Covering.{Covering}
use Rattle.pua_policy.specs.declared.reason.Covering.TheVariants.{NoneOver, By}
use Rattle.pua_policy.specs.Reasons.{Holds, promising, covering}
use Rattle.pua_script.specs.Decide.{Change, Outcome, Decision, Sole, Old, New, call_by, decide, named_in}
use Rattle.pua_script.specs.Openings.{Opening, opening_of}
use Rattle.pua_script.specs.declared.request.Action.{Action}
use Rattle.pua_script.specs.declared.request.Action.TheVariants.{OnPath, Rename, Link}
use Rattle.pua_policy.specs.Verdict.{refusal_verdict}
use Rattle.pua_policy.specs.declared.answer.Verdict.{Verdict}
use Rattle.pua_policy.specs.declared.answer.Verdict.TheVariants.{Allowed}
use Rattle.pua_why.specs.Reasons.{Fault, Ends, LacksPromises, BadPath, NoRoot, Uncovered, LacksLetters, Unfit, fault_refusal, change_or_fault}
use Rattle.pua_why.specs.Reasons.{faults, faults_of, reason, answer_of, outcome_in}
use Rattle.pua_why.specs.Facts.{Opened, promise_of_row, Needs, Follows, Names, Under, call_trace, facts, facts_asked, name_trace, pair_facts}
use Rattle.pua_why.specs.Keys.{reason_key}
use Rattle.pua_why.specs.Since.{Test, since, IsSince}
use Rattle.pua_why.specs.Openings.{ToldAnswer, told_plainly, told_text, told_to}
use Rattle.pua_why.specs.Texts.{has_key, answer_why, line_said, why_lines}

-- a fault, as the refusal that it is told of
abbrev pub decision_of : Outcome Fault → Decision
decision_of (Ok change) = Ok change
decision_of (Err fault) = Err (fault_refusal fault)

-- the decision is a function of what is reasoned
abbrev pub ReasonsGiveDecisions : Type 0
ReasonsGiveDecisions = (table : CallTable) (t : Tree) (h : ProcessState) (action : Action) →
    decision_of (change_or_fault table t h action) ≡ decide table t h action

abbrev pub verdict_by : Outcome Fault → Verdict
verdict_by (Ok _) = Allowed
verdict_by (Err fault) = refusal_verdict (fault_refusal fault)

-- a reason never contradicts the verdict on what the path names by the table's rules, which tell apart nothing but errnos; a
-- verdict knows of no openings
abbrev pub ReasonsGiveVerdicts : Type 0
ReasonsGiveVerdicts = (t : Tree) (table : CallTable) (h : ProcessState) (call : Call) (text : List ℕ) →
    verdict_by (call_by faults table t (faults_of h) call text) ≡ verdict_of t table h call (named_in table.whose t (start h) text (object_named t h call text))

-- nor the answer of a request
abbrev pub ReasonsGiveAnswers : Type 0
ReasonsGiveAnswers = (table : CallTable) (w : World) (ask : Asked) → answer_of (reason table w ask) ≡ (apply table w ask).0

-- what is told behind an answer is nothing, or begins with a blank
abbrev pub IsTail : List ℕ → Type 0
IsTail [] = Unit {0}
IsTail (b ∷ more) = b ≡ 32

-- lines with their numbers and answers, and what is told behind them
abbrev pub TellMore : List (List ℕ) → ℕ → List (Option ToldAnswer) → Type 0
TellMore lines n [] = lines ≡ []
TellMore lines n (None ∷ answers) = TellMore lines (suc n) answers
TellMore lines n (Some told ∷ answers) =
    (line : List ℕ) × (more : List (List ℕ)) × (lines ≡ line ∷ more)
    × ((tail : List ℕ) × (line ≡ (decimal n ++ 32 ∷ told_text told) ++ tail) × IsTail tail) × TellMore more (suc n) answers

-- with reasons each line is the line without them, and more
abbrev pub WhyLinesTellMore : Type 0
WhyLinesTellMore = (table : CallTable) (w : World) (done asks : List Asked) (n : ℕ) →
    TellMore (why_lines table w done n asks) n (told_to table (world_after table w done) asks)

-- answers are told as they are, and by rules that know of no openings none is told to be opened
pub record AnswersAreTold : Type 0 where
  pub as_they_are : (table : CallTable) (w : World) (asks : List Asked) →
      map (option_map (λ told. told.answer)) (told_to table w asks) ≡ lines_told table w asks
  pub unopened : (table : CallTable) → (about_rules table.whose).has_openings ≡ false → (w : World) (asks : List Asked) →
      told_to table w asks ≡ map (option_map told_plainly) (lines_told table w asks)

-- the last line of a chain is what is told of the request as the script's next line
abbrev pub ChainsEnd : Type 0
ChainsEnd = (table : CallTable) (w : World) (done asks : List Asked) (ask : Asked) (n : ℕ) →
    why_lines table w done n (asks ++ ask ∷ []) ≡ why_lines table w done n asks
    ++ line_said ask (decimal (n + length asks) ++ 32 ∷ answer_why table w (done ++ asks) ask)

-- the chain of a call that is granted tells the promises, the links, the object and the veil on which it rests
pub record FactsOf (t : Tree) (table : CallTable) (h : ProcessState) (call : Call) (text : List ℕ) : Type 0 where
  pub promises : ℕ
  pub object : Found
  pub over : Covering
  pub told : facts table t h (OnPath call text) ≡ Needs promises ∷ map (Follows Sole) (call_trace t h call text).links ++ Names Sole object
      ∷ Under Sole over ∷ []
  pub held : promising h (rule_of table call).alternatives ≡ Holds promises
  pub named : (call_trace t h call text).outcome ≡ Ok object
  pub covered : covering t h object ≡ over

-- that of a call that a promise opens tells the promise, the links, the object, and the veil where the veils are asked
pub record OpenedFactsOf (t : Tree) (table : CallTable) (h : ProcessState) (call : Call) (text : List ℕ) (o : Opening) : Type 0 where
  pub object : Found
  pub told : facts table t h (OnPath call text) ≡ Opened (promise_of_row o) ∷ map (Follows Sole) (call_trace t h call text).links ++ Names Sole object
      ∷ facts_asked o.asks_veils (Under Sole (covering t h object) ∷ [])
  pub named : (call_trace t h call text).outcome ≡ Ok object

abbrev pub FactsBy : Tree → CallTable → ProcessState → Call → List ℕ → Option Opening → Type 0
FactsBy t table h call text None = FactsOf t table h call text
FactsBy t table h call text (Some o) = OpenedFactsOf t table h call text o

abbrev pub GrantsAreTold : Type 0
GrantsAreTold = (t : Tree) (table : CallTable) (h : ProcessState) (call : Call) (text : List ℕ) (change : Change) →
    change_or_fault table t h (OnPath call text) ≡ Ok change → FactsBy t table h call text (opening_of table h call text)

-- and of a request with two paths those of both names
pub record PairFactsOf (pair : PairRule) (t : Tree) (h : ProcessState) (ending : Ending) (old_path new_path : List ℕ) : Type 0 where
  pub old_promises : ℕ
  pub new_promises : ℕ
  pub old : Found
  pub new : Found
  pub told : pair_facts pair t h ending old_path new_path ≡ Needs (bit_or old_promises new_promises)
      ∷ (map (Follows Old) (name_trace pair.old t h ending old_path).links ++ Names Old old
      ∷ (map (Follows New) (name_trace pair.new t h ending new_path).links ++ Names New new
      ∷ Under Old (covering t h old) ∷ Under New (covering t h new) ∷ []))
  pub held_old : promising h pair.old.needs.alternatives ≡ Holds old_promises
  pub held_new : promising h pair.new.needs.alternatives ≡ Holds new_promises
  pub named_old : (name_trace pair.old t h ending old_path).outcome ≡ Ok old
  pub named_new : (name_trace pair.new t h ending new_path).outcome ≡ Ok new

pub record PairsAreTold : Type 0 where
  pub renames : (t : Tree) (table : CallTable) (h : ProcessState) (old new : List ℕ) (change : Change) →
      change_or_fault table t h (Rename old new) ≡ Ok change → PairFactsOf table.rename t h ending.Dropped old new
  pub links : (t : Tree) (table : CallTable) (h : ProcessState) (old new : List ℕ) (change : Change) →
      change_or_fault table t h (Link old new) ≡ Ok change → PairFactsOf table.link t h ending.Dot old new

-- a path of this text has this outcome, and starts at the root, which was removed
abbrev pub IsFromNoRoot : List ℕ → Result Found PathFault → Type 0
IsFromNoRoot text outcome = (is_absolute text ≡ true) × (outcome ≡ Err NoStart)

-- what is told of any other path that names nothing is so: one that starts at what was removed starts at the working directory
abbrev pub PathFaultHolds : List ℕ → Result Found PathFault → PathFault → Type 0
PathFaultHolds text outcome NoStart = (is_absolute text ≡ false) × (outcome ≡ Err NoStart)
PathFaultHolds text outcome fault = outcome ≡ Err fault

-- what a fault of a call's path says is so, behind the promises; a path has no other faults
abbrev pub NamedFaultHolds : Tree → CallTable → ProcessState → Call → List ℕ → Fault → Type 0
NamedFaultHolds t table h call text (BadPath Sole fault) =
    PathFaultHolds text (outcome_in table.whose t (start h) text (call_trace t h call text).outcome) fault
NamedFaultHolds t table h call text (NoRoot Sole) =
    IsFromNoRoot text (outcome_in table.whose t (start h) text (call_trace t h call text).outcome)
NamedFaultHolds t table h call text (Uncovered Sole object) = ((call_trace t h call text).outcome ≡ Ok object) ×
    (covering t h object ≡ NoneOver)
NamedFaultHolds t table h call text (LacksLetters Sole place given lacks) =
    (object : Found) × ((call_trace t h call text).outcome ≡ Ok object) × (covering t h object ≡ By place given)
    × (holds given (rule_of table call).perms ≡ false) × (lacks ≡ lacking given (rule_of table call).perms)
NamedFaultHolds t table h call text (Unfit Sole object wrong) =
    ((call_trace t h call text).outcome ≡ Ok object) × (misfit table.whose t call (object_of t object) ≡ Some wrong) ×
    MisfitHolds t (object_of t object) wrong
NamedFaultHolds t table h call text _ = ⊥

-- the same with the promises: those of the call, or others that are asked
abbrev pub FaultHoldsBy : List ℕ → Tree → CallTable → ProcessState → Call → List ℕ → Fault → Type 0
FaultHoldsBy sets t table h call text Ends = is_ended h ≡ true
FaultHoldsBy sets t table h call text (LacksPromises error lacks) = LackSome h sets lacks
FaultHoldsBy sets t table h call text fault = NamedFaultHolds t table h call text fault

abbrev pub CallFaultHolds : Tree → CallTable → ProcessState → Call → List ℕ → Fault → Type 0
CallFaultHolds t table h call text fault = FaultHoldsBy (rule_of table call).alternatives t table h call text fault

abbrev pub CallFaultsHold : Type 0
CallFaultsHold = (t : Tree) (table : CallTable) (h : ProcessState) (call : Call) (text : List ℕ) (fault : Fault) →
    change_or_fault table t h (OnPath call text) ≡ Err fault → CallFaultHolds t table h call text fault

-- of a request that is not allowed: whoever asked it before the line that is told had a reason of another key, and from
-- then on it was of this one; without a line it was so throughout
abbrev pub ReasonsSince : Type 0
ReasonsSince = (table : CallTable) (w : World) (asks : List Asked) (ask : Asked) →
    let test : Test = has_key table ask (reason_key (reason table (world_after table w asks) ask)) in
    IsSince test table w 1 asks ask.process (since test table w 1 asks ask.process)
