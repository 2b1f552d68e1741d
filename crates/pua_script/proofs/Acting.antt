-- What is done where it was decided.
use Rattle.pua_script.proofs.Common.{◌≡◌, ℕ, List, sym, ap, Option, OnPath, Call, Result, Tree, CallTable, ProcessState, Refusal}
use Rattle.pua_script.proofs.Common.{asker_of, decide, come_of, Answer, WorldFault, Granted, Action}
use Rattle.pua_script.specs.Decide.{refusals, asker_past, decide_by}
use Rattle.pua_script.specs.Judged.{decision_for}
use Rattle.pua_script.specs.Openings.{Opening, opening_of}
use Rattle.pua_script.specs.declared.request.Action.TheVariants.{Hold}
use Rattle.pua_script.specs.Worlds.{Acts, Attempts}
use Rattle.pua_script.proofs.Doing.{attempts_same}

-- a process acts as it asks where what is done is what was decided
pub acts : (table : CallTable) (t : Tree) (p : ProcessState) (action : Action) (d : Result Granted Refusal) →
    decision_for (asker_of p) d ≡ decide table t p action → (u : Tree) (after : ProcessState) (result : Result Answer WorldFault)
    → ((processes : List (ℕ × ProcessState)) →
    Attempts t p (come_of (record { tree = t; processes = processes }) p (decision_for (asker_of p) d)) result u after)
    → Acts table t p action result u after
acts table t p action d same u after result done = λ processes. attempts_same t u p result after _ _
    (ap (come_of (record { tree = t; processes = processes }) p) (sym same)) (done processes)

-- a call meets the checks of what opens it, and where nothing does, those that it would meet without openings
pub opened_by : (table : CallTable) (t : Tree) (p : ProcessState) (call : Call) (path : List ℕ) (o : Option Opening) →
    opening_of table p call path ≡ o → decide_by refusals table t (asker_past o (asker_of p)) (OnPath call path) ≡ decide table t p (OnPath call path)
opened_by table t p call path o is =
    ap (λ (o : Option Opening). decide_by refusals table t (asker_past o (asker_of p)) (OnPath call path)) (sym is)

pub held_by : (table : CallTable) (t : Tree) (p : ProcessState) (number : ℕ) (call : Call) (path : List ℕ) (o : Option Opening) →
    opening_of table p call path ≡ o →
    decide_by refusals table t (asker_past o (asker_of p)) (Hold number call path) ≡ decide table t p (Hold number call path)
held_by table t p number call path o is =
    ap (λ (o : Option Opening). decide_by refusals table t (asker_past o (asker_of p)) (Hold number call path)) (sym is)
