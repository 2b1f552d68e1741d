-- Which promise opens what a process would be refused else, as it is told behind the answer.
use Rattle.std.specs.Prelude.{◌≡◌, ℕ, List, [], ◌∷◌, ◌++◌, codes, if◌then◌else◌, take, Option, Some, None, Ok, Err}
use Rattle.pua_tree.specs.Tree.{Tree}
use Rattle.pua_calls.specs.Calls.{CallTable}
use Rattle.pua_calls.specs.declared.call.Call.{Call}
use Rattle.pua_policy.specs.States.{ProcessState}
use Rattle.pua_script.specs.AnswerTexts.{answer_text}
use Rattle.pua_script.specs.Decide.{Outcome, call_by}
use Rattle.pua_script.specs.Openings.{Opening, opening_of}
use Rattle.pua_script.specs.Replay.{World, kept_at, apply}
use Rattle.pua_script.specs.Requests.{Asked, says_nothing}
use Rattle.pua_script.specs.Worlds.{WorldState, state_after_all}
use Rattle.pua_script.specs.declared.answer.Answer.{Answer}
use Rattle.pua_script.specs.declared.answer.Answer.TheVariants.{Okay}
use Rattle.pua_script.specs.declared.request.Action.{Action}
use Rattle.pua_script.specs.declared.request.Action.TheVariants.{Hold, OnPath}
use Rattle.pua_why.specs.Reasons.{Fault, faults, faults_of}

-- a promise, where a call is refused without it
abbrev pub promise_where : List ℕ → Outcome Fault → Option (List ℕ)
promise_where promise (Ok _) = None
promise_where promise (Err fault) = Some promise

-- the promise of an opening, where the call is refused without openings
abbrev pub opener_by : CallTable → Tree → ProcessState → Call → List ℕ → Option Opening → Option (List ℕ)
opener_by table t p call text None = None
opener_by table t p call text (Some o) = promise_where o.promise (call_by faults table t (faults_of p) call text)

abbrev pub opener_on : CallTable → Tree → Action → ProcessState → Option (List ℕ)
opener_on table t (OnPath call text) p = opener_by table t p call text (opening_of table p call text)
opener_on table t (Hold number call text) p = opener_by table t p call text (opening_of table p call text)
opener_on table t _ p = None

abbrev pub opener_at : CallTable → Tree → Action → Option ProcessState → Option (List ℕ)
opener_at table t action None = None
opener_at table t action (Some p) = opener_on table t action p

-- by which promise a request is let through that is refused without openings
abbrev pub opener : CallTable → World → Asked → Option (List ℕ)
opener table w ask = opener_at table w.tree ask.action (kept_at w ask.process)

-- only what is answered `ok` was opened
abbrev pub if_okay : Answer → Option (List ℕ) → Option (List ℕ)
if_okay Okay promise = promise
if_okay _ promise = None

abbrev pub opened_by : CallTable → World → Asked → Option (List ℕ)
opened_by table w ask = if_okay (apply table w ask).0 (opener table w ask)

abbrev pub opener_text : Option (List ℕ) → List ℕ
opener_text None = []
opener_text (Some promise) = codes " by " ++ promise

-- what a request is answered, and the promise that opened it
pub record ToldAnswer : Type 0 where
  pub answer : Answer
  pub opener : Option (List ℕ)

-- that nothing opened it
abbrev pub told_plainly : Answer → ToldAnswer
told_plainly answer = record { answer = answer; opener = None }

abbrev pub told_answer : CallTable → World → Asked → ToldAnswer
told_answer table w ask = record { answer = (apply table w ask).0; opener = opened_by table w ask }

-- what is told of a line of a script: nothing where nobody asks
abbrev pub told_line : CallTable → World → Asked → Option ToldAnswer
told_line table w ask = if says_nothing ask.action then None else Some (told_answer table w ask)

-- and of lines, one after another
abbrev pub told_to : CallTable → World → List Asked → List (Option ToldAnswer)
told_to table w [] = []
told_to table w (ask ∷ asks) = told_line table w ask ∷ told_to table (apply table w ask).1 asks

abbrev pub told_text : ToldAnswer → List ℕ
told_text told = answer_text told.answer ++ opener_text told.opener

-- some of the first of these requests were served
abbrev pub ServesFirst : WorldState → List Asked → WorldState → Type 0
ServesFirst before asks after = (count : ℕ) × (after ≡ state_after_all before (take count asks))
