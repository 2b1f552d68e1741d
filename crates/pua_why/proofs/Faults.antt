-- What a fault of a call on a path says is so.
use Rattle.pua_why.proofs.Common.{◌≡◌, ℕ, List, Some, None, refl, Ok, Err, Option, subst, option_map, Tree, Found, CallTable, rule_of}
use Rattle.pua_why.proofs.Common.{ProcessState, object_of, Call, Change, Sole, change_by, misfit, covering, promising, Fault, Unfit, faults, faults_of}
use Rattle.pua_why.proofs.Common.{call_trace}
use Rattle.std.specs.Prelude.{IfSome}
use Rattle.pua_script.specs.Decide.{object_by, asker_past, decide_by, past_promises, unless_refused}
use Rattle.pua_script.specs.Openings.{Opening, opening_of}
use Rattle.pua_why.proofs.Common.{Bool, true, false, OnPath}
use Rattle.pua_calls.specs.declared.fits.Misfit.{Misfit}
use Rattle.pua_policy.specs.ReasonLaws.{MisfitHolds}
use Rattle.pua_path.specs.declared.found.Start.{Start}
use Rattle.pua_path.specs.declared.traced.PathFault.{PathFault}
use Rattle.pua_calls.specs.declared.rules.Rules.{Rules}
use Rattle.pua_policy.specs.States.{start}
use Rattle.pua_why.specs.Reasons.{Ends, LacksPromises, outcome_in, unpromised_fault}
use Rattle.std.specs.Prelude.{Result}
use Rattle.pua_why.specs.Laws.{CallFaultHolds, CallFaultsHold, FaultHoldsBy, NamedFaultHolds}
use Rattle.pua_why.proofs.Steps.{refused_true, failed_true, named_true, either_true, unpromised_true, uncovered_true}
use Rattle.pua_policy.proofs.ForCallers.{misfits_hold}

-- what a path names by any rules, its text names
pub outcome_ok : (whose : Rules) (t : Tree) (from : Start) (text : List ℕ) (o : Result Found PathFault) (x : Found) →
    outcome_in whose t from text o ≡ Ok x → o ≡ Ok x
outcome_ok whose t from text (Ok y) x e = e
outcome_ok whose t from text (Err fault) x e = cc

module _ (t : Tree) (table : CallTable) (h : ProcessState) (c : Call) (text : List ℕ) where
  abbrev Is : Fault → Type 0
  Is = NamedFaultHolds t table h c text

  wrong_true : (object : Found) (wrong : Option Misfit) (bad : Fault) → misfit table.whose t c (object_of t object) ≡ wrong →
      (call_trace t h c text).outcome ≡ Ok object →
      option_map (Unfit Sole object) wrong ≡ Some bad → Is bad
  wrong_true object None bad m o e = cc
  wrong_true object (Some wrong) bad m o e =
      let same : Unfit Sole object wrong ≡ bad = cc in
      subst Is same (o, m, subst (λ x. IfSome x (MisfitHolds t (object_of t object))) m (misfits_hold table.whose t c (object_of t object)))

  -- once its promises are held
  pub object_true : (f : Found → Change) (fault : Fault) →
      object_by faults table t (faults_of h) c text (λ x. Ok (f x)) ≡ Err fault → Is fault
  object_true f fault e =
      named_true Sole text (outcome_in table.whose t (start h) text (call_trace t h c text).outcome) _ fault Is (λ bad o. o) (λ o. o)
      (λ object told e. let o = outcome_ok table.whose t (start h) text (call_trace t h c text).outcome object told in
      failed_true _ _ fault Is
      (λ bad e. either_true _ _ bad Is
      (uncovered_true Sole object (rule_of table c).perms (covering t h object) bad Is (λ none. (o, none))
      (λ place given over lacks. (object, o, over, lacks, refl)))
      (wrong_true object (misfit table.whose t c (object_of t object)) bad refl o) e)
      (λ granted. cc) e) e

  -- of a call that a promise opens
  past_true : (asks_veils : Bool) (f : Found → Change) (fault : Fault) →
      object_by faults table t (past_promises asks_veils (faults_of h)) c text (λ x. Ok (f x)) ≡ Err fault → Is fault
  past_true true f fault e = object_true f fault e
  past_true false f fault e =
      named_true Sole text (outcome_in table.whose t (start h) text (call_trace t h c text).outcome) _ fault Is (λ bad o. o) (λ o. o)
      (λ object told e. failed_true _ _ fault Is
      (λ bad e. wrong_true object (misfit table.whose t c (object_of t object)) bad refl
      (outcome_ok table.whose t (start h) text (call_trace t h c text).outcome object told) e)
      (λ granted. cc) e) e

-- a fault behind the promises is one with them
pub behind_promises : (sets : List ℕ) (t : Tree) (table : CallTable) (h : ProcessState) (c : Call) (text : List ℕ) (fault : Fault) →
    NamedFaultHolds t table h c text fault → FaultHoldsBy sets t table h c text fault
behind_promises sets t table h c text Ends holds = absurd holds
behind_promises sets t table h c text (LacksPromises error lacks) holds = absurd holds
behind_promises sets t table h c text _ holds = holds

-- the faults of a path that is judged as a call's, once these promises are asked
pub faults_hold_by : (sets : List ℕ) (t : Tree) (table : CallTable) (h : ProcessState) (c : Call) (text : List ℕ) (f : Found → Change)
    (fault : Fault) →
    unless_refused (unpromised_fault (promising h sets)) (object_by faults table t (faults_of h) c text (λ x. Ok (f x))) ≡ Err fault →
    FaultHoldsBy sets t table h c text fault
faults_hold_by sets t table h c text f fault e =
    refused_true _ _ fault (FaultHoldsBy sets t table h c text)
    (λ bad e. unpromised_true h sets bad (FaultHoldsBy sets t table h c text) (λ ended. ended) (λ error lacks is. is) e)
    (λ e. behind_promises sets t table h c text fault (object_true t table h c text f fault e)) e

pub call_faults_hold : CallFaultsHold
call_faults_hold t table h c text fault e = by (opening_of table h c text) e
  where
    by : (o : Option Opening) → decide_by faults table t (asker_past o (faults_of h)) (OnPath c text) ≡ Err fault →
        CallFaultHolds t table h c text fault
    by None e = faults_hold_by (rule_of table c).alternatives t table h c text (change_by table c) fault e
    by (Some o) e = behind_promises (rule_of table c).alternatives t table h c text fault
        (past_true t table h c text o.asks_veils (change_by table c) fault e)
