-- An open that is kept is refused as the open alone.
use Rattle.pua_why.proofs.Common.{◌≡◌, ℕ, List, Some, None, refl, Result, Ok, Err, Option, option_map, Tree, Found, CallTable, rule_of}
use Rattle.pua_why.proofs.Common.{ProcessState}
use Rattle.pua_why.proofs.Common.{object_of, or_fault, Call, Change, Outcome, Sole, unless_refused, unless_failed, on_named, change_by}
use Rattle.pua_why.proofs.Common.{OnPath, Hold}
use Rattle.pua_why.proofs.Common.{misfit, Fault, faults, faults_of, change_or_fault, refused_by}
use Rattle.pua_calls.specs.Calls.{ending_of, last_of}
use Rattle.pua_script.specs.Decide.{Asker, asker_past, holding}
use Rattle.pua_script.specs.Openings.{opening_of}

module _ (g k : Found → Change) where
  same_checks : (p : Option Fault) (r : Result Found Fault) (bad : Found → Option Fault) →
      refused_by (unless_refused p (on_named (λ fault. fault) r λ x. unless_failed (λ fault. fault) (bad x) (Ok (g x))))
      ≡ refused_by (unless_refused p (on_named (λ fault. fault) r λ x. unless_failed (λ fault. fault) (bad x) (Ok (k x))))
  same_checks (Some fault) r bad = refl
  same_checks None (Err fault) bad = refl
  same_checks None (Ok x) bad = by (bad x)
    where
      by : (o : Option Fault) → refused_by (unless_failed (λ (fault : Fault). fault) o (Ok (g x)))
          ≡ refused_by (unless_failed (λ (fault : Fault). fault) o (Ok (k x)))
      by None = refl
      by (Some fault) = refl

pub holds_are_refused : (table : CallTable) (t : Tree) (h : ProcessState) (number : ℕ) (c : Call) (path : List ℕ) →
    refused_by (change_or_fault table t h (OnPath c path)) ≡ refused_by (change_or_fault table t h (Hold number c path))
holds_are_refused table t h number c path =
    let asker : Asker Fault Fault = asker_past (opening_of table h c path) (faults_of h) in
    same_checks (change_by table c) (holding t number c) (asker.promises (rule_of table c).alternatives)
    (asker.path table.whose Sole t (ending_of c) path (last_of c))
    (λ object. or_fault (asker.cover Sole t object (rule_of table c).perms)
    (option_map (faults.misfit Sole object) (misfit table.whose t c (object_of t object))))

-- what is refused as another is, is refused by the same fault
pub refused_too : (d e : Outcome Fault) (fault : Fault) → refused_by d ≡ refused_by e → d ≡ Err fault → e ≡ Err fault
refused_too (Ok change) e fault same is = cc
refused_too (Err one) (Ok change) fault same is = cc
refused_too (Err one) (Err other) fault same is = cc
