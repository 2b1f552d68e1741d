-- A check that fails does so with what is true, or the checks behind it fail.
use Rattle.pua_why.proofs.Common.{◌≡◌, ℕ, Bool, true, false, List, Some, None, refl, Result, Ok, Err, Option, subst, if◌then◌else◌, Found}
use Rattle.pua_why.proofs.Common.{PathFault, holds, ProcessState, is_ended, or_fault, Place, Outcome, Side, unless_refused, unless_failed}
use Rattle.pua_why.proofs.Common.{on_named, fault_if, lacking, InView, By, Promising, Holds, HasEnded, Lacks, promising, Fault}
use Rattle.pua_why.proofs.Common.{LacksLetters, unpromised_fault, told_path, uncovered_fault}
use Rattle.pua_path.specs.Paths.{is_absolute}
use Rattle.pua_path.specs.declared.traced.PathFault.TheVariants.{InText, NoStart, Stops}
use Rattle.pua_policy.specs.declared.reason.Covering.{Covering}
use Rattle.pua_policy.specs.declared.reason.Covering.TheVariants.{NoneOver}
use Rattle.pua_why.specs.Reasons.{Ends, LacksPromises, BadPath, NoRoot, Uncovered, bad_path, no_start}
use Rattle.pua_why.specs.Laws.{IsFromNoRoot, PathFaultHolds}
use Rattle.pua_policy.specs.ReasonLaws.{PromisingHolds}
use Rattle.pua_policy.proofs.ForCallers.{promisings_hold}

-- where nothing is granted or failed, the one fault is the other
pub same_fault : (a b : Fault) → ◌≡◌ {A = Outcome Fault} (Err a) (Err b) → a ≡ b
same_fault a b e = cc

pub refused_true : (o : Option Fault) (d : Outcome Fault) (fault : Fault) (Is : Fault → Type 0) → ((bad : Fault) → o ≡ Some bad → Is bad) →
    (d ≡ Err fault → Is fault) →
    unless_refused o d ≡ Err fault → Is fault
refused_true None d fault Is stops more e = more e
refused_true (Some bad) d fault Is stops more e = subst Is (same_fault bad fault e) (stops bad refl)

pub failed_true : (o : Option Fault) (d : Outcome Fault) (fault : Fault) (Is : Fault → Type 0) → ((bad : Fault) → o ≡ Some bad → Is bad) →
    (d ≡ Err fault → Is fault) →
    unless_failed (λ fault. fault) o d ≡ Err fault → Is fault
failed_true None d fault Is stops more e = more e
failed_true (Some bad) d fault Is stops more e = subst Is (same_fault bad fault e) (stops bad refl)

-- a path that names nothing: why, or that it starts at a root that was removed
path_true : (side : Side) (text : List ℕ) (outcome : Result Found PathFault) (Is : Fault → Type 0) →
    ((bad : PathFault) → PathFaultHolds text outcome bad → Is (BadPath side bad)) → (IsFromNoRoot text outcome → Is (NoRoot side)) →
    (bad : PathFault) → outcome ≡ Err bad → Is (bad_path side text bad)
path_true side text outcome Is fails rootless (InText fault) o = fails (InText fault) o
path_true side text outcome Is fails rootless (Stops stop) o = fails (Stops stop) o
path_true side text outcome Is fails rootless NoStart o = by (is_absolute text) refl
  where
    by : (v : Bool) → is_absolute text ≡ v → Is (no_start side v)
    by true v = rootless (v, o)
    by false v = fails NoStart (v, o)

pub named_true : (side : Side) (text : List ℕ) (outcome : Result Found PathFault) (further : Found → Outcome Fault) (fault : Fault)
    (Is : Fault → Type 0) → ((bad : PathFault) → PathFaultHolds text outcome bad → Is (BadPath side bad)) →
    (IsFromNoRoot text outcome → Is (NoRoot side)) →
    ((object : Found) → outcome ≡ Ok object → further object ≡ Err fault → Is fault) →
    on_named (λ fault. fault) (told_path side text outcome) further ≡ Err fault → Is fault
named_true side text (Ok object) further fault Is fails rootless more e = more object refl e
named_true side text (Err bad) further fault Is fails rootless more e =
    subst Is (same_fault (bad_path side text bad) fault e) (path_true side text (Err bad) Is fails rootless bad refl)

-- of two faults the first, or the second
pub either_true : (a b : Option Fault) (bad : Fault) (Is : Fault → Type 0) → (a ≡ Some bad → Is bad) → (b ≡ Some bad → Is bad) →
    or_fault a b ≡ Some bad → Is bad
either_true None b bad Is first second e = second e
either_true (Some x) b bad Is first second e = first e

pub when_true : (v : Bool) (said bad : Fault) (Is : Fault → Type 0) → (v ≡ true → Is said) → fault_if v said ≡ Some bad → Is bad
when_true true said bad Is is e = let same : said ≡ bad = cc in subst Is same (is refl)
when_true false said bad Is is e = cc

pub unpromised_true : (h : ProcessState) (sets : List ℕ) (bad : Fault) (Is : Fault → Type 0) →
    (is_ended h ≡ true → Is Ends) → ((error : Bool) (lacks : List ℕ) → PromisingHolds h sets (Lacks error lacks) →
    Is (LacksPromises error lacks)) →
    unpromised_fault (promising h sets) ≡ Some bad → Is bad
unpromised_true h sets bad Is ends lacks e = by (promising h sets) (promisings_hold h sets) e
  where
    by : (p : Promising) → PromisingHolds h sets p → unpromised_fault p ≡ Some bad → Is bad
    by (Holds set) is e = cc
    by HasEnded is e = let same : Ends ≡ bad = cc in subst Is same (ends is)
    by (Lacks error sets) is e = let same : LacksPromises error sets ≡ bad = cc in subst Is same (lacks error sets is)

pub uncovered_true : (side : Side) (object : Found) (perms : ℕ) (over : Covering) (bad : Fault) (Is : Fault → Type 0) →
    (over ≡ NoneOver → Is (Uncovered side object)) →
    ((place : Place) (given : ℕ) → over ≡ By place given → holds given perms ≡ false →
    Is (LacksLetters side place given (lacking given perms))) →
    uncovered_fault side object perms over ≡ Some bad → Is bad
uncovered_true side object perms InView bad Is none lacks e = cc
uncovered_true side object perms NoneOver bad Is none lacks e = let same : Uncovered side object ≡ bad = cc in subst Is same (none refl)
uncovered_true side object perms (By place given) bad Is none lacks e = by (holds given perms) refl e
  where
    by : (v : Bool) → holds given perms ≡ v → (if v then None else Some (LacksLetters side place given (lacking given perms))) ≡ Some bad →
        Is bad
    by true v e = cc
    by false v e = let same : LacksLetters side place given (lacking given perms) ≡ bad = cc in subst Is same (lacks place given refl v)
