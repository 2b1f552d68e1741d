-- Each object on which a call is allowed has a line with the call.
use Rattle.pua_objects.proofs.Common.{◌≡◌, ℕ, List, [], ◌∷◌, Bool, true, length, arith, refl, sym, ap, ◌∙◌, map, ◌&&◌, Option}
use Rattle.pua_objects.proofs.Common.{Some, None, Ok, Err, Tree, WellFormed, is_dir, sound_from, FoundFits, path_fault, Last, Way, Found}
use Rattle.pua_objects.proofs.Common.{Whole, Slot, CallTable, calls, rule_of, last_of, ProcessState, veils, verdict, if_promised, is_allowed}
use Rattle.pua_objects.proofs.Common.{Call, Allowed, Line, line_of, has_calls, items, calls_on, is_named_by, subject_verdict, subject_of}
use Rattle.std.proofs.Common.{nat_lt, lt-ltb}
use Rattle.std.specs.Prelude.{Result}
use Rattle.pua_path.specs.Resolution.{resolution, resolution_of_text}
use Rattle.pua_path.specs.Fits.{IsOf}
use Rattle.pua_path.specs.declared.errno.Errno.{Errno}
use Rattle.pua_path.specs.declared.text.Ending.{Ending}
use Rattle.pua_calls.specs.Calls.{ending_of}
use Rattle.pua_calls.specs.CallSets.{bit_of}
use Rattle.pua_calls.specs.declared.call.Call.TheVariants.{Stat}
use Rattle.pua_calls.proofs.ForCallers.{bit_below, call_at_bit}
use Rattle.pua_policy.specs.States.{may_any, start}
use Rattle.pua_policy.specs.Verdict.{verdict_of}
use Rattle.pua_policy.specs.declared.answer.May.{May}
use Rattle.pua_policy.specs.declared.answer.May.TheVariants as may
use Rattle.pua_policy.specs.declared.answer.Verdict.{Verdict}
use Rattle.pua_policy.specs.declared.answer.Verdict.TheVariants.{Failed, Death}
use Rattle.pua_path.proofs.ForCallers.{resolutions_fit}
use Rattle.pua_audit.specs.Reach.{path_of, pairs, reach, is_reached}
use Rattle.pua_objects.specs.Objects.{objects}
use Rattle.pua_objects.specs.Laws.{IsListed, Complete, ReachIsListed}
use Rattle.pua_objects.proofs.Among.{Among, among_at, among_map, among_filter, filter_among, contained, among_contained}
use Rattle.pua_objects.proofs.Judged.{told}
use Rattle.pua_objects.proofs.Listing.{has_item}
use Rattle.pua_path.specs.Resolution.{rooted}
use Rattle.pua_path.specs.declared.found.Start.{Start}

pub one_of_calls : (call : Call) → Among calls call
one_of_calls call = among_at calls (bit_of call) Stat call (bit_below call) (call_at_bit call)

pub some_of : {X : Type 0} (xs : List X) (x : X) → Among xs x → nat_lt 0 (length xs) ≡ true
some_of [] x a = absurd a
some_of (y ∷ xs) x a = lt-ltb 0 (length (y ∷ xs)) (omega arith)

pub failed : (m : May) (errno : Errno) → if_promised m (Failed errno) ≡ Allowed → ⊥
failed may.Yes errno e = cc
failed may.Enosys errno e = cc
failed may.Death errno e = cc

-- a text without fault names what its resolution does
pub named_within_text : (t : Tree) (from : Start) (ending : Ending) (text : List ℕ) (mode : Last) (object : Found) →
    resolution_of_text t from ending text mode ≡ Ok object → resolution t from ending text mode ≡ Ok object
named_within_text t from ending text mode object e = by (path_fault text) refl
  where
    by : (o : Option Errno) → path_fault text ≡ o → resolution t from ending text mode ≡ Ok object
    by None is = rw is at e
    by (Some errno) is = let never : Err errno ≡ Ok object = rw is at e in cc

module _ (t : Tree) (fits : WellFormed t) (table : CallTable) (h : ProcessState) (call : Call) where
  -- what is allowed on what was found has a line
  listed : (named : Result Found Errno) (object : Found) → named ≡ Ok object → IsOf t (last_of call) object →
      verdict t table h call object ≡ Allowed → IsListed t table h call named
  listed named object is of allowed =
      let subject = subject_of t h object in
      let item = has_item t (sound_from t fits) h object of.fits in
      let test : Call → Bool = λ c. is_named_by t c subject && is_allowed (subject_verdict t table h c subject) in
      let here : Among (calls_on t table h subject) call =
      among_filter test calls call (told t (sound_from t fits) table h call object of.followed of.named (living object of.fits) allowed)
      (one_of_calls call) in
      let line : Line = line_of t table h (record { word = item.0; subject = subject }) in
      record {
        object = object;
        names = is;
        line = line;
        listed = contained (objects t table h) line (among_filter has_calls (map (line_of t table h) (items t (veils h))) line
            (some_of (calls_on t table h subject) call here) (among_map (line_of t table h) (items t (veils h))
            (record { word = item.0; subject = subject }) item.1));
        about = refl;
        allows = contained (calls_on t table h subject) call here;
      }
    where
      living : (o : Found) → FoundFits t o → (dir : ℕ) (way : Way) → o ≡ Whole dir way → is_dir t dir ≡ true
      living (Whole other w) fit dir way e = let same : other ≡ dir = cc in ap (is_dir t) (sym same) ∙ fit
      living (Slot other name o) fit dir way e = cc

  pub complete_from : (from : Start) (text : List ℕ) → let named = resolution_of_text t from (ending_of call) text (last_of call) in
      verdict_of t table h call named ≡ Allowed → IsListed t table h call named
  complete_from from text = by (resolution_of_text t from (ending_of call) text (last_of call)) refl
    where
      by : (named : Result Found Errno) → resolution_of_text t from (ending_of call) text (last_of call) ≡ named →
          verdict_of t table h call named ≡ Allowed → IsListed t table h call named
      by (Err errno) is e = absurd (failed (may_any h (rule_of table call).alternatives) errno e)
      by (Ok object) is e =
          let named = named_within_text t from (ending_of call) text (last_of call) object is in
          listed (Ok object) object refl ((resolutions_fit (rooted t 0) fits fits.root).whole from (ending_of call) text (last_of call) object named) e

pub complete : Complete
complete t table h from call text fits e = complete_from t fits table h call from text e

pub allowed_is : (v : Verdict) → is_allowed v ≡ true → v ≡ Allowed
allowed_is Allowed e = refl
allowed_is (Failed errno) e = cc
allowed_is Death e = cc

pub reach_is_listed : ReachIsListed
reach_is_listed s fits word call there =
    let pair = filter_among (is_reached s) (pairs s.alphabet s.limit) (word, call) (among_contained (reach s) (word, call) there) in
    complete_from s.tree fits s.table s.process call (start s.process) (path_of s.base word) (allowed_is _ pair.1)
