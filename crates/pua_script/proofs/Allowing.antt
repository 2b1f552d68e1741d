-- A state with the same unveils and no more promises but `error` allows no more.
use Rattle.pua_script.proofs.Common.{◌≡◌, ℕ, List, [], ◌∷◌, Bool, true, false, not, ◌&&◌, ◌||◌, cond, refl, sym, ap, subst, ◌∙◌}
use Rattle.pua_script.proofs.Common.{list_any, AllByRecursion, Option, Some, None, Result, Ok, Err, Tree, is_dir, ◌>>=◌}
use Rattle.pua_script.proofs.Common.{is_absolute, path_fault, parts_of, resolution_of_text, resolve_parts, most_links, Errno, ENOENT}
use Rattle.pua_script.proofs.Common.{Ending, Last, Found, holds, CallTable, rule_of, ending_of, last_of, ProcessState}
use Rattle.pua_script.proofs.Common.{held_set, has_error, is_ended, may_any, start, cover}
use Rattle.pua_script.proofs.Common.{cover_fault, or_fault, object_fault, object_of, object_named, Call, May, Yes}
use Rattle.std.specs.Prelude.{if◌then◌else◌}
use Rattle.pua_path.specs.Resolution.{has_root, resolution, rooted}
use Rattle.pua_path.specs.declared.found.Start.{Start}
use Rattle.pua_path.specs.declared.found.Way.TheVariants.{Top}
use Rattle.pua_policy.specs.States.{SameVeils}
use Rattle.pua_policy.specs.Verdict.{cover_with}
use Rattle.pua_policy.specs.Verdict.{allowed_unless, if_promised, verdict_of, is_allowed, found_fault}
use Rattle.pua_policy.specs.declared.answer.May.TheVariants.{Enosys, Death}
use Rattle.pua_policy.specs.declared.answer.Verdict.{Verdict}
use Rattle.pua_policy.specs.declared.answer.Verdict.TheVariants as verdicts
use Rattle.pua_script.specs.Tightening.{NamesNoError, NoCallNeedsError, Tightens, AllowsNoMore}

-- the same veils leave the same covers
pub same_cover : (a b : ProcessState) → SameVeils a b → (t : Tree) (object : Found) → cover t a object ≡ cover t b object
same_cover a b e t object = λ i. cover_with (e.any i) (λ place. e.kept place i) t object

-- the later state is tightened, and one that has ended stays so
pub record IsWithin (before after : ProcessState) : Type 0 where
  pub tightens : Tightens before after
  pub ended : is_ended after ≡ false → is_ended before ≡ false

module _ (before after : ProcessState) (within : IsWithin before after) where
  any_held : (alternatives : List ℕ) → AllByRecursion NamesNoError alternatives → list_any (holds (held_set after)) alternatives ≡ true →
      list_any (holds (held_set before)) alternatives ≡ true
  any_held [] sound e = e
  any_held (set ∷ sets) sound e = by (holds (held_set after) set) refl (any_held sets sound.1) e
    where
      by : (b : Bool) → holds (held_set after) set ≡ b →
          (list_any (holds (held_set after)) sets ≡ true → list_any (holds (held_set before)) sets ≡ true) →
          (b || list_any (holds (held_set after)) sets) ≡ true →
          (holds (held_set before) set || list_any (holds (held_set before)) sets) ≡ true
      by true is rest _ = ap (λ b. b || list_any (holds (held_set before)) sets) (within.tightens.promises set sound.0 is)
      by false is rest e = or_right (holds (held_set before) set) (rest e)
        where
          or_right : (a : Bool) {b : Bool} → b ≡ true → (a || b) ≡ true
          or_right true e = refl
          or_right false e = e

  pub may_yes : (alternatives : List ℕ) → AllByRecursion NamesNoError alternatives → may_any after alternatives ≡ Yes →
      may_any before alternatives ≡ Yes
  may_yes alternatives sound e = by (is_ended after) (list_any (holds (held_set after)) alternatives) (has_error after) refl refl e
    where
      by : (a b c : Bool) → is_ended after ≡ a → list_any (holds (held_set after)) alternatives ≡ b →
          cond a Death (cond b Yes (cond c Enosys Death)) ≡ Yes → may_any before alternatives ≡ Yes
      by true b c ends some is = cc
      by false true c ends some is =
          ap (λ x. cond x Death (cond (list_any (holds (held_set before)) alternatives) Yes (cond (has_error before) Enosys Death)))
          (within.ended ends)
          ∙ ap (λ x. cond x Yes (cond (has_error before) Enosys Death)) (any_held alternatives sound some)
      by false false true ends some is = cc
      by false false false ends some is = cc

  allowed_before : (m n : May) (v : Verdict) → (m ≡ Yes → n ≡ Yes) → is_allowed (if_promised m v) ≡ true →
      is_allowed (if_promised n v) ≡ true
  allowed_before Yes n v more e = ap (λ x. is_allowed (if_promised x v)) (more refl) ∙ e
  allowed_before Enosys n v more e = cc
  allowed_before Death n v more e = cc

  pub verdicts_within : (table : CallTable) → NoCallNeedsError table → (t : Tree) (call : Call) (r : Result Found Errno) →
      is_allowed (verdict_of t table after call r) ≡ true → is_allowed (verdict_of t table before call r) ≡ true
  verdicts_within table sound t call (Ok object) e =
      allowed_before (may_any after (rule_of table call).alternatives) (may_any before (rule_of table call).alternatives)
      (allowed_unless (found_fault t table before call object))
      (may_yes (rule_of table call).alternatives (sound.calls call))
      (ap (λ c. is_allowed (if_promised (may_any after (rule_of table call).alternatives)
      (allowed_unless (or_fault (cover_fault c (rule_of table call).perms) (object_fault table.whose t call (object_of t object))))))
      (sym (same_cover after before within.tightens.unveils t object)) ∙ e)
  verdicts_within table sound t call (Err errno) e =
      allowed_before (may_any after (rule_of table call).alternatives) (may_any before (rule_of table call).alternatives)
      (verdicts.Failed errno)
      (may_yes (rule_of table call).alternatives (sound.calls call)) e

-- an absolute text names the same from everywhere, by one root
from_root_alike : (t : Tree) (root a b : ℕ) (ending : Ending) (text : List ℕ) (mode : Last) → is_absolute text ≡ true →
    resolution t (record { root = root; dir = a }) ending text mode ≡ resolution t (record { root = root; dir = b }) ending text mode
from_root_alike t root a b ending text mode e = from a ∙ sym (from b)
  where
    from : (d : ℕ) → resolution t (record { root = root; dir = d }) ending text mode
        ≡ (if not (has_root t root) then Err ENOENT
        else (resolve_parts most_links (rooted t (if has_root t root then root else 0)) mode root Top (parts_of ending text) >>= λ found. Ok
        found.0))
    from d = ap (λ x. cond {A = Result Found Errno} (not (cond x (has_root t root) (is_dir t d))) (Err ENOENT)
        (resolve_parts most_links (rooted t (if has_root t root then root else 0)) mode (cond x root d) Top (parts_of ending text)
        >>= λ found. Ok found.0)) e

named_alike : (t : Tree) (a b : Start) (ending : Ending) (text : List ℕ) (mode : Last) → a.root ≡ b.root → is_absolute text ≡ true →
    resolution_of_text t a ending text mode ≡ resolution_of_text t b ending text mode
named_alike t a b ending text mode same e = by (path_fault text) refl
  where
    by : (o : Option Errno) → path_fault text ≡ o → resolution_of_text t a ending text mode ≡ resolution_of_text t b ending text mode
    by None is = rw is (ap (λ r. resolution t (record { root = r; dir = a.dir }) ending text mode) same
        ∙ from_root_alike t b.root a.dir b.dir ending text mode e)
    by (Some errno) is = rw is refl

pub allows_no_more : (table : CallTable) → NoCallNeedsError table → (before after : ProcessState) → IsWithin before after →
    AllowsNoMore table before after
allows_no_more table sound before after within = record {
  absolute = λ root t call text e allowed. verdicts_within before after within table sound t call (object_named t before call text)
      (subst (λ r. is_allowed (verdict_of t table after call r) ≡ true) (named_alike t (start after) (start before)
      (ending_of call) text (last_of call) root e) allowed);
  relative = λ root dir t call text allowed. verdicts_within before after within table sound t call (object_named t before call text)
      (subst (λ (s : Start). is_allowed (verdict_of t table after call (resolution_of_text t s (ending_of call) text (last_of call))) ≡ true)
      (λ i. record { root = root i; dir = dir i }) allowed);
}
