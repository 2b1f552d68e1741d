-- What a table grants, also where a promise opens it, passes the checks of the table by which lists for ever go; and that allows no less.
use Rattle.pua_script.proofs.Common.{◌≡◌, ℕ, List, [], ◌∷◌, ◌++◌, Bool, true, false, not, cond, refl, sym, ap, subst, ◌∙◌, ◌&&◌, ◌||◌}
use Rattle.pua_script.proofs.Common.{inl, inr, ◌⊎◌, Option, Some, None, Result, Ok, Err, list_any, list_all, and_from, and_parts}
use Rattle.pua_script.proofs.Common.{not-true, false≢true, eqb-true, lit<, arith, ◌+◌, Tree, Found, Errno, holds, CallTable, rule_of, Call}
use Rattle.pua_script.proofs.Common.{ProcessState, held_set, has_error, is_ended, may_any, May, Yes, cover, cover_fault, object_fault, object_of}
use Rattle.pua_script.proofs.Common.{or_fault, Change, NoChange, Action, OnPath, Symlink, Rename, Link, Unveil, Fork, ◌==◌}
use Rattle.std.proofs.Common.{◌^◌, eq-eqb}
use Rattle.std.proofs.lemmas.Bool.{or_right}
use Rattle.std.proofs.lemmas.Nat.{and_comm, and-not}
use Rattle.std.specs.Prelude.{find, unwrap_or, bit_and, ◌-◌}
use Rattle.pua_calls.specs.Promises.{all_promises, error, no_promises, promises_of, tmppath}
use Rattle.pua_calls.specs.Tables.{NamesNoError}
use Rattle.pua_calls.specs.Calls.{about_rules, call_number, effect_of}
use Rattle.pua_calls.specs.TmpTable.{is_tmp_call, tmp_table, tmppath_suffices, with_tmppath}
use Rattle.pua_calls.specs.declared.effect.Effect.{Effect}
use Rattle.pua_calls.specs.declared.effect.Effect.TheVariants as effect
use Rattle.pua_calls.specs.declared.call.Call.TheVariants as call
use Rattle.pua_calls.proofs.ForCallers.{same_bit, tmp_rule_is}
use Rattle.pua_policy.specs.States.{pledged_set}
use Rattle.pua_policy.specs.Verdict.{allowed_unless, found_fault, if_promised, is_allowed}
use Rattle.pua_policy.specs.declared.answer.May.TheVariants.{Enosys, Death}
use Rattle.pua_policy.specs.declared.answer.Verdict.{Verdict}
use Rattle.pua_policy.specs.declared.answer.Verdict.TheVariants as verdicts
use Rattle.pua_policy.proofs.ForCallers.{holds_through}
use Rattle.pua_script.specs.Decide.{asker_of, change_by, change_in, cover_past, Sole}
use Rattle.pua_script.specs.Guards.{IsDecided, IsGranted, IsOpened, OnOne}
use Rattle.pua_script.specs.OpeningLaws.{TmpTableAllows}
use Rattle.pua_script.specs.Openings.{Opening, has_call, holds_named, is_opened, is_opening, opening_of, openings, opens_call}
use Rattle.pua_script.specs.declared.request.Action.TheVariants.{Pledge, Lock, Exit, Uses, Hold, Close, Fchdir, Chroot, Take, Comment}

-- ---- who holds what one holds

-- who holds what the other holds has a set that the other has
any_within : (a b : ℕ) → holds b a ≡ true → (sets : List ℕ) → list_any (holds a) sets ≡ true → list_any (holds b) sets ≡ true
any_within a b more [] e = e
any_within a b more (set ∷ sets) e = by (holds a set) refl (any_within a b more sets) e
  where
    by : (x : Bool) → holds a set ≡ x → (list_any (holds a) sets ≡ true → list_any (holds b) sets ≡ true) →
        (x || list_any (holds a) sets) ≡ true → (holds b set || list_any (holds b) sets) ≡ true
    by true is rest e = ap (λ x. x || list_any (holds b) sets) (holds_through b a set more is)
    by false is rest e = or_right (holds b set) (list_any (holds b) sets) (rest e)

module _ (a : ℕ) where
  any_front : (sets others : List ℕ) → list_any (holds a) sets ≡ true → list_any (holds a) (sets ++ others) ≡ true
  any_front [] others e = absurd (false≢true e)
  any_front (set ∷ sets) others e = by (holds a set) (any_front sets others) e
    where
      by : (x : Bool) → (list_any (holds a) sets ≡ true → list_any (holds a) (sets ++ others) ≡ true) →
          (x || list_any (holds a) sets) ≡ true → (x || list_any (holds a) (sets ++ others)) ≡ true
      by true rest e = refl
      by false rest e = rest e

  any_last : (sets : List ℕ) → holds a tmppath ≡ true → list_any (holds a) (sets ++ tmppath ∷ []) ≡ true
  any_last [] has = ap (λ x. x || false) has
  any_last (set ∷ sets) has = or_right (holds a set) (list_any (holds a) (sets ++ tmppath ∷ [])) (any_last sets has)

  -- who has one of some sets has one of them and of one more
  any_more : (more : Bool) (sets : List ℕ) → list_any (holds a) sets ≡ true →
      list_any (holds a) (cond more (with_tmppath sets) sets) ≡ true
  any_more false sets e = e
  any_more true sets e = by (tmppath_suffices sets)
    where
      by : (enough : Bool) → list_any (holds a) (cond enough sets (sets ++ tmppath ∷ [])) ≡ true
      by true = e
      by false = any_front sets (tmppath ∷ []) e

  -- and so has who holds tmppath
  any_tmp : (sets : List ℕ) → holds a tmppath ≡ true → list_any (holds a) (with_tmppath sets) ≡ true
  any_tmp sets has = by (tmppath_suffices sets) refl
    where
      by : (enough : Bool) → tmppath_suffices sets ≡ enough → list_any (holds a) (cond enough sets (sets ++ tmppath ∷ [])) ≡ true
      by true is = any_within tmppath a has sets is
      by false is = any_last sets has

-- ---- what may be called by the table with one more set

may_from : (h : ProcessState) (sets : List ℕ) → is_ended h ≡ false → list_any (holds (held_set h)) sets ≡ true → may_any h sets ≡ Yes
may_from h sets lives some = λ i. cond (lives i) Death (cond (some i) Yes (cond (has_error h) Enosys Death))

may_parts : (h : ProcessState) (sets : List ℕ) → may_any h sets ≡ Yes → (is_ended h ≡ false) × (list_any (holds (held_set h)) sets ≡ true)
may_parts h sets e = by (is_ended h) (list_any (holds (held_set h)) sets) (has_error h) e
  where
    by : (a b c : Bool) → cond a Death (cond b Yes (cond c Enosys Death)) ≡ Yes → (a ≡ false) × (b ≡ true)
    by true b c e = cc
    by false true c e = (refl, refl)
    by false false true e = cc
    by false false false e = cc

module _ (table : CallTable) where
  abbrev wide : CallTable
  wide = tmp_table table

  pub tmp_perms : (c : Call) → (rule_of (tmp_table table) c).perms ≡ (rule_of table c).perms
  tmp_perms c = ap (λ r. r.perms) (tmp_rule_is table c)

  pub tmp_may : (h : ProcessState) (c : Call) → may_any h (rule_of table c).alternatives ≡ Yes →
      may_any h (rule_of (tmp_table table) c).alternatives ≡ Yes
  tmp_may h c may =
      let parts = may_parts h (rule_of table c).alternatives may in
      may_from h (rule_of wide c).alternatives parts.0
      (subst (λ r. list_any (holds (held_set h)) r.alternatives ≡ true) (sym (tmp_rule_is table c))
      (any_more (held_set h) (is_tmp_call c && (about_rules table.whose).has_openings) (rule_of table c).alternatives parts.1))

  tmp_may_by_tmppath : (h : ProcessState) (c : Call) → is_tmp_call c ≡ true → (about_rules table.whose).has_openings ≡ true → is_ended h ≡ false →
      holds (held_set h) tmppath ≡ true → may_any h (rule_of (tmp_table table) c).alternatives ≡ Yes
  tmp_may_by_tmppath h c opens kernel lives has =
      let sets = (rule_of table c).alternatives in
      may_from h (rule_of wide c).alternatives lives
      (subst (λ r. list_any (holds (held_set h)) r.alternatives ≡ true) (sym (tmp_rule_is table c))
      (ap (λ more. list_any (holds (held_set h)) (cond more (with_tmppath sets) sets)) (and_from (is_tmp_call c) _ opens kernel)
      ∙ any_tmp (held_set h) sets has))

  pub tmp_one : (t : Tree) (h : ProcessState) (c : Call) (path : List ℕ) (x : Found) → OnOne table t h c path x → OnOne (tmp_table table) t h c path x
  tmp_one t h c path x on = record {
    promised = tmp_may h c on.promised;
    found = on.found;
    covered = ap (cover_fault (cover t h x)) (tmp_perms c) ∙ on.covered;
    fitting = on.fitting;
  }

  -- both change the same
  tmp_change : (does : Effect) (x : Found) → change_in table does x ≡ change_in (tmp_table table) does x
  tmp_change effect.Looks x = refl
  tmp_change (effect.Makes made) x = refl
  tmp_change effect.Removes x = refl
  tmp_change effect.Enters x = refl
  tmp_change effect.Starts x = refl

allowed_if : (m n : May) (v : Verdict) → (m ≡ Yes → n ≡ Yes) → is_allowed (if_promised m v) ≡ true → is_allowed (if_promised n v) ≡ true
allowed_if Yes n v more e = ap (λ m. is_allowed (if_promised m v)) (more refl) ∙ e
allowed_if Enosys n v more e = cc
allowed_if Death n v more e = cc

pub tmp_table_allows : TmpTableAllows
tmp_table_allows table t h c (Ok x) e =
    let m = may_any h (rule_of table c).alternatives in
    let n = may_any h (rule_of (tmp_table table) c).alternatives in
    allowed_if m n (allowed_unless (found_fault t (tmp_table table) h c x)) (tmp_may table h c)
    (ap (λ perms. is_allowed (if_promised m (allowed_unless
    (or_fault (cover_fault (cover t h x) perms) (object_fault table.whose t c (object_of t x)))))) (tmp_perms table c) ∙ e)
tmp_table_allows table t h c (Err errno) e =
    allowed_if (may_any h (rule_of table c).alternatives) (may_any h (rule_of (tmp_table table) c).alternatives) (verdicts.Failed errno)
    (tmp_may table h c) e

-- ---- what the rows of openings are

abbrev looks_by : Effect → Bool
looks_by effect.Looks = true
looks_by _ = false

abbrev only_looks : Call → Bool
only_looks c = looks_by (effect_of c)

abbrev names_tmppath : Result ℕ Errno → Bool
names_tmppath (Ok set) = holds set tmppath
names_tmppath (Err errno) = false

-- calls that change nothing, or by the veils those that tmppath opens
abbrev is_fine : Opening → Bool
is_fine o = list_all only_looks o.calls || (o.asks_veils && (list_all is_tmp_call o.calls && names_tmppath (promises_of o.promise)))

all_fine : list_all is_fine openings ≡ true
all_fine = refl

found_so : {A : Type 0} (test fine : A → Bool) (rows : List A) (x : A) → list_all fine rows ≡ true → find test rows ≡ Some x →
    (test x ≡ true) × (fine x ≡ true)
found_so test fine [] x all e = cc
found_so test fine (row ∷ rows) x all e =
    let parts = and_parts (fine row) (list_all fine rows) all in
    by (test row) refl parts.0 (found_so test fine rows x parts.1) e
  where
    by : (b : Bool) → test row ≡ b → fine row ≡ true → (find test rows ≡ Some x → (test x ≡ true) × (fine x ≡ true)) →
        cond b (Some row) (find test rows) ≡ Some x → (test x ≡ true) × (fine x ≡ true)
    by true is own rest e = let same : row ≡ x = cc in subst (λ r. (test r ≡ true) × (fine r ≡ true)) same (is, own)
    by false is own rest e = rest e

-- a call of a row is as all of them are
called : (p : Call → Bool) (c : Call) (calls : List Call) → list_all p calls ≡ true → has_call c calls ≡ true → p c ≡ true
called p c [] all e = absurd (false≢true e)
called p c (other ∷ others) all e =
    let parts = and_parts (p other) (list_all p others) all in
    by (call_number other == call_number c) refl parts.0 (called p c others parts.1) e
  where
    by : (b : Bool) → (call_number other == call_number c) ≡ b → p other ≡ true → (has_call c others ≡ true → p c ≡ true) →
        (b || has_call c others) ≡ true → p c ≡ true
    by true is own rest e =
        let same : other ≡ c = same_bit other c (ap (λ n. n - 1) (eqb-true (call_number other) (call_number c) is)) in
        subst (λ one. p one ≡ true) same own
    by false is own rest e = rest e

looks_in : (table : CallTable) (does : Effect) → looks_by does ≡ true → (x : Found) → change_in table does x ≡ NoChange
looks_in table effect.Looks looks x = refl
looks_in table (effect.Makes made) looks x = cc
looks_in table effect.Removes looks x = cc
looks_in table effect.Enters looks x = cc
looks_in table effect.Starts looks x = cc

-- what was pledged is held, and nothing is by what never was
pub pledged_holds : (given : Option ℕ) (set : ℕ) → NamesNoError set → holds (unwrap_or given no_promises) set ≡ true →
    holds (unwrap_or given (all_promises - error)) set ≡ true
pledged_holds (Some given) set sound e = e
pledged_holds None set sound e =
    let parts : bit_and (2 ^ 36 - 1 - error) set + bit_and error set ≡ set = and-not 36 error set (lit< tt) sound.0 in
    let apart : bit_and error set ≡ 0 = and_comm error set ∙ sound.1 in
    eq-eqb _ _ (omega arith)

named_held : (given : ℕ) (wanted : Result ℕ Errno) → holds_named given wanted ≡ true → names_tmppath wanted ≡ true → holds given tmppath ≡ true
named_held given (Ok set) held names = holds_through given set tmppath held names
named_held given (Err errno) held names = absurd (false≢true held)

-- ---- what is opened

-- a living process has it, by rules that have openings
pub opened_found : (kernel living : Bool) (found : Option Opening) (o : Opening) → cond (kernel && living) found None ≡ Some o →
    (kernel ≡ true) × (living ≡ true) × (found ≡ Some o)
opened_found true true found o is = (refl, refl, is)
opened_found true false found o is = cc
opened_found false living found o is = cc

module _ (table : CallTable) (h : ProcessState) (c : Call) (path : List ℕ) (o : Opening) (is : opening_of table h c path ≡ Some o) where
  abbrev given : ℕ
  given = unwrap_or (pledged_set h) no_promises

  gate : ((about_rules table.whose).has_openings ≡ true) × (not (is_ended h) ≡ true) × (find (is_opening given c path) openings ≡ Some o)
  gate = opened_found (about_rules table.whose).has_openings (not (is_ended h)) (find (is_opening given c path) openings) o is

  row : (is_opening given c path o ≡ true) × (is_fine o ≡ true)
  row = found_so (is_opening given c path) is_fine openings o all_fine gate.2

  opens : (opens_call c path o ≡ true) × (holds_named given (promises_of o.promise) ≡ true)
  opens = and_parts (opens_call c path o) (holds_named given (promises_of o.promise)) row.0

  has : has_call c o.calls ≡ true
  has = (and_parts (has_call c o.calls) (is_opened o.path path) opens.0).0

  -- the call looks, or the veils are asked and the process holds tmppath, which opens it
  either : (only_looks c ≡ true) ⊎ ((o.asks_veils ≡ true) × (is_tmp_call c ≡ true) × (holds (held_set h) tmppath ≡ true))
  either = by (list_all only_looks o.calls) refl row.1
    where
      by : (b : Bool) → list_all only_looks o.calls ≡ b →
          (b || (o.asks_veils && (list_all is_tmp_call o.calls && names_tmppath (promises_of o.promise)))) ≡ true →
          (only_looks c ≡ true) ⊎ ((o.asks_veils ≡ true) × (is_tmp_call c ≡ true) × (holds (held_set h) tmppath ≡ true))
      by true looks e = inl (called only_looks c o.calls looks has)
      by false none e =
          let asks = and_parts o.asks_veils (list_all is_tmp_call o.calls && names_tmppath (promises_of o.promise)) e in
          let more = and_parts (list_all is_tmp_call o.calls) (names_tmppath (promises_of o.promise)) asks.1 in
          inr (
            asks.0,
            called is_tmp_call c o.calls more.0 has,
            pledged_holds (pledged_set h) tmppath (lit< tt, refl) (named_held given (promises_of o.promise) opens.1 more.1),
          )

  -- past the veils nothing changes
  pub opened_past : o.asks_veils ≡ false → (x : Found) → change_by table c x ≡ NoChange
  opened_past past x = elim either [
    | inl looks ↦ looks_in table (effect_of c) looks x
    | inr asks ↦ absurd (false≢true (sym past ∙ asks.0))
  ]

  -- no exec is opened, and no directory is entered
  pub opened_no_exec : c ≡ call.Exec → ⊥
  opened_no_exec exec = elim either [
    | inl looks ↦ absurd (false≢true (ap only_looks (sym exec) ∙ looks))
    | inr asks ↦ absurd (false≢true (ap is_tmp_call (sym exec) ∙ asks.1))
  ]

past_true : (t : Tree) (h : ProcessState) (x : Found) (perms : ℕ) (asks : Bool) → asks ≡ true →
    cover_past asks (asker_of h).cover Sole t x perms ≡ None → cover_fault (cover t h x) perms ≡ None
past_true t h x perms true is e = e
past_true t h x perms false is e = absurd (false≢true is)

-- what is opened changes nothing, or passes the checks of the table with one more set
pub opened_either : (table : CallTable) (t : Tree) (h : ProcessState) (c : Call) (path : List ℕ) (x : Found) → IsOpened table t h c path x →
    ((y : Found) → change_by table c y ≡ NoChange) ⊎ OnOne (tmp_table table) t h c path x
opened_either table t h c path x on = elim (either table h c path on.opening on.opened) [
  | inl looks ↦ inl (looks_in table (effect_of c) looks)
  | inr asks ↦
      let gate = gate table h c path on.opening on.opened in
      inr (record {
        promised = tmp_may_by_tmppath table h c asks.1 gate.0 (not-true (is_ended h) gate.1) asks.2;
        found = on.found;
        covered = ap (cover_fault (cover t h x)) (tmp_perms table c) ∙
            past_true t h x (rule_of table c).perms on.opening.asks_veils asks.0 on.covered;
        fitting = on.fitting;
      })
]

pub changes_granted : (table : CallTable) (t : Tree) (h : ProcessState) (action : Action) (c : Change) → IsDecided table t h action c →
    IsGranted (tmp_table table) t h action c
changes_granted table t h (OnPath asked path) c d = by d.1
  where
    checked : OnOne (tmp_table table) t h asked path d.0 → IsGranted (tmp_table table) t h (OnPath asked path) c
    checked on = inl (d.0, on, d.2 ∙ tmp_change table (effect_of asked) d.0)

    by : OnOne table t h asked path d.0 ⊎ IsOpened table t h asked path d.0 → IsGranted (tmp_table table) t h (OnPath asked path) c
    by (inl on) = checked (tmp_one table t h asked path d.0 on)
    by (inr on) = elim (opened_either table t h asked path d.0 on) [ inl looks ↦ inr (d.2 ∙ looks d.0) | inr one ↦ checked one ]
changes_granted table t h (Symlink target path) c d = (d.0, tmp_one table t h call.Symlink path d.0 d.1, d.2, d.3)
changes_granted table t h (Rename old new) c d = d
changes_granted table t h (Link old new) c d = d
changes_granted table t h (Pledge promises execpromises) c d = d
changes_granted table t h (Unveil path perms) c d = d
changes_granted table t h Lock c d = d
changes_granted table t h (Fork new) c d = d
changes_granted table t h Exit c d = d
changes_granted table t h (Uses sets) c d = d
changes_granted table t h (Hold number asked path) c d = (d.0, d.2)
changes_granted table t h (Close number) c d = d
changes_granted table t h (Fchdir number) c d = d
changes_granted table t h (Chroot path) c d =
    record { object = d.object; promised = d.promised; found = d.found; covered = ap (cover_fault (cover t h d.object)) (tmp_perms table call.Chdir) ∙ d.covered; fitting = d.fitting; is = d.is }
changes_granted table t h (Take number from theirs) c d = d
changes_granted table t h Comment c d = d
