-- Of three worlds, of which the middle one lacks of the last only what the first lacks too: it answers as the outer two, where these answer alike,
-- as far as what is asked for rests on one set of promises.
use Rattle.std.proofs.Common.{◌≡◌, ◌≤◌, ℕ, List, [], ◌∷◌, refl, sym, ap, ◌∙◌, Bool, true, false, cond, ◌||◌, ◌&&◌, length}
use Rattle.std.proofs.lemmas.Bool.{true≢false, false≢true, and_parts, and_from}
use Rattle.std.specs.Prelude.{Option, Some, None, Ok, nat_le, IsTrue}
use Rattle.pua_tree.specs.Tree.{Tree}
use Rattle.pua_path.specs.Paths.{path_fault}
use Rattle.pua_path.specs.Fits.{node_named}
use Rattle.pua_path.specs.declared.errno.Errno.{Errno}
use Rattle.pua_path.specs.declared.errno.Errno.TheVariants.{EPERM, EACCES, ENOENT, EINVAL}
use Rattle.pua_path.specs.declared.found.Found.{Found}
use Rattle.pua_path.specs.declared.found.Last.TheVariants.{Followed}
use Rattle.pua_path.specs.declared.text.Ending.TheVariants as ending
use Rattle.pua_calls.specs.Calls.{CallTable, rule_of}
use Rattle.pua_calls.specs.Promises.{holds, proc, recvfd, unveil, error, id}
use Rattle.pua_calls.specs.declared.call.Call.{Call}
use Rattle.pua_calls.specs.declared.call.Call.TheVariants as call
use Rattle.std.specs.List.{list_any}
use Rattle.pua_policy.specs.States.{ProcessState, Unveiled, Pledged, Locked, Ended, may_any, place_fault, has_error}
use Rattle.pua_policy.specs.States.{error_frees_exec, pledge_fault, is_within, unveil_fault, veil_at, most_places, held_set}
use Rattle.pua_policy.specs.Verdict.{place_of, refusal_of, cover_fault}
use Rattle.pua_policy.specs.declared.place.Place.{Place}
use Rattle.pua_policy.specs.declared.answer.May.TheVariants as may
use Rattle.pua_policy.specs.declared.answer.Cover.{Cover}
use Rattle.pua_policy.specs.declared.answer.Refusal.{Refusal}
use Rattle.pua_policy.specs.declared.answer.UnveilFault.TheVariants.{NotPermitted, TooManyPlaces}
use Rattle.pua_script.specs.Decide.{NoChange, Change, AddEvent, CopyAs, TakeFile, Decision, refusals, asker_of, decide, object_by}
use Rattle.pua_script.specs.Decide.{objects_by, rename_by, asks_directory, link_by, veil_by, unless_refused, change_by, adding, holding, close_by, fchdir_by}
use Rattle.pua_script.specs.Decide.{link_node, fault_if, is_unknown, given_set, unveil_errno, asker_past, past_promises, rooting}
use Rattle.pua_script.specs.Openings.{Opening, opening_of}
use Rattle.pua_script.specs.declared.request.Given.{Given}
use Rattle.pua_script.specs.declared.request.Action.{Action}
use Rattle.pua_script.specs.declared.request.Action.TheVariants.{OnPath, Symlink, Rename, Link, Pledge, Unveil, Lock, Fork, Exit, Uses, Comment}
use Rattle.pua_script.specs.declared.request.Action.TheVariants.{Hold, Close, Fchdir, Take, Chroot}
use Rattle.pua_tight.specs.Narrower.{StateWithin}
use Rattle.pua_policy.proofs.ForCallers.{holds_through}
use Rattle.pua_tight.proofs.Within.{held_within, as_many}
use Rattle.pua_tight.proofs.Decided.{easier, free}
use Rattle.pua_tight.proofs.Openers.{opened_alike}
use Rattle.pua_tight.proofs.RareRefusals.{rare, checked_plain, path_plain, locked_plain, object_plain, objects_plain}
use Rattle.pua_tight.proofs.RareRefusals.{rename_plain, link_plain, veiling_plain}
use Rattle.std.proofs.Common.{inl, inr, ◌⊎◌, arith}
use Rattle.pua_tight.specs.Narrower.{GivenWithin, given_none, given_unknown, given_less, ActionWithin, as_given, less_pledged, less_unveiled}
use Rattle.pua_tight.specs.Laws.{HasOneSet, RestsOnOne, opener_of}
use Rattle.pua_tight.proofs.Sets.{three_bools, holds_self}
use Rattle.pua_tight.proofs.Tightened.{given_self}
use Rattle.pua_tight.proofs.MiddleDecision.{Agree, agree_by, Misses, Refused, refused, refused_is, some_is, none_some, check, last_check, same_check}
use Rattle.pua_tight.proofs.MiddleDecision.{misses_by}
use Rattle.pua_tight.proofs.MiddleWorldDecides.{valued_by, value, value_is, value_rare}
use Rattle.pua_tight.proofs.Covered.{Covered, at_path, named_agrees, object_agrees, pair_agrees}
use Rattle.pua_tight.proofs.ThreeProcesses.{SetThree, LettersThree, three_unset, three_some, StateThree, CoverThree, three_all, three_nothing, three_only}
use Rattle.pua_tight.proofs.ThreeProcesses.{held_three, error_outer, kept_three, cover_three, has_both, same_truth}
use Rattle.pua_path.specs.Resolution.{from_top}

cover_misses : {c d e : Cover} → CoverThree c d e → (perms : ℕ) → Misses (cover_fault c perms) (cover_fault d perms) (cover_fault e perms)
cover_misses three_all perms v is = inl is
cover_misses three_nothing perms v is = inl is
cover_misses (three_only {a = a} {b = b} {c = c} has) perms v is =
    misses_by (λ x. cond x None (Some EACCES)) refl (holds a perms) (holds b perms) (holds c perms) (has_both a b c perms has) v is

cover_outer : {c d e : Cover} → CoverThree c d e → (perms : ℕ) (u : Errno) → cover_fault c perms ≡ Some u → cover_fault e perms ≡ None → u ≡ EACCES
cover_outer three_all perms u e f = none_some u (sym e)
cover_outer three_nothing perms u e f = none_some ENOENT f
cover_outer (three_only {a = a} has) perms u e f = by (holds a perms) e
  where
    by : (x : Bool) → cond x None (Some EACCES) ≡ Some u → u ≡ EACCES
    by true e = none_some u (sym e)
    by false e = sym (some_is EACCES u e)

within_three : {p q : Given} → GivenWithin p q → {kept : ℕ} {a b c : Option ℕ} → SetThree kept a b c → is_within (given_set p) c ≡ true →
    is_within (given_set q) a ≡ true → is_within (given_set p) b ≡ true
within_three given_none s e f = refl
within_three given_unknown s e f = refl
within_three (given_less less) three_unset e f = refl
within_three (given_less {a = x} {b = y} less) (three_some {a = a} {b = b} {c = c} has same) e f =
    has_both a b c x has e (holds_through a y x f less)

unknown_same : {p q : Given} → GivenWithin p q → is_unknown q ≡ is_unknown p
unknown_same given_none = refl
unknown_same given_unknown = refl
unknown_same (given_less less) = refl

passed : (h : ProcessState) (alt : ℕ) → h.ended ≡ false → holds (held_set h) alt ≡ true → refusal_of (may_any h (alt ∷ [])) ≡ None
passed h alt lives e = ap (λ x. refusal_of (cond x may.Death (cond (holds (held_set h) alt || false) may.Yes (cond (has_error h) may.Enosys may.Death)))) lives
    ∙ ap (λ b. refusal_of (cond (b || false) may.Yes (cond (has_error h) may.Enosys may.Death))) e

lacked : (h : ProcessState) (alt : ℕ) → holds (held_set h) alt ≡ false → refusal_of (may_any h (alt ∷ [])) ≡ Some (value h)
lacked h alt e = ap (λ b. refusal_of (cond h.ended may.Death (cond (b || false) may.Yes (cond (has_error h) may.Enosys may.Death)))) e
    ∙ by h.ended (has_error h)
  where
    by : (x y : Bool) → refusal_of (cond x may.Death (cond y may.Enosys may.Death)) ≡ Some (valued_by x y)
    by true y = refl
    by false true = refl
    by false false = refl

-- and no set at all allows nothing
none_allows : (h : ProcessState) → refusal_of (may_any h []) ≡ Some (value h)
none_allows h = by h.ended (has_error h)
  where
    by : (x y : Bool) → refusal_of (cond x may.Death (cond y may.Enosys may.Death)) ≡ Some (valued_by x y)
    by true y = refl
    by false true = refl
    by false false = refl

over : (h : ProcessState) (sets : List ℕ) → h.ended ≡ true → refusal_of (may_any h sets) ≡ Some (value h)
over h sets e = ap (λ x. refusal_of (cond x may.Death (cond (list_any (holds (held_set h)) sets) may.Yes (cond (has_error h) may.Enosys may.Death)))) e
    ∙ ap (λ x. Some (valued_by x (has_error h))) (sym e)

-- what is asked for rests on one set of promises, and all promises that open it by themselves are among these
abbrev pub Rests : ℕ → CallTable → Action → Type 0
Rests kept table action = RestsOnOne table action × IsTrue (holds kept (opener_of table action))

module _ (kept : ℕ) (table : CallTable) (t : Tree) (l m s : ProcessState) (w : StateThree kept l m s) (later : StateWithin m s) where
  abbrev lacks : ProcessState → List ℕ → Option Refusal
  lacks x sets = refusal_of (may_any x sets)

  error_inner : has_error m ≡ has_error s
  error_inner = same_truth _ _ (λ e. holds_through (held_set s) (held_set m) error (held_within later) e)
      (λ e. has_both (held_set l) (held_set m) (held_set s) error (held_three w) e (error_outer w ∙ e))

  value_inner : value m ≡ value s
  value_inner = ap (λ b. valued_by b (has_error m)) later.ended ∙ ap (valued_by s.ended) error_inner

  value_outer : value l ≡ value s
  value_outer = ap (λ b. valued_by b (has_error l)) (w.ended ∙ later.ended) ∙ ap (valued_by s.ended) (error_outer w)

  set_misses : (alt : ℕ) (v : Refusal) → lacks m (alt ∷ []) ≡ Some v → (lacks s (alt ∷ []) ≡ Some v) ⊎ (lacks l (alt ∷ []) ≡ Some v)
  set_misses alt v is =
      let at : v ≡ value s = value_is m (alt ∷ []) v is ∙ value_inner in
      by s.ended refl (holds (held_set m) alt) (holds (held_set s) alt) (holds (held_set l) alt) refl refl refl at
    where
      by : (x : Bool) → s.ended ≡ x → (a b c : Bool) → holds (held_set m) alt ≡ a → holds (held_set s) alt ≡ b → holds (held_set l) alt ≡ c →
          v ≡ value s → (lacks s (alt ∷ []) ≡ Some v) ⊎ (lacks l (alt ∷ []) ≡ Some v)
      by true e a b c p q r at = inl (over s (alt ∷ []) e ∙ ap (λ z. Some z) (sym at))
      by false e true b c p q r at = none_some v (sym is ∙ passed m alt (later.ended ∙ e) p)
      by false e false false c p q r at = inl (lacked s alt q ∙ ap (λ z. Some z) (sym at))
      by false e false true false p q r at = inr (lacked l alt r ∙ ap (λ z. Some z) (value_outer ∙ sym at))
      by false e false true true p q r at =
          absurd (false≢true (sym p ∙ has_both (held_set l) (held_set m) (held_set s) alt (held_three w) q r))

  sets_miss : (sets : List ℕ) → length sets ≤ 1 → (v : Refusal) → lacks m sets ≡ Some v → (lacks s sets ≡ Some v) ⊎ (lacks l sets ≡ Some v)
  sets_miss [] e v is = inl (none_allows s ∙ ap (λ z. Some z) (sym (value_is m [] v is ∙ value_inner)))
  sets_miss (alt ∷ []) e v is = set_misses alt v is
  sets_miss (alt ∷ other ∷ sets) e v is = let no : ⊥ = omega (arith, e) in absurd no

  -- promises, behind which the last one isn't refused for want of promises without the middle one
  promises : (sets : List ℕ) → length sets ≤ 1 → (f g h : Decision) → Agree f g h → (refused h ≡ Some (value l) → g ≡ h) →
      Agree (unless_refused (lacks l sets) f) (unless_refused (lacks m sets) g) (unless_refused (lacks s sets) h)
  promises sets few f g h rest late e = by (lacks m sets) refl
    where
      at : (x : ProcessState) (o : Option Refusal) (d : Decision) → lacks x sets ≡ o → unless_refused (lacks x sets) d ≡ unless_refused o d
      at x o d is = ap (λ z. unless_refused z d) is

      inside : (o : Option Refusal) → lacks l sets ≡ o → refused (unless_refused o f) ≡ refused h → g ≡ h
      inside None is outer = rest outer
      inside (Some x) is outer = late (sym outer ∙ ap (λ z. Some z) (value_is l sets x is))

      by : (o : Option Refusal) → lacks m sets ≡ o → unless_refused (lacks m sets) g ≡ unless_refused (lacks s sets) h
      by None p =
          let q : lacks s sets ≡ None = (easier m s later).promises sets p in
          at m None g p ∙ inside (lacks l sets) refl (e ∙ ap refused (at s None h q)) ∙ sym (at s None h q)
      by (Some v) p = at m (Some v) g p ∙ missed (sets_miss sets few v p)
        where
          missed : (lacks s sets ≡ Some v) ⊎ (lacks l sets ≡ Some v) → Refused v ≡ unless_refused (lacks s sets) h
          missed (inl q) = sym (at s (Some v) h q)
          missed (inr q) = sym (refused_is (unless_refused (lacks s sets) h) v (sym e ∙ ap refused (at l (Some v) f q)))

  plain_late : (g h : Decision) → rare h ≡ false → refused h ≡ Some (value l) → g ≡ h
  plain_late g h plain e = absurd (true≢false (sym (value_rare l) ∙ ap rare (sym (refused_is h (value l) e)) ∙ plain))

  two_promises : (first second : List ℕ) → length first ≤ 1 → length second ≤ 1 → (f g h : Decision) → Agree f g h → rare h ≡ false →
      Agree (unless_refused (lacks l first) (unless_refused (lacks l second) f)) (unless_refused (lacks m first) (unless_refused (lacks m second) g))
      (unless_refused (lacks s first) (unless_refused (lacks s second) h))
  two_promises first second one_first one_second f g h rest plain =
      promises first one_first (unless_refused (lacks l second) f) (unless_refused (lacks m second) g) (unless_refused (lacks s second) h)
      (promises second one_second f g h rest (plain_late g h plain)) (late (lacks m second) (lacks s second) refl refl)
    where
      late : (b c : Option Refusal) → lacks m second ≡ b → lacks s second ≡ c → refused (unless_refused (lacks s second) h) ≡ Some (value l) →
          unless_refused (lacks m second) g ≡ unless_refused (lacks s second) h
      late b None p q e = plain_late _ (unless_refused (lacks s second) h) (ap (λ z. rare (unless_refused z h)) q ∙ plain) e
      late None (Some z) p q e = none_some z (sym q ∙ (easier m s later).promises second p)
      late (Some y) (Some z) p q e = ap (λ z. unless_refused z g) p
          ∙ ap Refused (value_is m second y p ∙ value_inner ∙ sym (value_is s second z q)) ∙ sym (ap (λ z. unless_refused z h) q)

  covered : Covered t l m s
  covered = record {
    first = w.start;
    later = later;
    misses = λ x. cover_misses (cover_three w.veils t x);
    outer = λ x. cover_outer (cover_three w.veils t x);
  }

  place_misses : (place : Place) (a b : ℕ) → holds b a ≡ true →
      Misses (unveil_errno (unveil_fault l place b)) (unveil_errno (unveil_fault m place a)) (unveil_errno (unveil_fault s place a))
  place_misses place a b less v = three_bools
      (λ x y z. unveil_errno (cond y (Some NotPermitted) (place_fault (veil_at m.veils place) (length m.veils) a)) ≡ Some v →
      (unveil_errno (cond z (Some NotPermitted) (place_fault (veil_at s.veils place) (length s.veils) a)) ≡ Some v)
      ⊎ (unveil_errno (cond x (Some NotPermitted) (place_fault (veil_at l.veils place) (length l.veils) b)) ≡ Some v))
      (λ e. inl e) (placed (kept_three w.veils place) (length l.veils) (length m.veils) (length s.veils) (as_many later.veils))
      l.locked m.locked s.locked w.locked later.locked
    where
      placed : {p q r : Option ℕ} → LettersThree p q r → (x y z : ℕ) → y ≡ z → unveil_errno (place_fault q y a) ≡ Some v →
          (unveil_errno (place_fault r z a) ≡ Some v) ⊎ (unveil_errno (place_fault p x b) ≡ Some v)
      placed three_unset x y z same e =
          inl (ap (λ n. unveil_errno (cond (nat_le most_places n) (Some TooManyPlaces) None)) (sym same) ∙ e)
      placed (three_some {a = i} {b = j} {c = k} has _) x y z many e =
          misses_by (λ x. unveil_errno (cond x None (Some NotPermitted))) refl (holds i b) (holds j a) (holds k a)
          (λ p q. has_both i j k a has p (holds_through i b a q less)) v e

  unveil_agrees : (path : List ℕ) (a b : ℕ) → holds b a ≡ true →
      Agree (decide table t l (Unveil path (Some b))) (decide table t m (Unveil path (Some a))) (decide table t s (Unveil path (Some a)))
  unveil_agrees path a b less = promises (unveil ∷ []) (omega arith) (at l b) (at m a) (at s a)
      (same_check (fault_if l.locked EPERM) (fault_if m.locked EPERM) (fault_if s.locked EPERM)
      (ap (λ x. fault_if x EPERM) w.locked) (ap (λ x. fault_if x EPERM) later.locked)
      (veil_by refusals table.whose t (asker_of l) path (Some b)) (veil_by refusals table.whose t (asker_of m) path (Some a)) (veil_by refusals table.whose t (asker_of s) path (Some a))
      (at_path t l m s covered table.whose ending.Dot path Followed (veiled l b) (veiled m a) (veiled s a)
      (λ x. last_check (unveil_errno (unveil_fault l (place_of x) b)) (unveil_errno (unveil_fault m (place_of x) a))
      (unveil_errno (unveil_fault s (place_of x) a)) (place_misses (place_of x) a b less) ((easier m s later).place (place_of x) a)
      (Ok (AddEvent (Unveiled (place_of x) b))) (Ok (AddEvent (Unveiled (place_of x) a))))))
      (plain_late (at m a) (at s a) (checked_plain (fault_if s.locked EPERM) (veil_by refusals table.whose t (asker_of s) path (Some a))
      (locked_plain s.locked) (veiling_plain table.whose t s path (Some a))))
    where
      veiled : ProcessState → ℕ → Found → Decision
      veiled z n x = check (unveil_errno (unveil_fault z (place_of x) n)) (Ok (AddEvent (Unveiled (place_of x) n)))

      at : ProcessState → ℕ → Decision
      at z n = check (fault_if z.locked EPERM) (veil_by refusals table.whose t (asker_of z) path (Some n))

  unveil_unknown : (path : List ℕ) →
      Agree (decide table t l (Unveil path None)) (decide table t m (Unveil path None)) (decide table t s (Unveil path None))
  unveil_unknown path = promises (unveil ∷ []) (omega arith) (at l) (at m) (at s)
      (same_check (fault_if l.locked EPERM) (fault_if m.locked EPERM) (fault_if s.locked EPERM)
      (ap (λ x. fault_if x EPERM) w.locked) (ap (λ x. fault_if x EPERM) later.locked)
      (veil_by refusals table.whose t (asker_of l) path None) (veil_by refusals table.whose t (asker_of m) path None) (veil_by refusals table.whose t (asker_of s) path None)
      (λ e. refl))
      (plain_late (at m) (at s) (checked_plain (fault_if s.locked EPERM) (veil_by refusals table.whose t (asker_of s) path None)
      (locked_plain s.locked) (veiling_plain table.whose t s path None)))
    where
      at : ProcessState → Decision
      at z = check (fault_if z.locked EPERM) (veil_by refusals table.whose t (asker_of z) path None)

  pledge_agrees : {p q e f : Given} → GivenWithin p q → GivenWithin e f →
      Agree (decide table t l (Pledge q f)) (decide table t m (Pledge p e)) (decide table t s (Pledge p e))
  pledge_agrees {p = p} {q = q} {e = e} {f = f} first second =
      same_check (unknown q f) (unknown p e) (unknown p e)
      (ap (λ x. fault_if (x || is_unknown f) EINVAL) (unknown_same first) ∙ ap (λ x. fault_if (is_unknown p || x) EINVAL) (unknown_same second)) refl
      (at l q f) (at m p e) (at s p e)
      (last_check (pledge_fault table.whose l (given_set q) (given_set f)) (pledge_fault table.whose m (given_set p) (given_set e))
      (pledge_fault table.whose s (given_set p) (given_set e)) (misses_by (λ x. cond x None (Some EPERM)) refl (gives l q f) (gives m p e) (gives s p e) given_by_both)
      ((easier m s later).beyond table.whose (given_set p) (given_set e)) (Ok (AddEvent (Pledged (given_set q) (given_set f))))
      (Ok (AddEvent (Pledged (given_set p) (given_set e)))))
    where
      unknown : Given → Given → Option Errno
      unknown x y = fault_if (is_unknown x || is_unknown y) EINVAL

      gives : ProcessState → Given → Given → Bool
      gives z x y = (has_error z || is_within (given_set x) z.promises)
          && (error_frees_exec table.whose (has_error z) || is_within (given_set y) z.execpromises)

      at : ProcessState → Given → Given → Decision
      at z x y = check (pledge_fault table.whose z (given_set x) (given_set y)) (Ok (AddEvent (Pledged (given_set x) (given_set y))))

      or_false : (a b : Bool) → (a || b) ≡ true → a ≡ false → b ≡ true
      or_false true b e f = absurd (true≢false f)
      or_false false b e f = e

      -- one argument, which `error` may let ask for more
      half : (lets : Bool → Bool) (a b c : Bool) → (a ≡ true → c ≡ true → b ≡ true) → (lets (has_error s) || a) ≡ true →
          (lets (has_error l) || c) ≡ true → (lets (has_error m) || b) ≡ true
      half lets a b c both is it = by (lets (has_error m)) refl
        where
          by : (x : Bool) → lets (has_error m) ≡ x → (lets (has_error m) || b) ≡ true
          by true f = ap (λ x. x || b) f
          by false off = ap (λ x. x || b) off
              ∙ both (or_false (lets (has_error s)) a is (ap lets (sym error_inner) ∙ off))
              (or_false (lets (has_error l)) c it (ap lets (error_outer w ∙ sym error_inner) ∙ off))

      given_by_both : gives s p e ≡ true → gives l q f ≡ true → gives m p e ≡ true
      given_by_both is it =
          let a = and_parts (has_error s || is_within (given_set p) s.promises) _ is in
          let b = and_parts (has_error l || is_within (given_set q) l.promises) _ it in
          and_from (has_error m || is_within (given_set p) m.promises) _
          (half (λ x. x) (is_within (given_set p) s.promises) (is_within (given_set p) m.promises) (is_within (given_set q) l.promises)
          (within_three first w.promises) a.0 b.0)
          (half (error_frees_exec table.whose) (is_within (given_set e) s.execpromises) (is_within (given_set e) m.execpromises)
          (is_within (given_set f) l.execpromises) (within_three second w.execpromises) a.1 b.1)

  granted_agree : (c : Change) → Agree (Ok c) (Ok c) (Ok c)
  granted_agree c e = refl

  -- a call that one of them has opened by a promise all have
  module _ (call : Call) (path : List ℕ) (change : Found → Change) where
    abbrev decided : Option Opening → ProcessState → Decision
    decided o z = unless_refused ((asker_past o (asker_of z)).promises (rule_of table call).alternatives)
        (object_by refusals table t (asker_past o (asker_of z)) call path (λ x. Ok (change x)))

    abbrev at : ProcessState → Decision
    at z = object_by refusals table t (asker_of z) call path (λ x. Ok (change x))

    opened_agrees : (veils : Bool) → Agree (object_by refusals table t (past_promises veils (asker_of l)) call path (λ x. Ok (change x)))
        (object_by refusals table t (past_promises veils (asker_of m)) call path (λ x. Ok (change x)))
        (object_by refusals table t (past_promises veils (asker_of s)) call path (λ x. Ok (change x)))
    opened_agrees true = object_agrees t l m s covered table call path change
    opened_agrees false = named_agrees t l m s covered table call path change (λ x. None) (λ x. None) (λ x. None)
        (λ x v e. inl e) (λ x e. e)

    call_agrees : HasOneSet (rule_of table call) → (o : Option Opening) → Agree (decided o l) (decided o m) (decided o s)
    call_agrees one None = promises (rule_of table call).alternatives one (at l) (at m) (at s)
        (object_agrees t l m s covered table call path change) (plain_late (at m) (at s) (object_plain table t s call path change))
    call_agrees one (Some o) = opened_agrees o.asks_veils

  same_agrees : (action : Action) → Rests kept table action → Agree (decide table t l action) (decide table t m action) (decide table t s action)
  same_agrees (OnPath call path) one =
      let alike = opened_alike l m s w later table call path one.1 in
      agree_by (ap (λ o. decided call path (change_by table call) o l) alike.0) (ap (λ o. decided call path (change_by table call) o m) alike.1) refl
      (call_agrees call path (change_by table call) one.0 (opening_of table s call path))
  same_agrees (Hold number call path) one =
      let alike = opened_alike l m s w later table call path one.1 in
      agree_by (ap (λ o. decided call path (holding t number call) o l) alike.0) (ap (λ o. decided call path (holding t number call) o m) alike.1) refl
      (call_agrees call path (holding t number call) one.0 (opening_of table s call path))
  same_agrees (Symlink target path) one = promises (rule_of table call.Symlink).alternatives one.0 (linked l) (linked m) (linked s)
      (same_check (path_fault target) (path_fault target) (path_fault target) refl refl (at l) (at m) (at s)
      (object_agrees t l m s covered table call.Symlink path (adding (link_node target))))
      (plain_late (linked m) (linked s) (checked_plain (path_fault target) (at s) (path_plain target)
      (object_plain table t s call.Symlink path (adding (link_node target)))))
    where
      at : ProcessState → Decision
      at z = object_by refusals table t (asker_of z) call.Symlink path (λ x. Ok (adding (link_node target) x))

      linked : ProcessState → Decision
      linked z = check (path_fault target) (at z)
  same_agrees (Rename old new) one = two_promises table.rename.old.needs.alternatives table.rename.new.needs.alternatives one.0.0 one.0.1
      (at l) (at m) (at s) (pair_agrees t l m s covered table.whose table.rename ending.Dropped old new (λ x y. rename_by refusals t (asks_directory table.whose old new) x y (node_named x)))
      (objects_plain table.whose table.rename t s ending.Dropped old new (λ x y. rename_by refusals t (asks_directory table.whose old new) x y (node_named x))
      (λ x y. rename_plain t (asks_directory table.whose old new) x y (node_named x)))
    where
      at : ProcessState → Decision
      at z = objects_by refusals table.whose table.rename t (asker_of z) ending.Dropped old new (λ x y. rename_by refusals t (asks_directory table.whose old new) x y (node_named x))
  same_agrees (Link old new) one = two_promises table.link.old.needs.alternatives table.link.new.needs.alternatives one.0.0 one.0.1
      (at l) (at m) (at s) (pair_agrees t l m s covered table.whose table.link ending.Dot old new (λ x y. link_by refusals t x y (node_named x)))
      (objects_plain table.whose table.link t s ending.Dot old new (λ x y. link_by refusals t x y (node_named x)) (λ x y. link_plain t x y (node_named x)))
    where
      at : ProcessState → Decision
      at z = objects_by refusals table.whose table.link t (asker_of z) ending.Dot old new (λ x y. link_by refusals t x y (node_named x))
  same_agrees (Pledge p e) one = pledge_agrees (given_self p) (given_self e)
  same_agrees (Unveil path None) one = unveil_unknown path
  same_agrees (Unveil path (Some a)) one = unveil_agrees path a a (holds_self a)
  same_agrees Lock one = promises (unveil ∷ []) (omega arith) (Ok (AddEvent Locked)) (Ok (AddEvent Locked)) (Ok (AddEvent Locked))
      (granted_agree (AddEvent Locked)) (plain_late (Ok (AddEvent Locked)) (Ok (AddEvent Locked)) refl)
  same_agrees (Fork new) one = promises (proc ∷ []) (omega arith) (Ok (CopyAs new)) (Ok (CopyAs new)) (Ok (CopyAs new))
      (granted_agree (CopyAs new)) (plain_late (Ok (CopyAs new)) (Ok (CopyAs new)) refl)
  same_agrees Exit one = granted_agree (AddEvent Ended)
  same_agrees (Uses sets) one = promises sets one.0 (Ok NoChange) (Ok NoChange) (Ok NoChange) (granted_agree NoChange)
      (plain_late (Ok NoChange) (Ok NoChange) refl)
  same_agrees (Close number) one = λ e. ap (λ files. close_by refusals (free (from_top 0) files) number) later.files
  same_agrees (Fchdir number) one = λ e. ap (λ files. fchdir_by refusals (free (from_top 0) files) number) later.files
  same_agrees (Chroot path) one = promises (id ∷ []) (omega arith) (at l) (at m) (at s)
      (object_agrees t l m s covered table call.Chdir path rooting) (plain_late (at m) (at s) (object_plain table t s call.Chdir path rooting))
    where
      at : ProcessState → Decision
      at z = object_by refusals table t (asker_of z) call.Chdir path (λ x. Ok (rooting x))
  same_agrees (Take number from theirs) one = promises (recvfd ∷ []) (omega arith) (Ok (TakeFile number from theirs)) (Ok (TakeFile number from theirs))
      (Ok (TakeFile number from theirs)) (granted_agree (TakeFile number from theirs)) (plain_late (Ok (TakeFile number from theirs)) (Ok (TakeFile number from theirs)) refl)
  same_agrees Comment one = granted_agree NoChange

  -- the first one asks for no less
  pub agrees : {y x : Action} → ActionWithin y x → Rests kept table y → Agree (decide table t l x) (decide table t m y) (decide table t s y)
  agrees (as_given {action = action}) one = same_agrees action one
  agrees (less_pledged p e) one = pledge_agrees p e
  agrees (less_unveiled {path = path} {a = a} {b = b} less) one = unveil_agrees path a b less
