-- Of three worlds, each within the next, the middle one decides a request as the outer two do, where these decide it alike.
use Rattle.std.proofs.Common.{◌≡◌, ℕ, List, [], ◌∷◌, refl, sym, ap, ◌∙◌, Bool, true, false, cond, subst, ◌||◌, length, inr}
use Rattle.std.proofs.lemmas.Bool.{true≢false, false≢true}
use Rattle.std.specs.Prelude.{Option, Some, None, Ok, Err, nat_le}
use Rattle.pua_tree.specs.Tree.{Tree}
use Rattle.pua_path.specs.Paths.{path_fault}
use Rattle.pua_path.specs.Fits.{node_named}
use Rattle.pua_path.specs.declared.errno.Errno.{Errno}
use Rattle.pua_path.specs.declared.errno.Errno.TheVariants.{EPERM, EINVAL, ENOSYS}
use Rattle.pua_path.specs.declared.found.Found.{Found}
use Rattle.pua_path.specs.declared.found.Last.TheVariants.{Followed}
use Rattle.pua_path.specs.declared.text.Ending.TheVariants as ending
use Rattle.pua_calls.specs.Calls.{CallTable, rule_of}
use Rattle.pua_calls.specs.Promises.{holds, proc, recvfd, unveil, error, id}
use Rattle.pua_calls.specs.declared.call.Call.{Call}
use Rattle.pua_calls.specs.declared.call.Call.TheVariants as call
use Rattle.std.specs.List.{list_any}
use Rattle.pua_policy.specs.States.{ProcessState, Unveiled, Pledged, Locked, may_any, place_fault, has_error}
use Rattle.pua_policy.specs.States.{pledge_fault, unveil_fault, veil_at, most_places, held_set}
use Rattle.pua_policy.specs.Verdict.{place_of, refusal_of}
use Rattle.pua_policy.specs.declared.place.Place.{Place}
use Rattle.pua_policy.specs.declared.answer.May.TheVariants as may
use Rattle.pua_policy.specs.declared.answer.Cover.{Cover}
use Rattle.pua_policy.specs.declared.answer.Refusal.{Refusal}
use Rattle.pua_policy.specs.declared.answer.Refusal.TheVariants.{Failed, Killed}
use Rattle.pua_policy.specs.declared.answer.UnveilFault.TheVariants.{NotPermitted, TooManyPlaces}
use Rattle.pua_script.specs.Decide.{Change, NoChange, AddEvent, CopyAs, TakeFile, Decision, refusals, asker_of, decide, object_by}
use Rattle.pua_script.specs.Decide.{objects_by, rename_by, asks_directory, link_by, veil_by, unless_refused, unless_failed, change_by, adding, holding, close_by, fchdir_by}
use Rattle.pua_script.specs.Decide.{link_node, fault_if, is_unknown, given_set, unveil_errno, Sole, asker_past, past_promises, cover_past, rooting}
use Rattle.pua_script.specs.Openings.{Opening, opening_of}
use Rattle.pua_script.specs.declared.request.Action.{Action}
use Rattle.pua_script.specs.declared.request.Action.TheVariants.{OnPath, Symlink, Rename, Link, Pledge, Unveil, Lock, Fork, Exit, Uses, Comment}
use Rattle.pua_script.specs.declared.request.Action.TheVariants.{Hold, Close, Fchdir, Take, Chroot}
use Rattle.pua_tight.specs.Narrower.{SetWithin, unset, within, StateWithin}
use Rattle.pua_policy.proofs.ForCallers.{holds_through}
use Rattle.pua_tight.proofs.Sets.{two_bools}
use Rattle.pua_tight.proofs.Within.{held_within, kept_within, as_many, CoverWithin}
use Rattle.pua_tight.proofs.Within.{all, nothing, only, cover_within}
use Rattle.pua_tight.proofs.Decided.{easier, free, gives_more}
use Rattle.pua_tight.proofs.MiddleDecision.{Agree, Misses, Refused, refused, refused_is, some_is, none_some, last_check, same_check}
use Rattle.pua_tight.proofs.MiddleDecision.{back_by}
use Rattle.pua_tight.proofs.Covered.{Covered, at_path, named_agrees, object_agrees, pair_agrees, passes, cover_back, cover_lack}
use Rattle.pua_tight.proofs.Openers.{opened_more}
use Rattle.pua_tight.proofs.RareRefusals.{rare, checked_plain, path_plain, locked_plain, object_plain, opened_plain, objects_plain}
use Rattle.pua_tight.proofs.RareRefusals.{rename_plain, link_plain, veiling_plain}
use Rattle.pua_path.specs.Resolution.{from_top}

-- the refusal of one that lacks a promise
abbrev pub valued_by : Bool → Bool → Refusal
valued_by ended erring = cond ended Killed (cond erring (Failed ENOSYS) Killed)

abbrev pub value : ProcessState → Refusal
value h = valued_by h.ended (has_error h)

pub value_is : (h : ProcessState) (sets : List ℕ) (r : Refusal) → refusal_of (may_any h sets) ≡ Some r → r ≡ value h
value_is h sets r = by h.ended (list_any (holds (held_set h)) sets) (has_error h)
  where
    by : (a b c : Bool) → refusal_of (cond a may.Death (cond b may.Yes (cond c may.Enosys may.Death))) ≡ Some r → r ≡ valued_by a c
    by true b c e = sym (some_is Killed r e)
    by false true c e = none_some r (sym e)
    by false false true e = sym (some_is (Failed ENOSYS) r e)
    by false false false e = sym (some_is Killed r e)

pub value_rare : (h : ProcessState) → rare (Err (value h)) ≡ true
value_rare h = by h.ended (has_error h)
  where
    by : (a c : Bool) → rare (Err (valued_by a c)) ≡ true
    by true c = refl
    by false true = refl
    by false false = refl

-- the value of the middle one is that of the outer two, where these have one
middle : (a b c x y z : Bool) → a ≡ b → b ≡ c → (x ≡ true → y ≡ true) → (y ≡ true → z ≡ true) → valued_by a x ≡ valued_by c z →
    valued_by b y ≡ valued_by a x
middle true true true x y z p q m n e = refl
middle true true false x y z p q m n e = absurd (true≢false q)
middle true false c x y z p q m n e = absurd (true≢false p)
middle false true c x y z p q m n e = absurd (false≢true p)
middle false false true x y z p q m n e = absurd (false≢true q)
middle false false false true true z p q m n e = refl
middle false false false true false z p q m n e = absurd (false≢true (m refl))
middle false false false false false z p q m n e = refl
middle false false false false true true p q m n e = cc
middle false false false false true false p q m n e = absurd (false≢true (n refl))

cover_twice : {c d e : Cover} → CoverWithin c d → CoverWithin d e → CoverWithin c e
cover_twice all other = other
cover_twice nothing other = other
cover_twice (only {a = a} {b = b} less) (only {b = c} other) = only (holds_through c b a other less)

module _ (table : CallTable) (t : Tree) (g h k : ProcessState) (v : StateWithin g h) (w : StateWithin h k) where
  abbrev lacks : ProcessState → List ℕ → Option Refusal
  lacks x sets = refusal_of (may_any x sets)

  error_grows : (x y : ProcessState) → StateWithin x y → has_error x ≡ true → has_error y ≡ true
  error_grows x y lies e = holds_through (held_set y) (held_set x) error (held_within lies) e

  settled : (x y z : Refusal) → x ≡ value g → y ≡ value h → z ≡ value k → Some x ≡ Some z → Refused y ≡ Refused z
  settled x y z p q s e =
      let outer : x ≡ z = some_is x z e in
      ap Refused (q ∙ middle g.ended h.ended k.ended (has_error g) (has_error h) (has_error k) v.ended w.ended
      (error_grows g h v) (error_grows h k w) (sym p ∙ outer ∙ s) ∙ sym p ∙ outer)

  plain_late : {m l : Decision} → rare l ≡ false → refused l ≡ Some (value g) → (m ≡ l) × (Refused (value h) ≡ l)
  plain_late {l = l} plain e = absurd (true≢false (sym (value_rare g) ∙ ap rare (sym (refused_is l (value g) e)) ∙ plain))

  -- promises, behind which the last one isn't refused for want of promises alone
  promised_one : (sets : List ℕ) (f m l : Decision) → Agree f m l → (refused l ≡ Some (value g) → (m ≡ l) × (Refused (value h) ≡ l)) →
      Agree (unless_refused (lacks g sets) f) (unless_refused (lacks h sets) m) (unless_refused (lacks k sets) l)
  promised_one sets f m l rest late = by (lacks g sets) (lacks h sets) (lacks k sets) refl refl refl
    where
      by : (a b c : Option Refusal) → lacks g sets ≡ a → lacks h sets ≡ b → lacks k sets ≡ c →
          Agree (unless_refused a f) (unless_refused b m) (unless_refused c l)
      by None None None p q s e = rest e
      by a None (Some z) p q s e = none_some z (sym s ∙ (easier h k w).promises sets q)
      by None (Some y) c p q s e = none_some y (sym q ∙ (easier g h v).promises sets p)
      by (Some x) None None p q s e = (late (sym e ∙ ap (λ z. Some z) (value_is g sets x p))).0
      by (Some x) (Some y) None p q s e = ap Refused (value_is h sets y q) ∙ (late (sym e ∙ ap (λ z. Some z) (value_is g sets x p))).1
      by (Some x) (Some y) (Some z) p q s e = settled x y z (value_is g sets x p) (value_is h sets y q) (value_is k sets z s) e

  promised_two : (one two : List ℕ) (f m l : Decision) → Agree f m l → rare l ≡ false →
      Agree (unless_refused (lacks g one) (unless_refused (lacks g two) f)) (unless_refused (lacks h one) (unless_refused (lacks h two) m))
      (unless_refused (lacks k one) (unless_refused (lacks k two) l))
  promised_two one two f m l rest plain =
      promised_one one (unless_refused (lacks g two) f) (unless_refused (lacks h two) m) (unless_refused (lacks k two) l)
      (promised_one two f m l rest (plain_late plain)) (late (lacks h two) (lacks k two) refl refl)
    where
      late : (b c : Option Refusal) → lacks h two ≡ b → lacks k two ≡ c → refused (unless_refused c l) ≡ Some (value g) →
          (unless_refused b m ≡ unless_refused c l) × (Refused (value h) ≡ unless_refused c l)
      late b None q s e = plain_late plain e
      late None (Some z) q s e = none_some z (sym s ∙ (easier h k w).promises two q)
      late (Some y) (Some z) q s e =
          let is : Refused (value h) ≡ Refused z = settled (value g) (value h) z refl refl (value_is k two z s) (sym e) in
          (ap Refused (value_is h two y q) ∙ is, is)

  covered : Covered t g h k
  covered = record {
    first = v.start;
    later = w;
    misses = λ x perms s is. inr (cover_back (cover_within v.veils t x) perms s is);
    outer = λ x. cover_lack (cover_twice (cover_within v.veils t x) (cover_within w.veils t x));
  }

  place_back : (place : Place) (perms : ℕ) (s : Errno) → unveil_errno (unveil_fault h place perms) ≡ Some s →
      unveil_errno (unveil_fault g place perms) ≡ Some s
  place_back place perms s = two_bools
      (λ x y. unveil_errno (cond y (Some NotPermitted) (place_fault (veil_at h.veils place) (length h.veils) perms)) ≡ Some s →
      unveil_errno (cond x (Some NotPermitted) (place_fault (veil_at g.veils place) (length g.veils) perms)) ≡ Some s) (λ e. e)
      (placed (kept_within v.veils place) (length g.veils) (length h.veils) (as_many v.veils)) g.locked h.locked v.locked
    where
      placed : {p q : Option ℕ} → SetWithin p q → (n m : ℕ) → n ≡ m → unveil_errno (place_fault q m perms) ≡ Some s →
          unveil_errno (place_fault p n perms) ≡ Some s
      placed unset n m same e = ap (λ n. unveil_errno (cond (nat_le most_places n) (Some TooManyPlaces) None)) same ∙ e
      placed (within {a = a} {b = b} less) n m same e =
          back_by (λ x. unveil_errno (cond x None (Some NotPermitted))) refl (holds a perms) (holds b perms) (holds_through b a perms less) s e

  veil_agrees : (path : List ℕ) (perms : Option ℕ) →
      Agree (veil_by refusals table.whose t (asker_of g) path perms) (veil_by refusals table.whose t (asker_of h) path perms) (veil_by refusals table.whose t (asker_of k) path perms)
  veil_agrees path None = λ e. refl
  veil_agrees path (Some perms) = at_path t g h k covered table.whose ending.Dot path Followed (veiled g) (veiled h) (veiled k)
      (λ x. last_check (unveil_errno (unveil_fault g (place_of x) perms)) (unveil_errno (unveil_fault h (place_of x) perms))
      (unveil_errno (unveil_fault k (place_of x) perms)) (λ s is. inr (place_back (place_of x) perms s is))
      ((easier h k w).place (place_of x) perms) (Ok (AddEvent (Unveiled (place_of x) perms))) (Ok (AddEvent (Unveiled (place_of x) perms))))
    where
      veiled : ProcessState → Found → Decision
      veiled z x = unless_failed refusals.failed (unveil_errno (unveil_fault z (place_of x) perms)) (Ok (AddEvent (Unveiled (place_of x) perms)))

  beyond_back : (p e : Option ℕ) (s : Errno) → pledge_fault table.whose h p e ≡ Some s → pledge_fault table.whose g p e ≡ Some s
  beyond_back p e = back_by (λ x. cond x None (Some EPERM)) refl _ _ (gives_more g h v table.whose p e)

  -- a call on a path: the promises and the veils are asked, unless a promise opens it, and then the veils as the opening has it
  module _ (call : Call) (path : List ℕ) (change : Found → Change) where
    abbrev alternatives : List ℕ
    alternatives = (rule_of table call).alternatives

    abbrev perms : ℕ
    perms = (rule_of table call).perms

    abbrev uncovered : Bool → ProcessState → Found → Option Errno
    uncovered asks z x = cover_past asks (asker_of z).cover Sole t x perms

    abbrev object_at : Bool → ProcessState → Decision
    object_at asks z = object_by refusals table t (past_promises asks (asker_of z)) call path (λ x. Ok (change x))

    abbrev decided : Option Opening → ProcessState → Decision
    decided o z = unless_refused ((asker_past o (asker_of z)).promises alternatives)
        (object_by refusals table t (asker_past o (asker_of z)) call path (λ x. Ok (change x)))

    cover_back_past : (x y z : Bool) → (y ≡ true → x ≡ true) → (object : Found) →
        Misses (uncovered x g object) (uncovered y h object) (uncovered z k object)
    cover_back_past x false z asked object s e = none_some s (sym e)
    cover_back_past true true z asked object s e = inr (cover_back (cover_within v.veils t object) perms s e)
    cover_back_past false true z asked object s e = absurd (false≢true (asked refl))

    passes_past : (y z : Bool) → (z ≡ true → y ≡ true) → (object : Found) → uncovered y h object ≡ None → uncovered z k object ≡ None
    passes_past y false asked object e = refl
    passes_past true true asked object e = passes t g h k covered object perms e
    passes_past false true asked object e = absurd (false≢true (asked refl))

    -- where the veils are asked of one that has less, and of no other
    object_between : (x y z : Bool) → (y ≡ true → x ≡ true) → (z ≡ true → y ≡ true) → Agree (object_at x g) (object_at y h) (object_at z k)
    object_between x y z first second = named_agrees t g h k covered table call path change
        (uncovered x g) (uncovered y h) (uncovered z k) (cover_back_past x y z first) (passes_past y z second)

    plain_at : (asks : Bool) → rare (object_at asks k) ≡ false
    plain_at asks = opened_plain table t k asks call path change

    -- promises that the last one isn't asked for
    not_last : (m l : Decision) → (lacks g alternatives ≡ None → Agree (object_at true g) m l) → rare l ≡ false →
        Agree (unless_refused (lacks g alternatives) (object_at true g)) m l
    not_last m l rest plain = by (lacks g alternatives) refl
      where
        by : (a : Option Refusal) → lacks g alternatives ≡ a → Agree (unless_refused a (object_at true g)) m l
        by None is e = rest is e
        by (Some x) is e = (plain_late {m = m} {l = l} plain (sym e ∙ ap (λ z. Some z) (value_is g alternatives x is))).0

    called : (p q r : Option Opening) → ((o : Opening) → p ≡ Some o → q ≡ Some o) → ((o : Opening) → q ≡ Some o → r ≡ Some o) →
        Agree (decided p g) (decided q h) (decided r k)
    called None None None first second = promised_one alternatives (object_at true g) (object_at true h) (object_at true k)
        (object_between true true true (λ e. e) (λ e. e)) (plain_late (plain_at true))
    called None None (Some o) first second = not_last (decided None h) (object_at o.asks_veils k)
        (λ none e. ap (λ z. unless_refused z (object_at true h)) ((easier g h v).promises alternatives none)
        ∙ object_between true true o.asks_veils (λ e. e) (λ e. refl) e) (plain_at o.asks_veils)
    called None (Some o) r first second = subst (λ r. Agree (decided None g) (decided (Some o) h) (decided r k)) (sym (second o refl))
        (not_last (object_at o.asks_veils h) (object_at o.asks_veils k)
        (λ none. object_between true o.asks_veils o.asks_veils (λ e. refl) (λ e. e)) (plain_at o.asks_veils))
    called (Some o) q r first second = subst (λ q. Agree (decided (Some o) g) (decided q h) (decided r k)) (sym (first o refl))
        (subst (λ r. Agree (decided (Some o) g) (decided (Some o) h) (decided r k)) (sym (second o (first o refl)))
        (object_between o.asks_veils o.asks_veils o.asks_veils (λ e. e) (λ e. e)))

  pub between : (action : Action) → Agree (decide table t g action) (decide table t h action) (decide table t k action)
  between (OnPath call path) = called call path (change_by table call) (opening_of table g call path) (opening_of table h call path) (opening_of table k call path)
      (opened_more g h v table call path) (opened_more h k w table call path)
  between (Symlink target path) = promised_one (rule_of table call.Symlink).alternatives (linked g) (linked h) (linked k)
      (same_check (path_fault target) (path_fault target) (path_fault target) refl refl (object_at g) (object_at h) (object_at k)
      (object_agrees t g h k covered table call.Symlink path (adding (link_node target))))
      (plain_late (checked_plain (path_fault target) (object_at k) (path_plain target)
      (object_plain table t k call.Symlink path (adding (link_node target)))))
    where
      object_at : ProcessState → Decision
      object_at z = object_by refusals table t (asker_of z) call.Symlink path (λ x. Ok (adding (link_node target) x))

      linked : ProcessState → Decision
      linked z = unless_failed refusals.failed (path_fault target) (object_at z)
  between (Rename old new) = promised_two table.rename.old.needs.alternatives table.rename.new.needs.alternatives (at g) (at h) (at k)
      (pair_agrees t g h k covered table.whose table.rename ending.Dropped old new (λ x y. rename_by refusals t (asks_directory table.whose old new) x y (node_named x)))
      (objects_plain table.whose table.rename t k ending.Dropped old new (λ x y. rename_by refusals t (asks_directory table.whose old new) x y (node_named x))
      (λ x y. rename_plain t (asks_directory table.whose old new) x y (node_named x)))
    where
      at : ProcessState → Decision
      at z = objects_by refusals table.whose table.rename t (asker_of z) ending.Dropped old new (λ x y. rename_by refusals t (asks_directory table.whose old new) x y (node_named x))
  between (Link old new) = promised_two table.link.old.needs.alternatives table.link.new.needs.alternatives (at g) (at h) (at k)
      (pair_agrees t g h k covered table.whose table.link ending.Dot old new (λ x y. link_by refusals t x y (node_named x)))
      (objects_plain table.whose table.link t k ending.Dot old new (λ x y. link_by refusals t x y (node_named x)) (λ x y. link_plain t x y (node_named x)))
    where
      at : ProcessState → Decision
      at z = objects_by refusals table.whose table.link t (asker_of z) ending.Dot old new (λ x y. link_by refusals t x y (node_named x))
  between (Pledge p e) = same_check unknown unknown unknown refl refl (at g) (at h) (at k)
      (last_check (pledge_fault table.whose g (given_set p) (given_set e)) (pledge_fault table.whose h (given_set p) (given_set e))
      (pledge_fault table.whose k (given_set p) (given_set e)) (λ s is. inr (beyond_back (given_set p) (given_set e) s is))
      ((easier h k w).beyond table.whose (given_set p) (given_set e)) (Ok (AddEvent (Pledged (given_set p) (given_set e))))
      (Ok (AddEvent (Pledged (given_set p) (given_set e)))))
    where
      unknown : Option Errno
      unknown = fault_if (is_unknown p || is_unknown e) EINVAL

      at : ProcessState → Decision
      at z = unless_failed refusals.failed (pledge_fault table.whose z (given_set p) (given_set e))
          (Ok (AddEvent (Pledged (given_set p) (given_set e))))
  between (Unveil path perms) = promised_one (unveil ∷ []) (at g) (at h) (at k)
      (same_check (fault_if g.locked EPERM) (fault_if h.locked EPERM) (fault_if k.locked EPERM)
      (ap (λ x. fault_if x EPERM) v.locked) (ap (λ x. fault_if x EPERM) w.locked)
      (veil_by refusals table.whose t (asker_of g) path perms) (veil_by refusals table.whose t (asker_of h) path perms) (veil_by refusals table.whose t (asker_of k) path perms)
      (veil_agrees path perms))
      (plain_late (checked_plain (fault_if k.locked EPERM) (veil_by refusals table.whose t (asker_of k) path perms) (locked_plain k.locked)
      (veiling_plain table.whose t k path perms)))
    where
      at : ProcessState → Decision
      at z = unless_failed refusals.failed (fault_if z.locked EPERM) (veil_by refusals table.whose t (asker_of z) path perms)
  between Lock = promised_one (unveil ∷ []) (Ok (AddEvent Locked)) (Ok (AddEvent Locked)) (Ok (AddEvent Locked))
      (λ e. refl) (plain_late refl)
  between (Fork new) = promised_one (proc ∷ []) (Ok (CopyAs new)) (Ok (CopyAs new)) (Ok (CopyAs new))
      (λ e. refl) (plain_late refl)
  between Exit = λ e. refl
  between (Uses sets) = promised_one sets (Ok NoChange) (Ok NoChange) (Ok NoChange) (λ e. refl) (plain_late refl)
  between (Hold number call path) = called call path (holding t number call) (opening_of table g call path) (opening_of table h call path)
      (opening_of table k call path) (opened_more g h v table call path) (opened_more h k w table call path)
  between (Close number) = λ e. ap (λ files. close_by refusals (free (from_top 0) files) number) w.files
  between (Fchdir number) = λ e. ap (λ files. fchdir_by refusals (free (from_top 0) files) number) w.files
  between (Chroot path) = promised_one (id ∷ []) (at g) (at h) (at k) (object_agrees t g h k covered table call.Chdir path rooting)
      (plain_late (object_plain table t k call.Chdir path rooting))
    where
      at : ProcessState → Decision
      at z = object_by refusals table t (asker_of z) call.Chdir path (λ x. Ok (rooting x))
  between (Take number from theirs) = promised_one (recvfd ∷ []) (Ok (TakeFile number from theirs)) (Ok (TakeFile number from theirs))
      (Ok (TakeFile number from theirs)) (λ e. refl) (plain_late refl)
  between Comment = λ e. refl
