-- Request by request: one that is granted passed its checks, so its change has grounds; and none is refused for want of room.
use Rattle.pua_script.proofs.Common.{◌≡◌, ℕ, List, [], ◌∷◌, Bool, true, false, cond, refl, inl, inr, ◌⊎◌, Option, Some, None, Result, Ok}
use Rattle.pua_script.proofs.Common.{Err, is_some, Tree, is_same_node, path_fault, resolution_of_text, spot_named, node_named, Errno}
use Rattle.pua_script.proofs.Common.{EINVAL, Ending, Found, proc, unveil, CallTable, PairRule, rule_of, ProcessState, is_locked, may_any}
use Rattle.pua_script.proofs.Common.{start, place_of, cover, cover_fault, or_fault, object_named, object_fault, object_of, Call, May}
use Rattle.pua_script.proofs.Common.{fault_if, is_whole, inside_fault, kinds_fault, Change, NoChange, Decision, if_may, decide_rename}
use Rattle.pua_script.proofs.Common.{TakeFile, decide, decide_link, asker_of, shifting, OnPath, Symlink, Rename, Link, Unveil, Fork, IsShift, and_parts, sym}
use Rattle.pua_script.proofs.Common.{subst, is_bytes, Action, ENOSPC, Failed, ◌≢◌, ◌&&◌}
use Rattle.std.specs.Prelude.{not, ok_or, ◌||◌}
use Rattle.std.proofs.lemmas.Bool.{not-false}
use Rattle.pua_calls.specs.Promises.{id, recvfd}
use Rattle.pua_policy.specs.declared.open_file.OpenFile.{OpenFile}
use Rattle.pua_path.specs.declared.errno.Errno.TheVariants.{EBADF, EPERM, EEXIST, ENOTDIR, EXDEV}
use Rattle.pua_script.specs.Decide.{is_elsewhere}
use Rattle.pua_path.specs.declared.text.Ending.TheVariants as ending
use Rattle.pua_path.specs.declared.found.Found.TheVariants.{Whole, Slot}
use Rattle.pua_path.specs.declared.found.Last.TheVariants.{Followed}
use Rattle.pua_calls.specs.declared.rules.Rules.{Rules}
use Rattle.pua_policy.specs.States.{file_at, is_directory, unveil_fault, pledge_fault}
use Rattle.pua_policy.specs.Verdict.{found_fault}
use Rattle.pua_calls.specs.declared.call.Call.TheVariants as call
use Rattle.pua_policy.specs.declared.answer.May.TheVariants as may
use Rattle.pua_script.specs.Decide.{asks_directory, link_node, unveil_errno, given_set, is_unknown}
use Rattle.pua_script.specs.Decide.{unless_fault, if_named, adding, change_by, asker_past, cover_past, decide_by, refusals, Sole}
use Rattle.pua_script.specs.Openings.{Opening, opening_of}
use Rattle.pua_script.specs.Decide.{covers_by, decide_veil, decide_object, decide_pair, ways_fault, named_by, named_in, path_named}
use Rattle.pua_script.specs.Decide.{file_opened, filing, holding, past_promises, rooting}
use Rattle.pua_script.specs.declared.request.Action.TheVariants.{Pledge, Lock, Exit, Uses, Hold, Close, Fchdir, Chroot, Take, Comment}
use Rattle.pua_script.specs.Guards.{OnOne, OnTwo, IsOpened, IsVeil, ChangesAreGranted, DecisionsAreGuarded}
use Rattle.pua_script.specs.Guards.{IsDecided}
use Rattle.pua_script.specs.Laws.{RefusalsLackNoRoom}
use Rattle.pua_script.proofs.Faults.{HasRoom, promised_apart, checked_apart, if_apart, none_or, path_apart, granted_apart, object_has_room}
use Rattle.pua_script.proofs.Faults.{pair_has_room, rename_has_room, link_has_room, veil_has_room, opened_has_room}
use Rattle.pua_script.proofs.Grounds.{Grounds, on_adding, on_call, on_rename, on_link, link_leads}
use Rattle.pua_script.proofs.Linking.{target_is}
use Rattle.pua_script.proofs.Widened.{changes_granted, tmp_one}
use Rattle.pua_path.specs.declared.found.Start.{Start}

from_promised : (m : May) (d : Decision) (c : Change) → if_may m d ≡ Ok c → (m ≡ may.Yes) × (d ≡ Ok c)
from_promised may.Yes d c e = (refl, e)
from_promised may.Enosys d c e = cc
from_promised may.Death d c e = cc

from_checked : (o : Option Errno) (d : Decision) (c : Change) → unless_fault o d ≡ Ok c → (o ≡ None) × (d ≡ Ok c)
from_checked None d c e = (refl, e)
from_checked (Some errno) d c e = cc

from_named : (r : Result Found Errno) (g : Found → Decision) (c : Change) → if_named r g ≡ Ok c → (x : Found) × (r ≡ Ok x) × (g x ≡ Ok c)
from_named (Ok x) g c e = (x, refl, e)
from_named (Err errno) g c e = cc

from_file : (o : Option OpenFile) (g : OpenFile → Decision) (c : Change) → if_named (ok_or o EBADF) g ≡ Ok c →
    (file : OpenFile) × (o ≡ Some file) × (g file ≡ Ok c)
from_file (Some file) g c e = (file, refl, e)
from_file None g c e = cc

pub not_faulty : (b : Bool) (errno : Errno) → fault_if b errno ≡ None → b ≡ false
not_faulty true errno e = cc
not_faulty false errno e = refl

abbrev Granted : Change → Decision
Granted c = Ok c

is_ok : (c d : Change) → Granted c ≡ Granted d → d ≡ c
is_ok c d e = cc

pub first_none : (a b : Option Errno) → or_fault a b ≡ None → a ≡ None
first_none None b e = refl
first_none (Some errno) b e = cc

pub second_none : (a b : Option Errno) → or_fault a b ≡ None → b ≡ None
second_none None b e = e
second_none (Some errno) b e = cc

-- what a path names by any rules, its text names
pub named_ok : (whose : Rules) (t : Tree) (from : Start) (text : List ℕ) (named : Result Found Errno) (x : Found) →
    named_in whose t from text named ≡ Ok x → named ≡ Ok x
named_ok whose t from text (Ok y) x e = e
named_ok whose t from text (Err errno) x e = cc

module _ (t : Tree) (h : ProcessState) where
  -- a call's object, its promises aside
  apart : (table : CallTable) (c : Call) (path : List ℕ) (g : Found → Change) (change : Change) →
      (if_named (named_in table.whose t (start h) path (object_named t h c path)) λ x. unless_fault (found_fault t table h c x) (Ok (g x)))
      ≡ Ok change
      → (object : Found) × (object_named t h c path ≡ Ok object) × (cover_fault (cover t h object) (rule_of table c).perms ≡ None)
      × (object_fault table.whose t c (object_of t object) ≡ None) × (change ≡ g object)
  apart table c path g change e =
      let named = named_in table.whose t (start h) path (object_named t h c path) in
      let at = from_named named (λ x. unless_fault (found_fault t table h c x) (Ok (g x))) change e in
      let free = from_checked (found_fault t table h c at.0) (Ok (g at.0)) change at.2 in
      let a = cover_fault (cover t h at.0) (rule_of table c).perms in
      let b = object_fault table.whose t c (object_of t at.0) in (
        at.0,
        named_ok table.whose t (start h) path (object_named t h c path) at.0 at.1,
        first_none a b free.0,
        second_none a b free.0,
        is_ok _ _ free.1,
      )

  -- a call's object, once its promises are held
  one : (table : CallTable) (c : Call) (path : List ℕ) (g : Found → Change) (change : Change) →
      may_any h (rule_of table c).alternatives ≡ may.Yes
      → (if_named (named_in table.whose t (start h) path (object_named t h c path)) λ x. unless_fault (found_fault t table h c x) (Ok (g x))) ≡ Ok change
      → (object : Found) × OnOne table t h c path object × (change ≡ g object)
  one table c path g change may e =
      let at = apart table c path g change e in
      (at.0, record { promised = may; found = at.1; covered = at.2; fitting = at.3 }, at.4)

  -- a call that a promise opens
  opened : (table : CallTable) (c : Call) (path : List ℕ) (g : Found → Change) (change : Change) (o : Opening) →
      opening_of table h c path ≡ Some o →
      decide_object table t (past_promises o.asks_veils (asker_of h)) c path (λ x. Ok (g x)) ≡ Ok change →
      (object : Found) × IsOpened table t h c path object × (change ≡ g object)
  opened table c path g change o is e =
      let named = named_in table.whose t (start h) path (object_named t h c path) in
      let asked : Found → Option Errno = λ x. cover_past o.asks_veils (asker_of h).cover Sole t x (rule_of table c).perms in
      let fit : Found → Option Errno = λ x. object_fault table.whose t c (object_of t x) in
      let at = from_named named (λ x. unless_fault (or_fault (asked x) (fit x)) (Ok (g x))) change e in
      let free = from_checked (or_fault (asked at.0) (fit at.0)) (Ok (g at.0)) change at.2 in (
        at.0,
        record {
          opening = o;
          opened = is;
          found = named_ok table.whose t (start h) path (object_named t h c path) at.0 at.1;
          covered = first_none (asked at.0) (fit at.0) free.0;
          fitting = second_none (asked at.0) (fit at.0) free.0;
        },
        is_ok _ _ free.1,
      )

  -- what both paths named
  abbrev Pair : PairRule → Ending → List ℕ → List ℕ → (Found → Found → Option ℕ → Decision) → Change → Type 0
  Pair rules end old_path new_path f change = (old : Found) × (new : Found) × (x : ℕ) × OnTwo rules t h end old_path new_path old new x ×
      (f old new (Some x) ≡ Ok change)

  pair : (whose : Rules) (rules : PairRule) (end : Ending) (old new : List ℕ) (f : Found → Found → Option ℕ → Decision) (change : Change) →
      ((a b : Found) → f a b None ≡ Ok change → ⊥)
      → decide_pair whose rules t (asker_of h) end old new (λ a b. f a b (node_named a)) ≡ Ok change → Pair rules end old new f change
  pair whose rules end old new f change never e =
      let may_old = from_promised (may_any h rules.old.needs.alternatives) _ change e in
      let may_new = from_promised (may_any h rules.new.needs.alternatives) _ change may_old.1 in
      let named_old = path_named whose t (start h) end old rules.old.last in
      let named_new = path_named whose t (start h) end new rules.new.last in
      let first = from_named named_old (λ a. if_named named_new λ b. unless_fault
      (covers_by rules t (asker_of h) a b) (f a b (node_named a))) change may_new.1 in
      let a = first.0 in
      let second = from_named named_new
      (λ b. unless_fault (covers_by rules t (asker_of h) a b) (f a b (node_named a))) change first.2 in
      let b = second.0 in
      let free = from_checked (covers_by rules t (asker_of h) a b) (f a b (node_named a)) change second.2 in
      by a b (node_named a) refl may_old.0 may_new.0 (named_ok whose t (start h) old (named_by rules.old t h end old) a first.1)
      (named_ok whose t (start h) new (named_by rules.new t h end new) b second.1) free.0 free.1
    where
      by : (a b : Found) (o : Option ℕ) → node_named a ≡ o → may_any h rules.old.needs.alternatives ≡ may.Yes →
          may_any h rules.new.needs.alternatives ≡ may.Yes → named_by rules.old t h end old ≡ Ok a → named_by rules.new t h end new ≡ Ok b
          → covers_by rules t (asker_of h) a b ≡ None → f a b o ≡ Ok change → Pair rules end old new f change
      by a b None is may_old may_new fa fb none e = absurd (never a b e)
      by a b (Some x) is may_old may_new fa fb none e = (
        a,
        b,
        x,
        record {
          promised_old = may_old;
          promised_new = may_new;
          found_old = fa;
          found_new = fb;
          covered_old = first_none (cover_fault (cover t h a) rules.old.needs.perms) (cover_fault (cover t h b) rules.new.needs.perms) none;
          covered_new = second_none (cover_fault (cover t h a) rules.old.needs.perms) (cover_fault (cover t h b) rules.new.needs.perms)
              none;
          named = is;
        },
        e,
      )

  renamed : (asks : Bool) (a b : Found) (x : ℕ) (change : Change) → decide_rename t asks a b (Some x) ≡ Ok change →
      (ways_fault a b ≡ None) × ((change ≡ NoChange) ⊎ IsShift t a b x change)
  renamed asks a b x change e =
      let free = from_checked (ways_fault a b) _ change e in
      let fit = from_checked (fault_if (asks && not (is_whole a)) ENOTDIR) _ change free.1 in
      (free.0, by (is_same_node x (node_named b)) refl fit.1)
    where
      kinds : Option Errno
      kinds = or_fault (inside_fault t x (spot_named b)) (kinds_fault t x a b)

      by : (same : Bool) → is_same_node x (node_named b) ≡ same →
          cond {A = Decision} same (Ok NoChange) (unless_fault kinds (Ok (shifting (spot_named a) (spot_named b)))) ≡ Ok change →
          (change ≡ NoChange) ⊎ IsShift t a b x change
      by true is e = inl (is_ok _ _ e)
      by false is e =
          let last = from_checked kinds (Ok (shifting (spot_named a) (spot_named b))) change e in
          inr (record {
            other = is;
            inside = first_none (inside_fault t x (spot_named b)) (kinds_fault t x a b) last.0;
            kinds = second_none (inside_fault t x (spot_named b)) (kinds_fault t x a b) last.0;
            is = is_ok _ _ last.1;
          })

  veiled : (whose : Rules) (path : List ℕ) (letters : Option ℕ) (change : Change) → may_any h (unveil ∷ []) ≡ may.Yes → is_locked h ≡ false →
      decide_veil whose t (asker_of h) path letters ≡ Ok change → IsVeil t h path letters change
  veiled whose path None change may unlocked e = cc
  veiled whose path (Some perms) change may unlocked e =
      let at = from_named (path_named whose t (start h) ending.Dot path Followed) _ change e in
      let free = from_checked (unveil_errno (unveil_fault h (place_of at.0) perms)) _ change at.2 in
      record {
        object = at.0;
        perms = perms;
        promised = may;
        unlocked = unlocked;
        known = refl;
        found = named_ok whose t (start h) path (resolution_of_text t (start h) ending.Dot path Followed) at.0 at.1;
        room = free.0;
        is = is_ok _ _ free.1;
      }

pub decisions_are_guarded : DecisionsAreGuarded
decisions_are_guarded table t h (OnPath c path) change e = by (opening_of table h c path) refl e
  where
    by : (o : Option Opening) → opening_of table h c path ≡ o →
        decide_by refusals table t (asker_past o (asker_of h)) (OnPath c path) ≡ Ok change → IsDecided table t h (OnPath c path) change
    by None is e =
        let may = from_promised (may_any h (rule_of table c).alternatives) _ change e in
        let at = one t h table c path (change_by table c) change may.0 may.1 in
        (at.0, inl at.1, at.2)
    by (Some o) is e = let at = opened t h table c path (change_by table c) change o is e in (at.0, inr at.1, at.2)
decisions_are_guarded table t h (Symlink target path) change e =
    let may = from_promised (may_any h (rule_of table call.Symlink).alternatives) _ change e in
    let text = from_checked (path_fault target) _ change may.1 in
    let at = one t h table call.Symlink path (adding (link_node target)) change may.0 text.1 in
    (at.0, at.1, text.0, at.2)
decisions_are_guarded table t h (Rename old new) change e =
    let asks = asks_directory table.whose old new in
    let p = pair t h table.whose table.rename ending.Dropped old new (decide_rename t asks) change (λ a b never. cc) e in
    let r = renamed t h asks p.0 p.1 p.2 change p.4 in
    record { old = p.0; new = p.1; node = p.2; two = p.3; ways = r.0; moves = r.1 }
decisions_are_guarded table t h (Link old new) change e =
    let p = pair t h table.whose table.link ending.Dot old new (decide_link t) change (λ a b never. cc) e in
    let a = fault_if (is_whole p.0) EPERM in
    let b = fault_if (is_some (node_named p.1)) EEXIST in
    let away = fault_if (is_elsewhere t p.0 p.1) EXDEV in
    let free = from_checked (or_fault a (or_fault b away)) _ change p.4 in
    let rest = second_none a (or_fault b away) free.0 in
    record {
      old = p.0;
      new = p.1;
      node = p.2;
      two = p.3;
      no_dir = not_faulty _ EPERM (first_none a (or_fault b away) free.0);
      free = not_faulty _ EEXIST (first_none b away rest);
      near = not_faulty _ EXDEV (second_none b away rest);
      is = is_ok _ _ free.1;
    }
decisions_are_guarded table t h (Pledge p x) change e =
    let known = from_checked (fault_if (is_unknown p || is_unknown x) EINVAL) _ change e in
    let free = from_checked (pledge_fault table.whose h (given_set p) (given_set x)) _ change known.1 in
    record { known = not_faulty _ EINVAL known.0; within = free.0; is = is_ok _ _ free.1 }
decisions_are_guarded table t h (Unveil path perms) change e =
    let may = from_promised (may_any h (unveil ∷ [])) _ change e in
    let unlocked = from_checked (fault_if (is_locked h) EPERM) _ change may.1 in
    veiled t h table.whose path perms change may.0 (not_faulty _ EPERM unlocked.0) unlocked.1
decisions_are_guarded table t h Lock change e =
    let may = from_promised (may_any h (unveil ∷ [])) _ change e in (may.0, is_ok _ _ may.1)
decisions_are_guarded table t h (Fork new) change e =
    let may = from_promised (may_any h (proc ∷ [])) _ change e in (may.0, is_ok _ _ may.1)
decisions_are_guarded table t h Exit change e = is_ok _ _ e
decisions_are_guarded table t h (Uses sets) change e =
    let may = from_promised (may_any h sets) _ change e in (may.0, is_ok _ _ may.1)
decisions_are_guarded table t h (Hold number c path) change e = by (opening_of table h c path) refl e
  where
    by : (o : Option Opening) → opening_of table h c path ≡ o →
        decide_by refusals table t (asker_past o (asker_of h)) (Hold number c path) ≡ Ok change → IsDecided table t h (Hold number c path) change
    by None is e =
        let may = from_promised (may_any h (rule_of table c).alternatives) _ change e in
        let at = one t h table c path (holding t number c) change may.0 may.1 in
        (at.0, inl at.1, at.2)
    by (Some o) is e = let at = opened t h table c path (holding t number c) change o is e in (at.0, inr at.1, at.2)
decisions_are_guarded table t h (Close number) change e =
    let at = from_file (file_at h.files number) _ change e in (at.0, at.1, is_ok _ _ at.2)
decisions_are_guarded table t h (Fchdir number) change e =
    let at = from_file (file_at h.files number) _ change e in
    let free = from_checked (fault_if (not (is_directory at.0)) ENOTDIR) _ change at.2 in
    record {
      file = at.0;
      held = at.1;
      directory = not-false (is_directory at.0) (not_faulty (not (is_directory at.0)) ENOTDIR free.0);
      is = is_ok _ _ free.1;
    }
decisions_are_guarded table t h (Chroot path) change e =
    let may = from_promised (may_any h (id ∷ [])) _ change e in
    let at = apart t h table call.Chdir path rooting change may.1 in
    record {
      object = at.0;
      promised = may.0;
      found = at.1;
      covered = at.2;
      fitting = at.3;
      is = at.4;
    }
decisions_are_guarded table t h (Take number from theirs) change e =
    let may = from_promised (may_any h (recvfd ∷ [])) _ change e in (may.0, is_ok _ _ may.1)
decisions_are_guarded table t h Comment change e = is_ok _ _ e

pub changes_are_granted : ChangesAreGranted
changes_are_granted table t h action change e = changes_granted table t h action change (decisions_are_guarded table t h action change e)

module _ (table : CallTable) (t : Tree) (h : ProcessState) where
  -- what each request that was granted a change has checked
  pub grounds : (action : Action) (c : Change) → IsDecided table t h action c → Grounds table t h action c
  grounds (OnPath asked path) c d = elim (changes_granted table t h (OnPath asked path) c d) [
    | inl g ↦ subst (Grounds table t h (OnPath asked path)) (sym g.2) (on_call table t h asked path g.0 g.1)
    | inr same ↦ subst (Grounds table t h (OnPath asked path)) (sym same) tt
  ]
  grounds (Symlink target path) c d = subst (Grounds table t h (Symlink target path)) (sym d.3)
      (on_adding table t h (Symlink target path) call.Symlink path d.0 (link_node target)
      (tmp_one table t h call.Symlink path d.0 d.1) refl (target_is target d.2) refl
      (λ small. let two = and_parts (is_bytes target) (is_bytes path) small in (two.1, link_leads table t h target two.0)) (λ full. full))
  grounds (Rename old new) c d =
      on_rename table t h (Rename old new) old new d.old d.new d.node c d.two (λ small. (and_parts (is_bytes old) (is_bytes new) small).1)
      d.moves
  grounds (Link old new) c d = subst (Grounds table t h (Link old new)) (sym d.is)
      (on_link table t h (Link old new) old new d.old d.new d.node d.two d.no_dir d.free d.near
      (λ small. (and_parts (is_bytes old) (is_bytes new) small).1) (λ full. full))
  grounds (Pledge p x) c d = subst (Grounds table t h (Pledge p x)) (sym d.is) tt
  grounds (Unveil path perms) c d = subst (Grounds table t h (Unveil path perms)) (sym d.is) (d.promised, d.unlocked)
  grounds Lock c d = subst (Grounds table t h Lock) (sym d.1) tt
  grounds (Fork new) c d = subst (Grounds table t h (Fork new)) (sym d.1) tt
  grounds Exit c d = subst (Grounds table t h Exit) (sym d) tt
  grounds (Uses sets) c d = subst (Grounds table t h (Uses sets)) (sym d.1) tt
  grounds (Hold number asked path) c d =
      subst (Grounds table t h (Hold number asked path)) (sym d.2) (filed (file_opened t asked (node_named d.0)) refl)
    where
      filed : (o : Option OpenFile) → file_opened t asked (node_named d.0) ≡ o → Grounds table t h (Hold number asked path) (filing number o)
      filed None is = tt
      filed (Some file) is = record { call = asked; path = path; object = d.0; on = d.1; opened = is }
  grounds (Close number) c d = subst (Grounds table t h (Close number)) (sym d.2) tt
  grounds (Fchdir number) c d = subst (Grounds table t h (Fchdir number)) (sym d.is) refl
  grounds (Chroot path) c d = subst (Grounds table t h (Chroot path)) (sym d.is) (rooted d.object)
    where
      rooted : (x : Found) → Grounds table t h (Chroot path) (rooting x)
      rooted (Whole dir way) = refl
      rooted (Slot dir name y) = tt
  grounds (Take number from theirs) c d = subst (Grounds table t h (Take number from theirs)) (sym d.1) refl
  grounds Comment c d = subst (Grounds table t h Comment) (sym d) tt

file_has_room : (o : Option OpenFile) (g : OpenFile → Decision) → ((file : OpenFile) → HasRoom (g file)) → HasRoom (if_named (ok_or o EBADF) g)
file_has_room (Some file) g has = has file
file_has_room None g has = λ e. cc

-- what another process has is asked for by a take alone
pub takes_ask : (table : CallTable) (t : Tree) (h : ProcessState) (action : Action) (number from theirs : ℕ) →
    decide table t h action ≡ Ok (TakeFile number from theirs) → action ≡ Take number from theirs
takes_ask table t h action number from theirs is =
    grounds table t h action (TakeFile number from theirs) (decisions_are_guarded table t h action (TakeFile number from theirs) is)

pub refusals_lack_no_room : RefusalsLackNoRoom
refusals_lack_no_room table t h (OnPath c path) = by (opening_of table h c path)
  where
    by : (o : Option Opening) → decide_by refusals table t (asker_past o (asker_of h)) (OnPath c path) ≢ Err (Failed ENOSPC)
    by None = promised_apart _ _ (object_has_room table t h c path (change_by table c))
    by (Some o) = opened_has_room table t h o.asks_veils c path (change_by table c)
refusals_lack_no_room table t h (Symlink target path) =
    promised_apart _ _ (checked_apart _ _ (path_apart target) (object_has_room table t h call.Symlink path (adding (link_node target))))
refusals_lack_no_room table t h (Rename old new) =
    pair_has_room table.whose table.rename t h ending.Dropped old new _ λ a b. rename_has_room t (asks_directory table.whose old new) a b (node_named a)
refusals_lack_no_room table t h (Link old new) = pair_has_room table.whose table.link t h ending.Dot old new _ λ a b. link_has_room t a b (node_named a)
refusals_lack_no_room table t h (Pledge promises execpromises) =
    checked_apart _ _ (if_apart (is_unknown promises || is_unknown execpromises) EINVAL (λ e. cc))
    (checked_apart _ _ (none_or _ EPERM (λ e. cc)) (granted_apart _))
refusals_lack_no_room table t h (Unveil path perms) =
    promised_apart _ _ (checked_apart _ _ (if_apart (is_locked h) EPERM (λ e. cc)) (veil_has_room table.whose t h path perms))
refusals_lack_no_room table t h Lock = promised_apart _ _ (granted_apart _)
refusals_lack_no_room table t h (Fork new) = promised_apart _ _ (granted_apart _)
refusals_lack_no_room table t h Exit = granted_apart _
refusals_lack_no_room table t h (Uses sets) = promised_apart _ _ (granted_apart _)
refusals_lack_no_room table t h (Hold number c path) = by (opening_of table h c path)
  where
    by : (o : Option Opening) → decide_by refusals table t (asker_past o (asker_of h)) (Hold number c path) ≢ Err (Failed ENOSPC)
    by None = promised_apart _ _ (object_has_room table t h c path (holding t number c))
    by (Some o) = opened_has_room table t h o.asks_veils c path (holding t number c)
refusals_lack_no_room table t h (Close number) = file_has_room (file_at h.files number) _ (λ file. granted_apart _)
refusals_lack_no_room table t h (Fchdir number) = file_has_room (file_at h.files number) _ λ file.
    checked_apart _ _ (if_apart (not (is_directory file)) ENOTDIR (λ e. cc)) (granted_apart _)
refusals_lack_no_room table t h (Chroot path) = promised_apart _ _ (object_has_room table t h call.Chdir path rooting)
refusals_lack_no_room table t h (Take number from theirs) = promised_apart _ _ (granted_apart _)
refusals_lack_no_room table t h Comment = granted_apart _
