-- One request in three worlds, of which the middle one lacks of the last only what the first lacks too.
use Rattle.std.proofs.Common.{◌≡◌, ℕ, List, [], ◌∷◌, refl, sym, ap, ◌∙◌, Bool, true, false, cond, ◌||◌, ◌⊎◌, inl, inr, subst, length, suc}
use Rattle.std.proofs.lemmas.Bool.{false≢true}
use Rattle.std.specs.Prelude.{Option, Some, None, Result, Ok, Err, IsTrue, nat_eq, nat_le, not, is_some, bit_and, ◌&&◌}
use Rattle.std.specs.Map.{lookup}
use Rattle.pua_tree.specs.Tree.{Tree}
use Rattle.pua_tree.specs.Edits.{add, tie, cut, shift}
use Rattle.pua_tree.specs.declared.fault.TreeFault.{TreeFault}
use Rattle.pua_path.specs.declared.errno.Errno.{Errno}
use Rattle.pua_path.specs.declared.errno.Errno.TheVariants.{EAGAIN, EBADF, EINVAL, EPERM}
use Rattle.pua_path.specs.declared.found.Found.{Found}
use Rattle.pua_path.specs.declared.found.Start.{Start}
use Rattle.pua_path.specs.declared.found.Last.TheVariants.{Followed}
use Rattle.pua_path.specs.declared.text.Ending.TheVariants as ending
use Rattle.pua_calls.specs.Promises.{holds, recvfd, sendfd}
use Rattle.pua_calls.specs.Calls.{CallTable}
use Rattle.pua_policy.specs.States.{ProcessState, Pledged, Unveiled, Ended, Filed, file_at, held_set, is_directory, is_pledged, may_any}
use Rattle.pua_policy.specs.Verdict.{refusal_of}
use Rattle.pua_policy.specs.declared.open_file.OpenFile.{OpenFile}
use Rattle.pua_policy.proofs.ForCallers.{holds_through}
use Rattle.pua_policy.specs.Verdict.{place_of}
use Rattle.pua_tight.proofs.Within.{held_within}
use Rattle.pua_policy.specs.declared.place.Place.{Place}
use Rattle.pua_script.specs.Limits.{most_processes}
use Rattle.pua_script.specs.Requests.{Asked}
use Rattle.pua_script.specs.Family.{is_okay}
use Rattle.pua_script.specs.Decide.{Change, NoChange, AddNode, CutRow, ShiftRow, TieRow, BeginProgram, AddEvent, CopyAs, TakeFile, Decision, decide, decide_by, refusals}
use Rattle.pua_script.specs.Decide.{on_named, path_named, unless_refused}
use Rattle.pua_script.specs.Replay.{World, put_at, Effect, Fails, Kills, Leaves, Copies, edit_effect, edited_tree, change_effect}
use Rattle.pua_script.specs.Replay.{sent_by, sent_of, take_effect}
use Rattle.pua_script.proofs.ForCallers.{takes_ask}
use Rattle.pua_script.specs.Replay.{refusal_effect, come_of, answer_to, left_by, do_decided, answer_and_world, apply}
use Rattle.pua_script.specs.declared.request.Given.{Given}
use Rattle.pua_script.specs.declared.request.Given.TheVariants.{Null, Good, Unknown}
use Rattle.pua_script.specs.declared.request.Action.{Action}
use Rattle.pua_script.specs.declared.request.Action.TheVariants.{Pledge, Unveil, Take}
use Rattle.pua_policy.specs.declared.answer.May.{May}
use Rattle.pua_policy.specs.declared.answer.May.TheVariants as may
use Rattle.pua_tree.proofs.ForCallers.{same_Some}
use Rattle.pua_script.specs.declared.answer.Answer.{Answer}
use Rattle.pua_tight.specs.Narrower.{StateWithin, ProcessesWithin, WorldWithin, ActionWithin, as_given, less_pledged, less_unveiled}
use Rattle.pua_tight.proofs.Sets.{three_bools}
use Rattle.pua_tight.proofs.Decided.{free, freely}
use Rattle.pua_tight.proofs.Worlds.{FoundWithin, never, made, found_within, answered_alike, alike_within, not_okay, request_keeps, gone_or}
use Rattle.pua_tight.proofs.Worlds.{pledged_alike, sends_alike, told_of, told_is}
use Rattle.pua_tight.proofs.Minimal.{same_refusal, told_apart}
use Rattle.pua_tight.proofs.ThreeProcesses.{SetThree, three_unset, three_some, StateThree, held_three, has_both, pledged_three, unveiled_three, after_three, exec_three}
use Rattle.pua_tight.proofs.MiddleDecision.{refused}
use Rattle.pua_tight.proofs.MiddleWorldAnswers.{Rests, agrees}

pub data ProcessesThree : ℕ → List (ℕ × ProcessState) → List (ℕ × ProcessState) → List (ℕ × ProcessState) → Type 0 where
  three_nobody : {kept : ℕ} → ProcessesThree kept [] [] []
  three_somebody : {kept process : ℕ} {l m s : ProcessState} {ls ms ss : List (ℕ × ProcessState)} → StateThree kept l m s →
      ProcessesThree kept ls ms ss → ProcessesThree kept ((process, l) ∷ ls) ((process, m) ∷ ms) ((process, s) ∷ ss)

-- one tree in the first two, and such processes of the same numbers in one order
pub record HasShared (kept : ℕ) (a b c : World) : Type 0 where
  pub tree : a.tree ≡ b.tree
  pub processes : ProcessesThree kept a.processes b.processes c.processes

pub record WorldThree (kept : ℕ) (a b c : World) : Type 0 where
  pub later : WorldWithin b c
  pub shared : HasShared kept a b c

-- requests of the same kind
pub data GivenThree : ℕ → Given → Given → Given → Type 0 where
  null_three : {kept : ℕ} → GivenThree kept Null Null Null
  unknown_three : {kept : ℕ} → GivenThree kept Unknown Unknown Unknown
  good_three : {kept a b c : ℕ} → IsTrue (holds b (bit_and c a)) → bit_and a kept ≡ bit_and c kept → GivenThree kept (Good a) (Good b) (Good c)

pub data ActionThree : ℕ → Action → Action → Action → Type 0 where
  same_three : {kept : ℕ} {a : Action} → ActionThree kept a a a
  pledge_three : {kept : ℕ} {p q r e f g : Given} → GivenThree kept p q r → GivenThree kept e f g →
      ActionThree kept (Pledge p e) (Pledge q f) (Pledge r g)
  unveil_three : {kept : ℕ} {path : List ℕ} {a b c : ℕ} → IsTrue (holds b (bit_and c a)) → ActionThree kept (Unveil path (Some a)) (Unveil path (Some b)) (Unveil path (Some c))

data ChangeThree : ℕ → Change → Change → Change → Type 0 where
  alike_three : {kept : ℕ} {c : Change} → ChangeThree kept c c c
  pledges_three : {kept : ℕ} {p q r e f g : Option ℕ} → SetThree kept p q r → SetThree kept e f g →
      ChangeThree kept (AddEvent (Pledged p e)) (AddEvent (Pledged q f)) (AddEvent (Pledged r g))
  unveils_three : {kept : ℕ} {place : Place} {a b c : ℕ} → IsTrue (holds b (bit_and c a)) →
      ChangeThree kept (AddEvent (Unveiled place a)) (AddEvent (Unveiled place b)) (AddEvent (Unveiled place c))

abbrev Granted : Change → Decision
Granted c = Ok c

is_ok : (c d : Change) → Granted c ≡ Granted d → c ≡ d
is_ok c d e = cc

by_ok : (kept : ℕ) (x y z c d e : Change) → ChangeThree kept x y z → Granted x ≡ Granted c → Granted y ≡ Granted d → Granted z ≡ Granted e →
    ChangeThree kept c d e
by_ok kept x y z c d e w p q r = subst (λ v. ChangeThree kept v d e) (is_ok x c p)
    (subst (λ v. ChangeThree kept x v e) (is_ok y d q) (subst (ChangeThree kept x y) (is_ok z e r) w))

module _ (kept : ℕ) (table : CallTable) (t : Tree) (l m s : ProcessState) (w : StateThree kept l m s) (later : StateWithin m s) (c d e : Change) where
  same_change : (action : Action) → decide table t l action ≡ Ok c → decide table t m action ≡ Ok d → decide table t s action ≡ Ok e →
      ChangeThree kept c d e
  same_change action p q r =
      let done : Start → List (ℕ × OpenFile) → Decision = λ from files. decide_by refusals table t (free from files) action in
      let one : done l.start l.files ≡ Ok c = freely table t l action c p in
      let two : done m.start m.files ≡ Ok d = freely table t m action d q in
      let three : done s.start s.files ≡ Ok e = freely table t s action e r in
      by_ok kept c c c c d e alike_three refl (sym one ∙ (λ i. done (w.start i) (w.files i)) ∙ two)
      (sym one ∙ (λ i. done ((w.start ∙ later.start) i) ((w.files ∙ later.files) i)) ∙ three)

  veil_change : (a b g : ℕ) → holds b (bit_and g a) ≡ true → (r : Result Found Errno) →
      on_named refusals.failed r (λ object. Granted (AddEvent (Unveiled (place_of object) a))) ≡ Ok c →
      on_named refusals.failed r (λ object. Granted (AddEvent (Unveiled (place_of object) b))) ≡ Ok d →
      on_named refusals.failed r (λ object. Granted (AddEvent (Unveiled (place_of object) g))) ≡ Ok e → ChangeThree kept c d e
  veil_change a b g has (Ok object) p q r = by_ok kept (AddEvent (Unveiled (place_of object) a)) (AddEvent (Unveiled (place_of object) b))
      (AddEvent (Unveiled (place_of object) g)) c d e (unveils_three has) p q r
  veil_change a b g has (Err v) p q r = cc

  pledge_change : {p q r x y z : Given} → GivenThree kept p q r → GivenThree kept x y z →
      decide_by refusals table t (free l.start l.files) (Pledge p x) ≡ Ok c → decide_by refusals table t (free m.start m.files) (Pledge q y) ≡ Ok d →
      decide_by refusals table t (free s.start s.files) (Pledge r z) ≡ Ok e → ChangeThree kept c d e
  pledge_change null_three null_three i j k = by_ok kept _ _ _ c d e (pledges_three three_unset three_unset) i j k
  pledge_change null_three (good_three a b) i j k = by_ok kept _ _ _ c d e (pledges_three three_unset (three_some a b)) i j k
  pledge_change (good_three a b) null_three i j k = by_ok kept _ _ _ c d e (pledges_three (three_some a b) three_unset) i j k
  pledge_change (good_three a b) (good_three g h) i j k = by_ok kept _ _ _ c d e (pledges_three (three_some a b) (three_some g h)) i j k
  pledge_change unknown_three other i j k = cc
  pledge_change null_three unknown_three i j k = cc
  pledge_change (good_three a b) unknown_three i j k = cc

  change_three : {x y z : Action} → ActionThree kept x y z → decide table t l x ≡ Ok c → decide table t m y ≡ Ok d → decide table t s z ≡ Ok e →
      ChangeThree kept c d e
  change_three (same_three {a = action}) p q r = same_change action p q r
  change_three (pledge_three {p = a} {q = b} {r = g} {e = x} {f = y} {g = z} first second) p q r =
      pledge_change first second (freely table t l (Pledge a x) c p) (freely table t m (Pledge b y) d q) (freely table t s (Pledge g z) e r)
  change_three (unveil_three {path = path} {a = a} {b = b} {c = g} has) p q r =
      let done : ℕ → Start → Decision = λ n from. on_named refusals.failed (path_named table.whose t from ending.Dot path Followed)
      (λ object. Granted (AddEvent (Unveiled (place_of object) n))) in
      veil_change a b g has (path_named table.whose t s.start ending.Dot path Followed)
      (ap (done a) (sym (w.start ∙ later.start)) ∙ freely table t l (Unveil path (Some a)) c p)
      (ap (done b) (sym later.start) ∙ freely table t m (Unveil path (Some b)) d q) (freely table t s (Unveil path (Some g)) e r)

data EffectThree : ℕ → Effect → Effect → Effect → Type 0 where
  fails3 : {kept : ℕ} {v : Errno} → EffectThree kept (Fails v) (Fails v) (Fails v)
  leaves3 : {kept : ℕ} {t : Tree} {l m s : ProcessState} → StateThree kept l m s → EffectThree kept (Leaves t l) (Leaves t m) (Leaves t s)
  copies3 : {kept : ℕ} {new : ℕ} → EffectThree kept (Copies new) (Copies new) (Copies new)

data FoundThree : ℕ → Option ProcessState → Option ProcessState → Option ProcessState → Type 0 where
  never3 : {kept : ℕ} → FoundThree kept None None None
  made3 : {kept : ℕ} {l m s : ProcessState} → StateThree kept l m s → FoundThree kept (Some l) (Some m) (Some s)

found_three : {kept : ℕ} {ls ms ss : List (ℕ × ProcessState)} → ProcessesThree kept ls ms ss → (n : ℕ) →
    FoundThree kept (lookup (nat_eq n) ls) (lookup (nat_eq n) ms) (lookup (nat_eq n) ss)
found_three three_nobody n = never3
found_three {kept = kept} (three_somebody {process = process} {l = l} {m = m} {s = s} {ls = ls} {ms = ms} {ss = ss} w rest) n =
    by (nat_eq n process) (found_three rest n)
  where
    by : (b : Bool) → FoundThree kept (lookup (nat_eq n) ls) (lookup (nat_eq n) ms) (lookup (nat_eq n) ss) →
        FoundThree kept (cond b (Some l) (lookup (nat_eq n) ls)) (cond b (Some m) (lookup (nat_eq n) ms)) (cond b (Some s) (lookup (nat_eq n) ss))
    by true further = made3 w
    by false further = further

made_three : {kept : ℕ} {o p q : Option ProcessState} → FoundThree kept o p q → (is_some o ≡ is_some p) × (is_some p ≡ is_some q)
made_three never3 = (refl, refl)
made_three (made3 w) = (refl, refl)

many_three : {kept : ℕ} {ls ms ss : List (ℕ × ProcessState)} → ProcessesThree kept ls ms ss → (length ls ≡ length ms) × (length ms ≡ length ss)
many_three three_nobody = (refl, refl)
many_three (three_somebody w rest) = (ap suc (many_three rest).0, ap suc (many_three rest).1)

put_three : (n : ℕ) {kept : ℕ} {l m s : ProcessState} → StateThree kept l m s → {ls ms ss : List (ℕ × ProcessState)} →
    ProcessesThree kept ls ms ss → ProcessesThree kept (put_at n l ls) (put_at n m ms) (put_at n s ss)
put_three n w three_nobody = three_somebody w three_nobody
put_three n {kept = kept} {l = l} {m = m} {s = s} w (three_somebody {process = process} {l = a} {m = b} {s = c} {ls = ls} {ms = ms} {ss = ss} first rest) =
    by (nat_eq n process) (put_three n w rest)
  where
    by : (x : Bool) → ProcessesThree kept (put_at n l ls) (put_at n m ms) (put_at n s ss) →
        ProcessesThree kept (cond x ((process, l) ∷ ls) ((process, a) ∷ put_at n l ls)) (cond x ((process, m) ∷ ms) ((process, b) ∷ put_at n m ms))
        (cond x ((process, s) ∷ ss) ((process, c) ∷ put_at n s ss))
    by true further = three_somebody w rest
    by false further = three_somebody first further

-- a request of which less was asked for takes the same of another process
taken_too : {y x : Action} → ActionWithin y x → (number from theirs : ℕ) → x ≡ Take number from theirs → y ≡ Take number from theirs
taken_too as_given number from theirs e = e
taken_too (less_pledged p q) number from theirs e = cc
taken_too (less_unveiled less) number from theirs e = cc

taken_from : {y x : Action} → ActionWithin y x → (number from theirs : ℕ) → y ≡ Take number from theirs → x ≡ Take number from theirs
taken_from as_given number from theirs e = e
taken_from (less_pledged p q) number from theirs e = cc
taken_from (less_unveiled less) number from theirs e = cc

taken_same : (table : CallTable) (t : Tree) (l : ProcessState) {y x : Action} → ActionWithin y x → (c : Change) (number from theirs : ℕ) →
    decide table t l x ≡ Ok c → y ≡ Take number from theirs → c ≡ TakeFile number from theirs
taken_same table t l less c number from theirs p is =
    granted (may_any l (recvfd ∷ [])) (ap (decide table t l) (sym (taken_from less number from theirs is)) ∙ p)
  where
    granted : (m : May) → unless_refused (refusal_of m) (Granted (TakeFile number from theirs)) ≡ Granted c → c ≡ TakeFile number from theirs
    granted may.Yes e = sym (is_ok (TakeFile number from theirs) c e)
    granted may.Enosys e = cc
    granted may.Death e = cc

-- which file was sent, and by whom alike
sent_at : (pledged : Bool) (g : ProcessState) (theirs : ℕ) (x : OpenFile) → sent_by pledged (Some g) theirs ≡ Ok x → file_at g.files theirs ≡ Some x
sent_at pledged g theirs x e = by g.ended (file_at g.files theirs) e
  where
    checked : (a b : Bool) (file : OpenFile) → cond {A = Result OpenFile Errno} (not a) (Err EPERM) (cond b (Err EINVAL) (Ok file)) ≡ Ok x →
        Some file ≡ Some x
    checked false b file e = cc
    checked true true file e = cc
    checked true false file e = cc

    by : (a : Bool) (f : Option OpenFile) → cond {A = Result OpenFile Errno} a (Err EBADF) (sent_of pledged g f) ≡ Ok x → f ≡ Some x
    by true f e = cc
    by false None e = cc
    by false (Some file) e = checked (holds (held_set g) sendfd) (is_directory file && (pledged || is_pledged g)) file e

given_three : {kept : ℕ} {p q r : Option ℕ} → SetThree kept p q r → is_some p ≡ is_some q
given_three three_unset = refl
given_three (three_some has same) = refl

pledged_outer : {kept : ℕ} {l m s : ProcessState} → StateThree kept l m s → is_pledged l ≡ is_pledged m
pledged_outer w = given_three w.promises

between3 : {kept : ℕ} (pledged : Bool) (theirs : ℕ) {o p q : Option ProcessState} → FoundThree kept o p q → FoundWithin p q →
    (sent_by pledged p theirs ≡ sent_by pledged o theirs) ⊎ (sent_by pledged p theirs ≡ sent_by pledged q theirs)
between3 pledged theirs never3 never = inl refl
between3 pledged theirs (made3 {l = g} {m = h} {s = k} v) (made u) =
    by (holds (held_set g) sendfd) (holds (held_set h) sendfd) (holds (held_set k) sendfd) refl refl refl
  where
    by : (a b c : Bool) → holds (held_set g) sendfd ≡ a → holds (held_set h) sendfd ≡ b → holds (held_set k) sendfd ≡ c →
        (sent_by pledged (Some h) theirs ≡ sent_by pledged (Some g) theirs) ⊎ (sent_by pledged (Some h) theirs ≡ sent_by pledged (Some k) theirs)
    by a true c p q s = inr (sends_alike pledged theirs h k u.ended u.files (pledged_alike u)
        (q ∙ sym (holds_through (held_set k) (held_set h) sendfd (held_within u) q)))
    by false false c p q s = inl (sends_alike pledged theirs h g (sym v.ended) (sym v.files) (sym (pledged_outer v)) (q ∙ sym p))
    by true false true p q s =
        absurd (false≢true (sym q ∙ has_both (held_set g) (held_set h) (held_set k) sendfd (held_three v) s p))
    by true false false p q s = inr (sends_alike pledged theirs h k u.ended u.files (pledged_alike u) (q ∙ sym s))

module _ (kept : ℕ) (t : Tree) (ls ms ss : List (ℕ × ProcessState)) (all : ProcessesThree kept ls ms ss) (laters : ProcessesWithin ms ss) where
  abbrev wl : World
  wl = record { tree = t; processes = ls }

  abbrev wm : World
  wm = record { tree = t; processes = ms }

  abbrev ws : World
  ws = record { tree = t; processes = ss }

  same_worlds : HasShared kept wl wm ws
  same_worlds = record { tree = refl; processes = all }

  module _ (l m s : ProcessState) (w : StateThree kept l m s) (later : StateWithin m s) where
    edited : (r : Result (ℕ × Tree) TreeFault) → EffectThree kept (edit_effect l r) (edit_effect m r) (edit_effect s r)
    edited (Ok result) = leaves3 w
    edited (Err fault) = fails3

    retied : (r : Result Tree TreeFault) → EffectThree kept (edited_tree l r) (edited_tree m r) (edited_tree s r)
    retied (Ok u) = leaves3 w
    retied (Err fault) = fails3

    -- the files that were sent to the three are one
    sent_three : (from theirs : ℕ) (x y z : OpenFile) → sent_by (is_pledged l) (lookup (nat_eq from) ls) theirs ≡ Ok x →
        sent_by (is_pledged m) (lookup (nat_eq from) ms) theirs ≡ Ok y → sent_by (is_pledged s) (lookup (nat_eq from) ss) theirs ≡ Ok z →
        (x ≡ y) × (y ≡ z)
    sent_three from theirs x y z = by (found_three all from) (found_within laters from)
      where
        by : {o p q : Option ProcessState} → FoundThree kept o p q → FoundWithin p q → sent_by (is_pledged l) o theirs ≡ Ok x →
            sent_by (is_pledged m) p theirs ≡ Ok y → sent_by (is_pledged s) q theirs ≡ Ok z → (x ≡ y) × (y ≡ z)
        by never3 never a b c = cc
        by (made3 {l = g} {m = h} {s = k} v) (made u) a b c =
            let one = sent_at (is_pledged l) g theirs x a in
            let two = sent_at (is_pledged m) h theirs y b in
            let three = sent_at (is_pledged s) k theirs z c in (
              same_Some x y (sym one ∙ ap (λ files. file_at files theirs) v.files ∙ two),
              same_Some y z (sym two ∙ ap (λ files. file_at files theirs) u.files ∙ three),
            )

    took_three : (number from theirs : ℕ) (a b c : Result OpenFile Errno) → sent_by (is_pledged l) (lookup (nat_eq from) ls) theirs ≡ a →
        sent_by (is_pledged m) (lookup (nat_eq from) ms) theirs ≡ b → sent_by (is_pledged s) (lookup (nat_eq from) ss) theirs ≡ c →
        answer_to (take_effect wl l number a) ≡ answer_to (take_effect wm m number b) →
        answer_to (take_effect wm m number b) ≡ answer_to (take_effect ws s number c) → is_okay (answer_to (take_effect wl l number a)) ≡ true →
        EffectThree kept (take_effect wl l number a) (take_effect wm m number b) (take_effect ws s number c)
    took_three number from theirs (Err x) b c p q r i j okay = absurd (false≢true okay)
    took_three number from theirs (Ok x) (Err y) c p q r i j okay = cc
    took_three number from theirs (Ok x) (Ok y) (Err z) p q r i j okay = cc
    took_three number from theirs (Ok x) (Ok y) (Ok z) p q r i j okay =
        let same = sent_three from theirs x y z p q r in
        subst (λ v. EffectThree kept (take_effect wl l number (Ok x)) (take_effect wm m number (Ok v)) (take_effect ws s number (Ok z))) same.0
        (subst (λ v. EffectThree kept (take_effect wl l number (Ok x)) (take_effect wm m number (Ok x)) (take_effect ws s number (Ok v)))
        (same.0 ∙ same.1) (leaves3 (after_three (Filed number (Some x)) w)))

    alike_effect : (c : Change) → answer_to (change_effect wl l c) ≡ answer_to (change_effect wm m c) →
        answer_to (change_effect wm m c) ≡ answer_to (change_effect ws s c) → is_okay (answer_to (change_effect wl l c)) ≡ true →
        EffectThree kept (change_effect wl l c) (change_effect wm m c) (change_effect ws s c)
    alike_effect NoChange i j okay = leaves3 w
    alike_effect (AddNode spot node) i j okay = edited (add t spot.0 spot.1 node)
    alike_effect (CutRow spot) i j okay = edited (cut t spot.0 spot.1)
    alike_effect (ShiftRow old new) i j okay = retied (shift t old.0 old.1 new.0 new.1)
    alike_effect (TieRow spot x) i j okay = retied (tie t spot.0 spot.1 x)
    alike_effect (BeginProgram left) i j okay = leaves3 (exec_three left w)
    alike_effect (AddEvent event) i j okay = leaves3 (after_three event w)
    alike_effect (TakeFile number from theirs) i j okay = took_three number from theirs (sent_by (is_pledged l) (lookup (nat_eq from) ls) theirs)
        (sent_by (is_pledged m) (lookup (nat_eq from) ms) theirs) (sent_by (is_pledged s) (lookup (nat_eq from) ss) theirs) refl refl refl i j okay
    alike_effect (CopyAs new) i j okay =
        let found = made_three (found_three all new) in
        let many = many_three all in
        three_bools
        (λ a b c. EffectThree kept (cond a (Fails EAGAIN) (Copies new)) (cond b (Fails EAGAIN) (Copies new)) (cond c (Fails EAGAIN) (Copies new)))
        fails3 copies3 _ _ _ (λ i. found.0 i || nat_le most_processes (many.0 i)) (λ i. found.1 i || nat_le most_processes (many.1 i))

    effect_three : {c d e : Change} → ChangeThree kept c d e → answer_to (change_effect wl l c) ≡ answer_to (change_effect wm m d) →
        answer_to (change_effect wm m d) ≡ answer_to (change_effect ws s e) → is_okay (answer_to (change_effect wl l c)) ≡ true →
        EffectThree kept (change_effect wl l c) (change_effect wm m d) (change_effect ws s e)
    effect_three (alike_three {c = c}) i j okay = alike_effect c i j okay
    effect_three (pledges_three p e) i j okay = leaves3 (pledged_three p e w)
    effect_three (unveils_three {place = place} {a = a} {b = b} {c = c} has) i j okay = leaves3 (unveiled_three place a b c has w)

    left_three : (n : ℕ) {e f g : Effect} → EffectThree kept e f g → HasShared kept (left_by wl n l e) (left_by wm n m f) (left_by ws n s g)
    left_three n fails3 = same_worlds
    left_three n (leaves3 v) = record { tree = refl; processes = put_three n v all }
    left_three n (copies3 {new = new}) = record { tree = refl; processes = put_three new w all }

    left_alike : (n : ℕ) (e f g : Effect) → answer_to e ≡ answer_to f → answer_to f ≡ answer_to g → (is_okay (answer_to e) ≡ true → EffectThree kept e f g) →
        HasShared kept (left_by wl n l e) (left_by wm n m f) (left_by ws n s g)
    left_alike n (Fails x) (Fails y) (Fails z) p q okay = same_worlds
    left_alike n (Fails x) (Fails y) Kills p q okay = cc
    left_alike n (Fails x) (Fails y) (Leaves u h) p q okay = cc
    left_alike n (Fails x) (Fails y) (Copies new) p q okay = cc
    left_alike n (Fails x) Kills g p q okay = cc
    left_alike n (Fails x) (Leaves u h) g p q okay = cc
    left_alike n (Fails x) (Copies new) g p q okay = cc
    left_alike n Kills Kills Kills p q okay =
        record { tree = refl; processes = put_three n (after_three Ended w) all }
    left_alike n Kills Kills (Fails z) p q okay = cc
    left_alike n Kills Kills (Leaves u h) p q okay = cc
    left_alike n Kills Kills (Copies new) p q okay = cc
    left_alike n Kills (Fails y) g p q okay = cc
    left_alike n Kills (Leaves u h) g p q okay = cc
    left_alike n Kills (Copies new) g p q okay = cc
    left_alike n (Leaves v h) f g p q okay = left_three n (okay refl)
    left_alike n (Copies new) f g p q okay = left_three n (okay refl)

    module _ (table : CallTable) (x y z : Action) (kind : ActionThree kept x y z) where
      decided : (n : ℕ) → answer_to (come_of wl l (decide table t l x)) ≡ answer_to (come_of wm m (decide table t m y)) →
          answer_to (come_of wm m (decide table t m y)) ≡ answer_to (come_of ws s (decide table t s z)) →
          HasShared kept (left_by wl n l (come_of wl l (decide table t l x))) (left_by wm n m (come_of wm m (decide table t m y)))
          (left_by ws n s (come_of ws s (decide table t s z)))
      decided n = by (decide table t l x) (decide table t m y) (decide table t s z) refl refl refl
        where
          by : (d f g : Decision) → decide table t l x ≡ d → decide table t m y ≡ f → decide table t s z ≡ g →
              answer_to (come_of wl l d) ≡ answer_to (come_of wm m f) → answer_to (come_of wm m f) ≡ answer_to (come_of ws s g) →
              HasShared kept (left_by wl n l (come_of wl l d)) (left_by wm n m (come_of wm m f)) (left_by ws n s (come_of ws s g))
          by (Ok c) (Ok d) (Ok e) i j k p q = left_alike n (change_effect wl l c) (change_effect wm m d) (change_effect ws s e) p q
              (effect_three (change_three kept table t l m s w later c d e kind i j k) p q)
          by (Ok c) (Ok d) (Err r) i j k p q = left_alike n (change_effect wl l c) (change_effect wm m d) (refusal_effect r) p q
              (λ okay. not_okay r (ap is_okay (sym (p ∙ q)) ∙ okay))
          by (Ok c) (Err r) g i j k p q = left_alike n (change_effect wl l c) (refusal_effect r) (come_of ws s g) p q
              (λ okay. not_okay r (ap is_okay (sym p) ∙ okay))
          by (Err r) f g i j k p q = left_alike n (refusal_effect r) (come_of wm m f) (come_of ws s g) p q (λ okay. not_okay r okay)

    -- the middle one answers as the last one does, where the first one, which asks for no less, does
    module _ (table : CallTable) (x y : Action) (one : Rests kept table y) (less : ActionWithin y x) where
      -- what is taken: the one in the middle sends as the first one or the last one
      took_alike : (number from theirs : ℕ) → answer_to (change_effect wl l (TakeFile number from theirs))
          ≡ answer_to (change_effect ws s (TakeFile number from theirs)) →
          answer_to (change_effect wm m (TakeFile number from theirs)) ≡ answer_to (change_effect ws s (TakeFile number from theirs))
      took_alike number from theirs e = middle ∙ by (between3 (is_pledged s) theirs (found_three all from) (found_within laters from)) ∙ sym last
        where
          sent : List (ℕ × ProcessState) → Result OpenFile Errno
          sent ps = sent_by (is_pledged s) (lookup (nat_eq from) ps) theirs

          first : answer_to (change_effect wl l (TakeFile number from theirs)) ≡ told_of (sent ls)
          first = told_is wl l number (sent_by (is_pledged l) (lookup (nat_eq from) ls) theirs)
              ∙ ap (λ p. told_of (sent_by p (lookup (nat_eq from) ls) theirs)) (pledged_outer w ∙ pledged_alike later)

          middle : answer_to (change_effect wm m (TakeFile number from theirs)) ≡ told_of (sent ms)
          middle = told_is wm m number (sent_by (is_pledged m) (lookup (nat_eq from) ms) theirs)
              ∙ ap (λ p. told_of (sent_by p (lookup (nat_eq from) ms) theirs)) (pledged_alike later)

          last : answer_to (change_effect ws s (TakeFile number from theirs)) ≡ told_of (sent ss)
          last = told_is ws s number (sent ss)

          by : (sent ms ≡ sent ls) ⊎ (sent ms ≡ sent ss) → told_of (sent ms) ≡ told_of (sent ss)
          by (inl same) = ap told_of same ∙ sym first ∙ e ∙ last
          by (inr same) = ap told_of same

      same_effect : (c d : Change) → decide table t l x ≡ Ok c → decide table t s y ≡ Ok d →
          answer_to (change_effect wl l c) ≡ answer_to (change_effect ws s d) → answer_to (change_effect wm m d) ≡ answer_to (change_effect ws s d)
      same_effect c (TakeFile number from theirs) p q e = took_alike number from theirs
          (subst (λ c. answer_to (change_effect wl l c) ≡ answer_to (change_effect ws s (TakeFile number from theirs)))
          (taken_same table t l less c number from theirs p (takes_ask table t s y number from theirs q)) e)
      same_effect c NoChange p q e = answered_alike (alike_within t ms ss laters m s later NoChange refl)
      same_effect c (AddNode spot node) p q e = answered_alike (alike_within t ms ss laters m s later (AddNode spot node) refl)
      same_effect c (CutRow spot) p q e = answered_alike (alike_within t ms ss laters m s later (CutRow spot) refl)
      same_effect c (ShiftRow old new) p q e = answered_alike (alike_within t ms ss laters m s later (ShiftRow old new) refl)
      same_effect c (TieRow spot v) p q e = answered_alike (alike_within t ms ss laters m s later (TieRow spot v) refl)
      same_effect c (BeginProgram left) p q e = answered_alike (alike_within t ms ss laters m s later (BeginProgram left) refl)
      same_effect c (AddEvent event) p q e = answered_alike (alike_within t ms ss laters m s later (AddEvent event) refl)
      same_effect c (CopyAs new) p q e = answered_alike (alike_within t ms ss laters m s later (CopyAs new) refl)

      agreed : answer_to (come_of wl l (decide table t l x)) ≡ answer_to (come_of ws s (decide table t s y)) →
          answer_to (come_of wm m (decide table t m y)) ≡ answer_to (come_of ws s (decide table t s y))
      agreed = by (decide table t l x) (decide table t s y) refl refl
        where
          by : (d f : Decision) → decide table t l x ≡ d → decide table t s y ≡ f → answer_to (come_of wl l d) ≡ answer_to (come_of ws s f) →
              answer_to (come_of wm m (decide table t m y)) ≡ answer_to (come_of ws s f)
          by (Ok c) (Ok d) p q e = ap (λ z. answer_to (come_of wm m z)) (agrees kept table t l m s w later less one (ap refused p ∙ sym (ap refused q)) ∙ q)
              ∙ same_effect c d p q e
          by (Ok c) (Err r) p q e = absurd (told_apart table t wl l s x y c r p q (taken_too less) e)
          by (Err r) (Ok d) p q e = absurd (told_apart table t ws s l y x d r q p (taken_from less) (sym e))
          by (Err r) (Err v) p q e = ap (λ z. answer_to (come_of wm m z))
              (agrees kept table t l m s w later less one (ap refused p ∙ ap (λ z. Some z) (same_refusal r v e) ∙ sym (ap refused q)) ∙ q)

  left : (table : CallTable) (n : ℕ) (x y z : Action) → ActionThree kept x y z → {o p q : Option ProcessState} → FoundThree kept o p q → FoundWithin p q →
      (answer_and_world table wl (record { process = n; action = x }) o).0 ≡ (answer_and_world table wm (record { process = n; action = y }) p).0 →
      (answer_and_world table wm (record { process = n; action = y }) p).0 ≡ (answer_and_world table ws (record { process = n; action = z }) q).0 →
      HasShared kept (answer_and_world table wl (record { process = n; action = x }) o).1
      (answer_and_world table wm (record { process = n; action = y }) p).1 (answer_and_world table ws (record { process = n; action = z }) q).1
  left table n x y z kind never3 never e f = same_worlds
  left table n x y z kind (made3 {l = l} {m = m} {s = s} w) (made later) e f =
      three_bools (λ a b c. (gone_or a wl (done l wl x)).0 ≡ (gone_or b wm (done m wm y)).0 →
      (gone_or b wm (done m wm y)).0 ≡ (gone_or c ws (done s ws z)).0 →
      HasShared kept (gone_or a wl (done l wl x)).1 (gone_or b wm (done m wm y)).1 (gone_or c ws (done s ws z)).1)
      (λ _ _. same_worlds) (decided l m s w later table x y z kind n) l.ended m.ended s.ended w.ended later.ended e f
    where
      done : ProcessState → World → Action → Answer × World
      done h v action = do_decided v n h (decide table t h action)

  told : (table : CallTable) (n : ℕ) (x y : Action) → Rests kept table y → ActionWithin y x → {o p q : Option ProcessState} → FoundThree kept o p q → FoundWithin p q →
      (answer_and_world table wl (record { process = n; action = x }) o).0 ≡ (answer_and_world table ws (record { process = n; action = y }) q).0 →
      (answer_and_world table wm (record { process = n; action = y }) p).0 ≡ (answer_and_world table ws (record { process = n; action = y }) q).0
  told table n x y one less never3 never e = refl
  told table n x y one less (made3 {l = l} {m = m} {s = s} w) (made later) e =
      three_bools (λ a b c. (gone_or a wl (done l wl x)).0 ≡ (gone_or c ws (done s ws y)).0 →
      (gone_or b wm (done m wm y)).0 ≡ (gone_or c ws (done s ws y)).0)
      (λ _. refl) (agreed l m s w later table x y one less) l.ended m.ended s.ended w.ended later.ended e
    where
      done : ProcessState → World → Action → Answer × World
      done h v action = do_decided v n h (decide table t h action)

-- three requests of one process
pub step_three : (kept : ℕ) (table : CallTable) (a b c : World) → WorldThree kept a b c → (x y z : Asked) → y.process ≡ x.process →
    z.process ≡ x.process → ActionThree kept x.action y.action z.action → ActionWithin y.action z.action → (apply table a x).0 ≡ (apply table b y).0 →
    (apply table b y).0 ≡ (apply table c z).0 → WorldThree kept (apply table a x).1 (apply table b y).1 (apply table c z).1
step_three kept table a b c w x y z py pz kind less e f = record {
  later = request_keeps table b c y z w.later (record { process = py ∙ sym pz; action = less }) f;
  shared = subst (λ n. Goal b c (record { process = n; action = y.action }) z) (sym py)
      (subst (λ n. Goal b c (record { process = x.process; action = y.action }) (record { process = n; action = z.action })) (sym pz)
      (subst (λ u. Goal (record { tree = u; processes = b.processes }) c (record { process = x.process; action = y.action })
      (record { process = x.process; action = z.action })) w.shared.tree
      (subst (λ u. Goal (record { tree = a.tree; processes = b.processes }) (record { tree = u; processes = c.processes })
      (record { process = x.process; action = y.action }) (record { process = x.process; action = z.action })) (w.shared.tree ∙ w.later.tree)
      (left kept a.tree a.processes b.processes c.processes w.shared.processes w.later.processes table x.process x.action y.action z.action kind
      (found_three w.shared.processes x.process) (found_within w.later.processes x.process))))) e f;
}
  where
    Goal : World → World → Asked → Asked → Type 0
    Goal v u p q = (apply table a x).0 ≡ (apply table v p).0 → (apply table v p).0 ≡ (apply table u q).0 →
        HasShared kept (apply table a x).1 (apply table v p).1 (apply table u q).1

pub agree_three : (kept : ℕ) (table : CallTable) (a b c : World) → WorldThree kept a b c → (x y : Asked) → Rests kept table y.action →
    y.process ≡ x.process → ActionWithin y.action x.action → (apply table a x).0 ≡ (apply table c y).0 → (apply table b y).0 ≡ (apply table c y).0
agree_three kept table a b c w x y one py less =
    subst (λ n. Goal b c (record { process = n; action = y.action })) (sym py)
    (subst (λ u. Goal (record { tree = u; processes = b.processes }) c (record { process = x.process; action = y.action })) w.shared.tree
    (subst (λ u. Goal (record { tree = a.tree; processes = b.processes }) (record { tree = u; processes = c.processes })
    (record { process = x.process; action = y.action })) (w.shared.tree ∙ w.later.tree)
    (told kept a.tree a.processes b.processes c.processes w.shared.processes w.later.processes table x.process x.action y.action one less
    (found_three w.shared.processes x.process) (found_within w.later.processes x.process))))
  where
    Goal : World → World → Asked → Type 0
    Goal v u p = (apply table a x).0 ≡ (apply table u p).0 → (apply table v p).0 ≡ (apply table u p).0
