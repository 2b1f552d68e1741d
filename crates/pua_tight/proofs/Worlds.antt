-- One request, and then a script, in two worlds of which one lies within the other.
use Rattle.std.proofs.Common.{◌≡◌, ℕ, List, [], ◌∷◌, refl, sym, ap, ◌∙◌, Bool, true, false, cond, ◌||◌, ◌&&◌, ◌⊎◌, inl, inr, subst, length, suc}
use Rattle.std.proofs.lemmas.Bool.{false≢true, true≢false}
use Rattle.std.specs.Prelude.{Option, Some, None, Result, Ok, Err, nat_eq, nat_le, is_some, not}
use Rattle.std.specs.Map.{lookup}
use Rattle.pua_tree.specs.Tree.{Tree}
use Rattle.pua_tree.specs.Edits.{add, tie, cut, shift}
use Rattle.pua_tree.specs.declared.fault.TreeFault.{TreeFault}
use Rattle.pua_path.specs.declared.errno.Errno.TheVariants.{EAGAIN, EBADF, EINVAL, EPERM}
use Rattle.pua_path.specs.declared.errno.Errno.{Errno}
use Rattle.pua_path.specs.declared.found.Found.{Found}
use Rattle.pua_calls.specs.Calls.{CallTable, rule_of, ending_of, last_of}
use Rattle.pua_path.specs.Resolution.{resolution_of_text}
use Rattle.pua_calls.specs.declared.call.Call.{Call}
use Rattle.pua_calls.specs.Promises.{holds, sendfd}
use Rattle.pua_policy.specs.States.{ProcessState, Ended, Filed, file_at, held_set, is_directory, is_pledged, start, may_any}
use Rattle.pua_policy.specs.declared.open_file.OpenFile.{OpenFile}
use Rattle.pua_policy.proofs.ForCallers.{holds_through}
use Rattle.pua_policy.specs.Verdict.{allowed_unless, if_promised, verdict_of, is_allowed, found_fault, cover, cover_fault}
use Rattle.pua_policy.specs.Verdict.{object_fault, object_of, object_named}
use Rattle.pua_policy.specs.declared.answer.May.{May}
use Rattle.pua_policy.specs.declared.answer.May.TheVariants as may
use Rattle.pua_policy.specs.declared.answer.Verdict.TheVariants as verdicts
use Rattle.pua_policy.specs.declared.answer.Refusal.{Refusal}
use Rattle.pua_policy.specs.declared.answer.Refusal.TheVariants as refusal
use Rattle.pua_script.specs.Limits.{most_processes}
use Rattle.pua_script.specs.Requests.{Asked}
use Rattle.pua_script.specs.Family.{is_okay}
use Rattle.pua_script.specs.Decide.{Change, NoChange, AddNode, CutRow, ShiftRow, TieRow, BeginProgram, AddEvent, CopyAs, TakeFile, Decision, decide}
use Rattle.pua_script.specs.Replay.{World, put_at, Effect, Fails, Kills, Leaves, Copies, edit_effect, edited_tree, change_effect}
use Rattle.pua_script.specs.Replay.{sent_by, sent_of, take_effect}
use Rattle.pua_script.specs.Replay.{refusal_effect, come_of, answer_to, left_by, do_decided, answer_and_world, apply, answers_to}
use Rattle.pua_script.specs.declared.request.Action.{Action}
use Rattle.pua_script.specs.declared.answer.Answer.{Answer}
use Rattle.pua_script.specs.declared.answer.Answer.TheVariants.{Okay, Failed, Gone}
use Rattle.pua_tight.specs.Narrower.{SetWithin, unset, within, StateWithin, ProcessesWithin, nobody, somebody, WorldWithin, ActionWithin, no_asks, asks}
use Rattle.pua_tight.specs.Laws.{RequestKeepsWithin, ScriptsKeepWithin, WithinAllowsNoMore, WithinGrantsNoMore, FuturesAreWithin}
use Rattle.pua_tight.proofs.Sets.{two_bools}
use Rattle.pua_tight.proofs.Within.{pledged_within, unveiled_within, after_within, exec_within, held_within, cover_within, fault_within, may_within}
use Rattle.pua_tight.proofs.Decided.{ChangeWithin, alike, pledges, unveils, change_within, easier_for, granted_more, or_less}

-- effects of one kind, with one tree and a process within the other
pub data EffectWithin : Effect → Effect → Type 0 where
  fails : {errno : Errno} → EffectWithin (Fails errno) (Fails errno)
  kills : EffectWithin Kills Kills
  leaves : {t : Tree} {h k : ProcessState} → StateWithin h k → EffectWithin (Leaves t h) (Leaves t k)
  copies : {new : ℕ} → EffectWithin (Copies new) (Copies new)

pub answered_alike : {e f : Effect} → EffectWithin e f → answer_to e ≡ answer_to f
answered_alike fails = refl
answered_alike kills = refl
answered_alike (leaves w) = refl
answered_alike copies = refl

-- what a process is told, unless it ended
abbrev pub gone_or : Bool → World → Answer × World → Answer × World
gone_or ended w done = cond ended (Gone, w) done

-- whether a number was made
pub data FoundWithin : Option ProcessState → Option ProcessState → Type 0 where
  never : FoundWithin None None
  made : {h k : ProcessState} → StateWithin h k → FoundWithin (Some h) (Some k)

pub found_within : {hs ks : List (ℕ × ProcessState)} → ProcessesWithin hs ks → (n : ℕ) → FoundWithin (lookup (nat_eq n) hs) (lookup (nat_eq n) ks)
found_within nobody n = never
found_within (somebody {process = process} {h = h} {k = k} {hs = hs} {ks = ks} w rest) n = by (nat_eq n process) (found_within rest n)
  where
    by : (b : Bool) → FoundWithin (lookup (nat_eq n) hs) (lookup (nat_eq n) ks) →
        FoundWithin (cond b (Some h) (lookup (nat_eq n) hs)) (cond b (Some k) (lookup (nat_eq n) ks))
    by true further = made w
    by false further = further

made_alike : {o p : Option ProcessState} → FoundWithin o p → is_some o ≡ is_some p
made_alike never = refl
made_alike (made w) = refl

as_many : {hs ks : List (ℕ × ProcessState)} → ProcessesWithin hs ks → length hs ≡ length ks
as_many nobody = refl
as_many (somebody w rest) = ap suc (as_many rest)

put_within : (n : ℕ) {h k : ProcessState} → StateWithin h k → {hs ks : List (ℕ × ProcessState)} → ProcessesWithin hs ks →
    ProcessesWithin (put_at n h hs) (put_at n k ks)
put_within n w nobody = somebody w nobody
put_within n {h = h} {k = k} w (somebody {process = process} {h = g} {k = l} {hs = hs} {ks = ks} first rest) =
    by (nat_eq n process) (put_within n w rest)
  where
    by : (b : Bool) → ProcessesWithin (put_at n h hs) (put_at n k ks) →
        ProcessesWithin (cond b ((process, h) ∷ hs) ((process, g) ∷ put_at n h hs)) (cond b ((process, k) ∷ ks) ((process, l) ∷ put_at n k ks))
    by true further = somebody w rest
    by false further = somebody first further

pub not_okay : {A : Type 0} (r : Refusal) → is_okay (answer_to (refusal_effect r)) ≡ true → A
not_okay (refusal.Failed errno) e = absurd (false≢true e)
not_okay refusal.Killed e = absurd (false≢true e)

-- what comes from another process
abbrev pub is_taken : Change → Bool
is_taken (TakeFile number from theirs) = true
is_taken _ = false

given_alike : {p q : Option ℕ} → SetWithin p q → is_some p ≡ is_some q
given_alike unset = refl
given_alike (within less) = refl

pub pledged_alike : {h k : ProcessState} → StateWithin h k → is_pledged h ≡ is_pledged k
pledged_alike w = given_alike w.promises

-- what one sends, one that it lies within sends too
pub sent_more : (pledged : Bool) (theirs : ℕ) {o p : Option ProcessState} → FoundWithin o p → (file : OpenFile) →
    sent_by pledged o theirs ≡ Ok file → sent_by pledged p theirs ≡ Ok file
sent_more pledged theirs never file e = e
sent_more pledged theirs (made {h = g} {k = l} v) file e = two_bools
    (λ a b. cond {A = Result OpenFile Errno} a (Err EBADF) (sent_of pledged g (file_at g.files theirs)) ≡ Ok file →
    cond {A = Result OpenFile Errno} b (Err EBADF) (sent_of pledged l (file_at l.files theirs)) ≡ Ok file) (λ e. e)
    (λ e. ap (λ files. sent_of pledged l (file_at files theirs)) (sym v.files) ∙ of_file (file_at g.files theirs) e) g.ended l.ended v.ended e
  where
    may_send : (a b c d : Bool) (f : OpenFile) → (a ≡ true → b ≡ true) → c ≡ d →
        cond {A = Result OpenFile Errno} (not a) (Err EPERM) (cond (is_directory f && (pledged || c)) (Err EINVAL) (Ok f)) ≡ Ok file →
        cond {A = Result OpenFile Errno} (not b) (Err EPERM) (cond (is_directory f && (pledged || d)) (Err EINVAL) (Ok f)) ≡ Ok file
    may_send true b c d f more same is = ap (λ b. cond {A = Result OpenFile Errno} (not b) (Err EPERM) (cond (is_directory f && (pledged || d)) (Err EINVAL) (Ok f))) (more refl)
        ∙ ap (λ d. cond {A = Result OpenFile Errno} (is_directory f && (pledged || d)) (Err EINVAL) (Ok f)) (sym same) ∙ is
    may_send false b c d f more same is = cc

    of_file : (f : Option OpenFile) → sent_of pledged g f ≡ Ok file → sent_of pledged l f ≡ Ok file
    of_file None is = is
    of_file (Some f) is = may_send (holds (held_set g) sendfd) (holds (held_set l) sendfd) (is_pledged g) (is_pledged l) f
        (holds_through (held_set l) (held_set g) sendfd (held_within v)) (pledged_alike v) is

-- what is sent, by what the sender keeps
abbrev sent_as : Bool → Bool → Option OpenFile → Bool → Bool → Result OpenFile Errno
sent_as pledged ended None may given = cond ended (Err EBADF) (Err EBADF)
sent_as pledged ended (Some file) may given =
    cond ended (Err EBADF) (cond (not may) (Err EPERM) (cond (is_directory file && (pledged || given)) (Err EINVAL) (Ok file)))

sent_is : (pledged : Bool) (g : ProcessState) (theirs : ℕ) → sent_by pledged (Some g) theirs
    ≡ sent_as pledged g.ended (file_at g.files theirs) (holds (held_set g) sendfd) (is_pledged g)
sent_is pledged g theirs = by (file_at g.files theirs)
  where
    by : (f : Option OpenFile) → cond g.ended (Err EBADF) (sent_of pledged g f)
        ≡ sent_as pledged g.ended f (holds (held_set g) sendfd) (is_pledged g)
    by None = refl
    by (Some file) = refl

-- two that keep the same files send the same, if they may alike
pub sends_alike : (pledged : Bool) (theirs : ℕ) (g h : ProcessState) → g.ended ≡ h.ended → g.files ≡ h.files → is_pledged g ≡ is_pledged h →
    holds (held_set g) sendfd ≡ holds (held_set h) sendfd → sent_by pledged (Some g) theirs ≡ sent_by pledged (Some h) theirs
sends_alike pledged theirs g h ended files given may =
    sent_is pledged g theirs ∙ (λ i. sent_as pledged (ended i) (file_at (files i) theirs) (may i) (given i)) ∙ sym (sent_is pledged h theirs)

-- of three of which each lies within the next, the one in the middle sends what the first one does, or what the last one does
pub sent_between : (pledged : Bool) (theirs : ℕ) {o p q : Option ProcessState} → FoundWithin o p → FoundWithin p q →
    (sent_by pledged p theirs ≡ sent_by pledged o theirs) ⊎ (sent_by pledged p theirs ≡ sent_by pledged q theirs)
sent_between pledged theirs never never = inl refl
sent_between pledged theirs (made {h = g} {k = h} v) (made {k = k} w) =
    by (holds (held_set g) sendfd) (holds (held_set h) sendfd) (holds (held_set k) sendfd) refl refl refl
    (holds_through (held_set h) (held_set g) sendfd (held_within v)) (holds_through (held_set k) (held_set h) sendfd (held_within w))
  where
    by : (a b c : Bool) → holds (held_set g) sendfd ≡ a → holds (held_set h) sendfd ≡ b → holds (held_set k) sendfd ≡ c →
        (holds (held_set g) sendfd ≡ true → holds (held_set h) sendfd ≡ true) → (holds (held_set h) sendfd ≡ true → holds (held_set k) sendfd ≡ true) →
        (sent_by pledged (Some h) theirs ≡ sent_by pledged (Some g) theirs) ⊎ (sent_by pledged (Some h) theirs ≡ sent_by pledged (Some k) theirs)
    by a true c p q s up on = inr (sends_alike pledged theirs h k w.ended w.files (pledged_alike w) (q ∙ sym (on q)))
    by true false c p q s up on = absurd (false≢true (sym q ∙ up p))
    by false false c p q s up on = inl (sends_alike pledged theirs h g (sym v.ended) (sym v.files) (sym (pledged_alike v)) (q ∙ sym p))

-- the answer to what is taken, by what is sent
pub told_of : Result OpenFile Errno → Answer
told_of (Ok file) = Okay
told_of (Err errno) = Failed errno

pub told_is : (w : World) (h : ProcessState) (number : ℕ) (r : Result OpenFile Errno) → answer_to (take_effect w h number r) ≡ told_of r
unfolding told_of
told_is w h number (Ok file) = refl
told_is w h number (Err errno) = refl

module _ (t : Tree) (hs ks : List (ℕ × ProcessState)) (all : ProcessesWithin hs ks) where
  abbrev less : World
  less = record { tree = t; processes = hs }

  abbrev given : World
  given = record { tree = t; processes = ks }

  same_worlds : WorldWithin less given
  same_worlds = record { tree = refl; processes = all }

  module _ (h k : ProcessState) (w : StateWithin h k) where
    edited : (r : Result (ℕ × Tree) TreeFault) → EffectWithin (edit_effect h r) (edit_effect k r)
    edited (Ok result) = leaves w
    edited (Err fault) = fails

    retied : (r : Result Tree TreeFault) → EffectWithin (edited_tree h r) (edited_tree k r)
    retied (Ok u) = leaves w
    retied (Err fault) = fails

    pub alike_within : (c : Change) → is_taken c ≡ false → EffectWithin (change_effect less h c) (change_effect given k c)
    alike_within NoChange own = leaves w
    alike_within (AddNode spot node) own = edited (add t spot.0 spot.1 node)
    alike_within (CutRow spot) own = edited (cut t spot.0 spot.1)
    alike_within (ShiftRow old new) own = retied (shift t old.0 old.1 new.0 new.1)
    alike_within (TieRow spot x) own = retied (tie t spot.0 spot.1 x)
    alike_within (BeginProgram left) own = leaves (exec_within left w)
    alike_within (AddEvent event) own = leaves (after_within event w)
    alike_within (TakeFile number from theirs) own = absurd (true≢false own)
    alike_within (CopyAs new) own = two_bools (λ a b. EffectWithin (cond a (Fails EAGAIN) (Copies new)) (cond b (Fails EAGAIN) (Copies new)))
        fails copies _ _ (λ i. made_alike (found_within all new) i || nat_le most_processes (as_many all i))

    -- what is taken in the one world is taken in the other: there the sender may send no less
    took_within : (number from theirs : ℕ) (r : Result OpenFile Errno) → sent_by (is_pledged h) (lookup (nat_eq from) hs) theirs ≡ r →
        is_okay (answer_to (take_effect less h number r)) ≡ true →
        EffectWithin (take_effect less h number r) (change_effect given k (TakeFile number from theirs))
    took_within number from theirs (Err errno) is okay = absurd (false≢true okay)
    took_within number from theirs (Ok file) is okay =
        subst (λ s. EffectWithin (take_effect less h number (Ok file)) (take_effect given k number s))
        (sym (ap (λ p. sent_by p (lookup (nat_eq from) ks) theirs) (sym (pledged_alike w))
        ∙ sent_more (is_pledged h) theirs (found_within all from) file is)) (leaves (after_within (Filed number (Some file)) w))

    pub granted_within : (c : Change) → is_okay (answer_to (change_effect less h c)) ≡ true →
        EffectWithin (change_effect less h c) (change_effect given k c)
    granted_within NoChange okay = alike_within NoChange refl
    granted_within (AddNode spot node) okay = alike_within (AddNode spot node) refl
    granted_within (CutRow spot) okay = alike_within (CutRow spot) refl
    granted_within (ShiftRow old new) okay = alike_within (ShiftRow old new) refl
    granted_within (TieRow spot x) okay = alike_within (TieRow spot x) refl
    granted_within (BeginProgram left) okay = alike_within (BeginProgram left) refl
    granted_within (AddEvent event) okay = alike_within (AddEvent event) refl
    granted_within (CopyAs new) okay = alike_within (CopyAs new) refl
    granted_within (TakeFile number from theirs) okay =
        took_within number from theirs (sent_by (is_pledged h) (lookup (nat_eq from) hs) theirs) refl okay

    effect_within : {c d : Change} → ChangeWithin c d → is_okay (answer_to (change_effect less h c)) ≡ true →
        EffectWithin (change_effect less h c) (change_effect given k d)
    effect_within (alike {c = c}) okay = granted_within c okay
    effect_within (pledges p e) okay = leaves (pledged_within p e w)
    effect_within (unveils {place = place} {a = a} {b = b} less) okay = leaves (unveiled_within place a b less w)

    -- the worlds that they leave
    left_within : (n : ℕ) {e f : Effect} → EffectWithin e f → WorldWithin (left_by less n h e) (left_by given n k f)
    left_within n fails = same_worlds
    left_within n kills = record { tree = refl; processes = put_within n (after_within Ended w) all }
    left_within n (leaves v) = record { tree = refl; processes = put_within n v all }
    left_within n (copies {new = new}) = record { tree = refl; processes = put_within new w all }

    left_alike : (n : ℕ) (e f : Effect) → answer_to e ≡ answer_to f → (is_okay (answer_to e) ≡ true → EffectWithin e f) →
        WorldWithin (left_by less n h e) (left_by given n k f)
    left_alike n (Fails x) (Fails y) same okay = same_worlds
    left_alike n (Fails x) Kills same okay = cc
    left_alike n (Fails x) (Leaves u g) same okay = cc
    left_alike n (Fails x) (Copies new) same okay = cc
    left_alike n Kills (Fails y) same okay = cc
    left_alike n Kills Kills same okay = left_within n kills
    left_alike n Kills (Leaves u g) same okay = cc
    left_alike n Kills (Copies new) same okay = cc
    left_alike n (Leaves v l) f same okay = left_within n (okay refl)
    left_alike n (Copies new) f same okay = left_within n (okay refl)

    module _ (table : CallTable) (x y : Action) (thinner : ActionWithin x y) where
      decided : (n : ℕ) → answer_to (come_of less h (decide table t h x)) ≡ answer_to (come_of given k (decide table t k y)) →
          WorldWithin (left_by less n h (come_of less h (decide table t h x))) (left_by given n k (come_of given k (decide table t k y)))
      decided n = by (decide table t h x) (decide table t k y) refl refl
        where
          by : (d f : Decision) → decide table t h x ≡ d → decide table t k y ≡ f →
              answer_to (come_of less h d) ≡ answer_to (come_of given k f) →
              WorldWithin (left_by less n h (come_of less h d)) (left_by given n k (come_of given k f))
          by (Ok c) (Ok d) is it same = left_alike n (change_effect less h c) (change_effect given k d) same
              (effect_within (change_within table t h k w c d thinner is it))
          by (Ok c) (Err r) is it same = left_alike n (change_effect less h c) (refusal_effect r) same
              (λ okay. not_okay r (ap is_okay (sym same) ∙ okay))
          by (Err r) f is it same = left_alike n (refusal_effect r) (come_of given k f) same (λ okay. not_okay r okay)

    -- what is granted to the one is granted to the other
    module _ (table : CallTable) (x : Action) where
      granted : (n : ℕ) → answer_to (come_of less h (decide table t h x)) ≡ Okay →
          (answer_to (come_of given k (decide table t k x)) ≡ Okay)
          × WorldWithin (left_by less n h (come_of less h (decide table t h x))) (left_by given n k (come_of given k (decide table t k x)))
      granted n = by (decide table t h x) refl
        where
          by : (d : Decision) → decide table t h x ≡ d → answer_to (come_of less h d) ≡ Okay →
              (answer_to (come_of given k (decide table t k x)) ≡ Okay)
              × WorldWithin (left_by less n h (come_of less h d)) (left_by given n k (come_of given k (decide table t k x)))
          by (Ok c) is okay =
              let it : decide table t k x ≡ Ok c = granted_more table t _ _ (easier_for h k w table x) c x is in
              subst (λ f. (answer_to (come_of given k f) ≡ Okay)
              × WorldWithin (left_by less n h (change_effect less h c)) (left_by given n k (come_of given k f))) (sym it)
              (sym (answered_alike (granted_within c (ap is_okay okay))) ∙ okay, left_within n (granted_within c (ap is_okay okay)))
          by (Err r) is okay = not_okay r (ap is_okay okay)

  kept : (table : CallTable) (n : ℕ) (x y : Action) → ActionWithin x y → {o p : Option ProcessState} → FoundWithin o p →
      (answer_and_world table less (record { process = n; action = x }) o).0 ≡ (answer_and_world table given (record { process = n; action = y }) p).0 →
      WorldWithin (answer_and_world table less (record { process = n; action = x }) o).1
      (answer_and_world table given (record { process = n; action = y }) p).1
  kept table n x y thinner never same = same_worlds
  kept table n x y thinner (made {h = h} {k = k} w) same = two_bools
      (λ a b. (gone_or a less (do_decided less n h (decide table t h x))).0 ≡ (gone_or b given (do_decided given n k (decide table t k y))).0 →
      WorldWithin (gone_or a less (do_decided less n h (decide table t h x))).1 (gone_or b given (do_decided given n k (decide table t k y))).1)
      (λ _. same_worlds) (decided h k w table x y thinner n) h.ended k.ended w.ended same

  grants : (table : CallTable) (n : ℕ) (x : Action) → {o p : Option ProcessState} → FoundWithin o p →
      (answer_and_world table less (record { process = n; action = x }) o).0 ≡ Okay →
      ((answer_and_world table given (record { process = n; action = x }) p).0 ≡ Okay)
      × WorldWithin (answer_and_world table less (record { process = n; action = x }) o).1
      (answer_and_world table given (record { process = n; action = x }) p).1
  grants table n x never okay = cc
  grants table n x (made {h = h} {k = k} w) okay = two_bools
      (λ a b. (gone_or a less (do_decided less n h (decide table t h x))).0 ≡ Okay →
      ((gone_or b given (do_decided given n k (decide table t k x))).0 ≡ Okay)
      × WorldWithin (gone_or a less (do_decided less n h (decide table t h x))).1 (gone_or b given (do_decided given n k (decide table t k x))).1)
      (λ gone. no_answer gone) (granted h k w table x n) h.ended k.ended w.ended okay
    where
      no_answer : {A : Type 0} → Gone ≡ Okay → A
      no_answer e = cc

pub request_keeps : RequestKeepsWithin
request_keeps table tight given x y w thinner =
    subst (λ u. Kept (record { tree = u; processes = given.processes }) y) w.tree
    (subst (λ n. Kept (record { tree = tight.tree; processes = given.processes }) (record { process = n; action = y.action })) thinner.process
    (kept tight.tree tight.processes given.processes w.processes table x.process x.action y.action thinner.action
    (found_within w.processes x.process)))
  where
    Kept : World → Asked → Type 0
    Kept b z = (apply table tight x).0 ≡ (apply table b z).0 → WorldWithin (apply table tight x).1 (apply table b z).1

pub grants_no_more : WithinGrantsNoMore
grants_no_more table tight given ask w =
    subst (λ u. Granted (record { tree = u; processes = given.processes })) w.tree
    (grants tight.tree tight.processes given.processes w.processes table ask.process ask.action (found_within w.processes ask.process))
  where
    Granted : World → Type 0
    Granted b = (apply table tight ask).0 ≡ Okay →
        ((apply table b ask).0 ≡ Okay) × WorldWithin (apply table tight ask).1 (apply table b ask).1

-- equal answers, one after another
pub heads : (a b : Answer) (rest last : List Answer) → (a ∷ rest) ≡ (b ∷ last) → a ≡ b
heads a b rest last e = cc

pub tails : (a b : Answer) (rest last : List Answer) → (a ∷ rest) ≡ (b ∷ last) → rest ≡ last
tails a b rest last e = cc

pub scripts_keep : ScriptsKeepWithin
scripts_keep table tight given _ _ w no_asks same = w
scripts_keep table tight given _ _ w (asks {x = x} {y = y} {xs = xs} {ys = ys} first rest) same =
    scripts_keep table (apply table tight x).1 (apply table given y).1 xs ys (request_keeps table tight given x y w first (heads _ _ _ _ same))
    rest (tails _ _ _ _ same)

pub futures_within : FuturesAreWithin
futures_within table tight given [] w all = (refl, w)
futures_within table tight given (x ∷ xs) w all =
    let one = grants_no_more table tight given x w (heads _ _ _ _ all) in
    let rest = futures_within table (apply table tight x).1 (apply table given x).1 xs one.1 (tails _ _ _ _ all) in
    (ap (λ a. a ∷ answers_to table (apply table given x).1 xs) one.0 ∙ ap (λ l. Okay ∷ l) rest.0, rest.1)

pub parts : (m : May) (o : Option Errno) → is_allowed (if_promised m (allowed_unless o)) ≡ true → (m ≡ may.Yes) × (o ≡ None)
parts may.Yes None e = (refl, refl)
parts may.Yes (Some errno) e = cc
parts may.Enosys o e = cc
parts may.Death o e = cc

pub joined : (m : May) (o : Option Errno) → m ≡ may.Yes → o ≡ None → is_allowed (if_promised m (allowed_unless o)) ≡ true
joined m o is it = ap (λ m. is_allowed (if_promised m (allowed_unless o))) is ∙ ap (λ o. is_allowed (allowed_unless o)) it

failed : {A : Type 0} (m : May) (errno : Errno) → is_allowed (if_promised m (verdicts.Failed errno)) ≡ true → A
failed may.Yes errno e = absurd (false≢true e)
failed may.Enosys errno e = absurd (false≢true e)
failed may.Death errno e = absurd (false≢true e)

module _ (table : CallTable) (h k : ProcessState) (w : StateWithin h k) (t : Tree) (call : Call) where
  pub found_more : (r : Result Found Errno) → is_allowed (verdict_of t table h call r) ≡ true → is_allowed (verdict_of t table k call r) ≡ true
  found_more (Ok object) e =
      let both = parts (may_any h (rule_of table call).alternatives) (found_fault t table h call object) e in
      joined (may_any k (rule_of table call).alternatives) (found_fault t table k call object)
      (may_within h k w (rule_of table call).alternatives both.0)
      (or_less (cover_fault (cover t h object) (rule_of table call).perms) (cover_fault (cover t k object) (rule_of table call).perms)
      (object_fault table.whose t call (object_of t object)) (fault_within (cover_within w.veils t object) (rule_of table call).perms) both.1)
  found_more (Err errno) e = failed (may_any h (rule_of table call).alternatives) errno e

pub allows_no_more : WithinAllowsNoMore
allows_no_more table tight given w t call text e =
    found_more table tight given w t call (object_named t given call text)
    (subst (λ r. is_allowed (verdict_of t table tight call r) ≡ true) (named w.start) e)
  where
    named : start tight ≡ start given → object_named t tight call text ≡ object_named t given call text
    named same = ap (λ d. resolution_of_text t d (ending_of call) text (last_of call)) same
