-- What one pass leaves, none of it can be left out.
use Rattle.std.proofs.Common.{◌≡◌, ◌≢◌, ℕ, zero, suc, List, [], ◌∷◌, ◌++◌, refl, sym, ap, ◌∙◌, Bool, true, false, cond, subst}
use Rattle.std.proofs.Common.{append_assoc, ◌⊎◌, inl, inr}
use Rattle.std.proofs.lemmas.Bool.{true≢false, false≢true, eq-eqb}
use Rattle.std.specs.Prelude.{Option, Some, None, Result, Ok, Err, is_some, nat_eq, nat_le, length, not, ok_or, ◌||◌}
use Rattle.std.specs.Map.{lookup}
use Rattle.pua_tree.specs.Tree.{Tree}
use Rattle.pua_tree.specs.Edits.{add, tie, cut, shift}
use Rattle.pua_tree.specs.declared.fault.TreeFault.{TreeFault}
use Rattle.pua_path.specs.Paths.{path_fault}
use Rattle.pua_path.specs.Fits.{node_named}
use Rattle.pua_path.specs.declared.errno.Errno.{Errno}
use Rattle.pua_path.specs.declared.errno.Errno.TheVariants.{ENOSPC, EAGAIN, EBADF, EPERM, EINVAL, ENOTDIR}
use Rattle.pua_path.specs.declared.text.Ending.TheVariants as ending
use Rattle.pua_calls.specs.Promises.{holds, unveil, proc, recvfd, sendfd, id}
use Rattle.pua_calls.specs.Calls.{CallTable, rule_of}
use Rattle.pua_calls.specs.declared.call.Call.TheVariants as call
use Rattle.pua_policy.specs.States.{ProcessState, Filed, Moved, ToDir, file_at, held_set, is_directory, is_pledged, may_any}
use Rattle.pua_policy.specs.declared.open_file.OpenFile.{OpenFile}
use Rattle.pua_policy.specs.Verdict.{refusal_of}
use Rattle.pua_policy.specs.declared.answer.May.{May}
use Rattle.pua_policy.specs.declared.answer.May.TheVariants as may
use Rattle.pua_policy.specs.declared.answer.Refusal.{Refusal}
use Rattle.pua_policy.specs.declared.answer.Refusal.TheVariants as refusal
use Rattle.pua_script.specs.Limits.{most_processes}
use Rattle.pua_script.specs.Requests.{Asked}
use Rattle.pua_script.specs.Family.{is_okay}
use Rattle.pua_script.specs.Decide.{Change, NoChange, AddNode, CutRow, ShiftRow, TieRow, BeginProgram, AddEvent, CopyAs, TakeFile, Decision, decide}
use Rattle.pua_script.specs.Decide.{refusals, unless_refused, unless_failed, change_by, adding, holding, link_node, on_named, rename_by, asks_directory}
use Rattle.pua_script.specs.Decide.{link_by, fault_if, is_unknown, asker_of, asker_past, decide_by, rooting}
use Rattle.pua_script.specs.Openings.{Opening, opening_of}
use Rattle.pua_script.specs.Replay.{World, kept_at, Fails, Copies, edit_effect, edited_tree, change_effect, refusal_effect}
use Rattle.pua_script.specs.Replay.{sent_by, sent_of, take_effect}
use Rattle.pua_script.specs.Replay.{come_of, answer_to, do_decided, answer_and_world, apply, answers_to, world_after}
use Rattle.pua_script.specs.declared.answer.Answer.{Answer}
use Rattle.pua_script.specs.declared.answer.Answer.TheVariants as answer
use Rattle.pua_script.specs.declared.request.Action.{Action}
use Rattle.pua_script.specs.declared.request.Action.TheVariants.{OnPath, Symlink, Rename, Link, Pledge, Unveil, Lock, Fork, Exit, Uses, Comment}
use Rattle.pua_script.specs.declared.request.Action.TheVariants.{Hold, Close, Fchdir, Take, Chroot}
use Rattle.pua_tight.specs.Narrower.{StateWithin, ProcessesWithin, WorldWithin, AskWithin, AsksWithin, no_asks, asks}
use Rattle.pua_tight.proofs.Sets.{three_bools}
use Rattle.pua_tight.proofs.Decided.{easier_for, granted_more}
use Rattle.pua_tight.proofs.RareRefusals.{is_rare, rare, checked_plain, path_plain, locked_plain, unknown_plain, object_plain, opened_plain, objects_plain}
use Rattle.pua_tight.proofs.RareRefusals.{rename_plain, link_plain, veiling_plain}
use Rattle.pua_tight.proofs.MiddleDecision.{refused}
use Rattle.pua_tight.proofs.MiddleWorldDecides.{between}
use Rattle.pua_tight.specs.Tight.{Piece, Line, asks_of, without, answer_number, same_answers, try_piece, thin_line, thin}
use Rattle.pua_tight.specs.Laws.{IsPieceOf, MayLeaveOut, AreOkay, leave_out, TightIsMinimal}
use Rattle.pua_tight.proofs.Tightened.{ask_less, ask_self, world_self, tried_same, line_within, thin_same}
use Rattle.pua_tight.proofs.WithoutPiece.{ask_mono, is_without, okay_less}
use Rattle.pua_script.proofs.ForCallers.{one_request_more, takes_ask}
use Rattle.std.specs.Prelude.{◌&&◌}
use Rattle.pua_tight.proofs.Worlds.{heads, tails, answered_alike, FoundWithin, never, made, found_within, alike_within, request_keeps, not_okay, gone_or}
use Rattle.pua_tight.proofs.Worlds.{is_taken, pledged_alike, sent_between, told_of, told_is}

-- want of room
abbrev pub is_full : Errno → Bool
is_full ENOSPC = true
is_full EAGAIN = true
is_full _ = false

abbrev pub full : Decision → Bool
full (Err (refusal.Failed errno)) = is_full errno
full _ = false

abbrev full_answer : Answer → Bool
full_answer (answer.Failed errno) = is_full errno
full_answer _ = false

rarely : (errno : Errno) → is_rare errno ≡ false → is_full errno ≡ false
rarely ENOSPC e = e
rarely EAGAIN e = e
rarely _ e = refl

not_full : (d : Decision) → rare d ≡ false → full d ≡ false
not_full (Ok c) e = refl
not_full (Err refusal.Killed) e = refl
not_full (Err (refusal.Failed errno)) e = rarely errno e

promise_full : (m : May) (d : Decision) → full d ≡ false → full (unless_refused (refusal_of m) d) ≡ false
promise_full may.Yes d e = e
promise_full may.Enosys d e = refl
promise_full may.Death d e = refl

beyond_plain : (b : Bool) (c : Change) → rare (unless_failed refusals.failed (cond b None (Some EPERM)) (Ok c)) ≡ false
beyond_plain true c = refl
beyond_plain false c = refl

-- no refusal is want of room
pub decide_full : (table : CallTable) (t : Tree) (h : ProcessState) (action : Action) → full (decide table t h action) ≡ false
decide_full table t h (OnPath c path) = by (opening_of table h c path)
  where
    by : (o : Option Opening) → full (decide_by refusals table t (asker_past o (asker_of h)) (OnPath c path)) ≡ false
    by None = promise_full (may_any h (rule_of table c).alternatives) _ (not_full _ (object_plain table t h c path (change_by table c)))
    by (Some o) = not_full _ (opened_plain table t h o.asks_veils c path (change_by table c))
decide_full table t h (Symlink target path) = promise_full (may_any h (rule_of table call.Symlink).alternatives) _
    (not_full _ (checked_plain (path_fault target) _ (path_plain target) (object_plain table t h call.Symlink path (adding (link_node target)))))
decide_full table t h (Rename old new) = promise_full (may_any h table.rename.old.needs.alternatives) _
    (promise_full (may_any h table.rename.new.needs.alternatives) _
    (not_full _ (objects_plain table.whose table.rename t h ending.Dropped old new (λ x y. rename_by refusals t (asks_directory table.whose old new) x y (node_named x))
    (λ x y. rename_plain t (asks_directory table.whose old new) x y (node_named x)))))
decide_full table t h (Link old new) = promise_full (may_any h table.link.old.needs.alternatives) _
    (promise_full (may_any h table.link.new.needs.alternatives) _
    (not_full _ (objects_plain table.whose table.link t h ending.Dot old new (λ x y. link_by refusals t x y (node_named x)) (λ x y. link_plain t x y (node_named x)))))
decide_full table t h (Pledge p e) = not_full _ (checked_plain (fault_if (is_unknown p || is_unknown e) EINVAL) _
    (unknown_plain (is_unknown p || is_unknown e)) (beyond_plain _ _))
decide_full table t h (Unveil path perms) = promise_full (may_any h (unveil ∷ [])) _
    (not_full _ (checked_plain (fault_if h.locked EPERM) _ (locked_plain h.locked) (veiling_plain table.whose t h path perms)))
decide_full table t h Lock = promise_full (may_any h (unveil ∷ [])) _ refl
decide_full table t h (Fork new) = promise_full (may_any h (proc ∷ [])) _ refl
decide_full table t h Exit = refl
decide_full table t h (Uses sets) = promise_full (may_any h sets) _ refl
decide_full table t h (Hold number c path) = by (opening_of table h c path)
  where
    by : (o : Option Opening) → full (decide_by refusals table t (asker_past o (asker_of h)) (Hold number c path)) ≡ false
    by None = promise_full (may_any h (rule_of table c).alternatives) _ (not_full _ (object_plain table t h c path (holding t number c)))
    by (Some o) = not_full _ (opened_plain table t h o.asks_veils c path (holding t number c))
decide_full table t h (Close number) = by (file_at h.files number)
  where
    by : (o : Option OpenFile) → full (on_named refusals.failed (ok_or o EBADF) (λ file. Ok (AddEvent (Filed number None)))) ≡ false
    by None = refl
    by (Some file) = refl
decide_full table t h (Fchdir number) = by (file_at h.files number)
  where
    into : (b : Bool) (file : OpenFile) → full (unless_failed refusals.failed (fault_if b ENOTDIR) (Ok (AddEvent (Moved (ToDir file.node))))) ≡ false
    into true file = refl
    into false file = refl

    by : (o : Option OpenFile) → full (on_named refusals.failed (ok_or o EBADF) (λ file.
        unless_failed refusals.failed (fault_if (not (is_directory file)) ENOTDIR) (Ok (AddEvent (Moved (ToDir file.node)))))) ≡ false
    by None = refl
    by (Some file) = into (not (is_directory file)) file
decide_full table t h (Chroot path) = promise_full (may_any h (id ∷ [])) _ (not_full _ (object_plain table t h call.Chdir path rooting))
decide_full table t h (Take number from theirs) = promise_full (may_any h (recvfd ∷ [])) _ refl
decide_full table t h Comment = refl

okay_not : {A : Type 0} (r : Refusal) → answer.Okay ≡ answer_to (refusal_effect r) → A
okay_not r e = not_okay r (ap is_okay (sym e))

failed_is : (errno : Errno) (r : Refusal) → is_full errno ≡ true → answer.Failed errno ≡ answer_to (refusal_effect r) → full (Err r) ≡ true
failed_is errno (refusal.Failed other) is e = sym (ap full_answer e) ∙ is
failed_is errno refusal.Killed is e = absurd (true≢false (sym is ∙ ap full_answer e))

-- what lacks a promise, or room, among answers, and among what is sent
abbrev rare_answer : Answer → Bool
rare_answer (answer.Failed errno) = is_rare errno
rare_answer answer.Killed = true
rare_answer _ = false

abbrev rare_sent : Result OpenFile Errno → Bool
rare_sent (Ok file) = false
rare_sent (Err errno) = is_rare errno

rarely_told : (errno : Errno) (r : Refusal) → is_rare errno ≡ false → answer.Failed errno ≡ answer_to (refusal_effect r) → rare (Err r) ≡ true → ⊥
rarely_told errno (refusal.Failed other) plain e is = true≢false (sym is ∙ ap rare_answer (sym e) ∙ plain)
rarely_told errno refusal.Killed plain e is = false≢true (sym plain ∙ ap rare_answer e)

sent_plain : (pledged : Bool) (sender : Option ProcessState) (theirs : ℕ) → rare_sent (sent_by pledged sender theirs) ≡ false
sent_plain pledged None theirs = refl
sent_plain pledged (Some g) theirs = over g.ended (file_at g.files theirs)
  where
    checked : (a b : Bool) (file : OpenFile) → rare_sent (cond (not a) (Err EPERM) (cond b (Err EINVAL) (Ok file))) ≡ false
    checked false b file = refl
    checked true true file = refl
    checked true false file = refl

    over : (a : Bool) (f : Option OpenFile) → rare_sent (cond a (Err EBADF) (sent_of pledged g f)) ≡ false
    over true f = refl
    over false None = refl
    over false (Some file) = checked (holds (held_set g) sendfd) (is_directory file && (pledged || is_pledged g)) file

-- a change that fails is want of room, unless something is taken of another process
module _ (w : World) (h : ProcessState) (r : Refusal) where
  edit_full : (x : Result (ℕ × Tree) TreeFault) → answer_to (edit_effect h x) ≡ answer_to (refusal_effect r) → full (Err r) ≡ true
  edit_full (Ok result) e = okay_not r e
  edit_full (Err fault) e = failed_is ENOSPC r refl e

  tree_full : (x : Result Tree TreeFault) → answer_to (edited_tree h x) ≡ answer_to (refusal_effect r) → full (Err r) ≡ true
  tree_full (Ok u) e = okay_not r e
  tree_full (Err fault) e = failed_is ENOSPC r refl e

  fork_full : (new : ℕ) (b : Bool) → answer_to (cond b (Fails EAGAIN) (Copies new)) ≡ answer_to (refusal_effect r) → full (Err r) ≡ true
  fork_full new true e = failed_is EAGAIN r refl e
  fork_full new false e = okay_not r e

  change_full : (c : Change) → is_taken c ≡ false → answer_to (change_effect w h c) ≡ answer_to (refusal_effect r) → full (Err r) ≡ true
  change_full NoChange own e = okay_not r e
  change_full (AddNode spot node) own e = edit_full (add w.tree spot.0 spot.1 node) e
  change_full (CutRow spot) own e = edit_full (cut w.tree spot.0 spot.1) e
  change_full (ShiftRow old new) own e = tree_full (shift w.tree old.0 old.1 new.0 new.1) e
  change_full (TieRow spot x) own e = tree_full (tie w.tree spot.0 spot.1 x) e
  change_full (BeginProgram left) own e = okay_not r e
  change_full (AddEvent event) own e = okay_not r e
  change_full (CopyAs new) own e = fork_full new (is_some (kept_at w new) || nat_le most_processes (length w.processes)) e
  change_full (TakeFile number from theirs) own e = absurd (true≢false own)

  -- what isn't sent isn't answered as what lacks a promise
  sent_apart : (number : ℕ) (s : Result OpenFile Errno) → rare_sent s ≡ false → answer_to (take_effect w h number s) ≡ answer_to (refusal_effect r) →
      rare (Err r) ≡ true → ⊥
  sent_apart number (Ok file) plain e is = okay_not r e
  sent_apart number (Err errno) plain e is = rarely_told errno r plain e is

-- no process is refused, whatever it lacks, as another is answered to which was granted what it asked: where the one asks to
-- take what another process has, the other does
pub told_apart : (table : CallTable) (t : Tree) (w : World) (g h : ProcessState) (x y : Action) (c : Change) (r : Refusal) →
    decide table t g x ≡ Ok c → decide table t h y ≡ Err r →
    ((number from theirs : ℕ) → x ≡ Take number from theirs → y ≡ Take number from theirs) →
    answer_to (change_effect w g c) ≡ answer_to (refusal_effect r) → ⊥
told_apart table t w g h x y c r p q same e = by c p e
  where
    room : (c : Change) → is_taken c ≡ false → answer_to (change_effect w g c) ≡ answer_to (refusal_effect r) → ⊥
    room c own e = true≢false (sym (change_full w g r c own e) ∙ ap full (sym q) ∙ decide_full table t h y)

    lacking : (m : May) (d : Change) → unless_refused (refusal_of m) (Ok d) ≡ Err r → rare (Err r) ≡ true
    lacking may.Yes d is = cc
    lacking may.Enosys d is = ap rare (sym is)
    lacking may.Death d is = ap rare (sym is)

    by : (c : Change) → decide table t g x ≡ Ok c → answer_to (change_effect w g c) ≡ answer_to (refusal_effect r) → ⊥
    by NoChange p e = room NoChange refl e
    by (AddNode spot node) p e = room (AddNode spot node) refl e
    by (CutRow spot) p e = room (CutRow spot) refl e
    by (ShiftRow old new) p e = room (ShiftRow old new) refl e
    by (TieRow spot x) p e = room (TieRow spot x) refl e
    by (BeginProgram left) p e = room (BeginProgram left) refl e
    by (AddEvent event) p e = room (AddEvent event) refl e
    by (CopyAs new) p e = room (CopyAs new) refl e
    by (TakeFile number from theirs) p e =
        sent_apart w g r number (sent_by (is_pledged g) (kept_at w from) theirs) (sent_plain (is_pledged g) (kept_at w from) theirs) e
        (lacking (may_any h (recvfd ∷ [])) (TakeFile number from theirs)
        (ap (decide table t h) (sym (same number from theirs (takes_ask table t g x number from theirs p))) ∙ q))

pub same_refusal : (r s : Refusal) → answer_to (refusal_effect r) ≡ answer_to (refusal_effect s) → r ≡ s
same_refusal (refusal.Failed x) (refusal.Failed y) e = cc
same_refusal (refusal.Failed x) refusal.Killed e = cc
same_refusal refusal.Killed (refusal.Failed y) e = cc
same_refusal refusal.Killed refusal.Killed e = refl

module _ (table : CallTable) (t : Tree) (hs ms ks : List (ℕ × ProcessState)) (low : ProcessesWithin hs ms) (high : ProcessesWithin ms ks) where
  abbrev lo : World
  lo = record { tree = t; processes = hs }

  abbrev mid : World
  mid = record { tree = t; processes = ms }

  abbrev hi : World
  hi = record { tree = t; processes = ks }

  module _ (g h k : ProcessState) (v : StateWithin g h) (w : StateWithin h k) (action : Action) where
    -- what is taken: the one in the middle sends as the first one or the last one, which are answered alike
    took_between : (number from theirs : ℕ) → answer_to (change_effect lo g (TakeFile number from theirs))
        ≡ answer_to (change_effect hi k (TakeFile number from theirs)) →
        answer_to (change_effect mid h (TakeFile number from theirs)) ≡ answer_to (change_effect lo g (TakeFile number from theirs))
    took_between number from theirs e = middle ∙ by (sent_between (is_pledged g) theirs (found_within low from) (found_within high from)) ∙ sym first
      where
        sent : List (ℕ × ProcessState) → Result OpenFile Errno
        sent ps = sent_by (is_pledged g) (lookup (nat_eq from) ps) theirs

        first : answer_to (change_effect lo g (TakeFile number from theirs)) ≡ told_of (sent hs)
        first = told_is lo g number (sent hs)

        middle : answer_to (change_effect mid h (TakeFile number from theirs)) ≡ told_of (sent ms)
        middle = told_is mid h number (sent_by (is_pledged h) (lookup (nat_eq from) ms) theirs)
            ∙ ap (λ p. told_of (sent_by p (lookup (nat_eq from) ms) theirs)) (sym (pledged_alike v))

        last : answer_to (change_effect hi k (TakeFile number from theirs)) ≡ told_of (sent ks)
        last = told_is hi k number (sent_by (is_pledged k) (lookup (nat_eq from) ks) theirs)
            ∙ ap (λ p. told_of (sent_by p (lookup (nat_eq from) ks) theirs)) (sym (pledged_alike v ∙ pledged_alike w))

        by : (sent ms ≡ sent hs) ⊎ (sent ms ≡ sent ks) → told_of (sent ms) ≡ told_of (sent hs)
        by (inl same) = ap told_of same
        by (inr same) = ap told_of same ∙ sym last ∙ sym e ∙ first

    effects_between : (c : Change) → answer_to (change_effect lo g c) ≡ answer_to (change_effect hi k c) →
        answer_to (change_effect mid h c) ≡ answer_to (change_effect lo g c)
    effects_between NoChange e = refl
    effects_between (AddNode spot node) e = sym (answered_alike (alike_within t hs ms low g h v (AddNode spot node) refl))
    effects_between (CutRow spot) e = sym (answered_alike (alike_within t hs ms low g h v (CutRow spot) refl))
    effects_between (ShiftRow old new) e = sym (answered_alike (alike_within t hs ms low g h v (ShiftRow old new) refl))
    effects_between (TieRow spot x) e = sym (answered_alike (alike_within t hs ms low g h v (TieRow spot x) refl))
    effects_between (BeginProgram left) e = refl
    effects_between (AddEvent event) e = refl
    effects_between (CopyAs new) e = sym (answered_alike (alike_within t hs ms low g h v (CopyAs new) refl))
    effects_between (TakeFile number from theirs) e = took_between number from theirs e

    decided_between : answer_to (come_of lo g (decide table t g action)) ≡ answer_to (come_of hi k (decide table t k action)) →
        answer_to (come_of mid h (decide table t h action)) ≡ answer_to (come_of lo g (decide table t g action))
    decided_between = by (decide table t g action) (decide table t k action) refl refl
      where
        by : (d f : Decision) → decide table t g action ≡ d → decide table t k action ≡ f →
            answer_to (come_of lo g d) ≡ answer_to (come_of hi k f) →
            answer_to (come_of mid h (decide table t h action)) ≡ answer_to (come_of lo g d)
        by (Ok c) (Ok d) p q e =
            let it : decide table t h action ≡ Ok c = granted_more table t _ _ (easier_for g h v table action) c action p in
            let last : decide table t k action ≡ Ok c = granted_more table t _ _ (easier_for h k w table action) c action it in
            ap (λ d. answer_to (come_of mid h d)) it ∙ effects_between c (e ∙ ap (λ d. answer_to (come_of hi k d)) (sym q ∙ last))
        by (Ok c) (Err r) p q e = absurd (told_apart table t lo g k action action c r p q (λ number from theirs is. is) e)
        by (Err r) (Ok c) p q e = absurd (told_apart table t hi k g action action c r q p (λ number from theirs is. is) (sym e))
        by (Err r) (Err s) p q e = ap (λ d. answer_to (come_of mid h d))
            (between table t g h k v w action (ap refused p ∙ ap (λ x. Some x) (same_refusal r s e) ∙ sym (ap refused q)) ∙ q) ∙ sym e

  found_between : (ask : Asked) {o p q : Option ProcessState} → FoundWithin o p → FoundWithin p q →
      (answer_and_world table lo ask o).0 ≡ (answer_and_world table hi ask q).0 →
      (answer_and_world table mid ask p).0 ≡ (answer_and_world table lo ask o).0
  found_between ask never never e = refl
  found_between ask (made {h = g} {k = h} v) (made {k = k} w) e =
      three_bools (λ a b c. (gone_or a lo (do_decided lo ask.process g (decide table t g ask.action))).0
      ≡ (gone_or c hi (do_decided hi ask.process k (decide table t k ask.action))).0 →
      (gone_or b mid (do_decided mid ask.process h (decide table t h ask.action))).0
      ≡ (gone_or a lo (do_decided lo ask.process g (decide table t g ask.action))).0)
      (λ _. refl) (decided_between g h k v w ask.action) g.ended h.ended k.ended v.ended w.ended e

-- one request
request_between : (table : CallTable) (lo mid hi : World) → WorldWithin lo mid → WorldWithin mid hi → (ask : Asked) →
    (apply table lo ask).0 ≡ (apply table hi ask).0 → (apply table mid ask).0 ≡ (apply table lo ask).0
request_between table lo mid hi low high ask =
    subst (λ u. Goal (record { tree = u; processes = mid.processes }) hi) low.tree
    (subst (λ u. Goal (record { tree = lo.tree; processes = mid.processes }) (record { tree = u; processes = hi.processes })) (low.tree ∙ high.tree)
    (found_between table lo.tree lo.processes mid.processes hi.processes low.processes high.processes ask
    (found_within low.processes ask.process) (found_within high.processes ask.process)))
  where
    Goal : World → World → Type 0
    Goal m h = (apply table lo ask).0 ≡ (apply table h ask).0 → (apply table m ask).0 ≡ (apply table lo ask).0

-- a script
pub scripts_between : (table : CallTable) (lo mid hi : World) → WorldWithin lo mid → WorldWithin mid hi → (xs : List Asked) →
    answers_to table lo xs ≡ answers_to table hi xs → answers_to table mid xs ≡ answers_to table lo xs
scripts_between table _ _ _ low high [] e = refl
scripts_between table lo mid hi low high (x ∷ xs) e =
    let outer : (apply table lo x).0 ≡ (apply table hi x).0 = heads _ _ _ _ e in
    let inner : (apply table mid x).0 ≡ (apply table lo x).0 = request_between table lo mid hi low high x outer in
    let rest = scripts_between table (apply table lo x).1 (apply table mid x).1 (apply table hi x).1
    (request_keeps table lo mid x x low (ask_self x) (sym inner))
    (request_keeps table mid hi x x high (ask_self x) (inner ∙ outer)) xs (tails _ _ _ _ e) in
    ap (λ a. a ∷ answers_to table (apply table mid x).1 xs) inner ∙ ap (λ l. (apply table lo x).0 ∷ l) rest

-- two scripts from a common front on
pub asks_self : (xs : List Asked) → AsksWithin xs xs
asks_self [] = no_asks
asks_self (x ∷ xs) = asks (ask_self x) (asks_self xs)

pub prefix : (table : CallTable) {xs ys : List Asked} → AsksWithin xs ys → (low high : World) → WorldWithin low high → (more rest : List Asked) →
    answers_to table low (xs ++ more) ≡ answers_to table high (ys ++ rest) →
    WorldWithin (world_after table low xs) (world_after table high ys)
    × (answers_to table (world_after table low xs) more ≡ answers_to table (world_after table high ys) rest)
prefix table no_asks low high w more rest e = (w, e)
prefix table (asks {x = x} {y = y} lies further) low high w more rest e =
    prefix table further (apply table low x).1 (apply table high y).1 (request_keeps table low high x y w lies (heads _ _ _ _ e)) more rest
    (tails _ _ _ _ e)

pub compose : (table : CallTable) (w : World) (xs ys : List Asked) →
    answers_to table w (xs ++ ys) ≡ answers_to table w xs ++ answers_to table (world_after table w xs) ys
compose table w [] ys = refl
compose table w (x ∷ xs) ys = ap (λ l. (apply table w x).0 ∷ l) (compose table (apply table w x).1 xs ys)

-- a request that is answered ok, between one with less and one with more
pub middle_kept : (table : CallTable) (under over : World) → WorldWithin under over → (x less ask : Asked) → AskWithin x less → AskWithin less ask →
    (apply table over ask).0 ≡ answer.Okay → (after : List Asked) → answers_to table under (x ∷ after) ≡ answers_to table over (ask ∷ after) →
    answers_to table over (less ∷ after) ≡ answers_to table over (ask ∷ after)
middle_kept table under over w x less ask lies thinner okay after e =
    let first : (apply table under x).0 ≡ (apply table over ask).0 = heads _ _ _ _ e in
    let rest : answers_to table (apply table under x).1 after ≡ answers_to table (apply table over ask).1 after = tails _ _ _ _ e in
    let okay_mid : (apply table over less).0 ≡ answer.Okay = okay_less table over less ask thinner okay in
    let high : WorldWithin (apply table over less).1 (apply table over ask).1 =
    request_keeps table over over less ask (world_self over) thinner (okay_mid ∙ sym okay) in
    let low : WorldWithin (apply table under x).1 (apply table over less).1 =
    request_keeps table under over x less w lies (first ∙ okay ∙ sym okay_mid) in
    let between_all : answers_to table (apply table over less).1 after ≡ answers_to table (apply table under x).1 after =
    scripts_between table (apply table under x).1 (apply table over less).1 (apply table over ask).1 low high after rest in
    ap (λ a. a ∷ answers_to table (apply table over less).1 after) (okay_mid ∙ sym okay)
    ∙ ap (λ l. (apply table over ask).0 ∷ l) (between_all ∙ rest)

within_more : {xs ys : List Asked} → AsksWithin xs ys → (x y : Asked) → AskWithin x y → AsksWithin (xs ++ x ∷ []) (ys ++ y ∷ [])
within_more no_asks x y lies = asks lies no_asks
within_more (asks first rest) x y lies = asks first (within_more rest x y lies)

pub same_self : (xs : List Answer) → same_answers xs xs ≡ true
same_self [] = refl
same_self (x ∷ xs) = ap (λ b. b && same_answers xs xs) (eq-eqb (answer_number x) (answer_number x) refl) ∙ same_self xs

module _ (table : CallTable) (w : World) (want : List Answer) where
  module _ (before after : List Asked) where
    abbrev pub trial : Asked → List Answer
    trial ask = answers_to table w (before ++ ask ∷ after)

    -- when a piece that is left was tried
    pub record Traced (piece : Piece) (x : Asked) : Type 0 where
      pub ask : Asked
      pub lies : AskWithin x ask
      pub good : trial ask ≡ want
      pub bad : same_answers (trial (without piece ask)) want ≡ false

    abbrev pub ends : Asked → List Piece → Asked
    ends ask pieces = thin_line table w want before after ask pieces

    pub trace : (ask : Asked) (pieces : List Piece) (piece : Piece) → IsPieceOf pieces piece → trial ask ≡ want →
        without piece (ends ask pieces) ≢ ends ask pieces → Traced piece (ends ask pieces)
    trace ask [] piece among good left = absurd among
    trace ask (other ∷ pieces) piece (inr among) good left =
        trace (try_piece table w want before after ask (without other ask)) pieces piece among
        (tried_same table w want before after ask other good) left
    trace ask (other ∷ pieces) piece (inl is) good left =
        subst (λ p. without p (ends ask (other ∷ pieces)) ≢ ends ask (other ∷ pieces) → Traced p (ends ask (other ∷ pieces))) is
        (by (same_answers (trial (without other ask)) want) refl) left
      where
        by : (b : Bool) → same_answers (trial (without other ask)) want ≡ b →
            without other (ends (cond b (without other ask) ask) pieces) ≢ ends (cond b (without other ask) ask) pieces →
            Traced other (ends (cond b (without other ask) ask) pieces)
        by true told left = absurd (left (is_without other (ends (without other ask) pieces) ask
            (line_within table w want before after (without other ask) pieces)))
        by false told left =
            record { ask = ask; lies = line_within table w want before after ask pieces; good = good; bad = told }

    -- so it can't be left out of what is left
    module _ (done : List Asked) (front : AsksWithin done before) (piece : Piece) (x : Asked) (traced : Traced piece x)
        (okay : (apply table (world_after table w before) traced.ask).0 ≡ answer.Okay) where
      abbrev under : World
      under = world_after table w done

      abbrev over : World
      over = world_after table w before

      last_step : answers_to table w (done ++ without piece x ∷ after) ≡ want → ⊥
      last_step e =
          let ask : Asked = traced.ask in
          let pre = prefix table front w w (world_self w) (without piece x ∷ after) (ask ∷ after) (e ∙ sym traced.good) in
          let from_line : answers_to table over (without piece ask ∷ after) ≡ answers_to table over (ask ∷ after) =
          middle_kept table under over pre.0 (without piece x) (without piece ask) ask (ask_mono piece x ask traced.lies)
          (ask_less piece ask) okay after pre.1 in
          let whole : trial (without piece ask) ≡ want =
          compose table w before (without piece ask ∷ after) ∙ ap (λ l. answers_to table w before ++ l) from_line
          ∙ sym (compose table w before (ask ∷ after)) ∙ traced.good in
          false≢true (sym traced.bad ∙ ap (λ l. same_answers l want) whole ∙ same_self want)

  least_from : (before done : List Asked) (lines : List Line) (index : ℕ) (piece : Piece) → AsksWithin done before →
      answers_to table w (before ++ asks_of lines) ≡ want → AreOkay table (world_after table w before) lines → MayLeaveOut lines index piece →
      leave_out index piece (thin table w want before lines) ≢ thin table w want before lines →
      answers_to table w (done ++ leave_out index piece (thin table w want before lines)) ≡ want → ⊥
  least_from before done [] index piece front good okay among left e = among
  least_from before done (line ∷ lines) zero piece front good okay among left e =
      let after : List Asked = thin table w want (before ++ line.ask ∷ []) lines in
      let start : answers_to table w (before ++ line.ask ∷ after) ≡ want =
      ap (answers_to table w) (sym (append_assoc before (line.ask ∷ []) after))
      ∙ thin_same table w want (before ++ line.ask ∷ []) lines
      (ap (answers_to table w) (append_assoc before (line.ask ∷ []) (asks_of lines)) ∙ good) in
      let x : Asked = thin_line table w want before after line.ask line.pieces in
      let traced : Traced before after piece x =
      trace before after line.ask line.pieces piece among start (λ same. left (ap (λ z. z ∷ after) same)) in
      let alike = prefix table (asks_self before) w w (world_self w) (traced.ask ∷ after) (line.ask ∷ after) (traced.good ∙ sym start) in
      last_step before after done front piece x traced (heads _ _ _ _ alike.1 ∙ okay.0 piece among) e
  least_from before done (line ∷ lines) (suc index) piece front good okay among left e =
      let after : List Asked = thin table w want (before ++ line.ask ∷ []) lines in
      let x : Asked = thin_line table w want before after line.ask line.pieces in
      least_from (before ++ line.ask ∷ []) (done ++ x ∷ []) lines index piece
      (within_more front x line.ask (line_within table w want before after line.ask line.pieces))
      (ap (answers_to table w) (append_assoc before (line.ask ∷ []) (asks_of lines)) ∙ good)
      (subst (λ u. AreOkay table u lines) (sym (one_request_more table w before line.ask)) okay.1) among
      (λ same. left (ap (λ l. x ∷ l) same))
      (ap (answers_to table w) (append_assoc done (x ∷ []) (leave_out index piece after)) ∙ e)

pub tight_is_minimal : TightIsMinimal
tight_is_minimal table w lines index piece okay among left e =
    least_from table w (answers_to table w (asks_of lines)) [] [] lines index piece no_asks refl okay among left e
