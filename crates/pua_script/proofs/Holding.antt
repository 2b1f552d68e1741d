-- What a family has open, one request after another.
use Rattle.pua_script.proofs.Common.{◌≡◌, ℕ, List, [], ◌∷◌, Bool, true, false, cond, ◌&&◌, not, refl, sym, ap, subst, ◌∙◌, ◌==◌, inl, inr, ◌⊎◌}
use Rattle.pua_script.proofs.Common.{Option, Some, None, Result, Ok, Err, false≢true, true≢false, eqb-true, eq-eqb, and_parts, not-true, nat_cmp}
use Rattle.pua_script.proofs.Common.{Tree, TreeFault, Errno, EAGAIN, CallTable, rule_of, ProcessState, Event, Pledged, Unveiled, Locked, Moved}
use Rattle.pua_script.proofs.Common.{Ended, Filed, OpenFile, state_after, is_ended, is_pledged, held_set, holds, cover_fault, Change, NoChange}
use Rattle.pua_script.proofs.Common.{AddNode, CutRow, ShiftRow, TieRow, BeginProgram, AddEvent, CopyAs, TakeFile, decide, World, Effect, Fails}
use Rattle.pua_script.proofs.Common.{Copies, effect, edit_effect, edited_tree, change_effect, sent_by, take_effect, kept_at, apply}
use Rattle.pua_script.proofs.Common.{answer_and_world, answer_to, left_by, world_after, Asked, Answer, Gone, Action, Fork, Refusal, Failed, Killed}
use Rattle.pua_script.proofs.Common.{HasKept, is_done, is_exec, is_member, most_processes, is_some, nat_le, ◌||◌, length}
use Rattle.std.specs.declared.cmp.Ordering.{Ordering}
use Rattle.std.specs.declared.cmp.Ordering.TheVariants.{Less, Equal, Greater}
use Rattle.std.specs.Ordering.{match_ordering}
use Rattle.std.specs.BTreeMap.{is_at}
use Rattle.pua_calls.specs.Promises.{sendfd}
use Rattle.pua_calls.specs.Calls.{ending_of, last_of}
use Rattle.pua_path.specs.Resolution.{resolution_of_text}
use Rattle.pua_policy.specs.Verdict.{object_fault, object_of}
use Rattle.pua_calls.specs.declared.rules.ExecPromises.{ExecPromises}
use Rattle.pua_policy.specs.States.{file_at, is_directory, state_by_exec, with_file, without_file}
use Rattle.pua_path.specs.declared.errno.Errno.TheVariants.{EBADF, EINVAL, EPERM}
use Rattle.pua_script.specs.Replay.{refusal_effect, sent_of}
use Rattle.pua_script.specs.Worlds.{state_left}
use Rattle.pua_script.specs.Family.{family, family_then, is_okay, none_done, with_child}
use Rattle.pua_script.specs.Guards.{IsOpened, OnOne}
use Rattle.pua_script.specs.Tightening.{NoCallNeedsError}
use Rattle.pua_script.specs.Holding.{EachIs, FamiliesHold, IsAmong, IsOpenable, LetsThrough, is_foreign, none_taken}
use Rattle.pua_script.proofs.Applied.{by_decision}
use Rattle.pua_script.proofs.Allowing.{IsWithin, may_yes, same_cover}
use Rattle.pua_script.proofs.Families.{Members, begins, child_or_old, is_okay_only, members_after, members_then}
use Rattle.pua_script.proofs.Grounds.{Grounds, IsOpening}
use Rattle.pua_script.proofs.Guarding.{decisions_are_guarded, grounds}
use Rattle.pua_script.proofs.Opened.{openings_are_held, openings_narrow}
use Rattle.pua_script.proofs.Others.{effect_is_new, forks_copy, others_leave}
use Rattle.pua_script.proofs.Tightening.{is_one, left_here}

same_state : (a b : ProcessState) → Some a ≡ Some b → a ≡ b
same_state a b e = cc

-- ---- open files that are all such

module _ (P : OpenFile → Type 0) where
  each_with : (n : ℕ) (file : OpenFile) (files : List (ℕ × OpenFile)) → P file → EachIs P files → EachIs P (with_file n file files)
  each_with n file [] new each = (new, tt)
  each_with n file (f ∷ fs) new each = by (nat_cmp n f.0) (each_with n file fs new each.1)
    where
      by : (o : Ordering) → EachIs P (with_file n file fs) →
          EachIs P (match_ordering o ((n, file) ∷ f ∷ fs) ((f.0, file) ∷ fs) (f ∷ with_file n file fs))
      by Less rest = (new, each)
      by Equal rest = (new, each.1)
      by Greater rest = (each.0, rest)

  each_without : (n : ℕ) (files : List (ℕ × OpenFile)) → EachIs P files → EachIs P (without_file n files)
  each_without n [] each = tt
  each_without n (f ∷ fs) each = by (is_at (nat_cmp n) f.0) (each_without n fs each.1)
    where
      by : (b : Bool) → EachIs P (without_file n fs) → EachIs P (cond b fs (f ∷ without_file n fs))
      by true rest = each.1
      by false rest = (each.0, rest)

  each_at : (files : List (ℕ × OpenFile)) (n : ℕ) (file : OpenFile) → EachIs P files → file_at files n ≡ Some file → P file
  each_at [] n file each is = cc
  each_at (f ∷ fs) n file each is = by (is_at (nat_cmp n) f.0) (each_at fs n file each.1) is
    where
      by : (b : Bool) → (file_at fs n ≡ Some file → P file) → cond b (Some f.1) (file_at fs n) ≡ Some file → P file
      by true rest e = let same : f.1 ≡ file = cc in subst P same each.0
      by false rest e = rest e

-- what is so of each that is among them is so of each
each_among : (P : OpenFile → Type 0) (files : List (ℕ × OpenFile)) → ((file : OpenFile) → IsAmong files file → P file) → EachIs P files
each_among P [] so = tt
each_among P (f ∷ fs) so = (so f.1 (inl refl), each_among P fs (λ file a. so file (inr a)))

-- what is sent the sender has
sent_is : (pledged : Bool) (o : Option ProcessState) (theirs : ℕ) (file : OpenFile) → sent_by pledged o theirs ≡ Ok file →
    (sender : ProcessState) × (o ≡ Some sender) × (file_at sender.files theirs ≡ Some file)
sent_is pledged None theirs file e = cc
sent_is pledged (Some sender) theirs file e = (sender, refl, by (is_ended sender) (file_at sender.files theirs) e)
  where
    may : (a b : Bool) (other : OpenFile) → cond {A = Result OpenFile Errno} (not a) (Err EPERM) (cond b (Err EINVAL) (Ok other)) ≡ Ok file →
        other ≡ file
    may false b other e = cc
    may true true other e = cc
    may true false other e = cc

    by : (ended : Bool) (o : Option OpenFile) → cond {A = Result OpenFile Errno} ended (Err EBADF) (sent_of pledged sender o) ≡ Ok file →
        o ≡ Some file
    by true o e = cc
    by false None e = cc
    by false (Some other) e =
        ap Some (may (holds (held_set sender) sendfd) (is_directory other && (pledged || is_pledged sender)) other e)

module _ (table : CallTable) (sound : NoCallNeedsError table) (now : ProcessState) (P : OpenFile → Type 0)
    (openable : (file : OpenFile) → IsOpenable table now file → P file) where
  abbrev Keep : World → List ℕ → Type 0
  Keep w members = (m : ℕ) → is_member members m ≡ true → (h : ProcessState) → kept_at w m ≡ Some h → EachIs P h.files

  -- what a call may open by a later state, one may by that of now
  opening_now : (t : Tree) (h : ProcessState) (action : Action) (file : OpenFile) → IsWithin now h → IsOpening table t h action file → P file
  opening_now t h action file within g = openable file (record {
    tree = t;
    from = h.start;
    call = g.call;
    path = g.path;
    object = g.object;
    found = found g.on;
    through = through g.on;
    fitting = fitting g.on;
    opened = g.opened;
  })
    where
      On : Type 0
      On = OnOne table t h g.call g.path g.object ⊎ IsOpened table t h g.call g.path g.object

      found : On → resolution_of_text t h.start (ending_of g.call) g.path (last_of g.call) ≡ Ok g.object
      found (inl on) = on.found
      found (inr on) = on.found

      fitting : On → object_fault table.whose t g.call (object_of t g.object) ≡ None
      fitting (inl on) = on.fitting
      fitting (inr on) = on.fitting

      through : On → LetsThrough table t now g.call g.path g.object
      through (inl on) = inl (
        may_yes now h within (rule_of table g.call).alternatives (sound.calls g.call) on.promised,
        ap (λ k. cover_fault k (rule_of table g.call).perms) (sym (same_cover h now within.tightens.unveils t g.object)) ∙ on.covered,
      )
      through (inr on) = inr (openings_narrow now h within.tightens g.call g.path (openings_are_held table h g.call g.path on.opening on.opened))

  -- ---- one request of a member

  module _ (w : World) (members : List ℕ) (keep : Keep w members) (h : ProcessState) (within : IsWithin now h) (each : EachIs P h.files) where
    abbrev Keeps : Effect → Type 0
    Keeps e = EachIs P (state_left h e).files

    edited : (r : Result (ℕ × Tree) TreeFault) → Keeps (edit_effect h r)
    edited (Ok x) = each
    edited (Err fault) = each

    edited_to : (r : Result Tree TreeFault) → Keeps (edited_tree h r)
    edited_to (Ok t) = each
    edited_to (Err fault) = each

    executed : (left : ExecPromises) (o : Option ℕ) → EachIs P (state_by_exec left o h).files
    executed left None = each
    executed left (Some set) = each

    said : (action : Action) (event : Event) → Grounds table w.tree h action (AddEvent event) → EachIs P (state_after event h).files
    said action (Filed n (Some file)) g = each_with P n file h.files (opening_now w.tree h action file within g) each
    said action (Filed n None) g = each_without P n h.files each
    said action (Pledged p e) g = each
    said action (Unveiled place perms) g = each
    said action Locked g = each
    said action (Moved dir) g = each
    said action Ended g = each

    -- what is taken a member had
    taken : (n from theirs : ℕ) (r : Result OpenFile Errno) → sent_by (is_pledged h) (kept_at w from) theirs ≡ r →
        (not (is_member members from) && is_okay (answer_to (take_effect w h n r))) ≡ false → Keeps (take_effect w h n r)
    taken n from theirs (Err errno) is none = each
    taken n from theirs (Ok file) is none =
        let sent = sent_is (is_pledged h) (kept_at w from) theirs file is in
        each_with P n file h.files (each_at P sent.0.files theirs file (keep from (by (is_member members from) none) sent.0 sent.1) sent.2) each
      where
        by : (b : Bool) → (not b && true) ≡ false → b ≡ true
        by true e = refl
        by false e = absurd (true≢false e)

    made : (action : Action) (c : Change) → Grounds table w.tree h action c →
        (is_foreign members action && is_okay (answer_to (change_effect w h c))) ≡ false → Keeps (change_effect w h c)
    made action NoChange g none = each
    made action (AddNode spot node) g none = edited _
    made action (CutRow spot) g none = edited _
    made action (ShiftRow old new) g none = edited_to _
    made action (TieRow spot x) g none = edited_to _
    made action (BeginProgram left) g none = executed left h.execpromises
    made action (AddEvent event) g none = said action event g
    made action (CopyAs new) g none = by (is_some (kept_at w new) || nat_le most_processes (length w.processes))
      where
        by : (full : Bool) → Keeps (cond full (Fails EAGAIN) (Copies new))
        by true = each
        by false = each
    made action (TakeFile n from theirs) g none =
        let r = sent_by (is_pledged h) (kept_at w from) theirs in
        taken n from theirs r refl (ap (λ a. is_foreign members a && is_okay (answer_to (take_effect w h n r))) (sym g) ∙ none)

    refused : (r : Refusal) → Keeps (refusal_effect r)
    refused (Failed errno) = each
    refused Killed = each

    own_effect : (action : Action) → (is_foreign members action && is_okay (answer_to (effect table w h action))) ≡ false →
        Keeps (effect table w h action)
    own_effect action = by_decision w h (λ e. (is_foreign members action && is_okay (answer_to e)) ≡ false → Keeps e) (decide table w.tree h action)
        (λ r none. refused r)
        (λ c is. made action c (grounds table w.tree h action c (decisions_are_guarded table w.tree h action c is)))

  -- ---- one request of anyone

  module _ (w : World) (ask : Asked) (members : List ℕ) (still : Bool) (are : Members w members now still) (keep : Keep w members)
      (no_exec : is_done is_exec table w ask members ≡ false) (no_take : is_done (is_foreign members) table w ask members ≡ false) where
    abbrev then : World
    then = (apply table w ask).1

    abbrev After : Answer × World → Type 0
    After done = (is_foreign members ask.action && is_okay done.0) ≡ false → HasKept done.1 ask.process (λ after. EachIs P after.files)

    -- a member that asked
    own : is_member members ask.process ≡ true → HasKept then ask.process (λ after. EachIs P after.files)
    own belongs = subst (λ o. After (answer_and_world table w ask o)) (sym here) (served (is_ended h)) foreign
      where
        h : ProcessState
        h = (are ask.process belongs).0

        here : kept_at w ask.process ≡ Some h
        here = (are ask.process belongs).1

        each : EachIs P h.files
        each = keep ask.process belongs h here

        foreign : (is_foreign members ask.action && is_okay (apply table w ask).0) ≡ false
        foreign = ap (λ b. b && (is_foreign members ask.action && is_okay (apply table w ask).0)) (sym belongs) ∙ no_take

        served : (ended : Bool) → After (cond {A = Answer × World} ended (Gone, w) (
          answer_to (effect table w h ask.action),
          left_by w ask.process h (effect table w h ask.action),
        ))
        served true none = (h, here, each)
        served false none =
            let e = effect table w h ask.action in (
              state_left h e,
              left_here w ask.process h e (effect_is_new table w h ask.action) here,
              own_effect w members keep h (are ask.process belongs).2.within each ask.action none,
            )

    old_kept : (m : ℕ) → is_member members m ≡ true → (h : ProcessState) → kept_at then m ≡ Some h → EachIs P h.files
    old_kept m belongs h here = by (ask.process == m) refl
      where
        by : (b : Bool) → (ask.process == m) ≡ b → EachIs P h.files
        by true same =
            let is : ask.process ≡ m = eqb-true ask.process m same in
            let mine = own (ap (is_member members) is ∙ belongs) in
            subst (λ (g : ProcessState). EachIs P g.files)
            (same_state mine.0 h (sym mine.1 ∙ ap (kept_at then) is ∙ here)) mine.2
        by false other =
            let before = are m belongs in
            let left = others_leave table w ask m before.0 before.1 (λ e. false≢true (sym other ∙ eq-eqb ask.process m e)) in
            subst (λ (g : ProcessState). EachIs P g.files) (same_state before.0 h (sym left ∙ here)) (keep m belongs before.0 before.1)

    -- a child begins with what the member has open that forked it
    child_kept : (new : ℕ) → ask.action ≡ Fork new → is_member members ask.process ≡ true → is_okay (apply table w ask).0 ≡ true →
        (h : ProcessState) → kept_at then new ≡ Some h → EachIs P h.files
    child_kept new forks belongs okay h here =
        let before = are ask.process belongs in
        let same : (record { process = ask.process; action = Fork new }) ≡ ask =
        λ i. record { process = ask.process; action = sym forks i } in
        let copied = forks_copy table w ask.process new before.0 before.1 (ap (λ a. (apply table w a).0) same ∙
        is_okay_only (apply table w ask).0 okay) in
        subst (λ (g : ProcessState). EachIs P g.files)
        (same_state before.0 h (sym (sym (ap (λ a. kept_at (apply table w a).1 new) same) ∙ copied) ∙ here))
        (keep ask.process belongs before.0 before.1)

    keep_then : Keep then (family_then table w ask members)
    keep_then m = by (is_member members ask.process) (is_okay (apply table w ask).0) refl refl
      where
        by : (a b : Bool) → is_member members ask.process ≡ a → is_okay (apply table w ask).0 ≡ b →
            is_member (cond (a && b) (with_child ask.action members) members) m ≡ true → (h : ProcessState) → kept_at then m ≡ Some h →
            EachIs P h.files
        by false b asks told belongs = old_kept m belongs
        by true false asks told belongs = old_kept m belongs
        by true true asks told belongs =
            child_or_old ask.action members m ((h : ProcessState) → kept_at then m ≡ Some h → EachIs P h.files) belongs (old_kept m)
            (λ new forks is. subst (λ n. (h : ProcessState) → kept_at then n ≡ Some h → EachIs P h.files) is
            (child_kept new forks asks told))

  keep_after : (asks : List Asked) (w : World) (members : List ℕ) (still : Bool) → Members w members now still → Keep w members →
      none_done is_exec table w asks members ≡ true → none_taken table w asks members ≡ true →
      Keep (world_after table w asks) (family table w asks members)
  keep_after [] w members still are keep no_exec no_take = keep
  keep_after (ask ∷ asks) w members still are keep no_exec no_take =
      let execs = and_parts (not (is_done is_exec table w ask members)) _ no_exec in
      let takes = and_parts (not (is_done (is_foreign members) table w ask members)) _ no_take in
      let first = not-true (is_done is_exec table w ask members) execs.0 in
      keep_after asks (apply table w ask).1 (family_then table w ask members) _ (members_then table now w ask members still are first)
      (keep_then w ask members still are keep first (not-true (is_done (is_foreign members) table w ask members) takes.0)) execs.1 takes.1

pub families_hold : FamiliesHold
families_hold table w asks sound process now here confined no_exec no_take member belongs =
    let last = members_after table now asks w (process ∷ []) true (begins table now w process here confined) no_exec member belongs in (
      last.0,
      last.1,
      keep_after table sound now Held_or_openable (λ file can. inr can) asks w (process ∷ []) true (begins table now w process here confined) alone
          no_exec no_take member belongs last.0 last.1,
    )
  where
    Held_or_openable : OpenFile → Type 0
    Held_or_openable file = IsAmong now.files file ⊎ IsOpenable table now file

    alone : (m : ℕ) → is_member (process ∷ []) m ≡ true → (h : ProcessState) → kept_at w m ≡ Some h → EachIs Held_or_openable h.files
    alone m one h at =
        let is : process ≡ m = eqb-true process m (sym (is_one process m) ∙ one) in
        subst (λ (g : ProcessState). EachIs Held_or_openable g.files) (same_state now h (sym here ∙ ap (kept_at w) is ∙ at))
        (each_among Held_or_openable now.files (λ file a. inl a))
