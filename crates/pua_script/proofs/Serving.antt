-- One request of the replay, from what the process that asks did.
use Rattle.pua_script.proofs.Common.{◌≡◌, ℕ, [], ◌∷◌, ◌++◌, ◌||◌, nat_eq, List, length, true, false, cond, refl, sym, ap, ◌∙◌}
use Rattle.pua_script.proofs.Common.{nat_le, Tree, CallTable, proc, ProcessState, may_any, EAGAIN, Asked, Answer, WorldFault}
use Rattle.pua_script.proofs.Common.{Bool, Errno, OpenFile, TakeFile, is_pledged, sent_by, take_effect, option_map}
use Rattle.pua_script.proofs.Common.{Okay, Gone, Action, Fork, CopyAs, World, Effect, come_of, Fails, Kills, Leaves, Copies, effect}
use Rattle.pua_script.proofs.Common.{answer_to, left_by, answer_and_world, apply, most_processes, WorldState, put_at}
use Rattle.std.proofs.Common.{Result, Ok, Err, IfOk, OnErr}
use Rattle.std.proofs.Common.{Option, Some, None, is_some, true≢false}
use Rattle.std.specs.Map.{lookup, set_value}
use Rattle.std.proofs.lemmas.Map.Steps.{set_value_same}
use Rattle.std.specs.Borrow.{Bor}
use Rattle.std.specs.Prelude.{option_copied}
use Rattle.pua_calls.specs.Promises.{recvfd}
use Rattle.pua_policy.specs.Verdict.{refusal_of}
use Rattle.pua_script.specs.declared.request.Action.TheVariants.{Take}
use Rattle.pua_script.proofs.Doing.{as_same, promises_allow}
use Rattle.pua_script.specs.Worlds.{Does, Acts, apply_to, run_to, with_table, with_world, state_after_all}
use Rattle.pua_script.specs.Replay.{do_decided}
use Rattle.pua_script.proofs.Common.{decide, same_Some}
use Rattle.pua_script.specs.declared.answer.Answer.TheVariants.{Failed}
use Rattle.pua_script.proofs.Composition.{replay_composes}
use Rattle.pua_script.proofs.Entries.{put_there, put_back, put_insert}
use Rattle.indexmap.specs.IndexMap.{insert_entry}

-- a request of a living process
module _ (table : CallTable) (t : Tree) (processes : List (ℕ × ProcessState)) (ask : Asked) (p : ProcessState)
    (there : lookup (nat_eq ask.process) processes ≡ Some p) (living : p.ended ≡ false) where
  abbrev here : World
  here = record { tree = t; processes = processes }

  abbrev does_it : Effect
  does_it = effect table here p ask.action

  pub lives : apply table here ask ≡ (answer_to does_it, left_by here ask.process p does_it)
  lives = ap (answer_and_world table here ask) there
      ∙ ap (λ b. cond b (Gone, here) (answer_to does_it, left_by here ask.process p does_it)) living

  -- what it did is its request of the replay
  module _ (answer : Answer) (u : Tree) (q : ProcessState) (more : List (ℕ × ProcessState))
      (wrote : more ≡ set_value (nat_eq ask.process) processes q) where
    put : more ≡ put_at ask.process q processes
    put = wrote ∙ sym (put_there ask.process q processes (ap is_some there))

    left : (e : Effect) → Does t p e answer u q → ◌≡◌ {A = Answer × World} (answer, record { tree = u; processes = more }) (answer_to e, left_by here ask.process p e)
    left (Fails errno) does = λ i. (
      does.told i,
      record {
        tree = does.left i;
        processes = ((put ∙ ap (λ x. put_at ask.process x processes) does.is) ∙ put_back ask.process p processes there) i;
      },
    )
    left Kills does = λ i. (
      does.told i,
      record {
        tree = does.left i;
        processes = (put ∙ ap (λ x. put_at ask.process x processes) does.is) i;
      },
    )
    left (Leaves v g) does = λ i. (
      does.told i,
      record {
        tree = does.left i;
        processes = (put ∙ ap (λ x. put_at ask.process x processes) does.is) i;
      },
    )
    left (Copies new) does = absurd (true≢false does.alone)

    pub serves : Does t p does_it answer u q → (answer, record { tree = u; processes = more }) ≡ apply table here ask
    serves does = left does_it does ∙ sym lives

  -- where a growth may have been refused
  pub all_serve : (r : Result Answer WorldFault) (u : Tree) (q : ProcessState) (more : List (ℕ × ProcessState)) →
      more ≡ set_value (nat_eq ask.process) processes q → Acts table t p ask.action r u q →
      IfOk r (λ answer. (answer, record { tree = u; processes = more }) ≡ apply table here ask)
  all_serve (Ok answer) u q more wrote acts = serves answer u q more wrote (acts processes)
  all_serve (Err fault) u q more wrote acts = tt

  -- where it was, the replay answers `ok`
  pub all_okay : (r : Result Answer WorldFault) (u : Tree) (q : ProcessState) → Acts table t p ask.action r u q →
      OnErr r ((apply table here ask).0 ≡ Okay)
  all_okay (Ok answer) u q acts = tt
  all_okay (Err fault) u q acts = ap (λ d. d.0) lives ∙ acts processes

-- a process that may fork, and the processes with its copy
pub forks : (table : CallTable) (t : Tree) (processes : List (ℕ × ProcessState)) (number new : ℕ) (p copy : ProcessState)
    (mid more : List (ℕ × ProcessState)) → lookup (nat_eq number) processes ≡ Some p → p.ended ≡ false → refusal_of (may_any p (proc ∷ [])) ≡ None
    → (is_some (lookup (nat_eq new) processes) || nat_le most_processes (length processes)) ≡ false
    → copy ≡ p → mid ≡ processes → more ≡ insert_entry nat_eq mid new copy → ◌≡◌ {A = Answer × World} (Okay, record { tree = t; processes = more })
    (apply table (record { tree = t; processes = processes }) (record { process = number; action = Fork new }))
forks table t processes number new p copy mid more there living may_fork free copied same puts =
    let w : World = record { tree = t; processes = processes } in
    (λ i. (
      Okay,
      record {
        tree = t;
        processes = (puts ∙ put_insert nat_eq (λ a b. refl) new copy mid ∙ (λ j. put_at new (copied j) (same j))) i;
      },
    ))
    ∙ sym (lives table t processes (record { process = number; action = Fork new }) p there living
    ∙ ap (λ e. (answer_to e, left_by w number p e)) (ap (come_of w p) (promises_allow (may_any p (proc ∷ [])) (Ok (CopyAs new)) may_fork)
    ∙ ap (λ b. cond b (Fails EAGAIN) (Copies new)) free))

-- a process that may fork where no process may be made, written back as it was
pub fork_fails : (table : CallTable) (t : Tree) (processes : List (ℕ × ProcessState)) (number new : ℕ) (p : ProcessState)
    (more : List (ℕ × ProcessState)) → Some p ≡ lookup (nat_eq number) processes → p.ended ≡ false → refusal_of (may_any p (proc ∷ [])) ≡ None
    → (is_some (lookup (nat_eq new) processes) || nat_le most_processes (length processes)) ≡ true
    → more ≡ set_value (nat_eq number) processes p → ◌≡◌ {A = Answer × World} (Failed EAGAIN, record { tree = t; processes = more })
    (apply table (record { tree = t; processes = processes }) (record { process = number; action = Fork new }))
fork_fails table t processes number new p more there living may_fork full wrote =
    let w : World = record { tree = t; processes = processes } in
    (λ i. (Failed EAGAIN, record { tree = t; processes = (wrote ∙ set_value_same (nat_eq number) processes p (sym there)) i }))
    ∙ sym (lives table t processes (record { process = number; action = Fork new }) p (sym there) living
    ∙ ap (λ e. (answer_to e, left_by w number p e)) (ap (come_of w p) (promises_allow (may_any p (proc ∷ [])) (Ok (CopyAs new)) may_fork)
    ∙ ap (λ b. cond b (Fails EAGAIN) (Copies new)) full))

-- a process that may take, by what is sent to it
pub takes : (table : CallTable) (t : Tree) (processes : List (ℕ × ProcessState)) (process number from theirs : ℕ) (p q : ProcessState)
    (sent : Result OpenFile Errno) (answer : Answer) (more : List (ℕ × ProcessState)) → lookup (nat_eq process) processes ≡ Some p →
    p.ended ≡ false → refusal_of (may_any p (recvfd ∷ [])) ≡ None →
    sent_by (is_pledged p) (lookup (nat_eq from) processes) theirs ≡ sent
    → Does t p (take_effect (record { tree = t; processes = processes }) p number sent) answer t q
    → more ≡ set_value (nat_eq process) processes q → ◌≡◌ {A = Answer × World} (answer, record { tree = t; processes = more })
    (apply table (record { tree = t; processes = processes }) (record { process = process; action = Take number from theirs }))
takes table t processes process number from theirs p q sent answer more there living may_take is does wrote =
    let w : World = record { tree = t; processes = processes } in
    serves table t processes (record { process = process; action = Take number from theirs }) p there living answer t q more wrote
    (as_same t t p answer q _ _ (ap (come_of w p) (promises_allow (may_any p (recvfd ∷ [])) (Ok (TakeFile number from theirs)) may_take)
    ∙ ap (take_effect w p number) is) does)

-- what is sent is that of the process with the number
pub sent_seen : (p : ProcessState) (o : Option (Bor ProcessState)) (processes : List (ℕ × ProcessState)) (pledged : Bool) (from theirs : ℕ)
    (sent : Result OpenFile Errno) → sent ≡ sent_by pledged (option_map (λ process. process.now) o) theirs → pledged ≡ is_pledged p →
    option_copied o ≡ lookup (nat_eq from) processes → sent_by (is_pledged p) (lookup (nat_eq from) processes) theirs ≡ sent
sent_seen p o processes pledged from theirs sent is same found =
    sym (is ∙ (λ i. sent_by (same i) (found i) theirs))

-- what is answered by none, or by one that has ended
pub gone : (table : CallTable) (w : World) (ask : Asked) → ((p : ProcessState) → lookup (nat_eq ask.process) w.processes ≡ Some p →
    p.ended ≡ true) → (Gone, w) ≡ apply table w ask
gone table w ask ended = by (lookup (nat_eq ask.process) w.processes) refl
  where
    by : (o : Option ProcessState) → lookup (nat_eq ask.process) w.processes ≡ o → (Gone, w) ≡ answer_and_world table w ask o
    by None at = refl
    by (Some p) at = ap (λ b. cond b (Gone, w) (do_decided w ask.process p (decide table w.tree p ask.action))) (sym (ended p at))

-- a process that had ended, written back as it was
pub unserved : (table : CallTable) (t : Tree) (processes : List (ℕ × ProcessState)) (ask : Asked) (p : ProcessState)
    (more : List (ℕ × ProcessState)) → Some p ≡ lookup (nat_eq ask.process) processes → p.ended ≡ true
    → more ≡ set_value (nat_eq ask.process) processes p → ◌≡◌ {A = Answer × World} (Gone, record { tree = t; processes = more })
    (apply table (record { tree = t; processes = processes }) ask)
unserved table t processes ask p more there ended wrote =
    (λ i. (Gone, record { tree = t; processes = (wrote ∙ set_value_same (nat_eq ask.process) processes p (sym there)) i }))
    ∙ gone table (record { tree = t; processes = processes }) ask
    (λ q at. ap (λ (x : ProcessState). x.ended) (same_Some q p (sym at ∙ sym there)) ∙ ended)

-- one request more
pub served_more : (before mid after : WorldState) (asks : List Asked) (told : List Answer) (ask : Asked) (answer : Answer) →
    (told, mid) ≡ run_to before asks → (answer, after) ≡ apply_to mid ask → (told ++ answer ∷ [], after) ≡ run_to before (asks ++ ask ∷ [])
served_more before mid after asks told ask answer first next =
    let step : (answer, after) ≡ apply_to (state_after_all before asks) ask = next ∙ ap (λ d. apply_to d.1 ask) first in
    let composed = replay_composes before.table (record { tree = before.tree; processes = before.processes }) asks (ask ∷ []) in
    (λ i. ((first i).0 ++ (step i).0 ∷ [], (step i).1)) ∙ (λ i. (sym composed.0 i, with_world before (sym composed.1 i)))

-- a request of a world is one of the same world, by its number and what it asks for
pub as_asked : (n : ℕ) (a : Action) (ask : Asked) → n ≡ ask.process → a ≡ ask.action → record { process = n; action = a } ≡ ask
as_asked n a ask number action = (λ i. record { process = number i; action = action i })

module _ (r : Result Answer WorldFault) (table : CallTable) (t : Tree) (before : List (ℕ × ProcessState)) (ask asked : Asked) (s : WorldState)
    (is : with_table table (record { tree = t; processes = before }) ≡ s) (same : ask ≡ asked) where
  pub answered : (u : Tree) (after : List (ℕ × ProcessState)) →
      IfOk r (λ answer. (answer, record { tree = u; processes = after }) ≡ apply table (record { tree = t; processes = before }) ask)
      → IfOk r (λ answer. (answer, with_table table (record { tree = u; processes = after })) ≡ apply_to s asked)
  answered u after served = by r served
    where
      by : (r : Result Answer WorldFault) →
          IfOk r (λ answer. (answer, record { tree = u; processes = after }) ≡ apply table (record { tree = t; processes = before }) ask)
          → IfOk r (λ answer. (answer, with_table table (record { tree = u; processes = after })) ≡ apply_to s asked)
      by (Ok answer) served = ap (λ d. (d.0, with_table table d.1)) served ∙ (λ i. apply_to (is i) (same i))
      by (Err fault) served = tt

  pub answered_okay : OnErr r ((apply table (record { tree = t; processes = before }) ask).0 ≡ Okay) → OnErr r ((apply_to s asked).0 ≡ Okay)
  answered_okay okay = by r okay
    where
      by : (r : Result Answer WorldFault) → OnErr r ((apply table (record { tree = t; processes = before }) ask).0 ≡ Okay) →
          OnErr r ((apply_to s asked).0 ≡ Okay)
      by (Ok answer) okay = tt
      by (Err fault) okay = (λ i. (apply_to (sym is i) (sym same i)).0) ∙ okay

-- a fork of which every tree and table is said
pub at_these : (r : Result Answer WorldFault) (P : Tree → CallTable → Answer → Type 0) (t : Tree) (table : CallTable) →
    IfOk r (λ answer. (t : Tree) (table : CallTable) → P t table answer) → IfOk r (P t table)
at_these (Ok answer) P t table so = so t table
at_these (Err fault) P t table so = tt

pub on_these : (r : Result Answer WorldFault) (P : Tree → CallTable → Type 0) (t : Tree) (table : CallTable) →
    OnErr r ((t : Tree) (table : CallTable) → P t table) → OnErr r (P t table)
on_these (Ok answer) P t table so = tt
on_these (Err fault) P t table so = so t table

-- a process written back as it was
pub same_entries : (n : ℕ) (p q : ProcessState) (entries more : List (ℕ × ProcessState)) → Some p ≡ lookup (nat_eq n) entries →
    more ≡ set_value (nat_eq n) entries q → q ≡ p → more ≡ entries
same_entries n p q entries more there wrote same = wrote ∙ set_value_same (nat_eq n) entries q (sym there ∙ ap Some (sym same))

-- where a growth was refused, nothing changed
pub all_kept : (r : Result Answer WorldFault) (t u : Tree) (n : ℕ) (p q : ProcessState) (entries more : List (ℕ × ProcessState)) →
    Some p ≡ lookup (nat_eq n) entries → more ≡ set_value (nat_eq n) entries q
    → OnErr r ((u ≡ t) × (q ≡ p)) → OnErr r ((u ≡ t) × (more ≡ entries))
all_kept (Ok answer) t u n p q entries more there wrote same = tt
all_kept (Err fault) t u n p q entries more there wrote same = (same.0, same_entries n p q entries more there wrote same.1)

pub world_kept : (r : Result Answer WorldFault) (t u : Tree) (table : CallTable) (entries more : List (ℕ × ProcessState)) (s : WorldState) →
    record { tree = t; table = table; processes = entries } ≡ s
    → OnErr r ((u ≡ t) × (more ≡ entries)) → OnErr r (record { tree = u; table = table; processes = more } ≡ s)
world_kept (Ok answer) t u table entries more s is same = tt
world_kept (Err fault) t u table entries more s is same = (λ i. record { tree = same.0 i; table = table; processes = same.1 i }) ∙ is

pub processes_kept : (r : Result Answer WorldFault) (t : Tree) (table : CallTable) (entries more : List (ℕ × ProcessState))
    (s : WorldState) → record { tree = t; table = table; processes = entries } ≡ s
    → OnErr r (more ≡ entries) → OnErr r (record { tree = t; table = table; processes = more } ≡ s)
processes_kept (Ok answer) t table entries more s is same = tt
processes_kept (Err fault) t table entries more s is same = ap (λ es. record { tree = t; table = table; processes = es }) same ∙ is
