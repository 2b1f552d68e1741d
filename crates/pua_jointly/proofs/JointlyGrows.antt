-- Who has more help has no less in its list.
use Rattle.pua_jointly.proofs.Common.{◌≡◌, ◌==◌, ◌||◌, Bool, ℕ, List, Some, true, false, refl, false≢true, and_from, and_parts, or_left, or_right}
use Rattle.pua_jointly.proofs.Common.{Among, among_contained, contained}
use Rattle.pua_ever.proofs.ForCallers.{any_among, any_found}
use Rattle.pua_jointly.proofs.JointWords.{either_true}
use Rattle.std.specs.List.{Contains, list_any}
use Rattle.pua_tree.specs.Tree.{Tree}
use Rattle.pua_calls.specs.Calls.{CallTable}
use Rattle.pua_calls.specs.Promises.{fattr, holds, writing}
use Rattle.pua_calls.specs.declared.call.Call.{Call}
use Rattle.pua_policy.specs.States.{ProcessState, held_set}
use Rattle.pua_policy.specs.declared.open_file.OpenFile.{OpenFile}
use Rattle.pua_policy.specs.Verdict.{Object}
use Rattle.pua_policy.specs.declared.answer.Cover.{Cover}
use Rattle.pua_ever.specs.Ever.{Thing, is_turned_by}
use Rattle.pua_jointly.proofs.Common.{inl, inr, At, Comes, NewFile, Slot, Stands}
use Rattle.pua_jointly.specs.Jointly.{Fact, Can, stays_in, moved_in, born_in, not_above_root, not_above_up, not_above_made, dir_own, dir_root}
use Rattle.pua_jointly.specs.Jointly.{dir_within, name_own, name_within, free_none, free_made, free_dir, free_other, way_in_by_c}
use Rattle.pua_jointly.specs.Jointly.{way_in_by_name, way_in_by_turn, writes_at, makes_at, stays_at, moved_at, born_at, Shows, shows_dir}
use Rattle.pua_jointly.specs.Jointly.{shows_emptied, shows_others, shows_row, shows_name, shows_new_dir, shows_new_others, shows_new_file}
use Rattle.pua_jointly.specs.Jointly.{shows_new_link, shows_new_sock, shows_new_fifo, CanTurn, IsJointlyStarted, IsTurned, JointListsGrow, JointlyGrows}
use Rattle.pua_jointly.specs.Jointly.{can_send, sends_to_set, sets_received, turning_by}

module _ (t : Tree) (table : CallTable) (crew more : List ProcessState) (within : (a : ProcessState) → Contains crew a → Contains more a) where
  pub grows : {fact : Fact} → Can t table crew fact → Can t table more fact
  grows (stays_in name h1 h2) = stays_in name h1 h2
  grows (moved_in a k h1 h2 h3 h4 h5 h6) = moved_in a k (within _ h1) (grows h2) h3 (grows h4) (grows h5) h6
  grows (born_in h1 h2 h3 h4) = born_in (within _ h1) (grows h2) (grows h3) h4
  grows (not_above_root h1) = not_above_root h1
  grows (not_above_up p h1 h2 h3) = not_above_up p h1 (grows h2) (grows h3)
  grows (not_above_made) = not_above_made
  grows (dir_own h1 h2) = dir_own h1 h2
  grows (dir_root h1) = dir_root h1
  grows (dir_within p h1 h2 h3) = dir_within p h1 (grows h2) (grows h3)
  grows (name_own h1 h2) = name_own h1 h2
  grows (name_within h1 h2) = name_within h1 (grows h2)
  grows (free_none h1) = free_none h1
  grows (free_made) = free_made
  grows (free_dir a d k h1 h2 h3 h4 none h5 h6) = free_dir a d k (within _ h1) h2 h3 h4 none (grows h5) h6
  grows (free_other a x k h1 h2 h3 h4 h5 h6) = free_other a x k (within _ h1) h2 h3 h4 (grows h5) h6
  grows (way_in_by_c k h1 h2) = way_in_by_c k (grows h1) h2
  grows (way_in_by_name name perms h1 h2 h3 h4) = way_in_by_name name perms h1 h2 h3 (grows h4)
  grows (way_in_by_turn y perms other k h1 h2 h3 h4 h5 h6 h7 h8 h9 h10) =
      way_in_by_turn y perms other k (grows h1) h2 h3 (λ name x at. grows (h4 name x at)) (grows h5) h6 h7 (grows h8) h9 h10
  grows (writes_at k h1 h2 h3) = writes_at k (grows h1) h2 (grows h3)
  grows (makes_at d name k h1 h2 h3 h4) = makes_at d name k (grows h1) (grows h2) h3 h4
  grows (stays_at x h1 h2) = stays_at x h1 h2
  grows (moved_at a d name k h1 h2 h3 h4 h5 h6) = moved_at a d name k (within _ h1) (grows h2) (grows h3) h4 (grows h5) h6
  grows (born_at h1 h2 h3 h4) = born_at (within _ h1) (grows h2) (grows h3) h4

  pub shows_more : {a : ProcessState} {thing : Thing} {cover : Cover} {object : Object} → Shows t table crew a thing cover object →
      Shows t table more a thing cover object
  shows_more (shows_dir can) = shows_dir (grows can)
  shows_more (shows_emptied other none can free) = shows_emptied other none (grows can) (λ name x at. grows (free name x at))
  shows_more (shows_others can) = shows_others (grows can)
  shows_more (shows_row d other at lies over) = shows_row d other at (grows lies) (grows over)
  shows_more (shows_name is own free) = shows_name is own (grows free)
  shows_more (shows_new_dir maker can) = shows_new_dir maker (grows can)
  shows_more (shows_new_others maker can) = shows_new_others maker (grows can)
  shows_more (shows_new_file maker d name lies over) = shows_new_file maker d name (grows lies) (grows over)
  shows_more (shows_new_link maker d name lies over) = shows_new_link maker d name (grows lies) (grows over)
  shows_more (shows_new_sock maker d name lies over) = shows_new_sock maker d name (grows lies) (grows over)
  shows_more (shows_new_fifo maker d name lies over) = shows_new_fifo maker d name (grows lies) (grows over)

pub jointly_grows : JointlyGrows
jointly_grows t table crew more within a thing call can = record {
  cover = can.cover;
  object = can.object;
  shows = shows_more t table crew more within can.shows;
  named = can.named;
  allowed = can.allowed;
}

-- one of two, where each asks for no more
either_more : (a b c d : Bool) → (a ≡ true → b ≡ true) → (c ≡ true → d ≡ true) → (a || c) ≡ true → (b || d) ≡ true
either_more a b c d first second e = elim (either_true a c e) [
  | inl is ↦ or_left b d (first is)
  | inr is ↦ or_right b d (second is)
]

-- more calls make programs of what can be sent, and more of what is open is made such
among_more : (few many : Bool) → (few ≡ true → many ≡ true) → (call : Call) → Among (turning_by few) call → Among (turning_by many) call
among_more true true more c there = there
among_more true false more c there = absurd (false≢true (more refl))
among_more false true more c there = inr there
among_more false false more c there = there

pub turning_more : (few many : Bool) → (few ≡ true → many ≡ true) → (call : Call) → Contains (turning_by few) call →
    Contains (turning_by many) call
turning_more few many more c there =
    contained (turning_by many) c (among_more few many more c (among_contained (turning_by few) c there))

pub open_more : (few many : Bool) → (few ≡ true → many ≡ true) → (files : List (ℕ × OpenFile)) (node : ℕ) →
    list_any (is_turned_by few node) files ≡ true → list_any (is_turned_by many node) files ≡ true
open_more few many more files node e =
    let one = any_found (is_turned_by few node) files e in
    let both = and_parts (one.0.1.node == node) _ one.2 in
    any_among (is_turned_by many node) files one.0 one.1
    (and_from (one.0.1.node == node) _ both.0 (either_more few many (holds one.0.1.letters writing) (holds one.0.1.letters writing) more
    (λ writes. writes) both.1))

module _ (t : Tree) (table : CallTable) (crew more : List ProcessState) (within : (a : ProcessState) → Contains crew a → Contains more a) where
  started_more : (a : ProcessState) (thing : Thing) → IsJointlyStarted t table crew a thing → IsJointlyStarted t table more a thing
  started_more a thing is = record {
    cover = is.cover;
    is = is.is;
    starts = is.starts;
    shows = shows_more t table crew more within is.shows;
    allowed = is.allowed;
  }

  abbrev sets : ProcessState → Bool
  sets h = holds (held_set h) fattr

  -- who can send to one of them that sets modes can send to one of more
  sends_more : (h : ProcessState) → sends_to_set table crew h ≡ true → sends_to_set table more h ≡ true
  sends_more h e =
      let both = and_parts (can_send table h) (list_any sets_received crew) e in
      let one = any_found sets_received crew both.1 in
      and_from (can_send table h) (list_any sets_received more) both.0
      (any_among sets_received more one.0 (among_contained more one.0 (within one.0 (contained crew one.0 one.1))) one.2)

  turned_more : (node : ℕ) → IsTurned t table crew node → IsTurned t table more node
  turned_more node is = record {
    agent = is.agent;
    among = within is.agent is.among;
    row = is.row;
    at = is.at;
    file = is.file;
    by = elim is.by [
      | inl one ↦ inl (record {
        call = one.call;
        turns = turning_more (sends_to_set table crew is.agent) (sends_to_set table more is.agent) (sends_more is.agent) one.call one.turns;
        allowed = jointly_grows t table crew more within is.agent (Stands (At (Slot is.row.0 is.row.1 (Some node)))) one.call one.allowed;
      })
      | inr held ↦ inr (open_more (sets is.agent || sends_to_set table crew is.agent) (sets is.agent || sends_to_set table more is.agent)
          (either_more (sets is.agent) (sets is.agent) _ _ (λ own. own) (sends_more is.agent)) is.agent.files node held)
    ];
  }

  turn_more : (thing : Thing) → CanTurn t table crew thing → CanTurn t table more thing
  turn_more (Stands (At (Slot dir name (Some node)))) can = turned_more node can
  turn_more (Comes NewFile) can = tt
  turn_more _ none = absurd none

pub joint_lists_grow : JointListsGrow
joint_lists_grow t table crew more within a thing call listed = elim listed [
  | inl can ↦ inl (jointly_grows t table crew more within a thing call can)
  | inr program ↦
      inr (program.0, started_more t table crew more within a thing program.1, turn_more t table crew more within thing program.2)
]
