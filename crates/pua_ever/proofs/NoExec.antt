-- Where no line has `exec`, no exec of a member is answered ok.
use Rattle.pua_ever.proofs.Common.{◌≡◌, ◌⊎◌, ℕ, List, [], ◌∷◌, Bool, true, false, refl, ap, subst, ◌∙◌, sym, inl, inr, Some, Ok, not}
use Rattle.pua_ever.proofs.Common.{false≢true, and_parts, and_from, Tree, WellFormed, CallTable, ProcessState, start, verdict_of}
use Rattle.pua_ever.proofs.Common.{is_allowed, if_promised, allowed_unless, or_fault, allowed_is, Asked, World, apply, kept_at, Change}
use Rattle.pua_ever.proofs.Common.{IsDecided, Action, OnPath, Symlink, Rename, Link, Pledge, Unveil, Lock, Fork, Exit, Uses, Hold, Close, Fchdir, Take, Comment, is_member}
use Rattle.pua_ever.proofs.Common.{is_exec}
use Rattle.pua_ever.proofs.Common.{is_done, none_done, family_then, NoCallNeedsError, TreesAlong, IsWithin, verdicts_within}
use Rattle.pua_ever.proofs.Common.{Members, members_then, first_tree, may_edit, EditsNeedC, VeilsStand}
use Rattle.pua_policy.specs.Verdict.{object_named}
use Rattle.pua_calls.specs.TmpTable.{tmp_table}
use Rattle.pua_calls.specs.declared.call.Call.TheVariants as call
use Rattle.pua_calls.proofs.ForCallers.{tmp_table_needs_no_error}
use Rattle.pua_policy.specs.declared.answer.Verdict.TheVariants as verdicts
use Rattle.pua_script.specs.Replay.{answer_to, refusal_effect}
use Rattle.pua_script.specs.Decide.{decide}
use Rattle.pua_script.specs.Guards.{IsOpened, OnOne}
use Rattle.pua_policy.specs.declared.answer.Refusal.{Refusal}
use Rattle.pua_policy.specs.declared.answer.Refusal.TheVariants.{Failed, Killed}
use Rattle.pua_script.proofs.ForCallers.{by_living, by_decision, decisions_are_guarded, opened_no_exec}
use Rattle.pua_script.specs.Family.{is_okay}
use Rattle.pua_script.proofs.ForCallers.{begins, by_other, at_all}
use Rattle.pua_script.proofs.ForCallers.{each_spares}
use Rattle.pua_script.specs.Laws.{IsConfined}
use Rattle.pua_ever.specs.Laws.{MembersEdit, NoLineHasExec, WithoutExec}
use Rattle.pua_ever.proofs.Growing.{takes, requests_grow}
use Rattle.pua_ever.proofs.Origins.{Stays, at_first}
use Rattle.pua_ever.proofs.RequestKeepsRows.{stays_then}
use Rattle.pua_ever.proofs.Along.{grown_within}
use Rattle.pua_ever.proofs.Unedited.{unedited, still_unable}
use Rattle.pua_ever.proofs.Ending.{foreseen}
use Rattle.pua_script.specs.declared.request.Action.TheVariants.{Chroot}

-- an exec that was answered ok was allowed on its path
pub record Execs (table : CallTable) (w : World) (h : ProcessState) : Type 0 where
  pub path : List ℕ
  pub allowed : verdict_of w.tree table h call.Exec (object_named w.tree h call.Exec path) ≡ verdicts.Allowed

execs_by : (table : CallTable) (w : World) (h : ProcessState) (action : Action) (c : Change) → IsDecided table w.tree h action c →
    is_exec action ≡ true → Execs table w h
execs_by table w h (OnPath call.Exec path) c d is = by d.1
  where
    by : OnOne table w.tree h call.Exec path d.0 ⊎ IsOpened table w.tree h call.Exec path d.0 → Execs table w h
    by (inl one) =
        let judged : verdict_of w.tree table h call.Exec (Ok d.0) ≡ verdicts.Allowed =
        (λ i. if_promised (one.promised i) (allowed_unless (or_fault (one.covered i) (one.fitting i)))) in
        record { path = path; allowed = subst (λ r. verdict_of w.tree table h call.Exec r ≡ verdicts.Allowed) (sym one.found) judged }
    by (inr one) = absurd (opened_no_exec table h call.Exec path one.opening one.opened refl)
execs_by table w h (OnPath _ path) c d is = absurd (false≢true is)
execs_by table w h (Symlink target path) c d is = absurd (false≢true is)
execs_by table w h (Rename old new) c d is = absurd (false≢true is)
execs_by table w h (Link old new) c d is = absurd (false≢true is)
execs_by table w h (Pledge p x) c d is = absurd (false≢true is)
execs_by table w h (Unveil path perms) c d is = absurd (false≢true is)
execs_by table w h Lock c d is = absurd (false≢true is)
execs_by table w h (Fork new) c d is = absurd (false≢true is)
execs_by table w h Exit c d is = absurd (false≢true is)
execs_by table w h (Uses sets) c d is = absurd (false≢true is)
execs_by table w h (Hold number asked path) c d is = absurd (false≢true is)
execs_by table w h (Close number) c d is = absurd (false≢true is)
execs_by table w h (Fchdir number) c d is = absurd (false≢true is)
execs_by table w h (Chroot path) c d is = absurd (false≢true is)
execs_by table w h (Take number from theirs) c d is = absurd (false≢true is)
execs_by table w h Comment c d is = absurd (false≢true is)

pub execs_then : (table : CallTable) (w : World) (ask : Asked) (h : ProcessState) → kept_at w ask.process ≡ Some h → is_exec ask.action ≡ true →
    is_okay (apply table w ask).0 ≡ true → Execs table w h
execs_then table w ask h here is =
    by_living table w ask h here (λ done. is_okay done.0 ≡ true → Execs table w h) (λ ok. absurd (false≢true ok))
    (by_decision w h (λ e. is_okay (answer_to e) ≡ true → Execs table w h) (decide table w.tree h ask.action) refusing
    (λ c decided ok. execs_by table w h ask.action c (decisions_are_guarded table w.tree h ask.action c decided) is))
  where
    refusing : (r : Refusal) → is_okay (answer_to (refusal_effect r)) ≡ true → Execs table w h
    refusing (Failed errno) ok = absurd (false≢true ok)
    refusing Killed ok = absurd (false≢true ok)

module _ (table : CallTable) (sound : NoCallNeedsError table) (needs : EditsNeedC table) (t0 : Tree) (now : ProcessState) (well0 : WellFormed t0)
    (stand : VeilsStand t0 now) (never : NoLineHasExec t0 (tmp_table table) now) where
  abbrev tmp : CallTable
  tmp = tmp_table table

  sound_too : NoCallNeedsError tmp
  sound_too = tmp_table_needs_no_error table sound

  none_now : (w : World) (ask : Asked) (members : List ℕ) → Members w members now false → Stays tmp t0 now well0 stand w.tree →
      (may_edit tmp now ≡ true) ⊎ (w.tree ≡ t0)
      → is_done is_exec table w ask members ≡ false
  none_now w ask members are k edit = by (is_done is_exec table w ask members) refl
    where
      impossible : is_done is_exec table w ask members ≡ true → ⊥
      impossible is =
          let parts = and_parts (is_member members ask.process) _ is in
          let done = and_parts (is_exec ask.action) _ parts.1 in
          let asker = are ask.process parts.0 in
          let exec = execs_then table w ask asker.0 asker.1 done.0 done.1 in
          let named = object_named w.tree asker.0 call.Exec exec.path in
          let allowed = verdicts_within now asker.0 asker.2.within tmp sound_too w.tree call.Exec named (ap is_allowed exec.allowed) in
          let seen = foreseen tmp t0 now well0 stand w.tree k edit call.Exec (start asker.0) exec.path
          (allowed_is (verdict_of w.tree tmp now call.Exec named) allowed) in
          never seen.line seen.listed seen.allows

      by : (b : Bool) → is_done is_exec table w ask members ≡ b → is_done is_exec table w ask members ≡ false
      by false e = e
      by true e = absurd (impossible e)

  edit_then : (w : World) (ask : Asked) (h : ProcessState) → kept_at w ask.process ≡ Some h → IsWithin now h →
      (may_edit tmp now ≡ true) ⊎ (w.tree ≡ t0) → (may_edit tmp now ≡ true) ⊎ ((apply table w ask).1.tree ≡ t0)
  edit_then w ask h here within (inl edits) = inl edits
  edit_then w ask h here within (inr same) = by (may_edit tmp now) refl
    where
      by : (b : Bool) → may_edit tmp now ≡ b → (may_edit tmp now ≡ true) ⊎ ((apply table w ask).1.tree ≡ t0)
      by true edits = inl edits
      by false lacks = inr (unedited table w ask h here (still_unable tmp sound_too now h within lacks) ∙ same)

  pub none_along : (asks : List Asked) (w : World) (members : List ℕ) → Members w members now false → MembersEdit table w asks members →
      TreesAlong table w asks → Stays tmp t0 now well0 stand w.tree → (may_edit tmp now ≡ true) ⊎ (w.tree ≡ t0) →
      none_done is_exec table w asks members ≡ true
  none_along [] w members are edits trees k edit = refl
  none_along (ask ∷ asks) w members are edits trees k edit =
      let after = (apply table w ask).1 in
      let first = none_now w ask members are k edit in
      let then = later edits.0 in
      and_from (not (is_done is_exec table w ask members)) _ (ap not first)
      (none_along asks after (family_then table w ask members) (members_then table now w ask members false are first) edits.1 trees.1
      then.0 then.1)
    where
      later : (is_member members ask.process ≡ true) ⊎ ((apply table w ask).1.tree ≡ w.tree) →
          Stays tmp t0 now well0 stand (apply table w ask).1.tree × ((may_edit tmp now ≡ true) ⊎ ((apply table w ask).1.tree ≡ t0))
      later (inl belongs) =
          let asker = are ask.process belongs in
          let after = (apply table w ask).1 in
          let well = first_tree table after asks trees.1 in
          let spared = by_other asker.0 now asker.2.within.tightens.unveils w.tree after.tree
          (each_spares table (takes table needs) w ask asker.0 trees.0 well asker.1) in
          let grown = grown_within tmp sound_too now asker.0 asker.2.within w.tree trees.0 after.tree
          (requests_grow table needs w ask asker.0 trees.0 asker.1) in
          (stays_then tmp t0 now well0 stand w.tree after.tree k well grown spared, edit_then w ask asker.0 asker.1 asker.2.within edit)
      later (inr same) =
          (subst (Stays tmp t0 now well0 stand) (sym same) k, elim edit [ inl may ↦ inl may | inr is ↦ inr (same ∙ is) ])

-- whoever else asks, if that leaves the tree
pub without_exec_beside : (table : CallTable) → NoCallNeedsError table → EditsNeedC table →
    (w : World) (asks : List Asked) (process : ℕ) (now : ProcessState) →
    kept_at w process ≡ Some now → IsConfined now → VeilsStand w.tree now → TreesAlong table w asks →
    MembersEdit table w asks (process ∷ []) → NoLineHasExec w.tree (tmp_table table) now → none_done is_exec table w asks (process ∷ []) ≡ true
without_exec_beside table sound needs w asks process now here confined stand trees edits never =
    let well = first_tree table w asks trees in
    none_along table sound needs w.tree now well stand never asks w (process ∷ [])
    (at_all w (process ∷ []) now (begins table now w process here confined)) edits trees (at_first (tmp_table table) w.tree now well stand)
    (inr refl)

pub without_exec : WithoutExec
without_exec table sound needs w asks process now here confined stand trees edits never =
    without_exec_beside table sound needs w asks process now here confined stand trees edits never
