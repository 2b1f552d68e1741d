-- Where no line at or below the root of processes that are enclosed for ever has `exec`, no exec of theirs is answered ok.
use Rattle.pua_ever.proofs.Common.{◌≡◌, ◌⊎◌, ℕ, List, [], ◌∷◌, Bool, true, false, refl, ap, subst, ◌∙◌, sym, inl, inr, Some, not}
use Rattle.pua_ever.proofs.Common.{false≢true, and_parts, and_from, same_Some, Tree, WellFormed, CallTable, ProcessState, start, verdict_of}
use Rattle.pua_ever.proofs.Common.{is_allowed, allowed_is, Asked, World, apply, kept_at, is_member, is_exec}
use Rattle.pua_ever.proofs.Common.{is_done, none_done, family_then, NoCallNeedsError, TreesAlong, verdicts_within}
use Rattle.pua_ever.proofs.Common.{Members, first_tree, may_edit, ever, EverLine, EditsNeedC, VeilsStand}
use Rattle.std.specs.List.{Contains}
use Rattle.pua_policy.specs.States.{root_dir}
use Rattle.pua_policy.specs.Verdict.{object_named}
use Rattle.pua_calls.specs.TmpTable.{tmp_table}
use Rattle.pua_calls.specs.declared.call.Call.TheVariants as call
use Rattle.pua_calls.proofs.ForCallers.{tmp_table_needs_no_error}
use Rattle.pua_script.proofs.ForCallers.{at_all, begins}
use Rattle.pua_script.specs.Laws.{IsConfined}
use Rattle.pua_objects.specs.Roots.{is_enclosed_for_ever}
use Rattle.pua_ever.specs.EnclosedForEver.{FreesNone, KeepInside}
use Rattle.pua_ever.specs.Laws.{LoosensNone, MembersEdit}
use Rattle.pua_ever.specs.ShownForEver.{only_inside}
use Rattle.pua_ever.specs.Through.{has_exec}
use Rattle.pua_ever.proofs.Along.{stays_along}
use Rattle.pua_ever.proofs.Enclosing.{Enclosed, enclosed_parts}
use Rattle.pua_ever.proofs.EnclosedAlong.{AreIn, one_request}
use Rattle.pua_ever.proofs.Execs.{members_still}
use Rattle.pua_ever.proofs.Homes.{Homes, homes_first}
use Rattle.pua_ever.proofs.InsideTrees.{keep_both, keep_none}
use Rattle.pua_ever.proofs.KindsKept.{alone_are}
use Rattle.pua_ever.proofs.NoExec.{execs_then}
use Rattle.pua_ever.proofs.Origins.{Stays, at_first}
use Rattle.pua_ever.proofs.ShownEver.{foreseen_inside, homes_one}
use Rattle.pua_ever.proofs.Through.{none_has}
use Rattle.pua_ever.proofs.Unedited.{unedited_along}

module _ (table : CallTable) (sound : NoCallNeedsError table) (needs : EditsNeedC table) (t0 : Tree) (now : ProcessState) (well0 : WellFormed t0)
    (stand : VeilsStand t0 now) (root : ℕ) (never : (line : EverLine) → Contains (only_inside t0 root (ever t0 (tmp_table table) now)) line →
    Contains line.calls call.Exec → ⊥) where
  abbrev tmp : CallTable
  tmp = tmp_table table

  -- what is so before each request
  record Before (w : World) (members : List ℕ) : Type 0 where
    are : Members w members now false
    in_root : AreIn table root w members
    stays : Stays tmp t0 now well0 stand w.tree
    kept : KeepInside root t0 w.tree
    homes : Homes tmp t0 now well0 stand root w.tree
    edited : (may_edit tmp now ≡ true) ⊎ (w.tree ≡ t0)

  none_now : (w : World) (ask : Asked) (members : List ℕ) → Before w members → is_done is_exec table w ask members ≡ false
  none_now w ask members before = by (is_done is_exec table w ask members) refl
    where
      impossible : is_done is_exec table w ask members ≡ true → ⊥
      impossible is =
          let parts = and_parts (is_member members ask.process) _ is in
          let done = and_parts (is_exec ask.action) _ parts.1 in
          let asker = before.are ask.process parts.0 in
          let placed = before.in_root ask.process parts.0 in
          let same : placed.0 ≡ asker.0 = same_Some placed.0 asker.0 (sym placed.1 ∙ asker.1) in
          let enclosed : Enclosed w.tree root asker.0 = subst (Enclosed w.tree root) same placed.2 in
          let exec = execs_then table w ask asker.0 asker.1 done.0 done.1 in
          let named = object_named w.tree asker.0 call.Exec exec.path in
          let allowed = verdicts_within now asker.0 asker.2.within tmp (tmp_table_needs_no_error table sound) w.tree call.Exec named
          (ap is_allowed exec.allowed) in
          let seen = foreseen_inside tmp t0 now well0 stand root w.tree before.stays before.edited before.kept enclosed.lives before.homes
          call.Exec (start asker.0) enclosed.placed.rooted enclosed.placed.dir exec.path
          (allowed_is (verdict_of w.tree tmp now call.Exec named) allowed) in
          never seen.line seen.listed seen.allows

      by : (b : Bool) → is_done is_exec table w ask members ≡ b → is_done is_exec table w ask members ≡ false
      by false e = e
      by true e = absurd (impossible e)

  before_next : (w : World) (ask : Asked) (members : List ℕ) → Before w members → is_done is_exec table w ask members ≡ false →
      WellFormed w.tree → WellFormed (apply table w ask).1.tree →
      (is_member members ask.process ≡ true) ⊎ ((apply table w ask).1.tree ≡ w.tree) →
      Before (apply table w ask).1 (family_then table w ask members)
  before_next w ask members before none well well_then edit =
      let after = (apply table w ask).1 in
      let one = one_request table root w ask members before.in_root well well_then frees edit in
      record {
        are = members_still table now w ask members before.are loosens;
        in_root = one.1;
        stays = stays_along table sound needs t0 now well0 stand (ask ∷ []) w members before.are (loosens, tt) (edit, tt) (well, well_then)
            before.stays;
        kept = keep_both root t0 w.tree after.tree well0 well before.kept one.0;
        homes = homes_one table sound needs t0 now well0 stand root w ask members before.are before.in_root well well_then edit
            before.stays before.kept before.homes;
        edited = by (may_edit tmp now) refl before.edited;
      }
    where
      frees : FreesNone table w ask members
      frees done = absurd (false≢true (sym none ∙ done))

      loosens : LoosensNone table now w ask members
      loosens done = absurd (false≢true (sym none ∙ done))

      by : (b : Bool) → may_edit tmp now ≡ b → (may_edit tmp now ≡ true) ⊎ (w.tree ≡ t0) →
          (may_edit tmp now ≡ true) ⊎ ((apply table w ask).1.tree ≡ t0)
      by true edits was = inl edits
      by false lacks (inl edits) = absurd (false≢true (sym lacks ∙ edits))
      by false lacks (inr same) =
          inr (unedited_along table sound now lacks (ask ∷ []) w members before.are (loosens, tt) (edit, tt) ∙ same)

  none_along : (asks : List Asked) (w : World) (members : List ℕ) → Before w members → MembersEdit table w asks members →
      TreesAlong table w asks → none_done is_exec table w asks members ≡ true
  none_along [] w members before edits trees = refl
  none_along (ask ∷ asks) w members before edits trees =
      let after = (apply table w ask).1 in
      let first = none_now w ask members before in
      let next = before_next w ask members before first trees.0 (first_tree table after asks trees.1) edits.0 in
      and_from (not (is_done is_exec table w ask members)) _ (ap not first)
      (none_along asks after (family_then table w ask members) next edits.1 trees.1)

  pub none_inside : (asks : List Asked) (w : World) (members : List ℕ) → w.tree ≡ t0 → Members w members now false →
      AreIn table root w members → MembersEdit table w asks members → TreesAlong table w asks → Stays tmp t0 now well0 stand w.tree →
      KeepInside root t0 w.tree → Homes tmp t0 now well0 stand root w.tree → none_done is_exec table w asks members ≡ true
  none_inside asks w members same are in_root edits trees stays kept homes =
      none_along asks w members (record { are = are; in_root = in_root; stays = stays; kept = kept; homes = homes; edited = inr same }) edits trees

pub without_exec_inside : (table : CallTable) → NoCallNeedsError table → EditsNeedC table →
    (w : World) (asks : List Asked) (process : ℕ) (now : ProcessState) →
    kept_at w process ≡ Some now → IsConfined now → is_enclosed_for_ever w.tree now ≡ true → VeilsStand w.tree now → TreesAlong table w asks →
    MembersEdit table w asks (process ∷ []) → has_exec (only_inside w.tree (root_dir now) (ever w.tree (tmp_table table) now)) ≡ false →
    none_done is_exec table w asks (process ∷ []) ≡ true
without_exec_inside table sound needs w asks process now here confined enclosed stand trees edits none =
    let tmp = tmp_table table in
    let root = root_dir now in
    let well = first_tree table w asks trees in
    none_inside table sound needs w.tree now well stand root (none_has (only_inside w.tree root (ever w.tree tmp now)) none) asks w (process ∷ []) refl
    (at_all w (process ∷ []) now (begins table now w process here confined))
    (alone_are (Enclosed w.tree root) w process now here (enclosed_parts w.tree now enclosed)) edits trees
    (at_first tmp w.tree now well stand) (keep_none root w.tree) (homes_first tmp w.tree now well stand root)
