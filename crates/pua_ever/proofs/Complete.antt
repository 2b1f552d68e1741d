-- All that a family's members are ever allowed has its line at the beginning.
use Rattle.pua_ever.proofs.Common.{◌≡◌, ◌⊎◌, ℕ, List, [], ◌∷◌, Bool, true, false, refl, ap, inl, inr, Tree, CallTable, ProcessState, verdict_of}
use Rattle.pua_ever.proofs.Common.{is_allowed, allowed_is, Asked, World, world_after, verdicts_within, false≢true, is_member, is_exec}
use Rattle.pua_ever.proofs.Common.{none_done, members_alone, NoCallNeedsError, TreesAlong, Members, first_tree, may_edit, EditsNeedC}
use Rattle.pua_ever.proofs.Common.{VeilsStand, and_parts, apply, family_then, kept_at, Some}
use Rattle.pua_script.specs.Laws.{IsConfined}
use Rattle.pua_path.specs.Resolution.{resolution_of_text}
use Rattle.pua_calls.specs.Calls.{ending_of, last_of}
use Rattle.pua_script.specs.Family.{family, HasKept}
use Rattle.pua_script.proofs.ForCallers.{begins, at_all}
use Rattle.pua_ever.specs.Laws.{ActsWithin, EverBeside, EverComplete, EverOfMany, EverWithExecs, Foresees, ForeseesStarts, MembersEdit}
use Rattle.pua_ever.specs.Laws.{IsAccountedFor, NoExecLoosens, OkaysAreForeseen, StartsForeseen}
use Rattle.pua_calls.specs.TmpTable.{tmp_table}
use Rattle.pua_calls.proofs.ForCallers.{tmp_table_needs_no_error}
use Rattle.pua_policy.specs.Verdict.{object_named, verdict_on}
use Rattle.pua_script.specs.OpeningLaws.{Accounted, by_verdict, by_opening}
use Rattle.pua_script.specs.Tightening.{Tightens}
use Rattle.pua_script.proofs.ForCallers.{okays_are_accounted, openings_are_held, openings_narrow, tmp_table_allows}
use Rattle.pua_ever.proofs.Common.{Call, same_Some, subst, start}
use Rattle.pua_ever.proofs.Common.{◌∙◌, sym, cover, cover_fault, Found, is_yes, may_any, May, named_within_text, object_fault, resolutions_fit}
use Rattle.pua_ever.proofs.Common.{rule_of, Slot}
use Rattle.pua_calls.specs.declared.call.Call.TheVariants as call
use Rattle.pua_policy.specs.Verdict.{IsProg}
use Rattle.pua_policy.specs.declared.answer.May.TheVariants as may
use Rattle.pua_script.proofs.ForCallers.{same_cover}
use Rattle.pua_ever.proofs.Execs.{members_along, none_loosens}
use Rattle.pua_ever.proofs.Origins.{at_first}
use Rattle.pua_ever.proofs.Along.{stays_along}
use Rattle.pua_ever.proofs.Unedited.{unedited_along, yes_before}
use Rattle.pua_ever.proofs.Ending.{foreseen, parts_of}
use Rattle.pua_ever.proofs.Starting.{start_foreseen}
use Rattle.pua_path.specs.Resolution.{rooted}

-- who asks alone edits alone
pub edits_alone : (table : CallTable) (asks : List Asked) (w : World) (members : List ℕ) → members_alone table w asks members ≡ true →
    MembersEdit table w asks members
edits_alone table [] w members alone = tt
edits_alone table (ask ∷ asks) w members alone =
    let parts = and_parts (is_member members ask.process) _ alone in
    (inl parts.0, edits_alone table asks (apply table w ask).1 (family_then table w ask members) parts.1)

-- of any members within a process
pub complete_within : (table : CallTable) → NoCallNeedsError table → EditsNeedC table →
    (w : World) (asks : List Asked) (members : List ℕ) (now : ProcessState) →
    Members w members now false → VeilsStand w.tree now → TreesAlong table w asks → NoExecLoosens table now w asks members →
    MembersEdit table w asks members →
    (member : ℕ) → is_member (family table w asks members) member ≡ true →
    HasKept (world_after table w asks) member (Foresees w.tree (tmp_table table) now (world_after table w asks).tree)
complete_within table sound needs w asks members now are stand trees none alone member belongs =
    let tmp = tmp_table table in
    let well = first_tree table w asks trees in
    let u = (world_after table w asks).tree in
    let k = stays_along table sound needs w.tree now well stand asks w members are none alone trees (at_first (tmp_table table) w.tree now well stand)
    in
    let last = members_along table now asks w members are none member belongs in
    let edit : (may_edit (tmp_table table) now ≡ true) ⊎ (u ≡ w.tree) =
    by (may_edit (tmp_table table) now) refl (λ lacks. unedited_along table sound now lacks asks w members are none alone) in (
      last.0,
      last.1,
      λ from call text e.
          let named = resolution_of_text u from (ending_of call) text (last_of call) in
          let allowed = verdicts_within now last.0 last.2.within tmp (tmp_table_needs_no_error table sound) u call named (ap is_allowed e) in
          foreseen tmp w.tree now well stand u k edit call from text (allowed_is (verdict_of u tmp now call named) allowed),
    )
  where
    by : {u t : Tree} (b : Bool) → may_edit (tmp_table table) now ≡ b → (may_edit (tmp_table table) now ≡ false → u ≡ t) →
        (may_edit (tmp_table table) now ≡ true) ⊎ (u ≡ t)
    by true is same = inl is
    by false is same = inr (same is)

pub beside_one : (table : CallTable) → NoCallNeedsError table → EditsNeedC table →
    (w : World) (asks : List Asked) (process : ℕ) (now : ProcessState) →
    kept_at w process ≡ Some now → IsConfined now → VeilsStand w.tree now → TreesAlong table w asks →
    none_done is_exec table w asks (process ∷ []) ≡ true → MembersEdit table w asks (process ∷ []) →
    (member : ℕ) → is_member (family table w asks (process ∷ [])) member ≡ true →
    HasKept (world_after table w asks) member (Foresees w.tree (tmp_table table) now (world_after table w asks).tree)
beside_one table sound needs w asks process now here confined stand trees none edit member belongs =
    complete_within table sound needs w asks (process ∷ []) now (at_all w (process ∷ []) now (begins table now w process here confined))
    stand trees (none_loosens table now asks w (process ∷ []) none) edit member belongs

pub ever_complete : EverComplete
ever_complete table sound needs w asks process now here confined stand trees none alone member belongs =
    beside_one table sound needs w asks process now here confined stand trees none (edits_alone table asks w (process ∷ []) alone) member
    belongs

pub all_within : (w : World) (members : List ℕ) (now : ProcessState) → ActsWithin w now members → Members w members now false
all_within w members now acts m belongs =
    let one = acts m belongs in
    (one.0, one.1, record { within = record { tightens = one.2.0; ended = one.2.1 }; dir = λ e. absurd (false≢true e) })

pub ever_with_execs : EverWithExecs
ever_with_execs table sound needs w asks members now acts stand trees none edit member belongs =
    complete_within table sound needs w asks members now (all_within w members now acts) stand trees none edit member belongs

-- what is answered ok is allowed by the verdict, or opened by a promise that is held, which was held before
accounted_before : (table : CallTable) (w : World) (now : ProcessState) (after : World) (h : ProcessState) →
    Foresees w.tree (tmp_table table) now after.tree h → Tightens now h → (call : Call) (text : List ℕ) →
    Accounted table after.tree h call text → IsAccountedFor w.tree table now after.tree h call text
accounted_before table w now after h seen tight call text (by_verdict allowed) =
    inl (seen (start h) call text (allowed_is (verdict_on after.tree (tmp_table table) h call text)
    (tmp_table_allows table after.tree h call (object_named after.tree h call text) allowed)))
accounted_before table w now after h seen tight call text (by_opening o is) =
    inr (openings_narrow now h tight call text (openings_are_held table h call text o is))

pub okays_are_foreseen : OkaysAreForeseen
okays_are_foreseen table sound needs w asks members now acts stand trees none edit member belongs =
    let are = all_within w members now acts in
    let after = world_after table w asks in
    let seen = complete_within table sound needs w asks members now are stand trees none edit member belongs in
    let last = members_along table now asks w members are none member belongs in
    let same : seen.0 ≡ last.0 = same_Some seen.0 last.0 (sym seen.1 ∙ last.1) in (
      seen.0,
      seen.1,
      λ call text okay. accounted_before table w now after seen.0 seen.2
          (subst (λ h. Tightens now h) (sym same) last.2.within.tightens) call text
          (okays_are_accounted table after member call text seen.0 seen.1 okay),
    )

pub ever_beside : EverBeside
ever_beside table sound needs w asks members now acts stand trees none edit member belongs =
    ever_with_execs table sound needs w asks members now acts stand trees (none_loosens table now asks w members none) edit member belongs

pub ever_of_many : EverOfMany
ever_of_many table sound needs w asks members now acts stand trees none alone member belongs =
    ever_beside table sound needs w asks members now acts stand trees none (edits_alone table asks w members alone) member belongs

pub yes_is : (m : May) → is_yes m ≡ true → m ≡ may.Yes
yes_is may.Yes e = refl
yes_is may.Enosys e = absurd (false≢true e)
yes_is may.Death e = absurd (false≢true e)

-- of any members within a process
pub starts_within : (table : CallTable) → NoCallNeedsError table → EditsNeedC table →
    (w : World) (asks : List Asked) (members : List ℕ) (now : ProcessState) →
    Members w members now false → VeilsStand w.tree now → TreesAlong table w asks → NoExecLoosens table now w asks members →
    MembersEdit table w asks members →
    (member : ℕ) → is_member (family table w asks members) member ≡ true →
    HasKept (world_after table w asks) member (ForeseesStarts w.tree (tmp_table table) now (world_after table w asks).tree)
starts_within table sound needs w asks members now are stand trees loosens edit member belongs =
    let well = first_tree table w asks trees in
    let u = (world_after table w asks).tree in
    let k = stays_along table sound needs w.tree now well stand asks w members are loosens edit trees (at_first (tmp_table table) w.tree now well stand)
    in
    let last = members_along table now asks w members are loosens member belongs in
    let edits : (may_edit (tmp_table table) now ≡ true) ⊎ (u ≡ w.tree) =
    by (may_edit (tmp_table table) now) refl (λ lacks. unedited_along table sound now lacks asks w members are loosens edit) in (
      last.0,
      last.1,
      λ from text dir name x named kinds allowed.
          let object : Found = Slot dir name (Some x) in
          let found = (resolutions_fit (rooted u 0) k.well k.well.root).whole from (ending_of call.Exec) text (last_of call.Exec) object
          (named_within_text u from (ending_of call.Exec) text (last_of call.Exec) object named) in
          let needed = rule_of table call.Exec in
          let parts = parts_of (may_any last.0 needed.alternatives) (cover_fault (cover u last.0 object) needed.perms)
          (object_fault table.whose u call.Exec IsProg) allowed in
          start_foreseen (tmp_table table) w.tree now well stand u k edits dir name x found.named.1 kinds (record {
            may = yes_is (may_any now needed.alternatives)
                (yes_before table sound now last.0 last.2.within needed.alternatives (sound.calls call.Exec) (ap is_yes parts.may));
            covered = ap (λ left. cover_fault left needed.perms) (sym (same_cover last.0 now last.2.within.tightens.unveils u object)) ∙
                parts.covered;
            kind = parts.kind;
          }),
    )
  where
    by : {u t : Tree} (b : Bool) → may_edit (tmp_table table) now ≡ b → (may_edit (tmp_table table) now ≡ false → u ≡ t) →
        (may_edit (tmp_table table) now ≡ true) ⊎ (u ≡ t)
    by true is same = inl is
    by false is same = inr (same is)

pub starts_foreseen : StartsForeseen
starts_foreseen table sound needs w asks members now acts stand trees none edit member belongs =
    starts_within table sound needs w asks members now (all_within w members now acts) stand trees
    (none_loosens table now asks w members none) edit member belongs
