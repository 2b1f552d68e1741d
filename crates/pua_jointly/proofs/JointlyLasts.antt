-- Who has no exec in its joint list starts nothing, whoever helps; nor does one whose execs are all refused.
use Rattle.pua_jointly.proofs.Common.{◌≡◌, ◌⊎◌, ℕ, List, [], ◌∷◌, Bool, true, false, refl, sym, ap, subst, inl, inr, Option, Some, None}
use Rattle.pua_jointly.proofs.Common.{and_parts, Tree, WellFormed, CallTable, ProcessState, is_allowed, Asked, World}
use Rattle.pua_jointly.proofs.Common.{apply, NoCallNeedsError, VeilsStand}
use Rattle.pua_jointly.proofs.Common.{Among, among_map, map_among, among_contained}
use Rattle.pua_jointly.proofs.Common.{contained, not}
use Rattle.std.proofs.lemmas.Bool.{not-true}
use Rattle.pua_script.specs.Replay.{world_after}
use Rattle.pua_policy.specs.States.{start}
use Rattle.pua_script.proofs.ForCallers.{Members, members_then, first_tree, verdicts_within}
use Rattle.pua_script.specs.Confinement.{TreesAlong}
use Rattle.pua_ever.specs.Laws.{EditsNeedC}
use Rattle.pua_script.specs.Family.{family, family_then, HasKept, is_member, is_done, is_exec, none_done}
use Rattle.std.specs.List.{Contains}
use Rattle.pua_calls.specs.TmpTable.{tmp_table}
use Rattle.pua_calls.proofs.ForCallers.{tmp_table_needs_no_error}
use Rattle.pua_calls.specs.declared.call.Call.TheVariants as call
use Rattle.pua_policy.specs.Verdict.{object_named, verdict_of}
use Rattle.pua_objects.proofs.ForCallers.{among_flat, flat_among, allowed_is}
use Rattle.pua_ever.specs.Ever.{Thing}
use Rattle.pua_ever.specs.Through.{is_bounded, GoAlong}
use Rattle.pua_jointly.specs.Jointly.{IsJointlyAllowed, AreWithinOne, StayWithinOne, groups_then, ByMember, GroupsEdit, agents_of, crew_of}
use Rattle.pua_jointly.specs.Jointly.{ForeseenByOne, StartsAsSaid, JointlyLasts}
use Rattle.pua_ever.proofs.ForCallers.{along_then}
use Rattle.pua_ever.proofs.ForCallers.{execs_then}
use Rattle.pua_ever.proofs.ForCallers.{all_within}
use Rattle.pua_jointly.proofs.Jointly.{Knows, knows_first}
use Rattle.pua_jointly.proofs.JointlyDone.{every, within_of, members_one, one_of_both, jointly_foreseen, knows_request, AllAct, done}

module _ (table : CallTable) (sound : NoCallNeedsError table) (needs : EditsNeedC table) (t0 : Tree) (crew : List ProcessState) (well0 : WellFormed t0)
    (all_stand : (a : ProcessState) → Contains crew a → VeilsStand t0 a) where
  abbrev tmp : CallTable
  tmp = tmp_table table

  -- a process that starts nothing: its list has no exec, or none is answered ok
  abbrev pub Quiet : World → List Asked → ProcessState → List ℕ → Type 0
  Quiet w asks now members =
      ((thing : Thing) → IsJointlyAllowed t0 tmp crew now thing call.Exec → ⊥) ⊎ (none_done is_exec table w asks members ≡ true)

  -- what the members of a group are at any time, with what is still asked
  abbrev pub Are : World → List Asked → (ProcessState × Option ℕ) → List ℕ → Type 0
  Are w asks (now, None) members = Members w members now false × Quiet w asks now members
  Are w asks (now, Some given) members = (is_bounded table given ≡ true) × GoAlong table w now given members

  within_one : (w : World) (asks : List Asked) (who : ProcessState × Option ℕ) (members : List ℕ) → Are w asks who members →
      AreWithinOne w (agents_of who) members
  within_one w asks (now, None) members are m belongs = members_one now w members are.0 m belongs
  within_one w asks (now, Some given) members are m belongs =
      let one = are.1 m belongs in (one.0, one.1, one_of_both now given table sound are.0 one.0 one.2)

  -- who has no exec starts none
  none_now : (w : World) (ask : Asked) (now : ProcessState) (members : List ℕ) → Contains crew now →
      ((thing : Thing) → IsJointlyAllowed t0 tmp crew now thing call.Exec → ⊥) → Members w members now false →
      Knows tmp t0 crew well0 w.tree →
      is_done is_exec table w ask members ≡ false
  none_now w ask now members among never are k = by (is_done is_exec table w ask members) refl
    where
      impossible : is_done is_exec table w ask members ≡ true → ⊥
      impossible is =
          let parts = and_parts (is_member members ask.process) _ is in
          let did = and_parts (is_exec ask.action) _ parts.1 in
          let asker = are ask.process parts.0 in
          let exec = execs_then table w ask asker.0 asker.1 did.0 did.1 in
          let named = object_named w.tree asker.0 call.Exec exec.path in
          let allowed = verdicts_within now asker.0 asker.2.within tmp (tmp_table_needs_no_error table sound) w.tree call.Exec named
          (ap is_allowed exec.allowed) in
          let seen = jointly_foreseen tmp t0 crew well0 w.tree k now (all_stand now among) call.Exec (start asker.0) exec.path
          (allowed_is (verdict_of w.tree tmp now call.Exec named) allowed) in
          never seen.thing seen.can

      by : (b : Bool) → is_done is_exec table w ask members ≡ b → is_done is_exec table w ask members ≡ false
      by false e = e
      by true e = absurd (impossible e)

  none_starts : (w : World) (ask : Asked) (asks : List Asked) (now : ProcessState) (members : List ℕ) → Contains crew now →
      Quiet w (ask ∷ asks) now members → Members w members now false → Knows tmp t0 crew well0 w.tree →
      is_done is_exec table w ask members ≡ false
  none_starts w ask asks now members among (inl never) are k = none_now w ask now members among never are k
  none_starts w ask asks now members among (inr none) are k = not-true (is_done is_exec table w ask members) (and_parts _ _ none).0

  quiet_then : (w : World) (ask : Asked) (asks : List Asked) (now : ProcessState) (members : List ℕ) → Quiet w (ask ∷ asks) now members →
      Quiet (apply table w ask).1 asks now (family_then table w ask members)
  quiet_then w ask asks now members (inl never) = inl never
  quiet_then w ask asks now members (inr none) = inr (and_parts (not (is_done is_exec table w ask members)) _ none).1

  are_then : (w : World) (ask : Asked) (asks : List Asked) (who : ProcessState × Option ℕ) (members : List ℕ) →
      ((a : ProcessState) → Contains (agents_of who) a → Contains crew a) → Are w (ask ∷ asks) who members → Knows tmp t0 crew well0 w.tree →
      Are (apply table w ask).1 asks who (family_then table w ask members)
  are_then w ask asks (now, None) members among are k = (
    members_then table now w ask members false are.0
        (none_starts w ask asks now members (among now (contained (now ∷ []) now (inl refl))) are.1 are.0 k),
    quiet_then w ask asks now members are.1,
  )
  are_then w ask asks (now, Some given) members among are k = (are.0, along_then table sound now given are.0 w ask members are.1)

  module _ {X : Type 0} (who : X → ProcessState × Option ℕ) where
    pub record Holds (w : World) (asks : List Asked) (g : X × List ℕ) : Type 0 where
      pub among : (a : ProcessState) → Contains (agents_of (who g.0)) a → Contains crew a
      pub are : Are w asks (who g.0) g.1

    abbrev pub AllHold : World → List Asked → List (X × List ℕ) → Type 0
    AllHold w asks groups = (g : X × List ℕ) → Among groups g → Holds w asks g

    holds_then : (w : World) (ask : Asked) (asks : List Asked) (groups : List (X × List ℕ)) → AllHold w (ask ∷ asks) groups →
        Knows tmp t0 crew well0 w.tree → AllHold (apply table w ask).1 asks (groups_then table w ask groups)
    holds_then w ask asks groups holds k h here =
        let from = map_among (λ (g : X × List ℕ). (g.0, family_then table w ask g.1)) groups h here in
        let hold = holds from.0 from.1 in
        subst (Holds (apply table w ask).1 asks) from.2
        (record { among = hold.among; are = are_then w ask asks (who from.0.0) from.0.1 hold.among hold.are k })

    knows_then_too : (w : World) (ask : Asked) (asks : List Asked) (groups : List (X × List ℕ)) → AllHold w (ask ∷ asks) groups →
        ByMember groups ask.process ⊎ ((apply table w ask).1.tree ≡ w.tree) → TreesAlong table w (ask ∷ asks) → Knows tmp t0 crew well0 w.tree →
        Knows tmp t0 crew well0 (apply table w ask).1.tree
    knows_then_too w ask asks groups holds (inr same) trees k = subst (Knows tmp t0 crew well0) (sym same) k
    knows_then_too w ask asks groups holds (inl one) trees k =
        let g = one.group in
        let hold = holds g (among_contained groups g one.among) in
        let asker = within_one w (ask ∷ asks) (who g.0) g.1 hold.are ask.process one.member in
        knows_request table sound needs t0 crew well0 all_stand w ask asks trees k asker.2.agent (hold.among asker.2.agent asker.2.among) asker.0
        asker.1 (within_of (agents_of (who g.0)) asker.0 asker.2)

    -- so each group stays within its processes
    stay : (asks : List Asked) (w : World) (groups : List (X × List ℕ)) → AllHold w asks groups → GroupsEdit table w asks groups →
        TreesAlong table w asks → Knows tmp t0 crew well0 w.tree → (g : X × List ℕ) → Among groups g →
        StayWithinOne table w asks (agents_of (who g.0)) g.1
    stay [] w groups holds edit trees k g a = within_one w [] (who g.0) g.1 (holds g a).are
    stay (ask ∷ asks) w groups holds edit trees k g a = (
      within_one w (ask ∷ asks) (who g.0) g.1 (holds g a).are,
      stay asks (apply table w ask).1 (groups_then table w ask groups) (holds_then w ask asks groups holds k) edit.1 trees.1
          (knows_then_too w ask asks groups holds edit.0 trees k) (g.0, family_then table w ask g.1)
          (among_map (λ (h : X × List ℕ). (h.0, family_then table w ask h.1)) groups g a),
    )

    -- and what is foreseen of a member
    pub lasts_by : (w : World) (asks : List Asked) (groups : List (X × List ℕ)) → AllHold w asks groups → GroupsEdit table w asks groups →
        TreesAlong table w asks → Knows tmp t0 crew well0 w.tree → (g : X × List ℕ) → Contains groups g → (member : ℕ) →
        is_member (family table w asks g.1) member ≡ true →
        HasKept (world_after table w asks) member (ForeseenByOne t0 tmp crew (agents_of (who g.0)) (world_after table w asks).tree)
    lasts_by w asks groups holds edit trees k g here member belongs =
        done table sound needs t0 crew well0 all_stand (λ x. agents_of (who x)) w asks groups acts edit trees k g here member belongs
      where
        acts : AllAct table sound needs t0 crew well0 all_stand (λ x. agents_of (who x)) w asks groups
        acts h a = record { among = (holds h a).among; stay = stay asks w groups holds edit trees k h a }

pub jointly_lasts : JointlyLasts
jointly_lasts table sound needs w asks groups said stand trees edit g here member belongs =
    lasts_by table sound needs w.tree (crew_of groups) well all_stand (λ x. x) w asks groups holds edit trees
    (knows_first (tmp_table table) w.tree (crew_of groups) well) g here member belongs
  where
    well : WellFormed w.tree
    well = first_tree table w asks trees

    stand_of : (h : (ProcessState × Option ℕ) × List ℕ) → Among groups h → VeilsStand w.tree h.0.0
    stand_of h a = every (λ (g : (ProcessState × Option ℕ) × List ℕ). VeilsStand w.tree g.0.0) groups h stand a

    all_stand : (a : ProcessState) → Contains (crew_of groups) a → VeilsStand w.tree a
    all_stand a has =
        let found = flat_among (λ (g : (ProcessState × Option ℕ) × List ℕ). agents_of g.0) groups a (among_contained (crew_of groups) a has) in
        by found.0.0 (stand_of found.0 found.1) found.2
      where
        by : (who : ProcessState × Option ℕ) → VeilsStand w.tree who.0 → Among (agents_of who) a → VeilsStand w.tree a
        by (now, None) stand (inl e) = subst (VeilsStand w.tree) e stand
        by (now, None) stand (inr none) = absurd none
        by (now, Some given) stand (inl e) = subst (VeilsStand w.tree) e stand
        by (now, Some given) stand (inr (inl e)) = subst (VeilsStand w.tree) e stand
        by (now, Some given) stand (inr (inr none)) = absurd none

    in_crew : (h : (ProcessState × Option ℕ) × List ℕ) → Among groups h → (a : ProcessState) → Contains (agents_of h.0) a →
        Contains (crew_of groups) a
    in_crew h here a has = contained (crew_of groups) a
        (among_flat (λ (g : (ProcessState × Option ℕ) × List ℕ). agents_of g.0) groups h a here (among_contained (agents_of h.0) a has))

    by_said : (h : (ProcessState × Option ℕ) × List ℕ) → Among groups h → StartsAsSaid table w (crew_of groups) h.0 h.1 →
        Holds table sound needs w.tree (crew_of groups) well all_stand (λ x. x) w asks h
    by_said ((now, None), members) here say =
        record { among = in_crew ((now, None), members) here; are = (all_within w members now say.0, inl say.1) }
    by_said ((now, Some given), members) here say = record { among = in_crew ((now, Some given), members) here; are = say }

    holds : AllHold table sound needs w.tree (crew_of groups) well all_stand (λ x. x) w asks groups
    holds h here =
        by_said h here (every (λ (g : (ProcessState × Option ℕ) × List ℕ). StartsAsSaid table w (crew_of groups) g.0 g.1) groups h said here)
