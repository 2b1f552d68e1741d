-- The list of a process and of what it starts, behind what a command reads, foresees what is allowed to its family.
use Rattle.pua_jointly.proofs.Common.{◌≡◌, ◌∙◌, ◌∷◌, ◌++◌, [], ℕ, Bool, true, false, List, map, refl, sym, ap, subst, inl, inr, Option, Some, None}
use Rattle.pua_jointly.proofs.Common.{eqb-true, false≢true, flat_map, ◌==◌, ◌||◌, among_left, among_right, Subject, veils, all_new, Stands, Comes}
use Rattle.pua_jointly.proofs.Common.{Among, among_contained, among_map, contained, map_among, CallTable, Call, ProcessState, Tree, WellFormed, Asked, World}
use Rattle.pua_jointly.proofs.Common.{NoCallNeedsError, VeilsStand}
use Rattle.std.specs.List.{AllByRecursion, Contains}
use Rattle.std.specs.Prelude.{filter}
use Rattle.pua_audit.specs.Reach.{Word}
use Rattle.pua_calls.specs.Calls.{calls}
use Rattle.pua_calls.specs.TmpTable.{tmp_table}
use Rattle.pua_policy.specs.States.{held_for_exec}
use Rattle.pua_script.specs.Bytes.{are_in_bytes, IsByteTree}
use Rattle.pua_script.specs.Confinement.{TreesAlong}
use Rattle.pua_script.specs.Family.{family, is_member, HasKept}
use Rattle.pua_script.specs.Laws.{IsConfined}
use Rattle.pua_script.specs.Replay.{kept_at, new_world, world_after}
use Rattle.pua_script.proofs.ForCallers.{first_tree, listings_list_byte_trees, Members, replays_keep_byte_trees, replays_keep_trees, scripts_ask_in_bytes}
use Rattle.pua_objects.specs.Objects.{items}
use Rattle.pua_objects.proofs.ForCallers.{among_either, among_filter, among_flat, filter_among, flat_among, one_of_calls, some_of}
use Rattle.pua_ever.specs.Ever.{EverLine, Thing, has_ever_calls}
use Rattle.pua_ever.specs.Laws.{EditsNeedC, ForeseesIn, IsLineOf, of_dir, of_name, of_new_dir, of_new_file, of_new_link, of_new_sock, of_new_fifo, of_new_others, of_others}
use Rattle.pua_ever.specs.Laws.{of_row, PlacesStand}
use Rattle.pua_path.specs.declared.found.Found.{Found}
use Rattle.pua_ever.specs.Through.{bound_of, GoAlong, is_bounded}
use Rattle.pua_ever.specs.declared.lasting_list.ExecBound.{ExecBound}
use Rattle.pua_ever.specs.declared.lasting_list.ExecBound.TheVariants.{Never, Bounded, Open}
use Rattle.pua_ever.proofs.ForCallers.{all_within, along_now, bound_parts, goes, new_places, replays_keep_places}
use Rattle.pua_jointly.specs.JointLasting.{JointlyTold, Numbered, StartsAsTold, acting_in, families}
use Rattle.pua_jointly.specs.JointPrograms.{Acting, AreSaid, IsSaidOf, TellsOfOne, agents_by, crew_by, handed_by, who}
use Rattle.pua_jointly.specs.Jointly.{ForeseenByOne, GroupsEdit, TellsJointly, agents_of, as_started, joint_line, joint_lines, joint_subjects}
use Rattle.pua_jointly.proofs.Jointly.{knows_first}
use Rattle.pua_jointly.proofs.JointlyDone.{every}
use Rattle.pua_jointly.proofs.JointGroups.{one_or_other}
use Rattle.pua_jointly.proofs.JointlyLasts.{AllHold, Are, Holds, lasts_by}

-- ---- a list with more calls foresees as much

module _ (t : Tree) (a : ProcessState) (first more : Thing → Call → Bool)
    (within : (thing : Thing) (call : Call) → first thing call ≡ true → more thing call ≡ true) where
  abbrev subjects : List (Word × Subject)
  subjects = flat_map (joint_subjects a) (items t (veils a))

  abbrev standing : (Thing → Call → Bool) → List EverLine
  standing test = map (λ (about : Word × Subject). joint_line test about.0 (Stands about.1)) subjects

  abbrev coming : (Thing → Call → Bool) → List EverLine
  coming test = map (λ new. joint_line test [] (Comes new)) all_new

  -- the line of the same thing has the call
  record LineMore (thing : Thing) (call : Call) : Type 0 where
    word : Word
    listed : Among (joint_lines t a more) (joint_line more word thing)

  has_call : (thing : Thing) (call : Call) → first thing call ≡ true → Among (filter (more thing) calls) call
  has_call thing call passes = among_filter (more thing) calls call (within thing call passes) (one_of_calls call)

  passes_first : (word : Word) (thing : Thing) (call : Call) → Contains (joint_line first word thing).calls call → first thing call ≡ true
  passes_first word thing call has = (filter_among (first thing) calls call (among_contained (filter (first thing) calls) call has)).1

  line_more : (line : EverLine) → Among (standing first ++ coming first) line → (call : Call) → Contains line.calls call → LineMore line.thing call
  line_more line here call has = elim (among_either (standing first) (coming first) line here) [
    | inl stands ↦
        (let from = map_among (λ (about : Word × Subject). joint_line first about.0 (Stands about.1)) subjects line stands in
        subst (λ (l : EverLine). LineMore l.thing call) from.2
        (record {
          word = from.0.0;
          listed = among_filter has_ever_calls (standing more ++ coming more) (joint_line more from.0.0 (Stands from.0.1))
              (some_of (filter (more (Stands from.0.1)) calls) call
              (has_call (Stands from.0.1) call (passes_first from.0.0 (Stands from.0.1) call (subst (λ (l : EverLine). Contains l.calls call) (sym from.2) has))))
              (among_left (standing more) (coming more) (joint_line more from.0.0 (Stands from.0.1))
              (among_map (λ (about : Word × Subject). joint_line more about.0 (Stands about.1)) subjects from.0 from.1));
        }))
    | inr comes ↦
        (let from = map_among (λ new. joint_line first [] (Comes new)) all_new line comes in
        subst (λ (l : EverLine). LineMore l.thing call) from.2
        (record {
          word = [];
          listed = among_filter has_ever_calls (standing more ++ coming more) (joint_line more [] (Comes from.0))
              (some_of (filter (more (Comes from.0)) calls) call
              (has_call (Comes from.0) call (passes_first [] (Comes from.0) call (subst (λ (l : EverLine). Contains l.calls call) (sym from.2) has))))
              (among_right (standing more) (coming more) (joint_line more [] (Comes from.0))
              (among_map (λ new. joint_line more [] (Comes new)) all_new from.0 from.1));
        }))
  ]

  pub foresees_more : (table : CallTable) (later : Tree) (last : ProcessState) → ForeseesIn (joint_lines t a first) t table a later last →
      ForeseesIn (joint_lines t a more) t table a later last
  foresees_more table later last foresees from call text e =
      let seen = foresees from call text e in
      let listed = filter_among has_ever_calls (standing first ++ coming first) seen.line (among_contained (joint_lines t a first) seen.line seen.listed) in
      let line = line_more seen.line listed.0 call seen.allows in
      record {
        object = seen.object;
        names = seen.names;
        line = joint_line more line.word seen.line.thing;
        listed = contained (joint_lines t a more) (joint_line more line.word seen.line.thing) line.listed;
        about = seen.about;
        allows = contained (filter (more seen.line.thing) calls) call (has_call seen.line.thing call (passes_in seen.line listed.0 call seen.allows));
      }
    where
      passes_in : (line : EverLine) → Among (standing first ++ coming first) line → (call : Call) → Contains line.calls call → first line.thing call ≡ true
      passes_in line here call has = elim (among_either (standing first) (coming first) line here) [
        | inl stands ↦
            (let from = map_among (λ (about : Word × Subject). joint_line first about.0 (Stands about.1)) subjects line stands in
            subst (λ (l : EverLine). first l.thing call ≡ true) from.2
            (passes_first from.0.0 (Stands from.0.1) call (subst (λ (l : EverLine). Contains l.calls call) (sym from.2) has)))
        | inr comes ↦
            (let from = map_among (λ new. joint_line first [] (Comes new)) all_new line comes in
            subst (λ (l : EverLine). first l.thing call ≡ true) from.2
            (passes_first [] (Comes from.0) call (subst (λ (l : EverLine). Contains l.calls call) (sym from.2) has)))
      ]

-- what a line of what a process starts is about, that of the process is about
line_too : (t later : Tree) (a : ProcessState) (g : ℕ) {thing : Thing} {object : Found} → IsLineOf t later (as_started a g) thing object →
    IsLineOf t later a thing object
line_too t later a g (of_dir low) = of_dir low
line_too t later a g (of_row row at own) = of_row row at own
line_too t later a g (of_name perms own) = of_name perms own
line_too t later a g (of_others low own) = of_others low own
line_too t later a g (of_new_dir new) = of_new_dir new
line_too t later a g (of_new_file new kinds) = of_new_file new kinds
line_too t later a g (of_new_link new kinds) = of_new_link new kinds
line_too t later a g (of_new_sock new kinds) = of_new_sock new kinds
line_too t later a g (of_new_fifo new kinds) = of_new_fifo new kinds
line_too t later a g (of_new_others new) = of_new_others new

-- by a list that has what those of a process and of what it starts have
module _ (t : Tree) (table : CallTable) (crew : List ProcessState) (a : ProcessState) (given : Option ℕ) (test : Thing → Call → Bool)
    (tells : TellsOfOne t table crew (agents_of (a, given)) test) (later : Tree) (last : ProcessState) where
  abbrev Foreseen : ProcessState → Type 0
  Foreseen p =
      Contains (agents_of (a, given)) p → (own : Thing → Call → Bool) → TellsJointly t table crew p own →
      ForeseesIn (joint_lines t p own) t table p later last → ForeseesIn (joint_lines t a test) t table a later last

  passes : (p : ProcessState) → Contains (agents_of (a, given)) p → (own : Thing → Call → Bool) → TellsJointly t table crew p own →
      (thing : Thing) (call : Call) → own thing call ≡ true → test thing call ≡ true
  passes p has own is thing call e = tells.all thing call (record { agent = p; among = has; listed = is.only thing call e })

  -- what it starts has the same veils, and so the same lines are of the same things
  as_own : (g : ℕ) (own : Thing → Call → Bool) → ForeseesIn (joint_lines t (as_started a g) own) t table (as_started a g) later last →
      ForeseesIn (joint_lines t a own) t table a later last
  as_own g own foresees from call text e =
      let seen = foresees from call text e in
      record {
        object = seen.object;
        names = seen.names;
        line = seen.line;
        listed = seen.listed;
        about = line_too t later a g seen.about;
        allows = seen.allows;
      }

  pub foreseen_by_one : ForeseenByOne t table crew (agents_of (a, given)) later last → ForeseesIn (joint_lines t a test) t table a later last
  foreseen_by_one one =
      let own = tells.each one.agent one.among in
      one_or_other a given Foreseen
      (λ has own is foresees. foresees_more t a own test (passes a has own is) table later last foresees)
      (λ g has own is foresees. foresees_more t a own test (passes (as_started a g) has own is) table later last (as_own g own foresees))
      one.agent one.among one.among own.0 own.1 (one.listed own.0 own.1)

-- ---- what is so of each process behind what was read

-- the bound doesn't rest on what tmppath opens
bound_wide : (table : CallTable) (h : ProcessState) → bound_of (tmp_table table) h ≡ bound_of table h
bound_wide table h = by (held_for_exec h) refl
  where
    by : (o : Option ℕ) → held_for_exec h ≡ o → bound_of (tmp_table table) h ≡ bound_of table h
    by None is = rw is refl
    by (Some given) is = rw is refl

-- a family of one
only_one : (n m : ℕ) → is_member (n ∷ []) m ≡ true → n ≡ m
only_one n m e = by (n == m) refl e
  where
    by : (b : Bool) → (n == m) ≡ b → (b || false) ≡ true → n ≡ m
    by true is e = eqb-true n m is
    by false is e = absurd (false≢true e)

module _ (table : CallTable) (sound : NoCallNeedsError table) (w : World) (asks : List Asked) where
  acts_alone : (n : ℕ) (h : ProcessState) → kept_at w n ≡ Some h → IsConfined h → Members w (n ∷ []) h false
  acts_alone n h here confined = all_within w (n ∷ []) h (λ m belongs. (
    h,
    sym (ap (kept_at w) (only_one n m belongs)) ∙ here,
    (record { unveils = record { any = refl; kept = λ place. refl }; promises = λ set fine holding. holding; confined = confined }, λ lives. lives),
  ))

  goes_alone : (n : ℕ) (h : ProcessState) (given : ℕ) → kept_at w n ≡ Some h → bound_of table h ≡ Some given →
      (is_bounded table given ≡ true) × GoAlong table w h given (n ∷ [])
  goes_alone n h given here bound =
      let parts = bound_parts table h given bound in (
        parts.bounded,
        λ m belongs. (
          h,
          sym (ap (kept_at w) (only_one n m belongs)) ∙ here,
          goes table sound h given parts.bounded h (along_now table sound h given parts.bounded parts.set parts.confined),
        ),
      )

module _ (table : CallTable) (sound : NoCallNeedsError table) (needs : EditsNeedC table) (w : World) (asks : List Asked) (ms : List Numbered)
    (trees : TreesAlong table w asks) (places : PlacesStand w) (behind : AllByRecursion (StartsAsTold table w asks) ms)
    (said : AreSaid w.tree (tmp_table table) (acting_in ms)) where
  abbrev wide : CallTable
  wide = tmp_table table

  abbrev crew : List ProcessState
  crew = crew_by wide (acting_in ms)

  abbrev who_of : Numbered → ProcessState × Option ℕ
  who_of m = who wide m.0

  well : WellFormed w.tree
  well = first_tree table w asks trees

  told_of : (m : Numbered) → Among ms m → StartsAsTold table w asks m
  told_of m here = every (StartsAsTold table w asks) ms m behind here

  said_of : (m : Numbered) → Among ms m → IsSaidOf w.tree wide crew m.0.process m.0.execs
  said_of m here =
      every (λ (x : Acting). IsSaidOf w.tree wide crew x.process x.execs) (acting_in ms) m.0 said (among_map (λ (q : Numbered). q.0) ms m here)

  in_crew : (m : Numbered) → Among ms m → (a : ProcessState) → Contains (agents_by wide m.0) a → Contains crew a
  in_crew m here a has =
      contained crew a (among_flat (agents_by wide) (acting_in ms) m.0 a (among_map (λ (q : Numbered). q.0) ms m here)
      (among_contained (agents_by wide m.0) a has))

  all_stand : (a : ProcessState) → Contains crew a → VeilsStand w.tree a
  all_stand a has =
      let found = flat_among (agents_by wide) (acting_in ms) a (among_contained crew a has) in
      let from = map_among (λ (q : Numbered). q.0) ms found.0 found.1 in
      one_or_other found.0.process (handed_by found.0.execs (bound_of wide found.0.process)) (VeilsStand w.tree)
      (subst (λ (x : Acting). VeilsStand w.tree x.process) from.2 (places from.0.1 from.0.0.process (told_of from.0 from.1).here))
      (λ g. stands_too found.0.process g
      (subst (λ (x : Acting). VeilsStand w.tree x.process) from.2 (places from.0.1 from.0.0.process (told_of from.0 from.1).here)))
      a (contained (agents_by wide found.0) a found.2)
    where
      stands_too : (h : ProcessState) (g : ℕ) → VeilsStand w.tree h → VeilsStand w.tree (as_started h g)
      stands_too h g stand = stand

  abbrev IsOne : Numbered → Type 0
  IsOne m = Are table sound needs w.tree crew well all_stand w asks (who_of m) (m.1 ∷ [])

  are_of : (m : Numbered) → Among ms m → IsOne m
  are_of m here = by m.0.execs refl (said_of m here)
    where
      told : StartsAsTold table w asks m
      told = told_of m here

      h : ProcessState
      h = m.0.process

      Is : ExecBound → Type 0
      Is x = Are table sound needs w.tree crew well all_stand w asks (m.0.process, handed_by x (bound_of wide m.0.process)) (m.1 ∷ [])

      bounded : (o : Option ℕ) → bound_of wide m.0.process ≡ o → (bound_of wide m.0.process ≡ None → ⊥) →
          Are table sound needs w.tree crew well all_stand w asks (m.0.process, o) (m.1 ∷ [])
      bounded None none some = absurd (some none)
      bounded (Some given) is some = goes_alone table sound w asks m.1 m.0.process given told.here (sym (bound_wide table m.0.process) ∙ is)

      by : (x : ExecBound) → m.0.execs ≡ x → IsSaidOf w.tree wide crew m.0.process x → IsOne m
      by Never is says =
          subst Is (sym is)
          (acts_alone table sound w asks m.1 m.0.process told.here told.confined, inl (λ thing can. says (record { thing = thing; listed = inl can })))
      by Open is says = subst Is (sym is) (acts_alone table sound w asks m.1 m.0.process told.here told.confined, inr (told.unbounded is))
      by Bounded is says = subst Is (sym is) (bounded (bound_of wide m.0.process) refl says.1)

  holds : AllHold table sound needs w.tree crew well all_stand who_of w asks (families ms)
  holds h here =
      let from = map_among (λ (m : Numbered). (m, m.1 ∷ [])) ms h here in
      subst (Holds table sound needs w.tree crew well all_stand who_of w asks) from.2
      (record { among = in_crew from.0 from.1; are = are_of from.0 from.1 })

  pub told_done : GroupsEdit table w asks (families ms) → (m : Numbered) → Contains ms m → (test : Thing → Call → Bool) →
      TellsOfOne w.tree wide crew (agents_by wide m.0) test → (member : ℕ) → is_member (family table w asks (m.1 ∷ [])) member ≡ true →
      HasKept (world_after table w asks) member
      (ForeseesIn (joint_lines w.tree m.0.process test) w.tree wide m.0.process (world_after table w asks).tree)
  told_done edit m here test tells member belongs =
      let one = lasts_by table sound needs w.tree crew well all_stand who_of w asks (families ms) holds edit trees (knows_first wide w.tree crew well)
      (m, m.1 ∷ []) (contained (families ms) (m, m.1 ∷ []) (among_map (λ (q : Numbered). (q, q.1 ∷ [])) ms m (among_contained ms m here))) member belongs in (
        one.0,
        one.1,
        foreseen_by_one w.tree wide crew m.0.process (handed_by m.0.execs (bound_of wide m.0.process)) test tells (world_after table w asks).tree one.0 one.2,
      )

pub jointly_told : JointlyTold
jointly_told table sound needs rules tree_bytes script_bytes t before asks listed scripted bytes ms behind told edit m here test tells member belongs =
    told_done table sound needs w asks ms (replays_keep_trees table w asks left bytes) places behind told edit m here test tells member belongs
  where
    w : World
    w = world_after table (new_world t) before

    said : are_in_bytes before ≡ true
    said = scripts_ask_in_bytes rules script_bytes before scripted

    tree : IsByteTree t
    tree = listings_list_byte_trees tree_bytes t listed

    left : IsByteTree w.tree
    left = replays_keep_byte_trees table (new_world t) before tree said

    places : PlacesStand w
    places = replays_keep_places table needs (new_world t) before (replays_keep_trees table (new_world t) before tree said) (new_places t)
