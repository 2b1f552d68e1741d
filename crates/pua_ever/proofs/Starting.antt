-- A file that could be started, were it a program, has its line.
use Rattle.pua_ever.proofs.Common.{◌≡◌, ◌⊎◌, ◌≤◌, ◌<◌, ℕ, List, [], ◌++◌, Bool, true, false, cond, map, refl, sym, ap, subst, ◌∙◌, inl}
use Rattle.pua_ever.proofs.Common.{inr, None, Some, not, ◌&&◌, ◌||◌, filter, flat_map, list_any, option_map, false≢true, and_parts, and_from}
use Rattle.pua_ever.proofs.Common.{or_left, or_right, Tree, WellFormed, Spot, is_dir, is_dir_kind, is_living, look, kind_at, sound_from, row_says}
use Rattle.pua_ever.proofs.Common.{is_link_kind, Slot, CallTable, calls, rule_of, ProcessState, veils, may_any, Object, object_of_kind}
use Rattle.pua_ever.proofs.Common.{object_fault, cover, cover_fault, Cover, Call, Subject, At, items, Among, map_among, among_filter}
use Rattle.pua_ever.proofs.Common.{filter_among, among_right, among_map, contained, among_contained, may_edit, file_covers, is_allowed_under}
use Rattle.pua_ever.proofs.Common.{is_ever_allowed, can_make, New, NewDir, NewOthers, NewFile, NewLink, NewSock, NewFifo, Stands, Comes, EverLine, ever_line}
use Rattle.pua_ever.proofs.Common.{new_line, subjects_of, all_new, has_ever_calls, ever, VeilsStand}
use Rattle.std.specs.List.{Contains}
use Rattle.pua_tree.specs.declared.node.Kind.TheVariants as kind
use Rattle.pua_calls.specs.Calls.{about}
use Rattle.pua_calls.specs.declared.call.Call.TheVariants as call
use Rattle.pua_policy.specs.Verdict.{Is, IsProg}
use Rattle.pua_tree.specs.declared.node.Kind.{Kind}
use Rattle.pua_ever.specs.Ever.{may_start, may_start_at, new_object, starts_under}
use Rattle.pua_ever.proofs.MadeKinds.{startable}
use Rattle.pua_objects.proofs.ForCallers.{among_either, one_of_calls, some_of}
use Rattle.pua_objects.specs.Objects.{is_named_by}
use Rattle.pua_ever.specs.Ever.{can_allow, ever_calls, is_exec_call, is_new_allowed, is_turned_held, named_covers, new_calls, stays_on, Thing, turning_calls}
use Rattle.pua_ever.specs.Laws.{of_row, of_new_file, IsStartForeseen}
use Rattle.pua_ever.proofs.Covers.{given_or_new}
use Rattle.pua_ever.proofs.Ways.{any_among}
use Rattle.pua_ever.proofs.Grown.{new_kind}
use Rattle.pua_ever.proofs.Origins.{Known, Stays}
use Rattle.pua_ever.proofs.Ending.{Parts, under_one, home_of, row_listed, young_cover_at, edits_if_young}

-- what a line is about, if it stands
abbrev stood_at : Thing → Subject → Subject
stood_at (Stands subject) other = subject
stood_at (Comes made) other = other

abbrev is_standing : Thing → Bool
is_standing (Stands subject) = true
is_standing (Comes made) = false

-- one of the calls that make a program is allowed as it is
plainly : (a t p : Bool) → (a || (t && (false && p))) ≡ true → a ≡ true
plainly true t p e = refl
plainly false true p e = absurd (false≢true e)
plainly false false p e = absurd (false≢true e)

no_exec : (turning : Call) → Among turning_calls turning → is_exec_call turning ≡ false
no_exec turning a = apart turning (filter_among turns calls turning a).1
  where
    turns : Call → Bool
    turns call = (about call).turns

    apart : (call : Call) → (about call).turns ≡ true → is_exec_call call ≡ false
    apart call.Exec is = absurd (false≢true is)
    apart _ is = refl

module _ (table : CallTable) (t : Tree) (h : ProcessState) where
  abbrev standing_lines : List EverLine
  standing_lines = map (ever_line t table h) (flat_map (subjects_of t table h) (items t (veils h)))

  abbrev new_lines : List EverLine
  new_lines = map (new_line t table h) all_new

  either : (line : EverLine) → Among (ever t table h) line → Among standing_lines line ⊎ Among new_lines line
  either line a =
      among_either standing_lines new_lines line (filter_among has_ever_calls (standing_lines ++ new_lines) line a).0

  -- the calls of a line are those of what it is about
  line_calls : (line : EverLine) (subject : Subject) → Among (ever t table h) line → line.thing ≡ Stands subject →
      line.calls ≡ ever_calls t table h subject
  line_calls line subject a about = elim (either line a) [
    | inl b ↦ (let from = map_among (ever_line t table h) (flat_map (subjects_of t table h) (items t (veils h))) line b in
        ap (λ (l : EverLine). l.calls) (sym from.2) ∙
        ap (λ (thing : Thing). ever_calls t table h (stood_at thing subject)) (ap (λ (l : EverLine). l.thing) from.2 ∙ about))
    | inr b ↦ (let from = map_among (new_line t table h) all_new line b in
        absurd (false≢true (ap is_standing (ap (λ (l : EverLine). l.thing) from.2 ∙ about))))
  ]

  -- and of a new file
  new_line_calls : (line : EverLine) → Among (ever t table h) line → line.thing ≡ Comes NewFile → line.calls ≡ new_calls t table h NewFile
  new_line_calls line a about = elim (either line a) [
    | inl b ↦ (let from = map_among (ever_line t table h) (flat_map (subjects_of t table h) (items t (veils h))) line b in
        absurd (false≢true (sym (ap is_standing (ap (λ (l : EverLine). l.thing) from.2 ∙ about)))))
    | inr b ↦ (let from = map_among (new_line t table h) all_new line b in
        ap (λ (l : EverLine). l.calls) (sym from.2) ∙
        ap (λ (thing : Thing). new_calls t table h (made_at thing)) (ap (λ (l : EverLine). l.thing) from.2 ∙ about))
  ]
    where
      made_at : Thing → New
      made_at (Stands subject) = NewFile
      made_at (Comes made) = made

module _ (table : CallTable) (t0 : Tree) (h : ProcessState) (well0 : WellFormed t0) (stand : VeilsStand t0 h) (u : Tree)
    (k : Stays table t0 h well0 stand u) (edit : (may_edit table h ≡ true) ⊎ (u ≡ t0)) where
  module _ (dir : ℕ) (name : List ℕ) (x : ℕ) (here : look u dir name ≡ Some x) (kinds : may_start_at (kind_at u x) ≡ true)
      (parts : Parts (may_any h (rule_of table call.Exec).alternatives)
      (cover_fault (cover u h (Slot dir name (Some x))) (rule_of table call.Exec).perms) (object_fault table.whose u call.Exec IsProg)) where
    -- what it is
    as_is : (k : Kind) × (kind_at u x ≡ Some k) × (may_start k ≡ true)
    as_is = startable (kind_at u x) kinds

    abbrev is : Kind
    is = as_is.0

    plain_kind : (k : Kind) → may_start k ≡ true → (is_dir_kind (Some k) ≡ false) × (is_link_kind (Some k) ≡ false)
    plain_kind kind.Dir e = cc
    plain_kind kind.File e = (refl, refl)
    plain_kind kind.Prog e = cc
    plain_kind kind.Link e = cc
    plain_kind (kind.Known type) e = (refl, refl)

    other : is_dir u x ≡ false
    other = ap is_dir_kind as_is.1 ∙ (plain_kind is as_is.2).0

    lives : is_living u x ≡ true
    lives = (row_says u (sound_from u k.well) (dir, name) x here).2

    -- exec on a program is allowed where it stands
    runs : (covers : List Cover) → Among covers (cover u h (Slot dir name (Some x))) →
        is_allowed_under table h covers IsProg call.Exec ≡ true
    runs covers a = under_one table t0 h covers IsProg call.Exec (cover u h (Slot dir name (Some x))) a parts.may parts.covered refl

    -- the covers under which a file of the beginning can come
    abbrev covers_from : Spot → List Cover
    covers_from r = named_covers t0 table h (stays_on t0 h r.0) (kind_at t0 x) (cover t0 h (Slot r.0 r.1 (Some x)))

    -- what can be allowed on it: as it is, or as a program
    abbrev as_either : List Cover → Call → Bool
    as_either covers c =
        is_allowed_under table h covers (Is is) c
        || ((is_turned_held h x || list_any (is_allowed_under table h covers (Is is)) turning_calls) && starts_under table h covers c)

    can_is : (covers : List Cover) (c : Call) → can_allow table h (is_turned_held h x) covers (Is is) c ≡ as_either covers c
    can_is covers c = ap (λ b. cond b (as_either covers c) (is_allowed_under table h covers (Is is) c)) as_is.2

    if_starts : (covers : List Cover) (c : Call) → as_either covers c ≡ true → can_allow table h (is_turned_held h x) covers (Is is) c ≡ true
    if_starts covers c e = can_is covers c ∙ e

    -- such a file has exec, where it can come to be a program
    started : (r : Spot) → kind_at t0 x ≡ Some is → Among (covers_from r) (cover u h (Slot dir name (Some x))) →
        (is_turned_held h x || list_any (is_allowed_under table h (covers_from r) (Is is)) turning_calls) ≡ true →
        Among (ever_calls t0 table h (At (Slot r.0 r.1 (Some x)))) call.Exec
    started r was a turns =
        among_filter (is_ever_allowed t0 table h (At (Slot r.0 r.1 (Some x)))) calls call.Exec
        (and_from (is_named_by t0 call.Exec (At (Slot r.0 r.1 (Some x)))) _ (ap not (ap is_link_kind was ∙ (plain_kind is as_is.2).1))
        (subst (λ (object : Object). can_allow table h (is_turned_held h x) (covers_from r) object call.Exec ≡ true)
        (sym (ap object_of_kind was))
        (if_starts (covers_from r) call.Exec (or_right (is_allowed_under table h (covers_from r) (Is is) call.Exec) _
        (and_from (is_turned_held h x || list_any (is_allowed_under table h (covers_from r) (Is is)) turning_calls) _ turns
        (runs (covers_from r) a))))))
        (one_of_calls call.Exec)

    -- by a call in its line
    turned : (r : Spot) → kind_at t0 x ≡ Some is → Among (covers_from r) (cover u h (Slot dir name (Some x))) →
        (turning : Call) → Among turning_calls turning → Among (ever_calls t0 table h (At (Slot r.0 r.1 (Some x)))) turning →
        Among (ever_calls t0 table h (At (Slot r.0 r.1 (Some x)))) call.Exec
    turned r was a turning one has =
        started r was a (or_right (is_turned_held h x) _ (any_among (is_allowed_under table h covers (Is is)) turning_calls turning one turns))
      where
        subject : Subject
        subject = At (Slot r.0 r.1 (Some x))

        covers : List Cover
        covers = covers_from r

        is_file : object_of_kind (kind_at t0 x) ≡ Is is
        is_file = ap object_of_kind was

        allowed : as_either covers turning ≡ true
        allowed = sym (can_is covers turning) ∙ ap (λ (object : Object). can_allow table h (is_turned_held h x) covers object turning) (sym is_file) ∙
            (and_parts (is_named_by t0 turning subject) _ (filter_among (is_ever_allowed t0 table h subject) calls turning has).1).1

        turns : is_allowed_under table h covers (Is is) turning ≡ true
        turns = plainly (is_allowed_under table h covers (Is is) turning)
            (is_turned_held h x || list_any (is_allowed_under table h covers (Is is)) turning_calls)
            (is_allowed_under table h covers IsProg turning)
            (ap (λ b. is_allowed_under table h covers (Is is) turning
            || ((is_turned_held h x || list_any (is_allowed_under table h covers (Is is)) turning_calls)
            && (b && is_allowed_under table h covers IsProg turning)))
            (sym (no_exec turning one)) ∙ allowed)

    old : x < t0.next → IsStartForeseen t0 table h u (Slot dir name (Some x))
    old below =
        let home = home_of table t0 h well0 stand u k edit call.Exec (dir, name) x here other below in
        let subject : Subject = At (Slot home.row.0 home.row.1 (Some x)) in
        let was : kind_at t0 x ≡ Some is = ap (option_map (λ n. n.kind)) (sym (k.old x below lives)) ∙ as_is.1 in
        record {
          thing = Stands subject;
          about = of_row home.row home.at home.own;
          turned = λ line listed about turning one has.
              let calls_are = line_calls table t0 h line subject (among_contained (ever t0 table h) line listed) about in
              subst (λ cs. Contains cs call.Exec) (sym calls_are)
              (contained (ever_calls t0 table h subject) call.Exec
              (turned home.row was home.under turning (among_contained turning_calls turning one)
              (among_contained (ever_calls t0 table h subject) turning (subst (λ cs. Contains cs turning) calls_are has))));
          held = λ held.
              let there = row_listed table t0 h well0 stand home.row x home.at (ap is_dir_kind was ∙ (plain_kind is as_is.2).0) call.Exec
              (started home.row was home.under (or_left (is_turned_held h x) _ held)) in (
                there.line,
                contained (ever t0 table h) there.line there.among,
                there.about,
                contained there.line.calls call.Exec there.allows,
              );
          made = λ e. absurd (false≢true (sym (ap is_standing e)));
        }

    -- a file that was made
    young : t0.next ≤ x → IsStartForeseen t0 table h u (Slot dir name (Some x))
    young from = record {
      thing = Comes NewFile;
      about = of_new_file from kinds;
      turned = λ line listed about turning one has.
          subst (λ cs. Contains cs call.Exec) (sym (new_line_calls table t0 h line (among_contained (ever t0 table h) line listed) about))
          (contained (new_calls t0 table h NewFile) call.Exec starts);
      held = λ is. listed;
      made = λ e. listed;
    }
      where
        line : EverLine
        line = new_line t0 table h NewFile

        made_file : (made : New) → may_start (new_kind table made) ≡ true → can_make t0 table h made ≡ true →
            can_make t0 table h NewFile ≡ true
        made_file NewDir e can = cc
        made_file NewOthers e can = cc
        made_file NewFile e can = can
        made_file NewLink e can = cc
        made_file NewSock e can = cc
        made_file NewFifo e can = cc

        known : Known table t0 h well0 stand u x
        known = k.young x from lives

        makes : (may_edit table h && can_make t0 table h NewFile) ≡ true
        makes = and_from (may_edit table h) _ (edits_if_young table t0 h well0 stand u k edit call.Exec x from lives)
            (made_file known.made (ap may_start_at (sym known.kinds) ∙ kinds) known.can)

        starts : Among (new_calls t0 table h NewFile) call.Exec
        starts =
            subst (λ b. Among (cond b (filter (is_new_allowed t0 table h NewFile) calls) []) call.Exec) (sym makes)
            (among_filter (is_new_allowed t0 table h NewFile) calls call.Exec
            (or_right (is_allowed_under table h (file_covers t0 table h None) (new_object table NewFile) call.Exec) _
            (runs (file_covers t0 table h None) (young_cover_at table t0 h well0 stand u k edit call.Exec (dir, name) x here other from)))
            (one_of_calls call.Exec))

        listed : (line : EverLine) × Contains (ever t0 table h) line × (line.thing ≡ Comes NewFile) × Contains line.calls call.Exec
        listed = (
          line,
          contained (ever t0 table h) line
              (among_filter has_ever_calls (standing_lines table t0 h ++ new_lines table t0 h) line
              (some_of (new_calls t0 table h NewFile) call.Exec starts)
              (among_right (standing_lines table t0 h) (new_lines table t0 h) line
              (among_map (new_line t0 table h) all_new NewFile (inr (inr (inl refl)))))),
          refl,
          contained (new_calls t0 table h NewFile) call.Exec starts,
        )

    pub start_foreseen : IsStartForeseen t0 table h u (Slot dir name (Some x))
    start_foreseen = elim (given_or_new t0 x) [ inl below ↦ old below | inr from ↦ young from ]
