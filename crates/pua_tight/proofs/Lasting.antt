-- The list that holds longest, of a process that lies within another one.
use Rattle.std.proofs.Common.{◌≡◌, ℕ, List, [], ◌++◌, refl, sym, ap, ◌∙◌, Bool, true, false, ◌&&◌, ◌||◌, map, subst, inl, inr}
use Rattle.std.proofs.Common.{min, max, arith, lit<}
use Rattle.std.proofs.lemmas.Bool.{and_parts, and_from, eq-eqb, eqb-true}
use Rattle.std.proofs.lemmas.Nat.Bits.{same_from_bits, bit_at_and, bit_at_or}
use Rattle.std.specs.Int.{bit_at}
use Rattle.std.specs.List.{list_any}
use Rattle.std.specs.Prelude.{Option, Some, None, bit_or, filter, flat_map, length, nat_lt, if◌then◌else◌}
use Rattle.pua_tree.specs.Tree.{Tree, WellFormed}
use Rattle.pua_calls.specs.Promises.{holds, fattr}
use Rattle.pua_calls.specs.Calls.{CallTable, rule_of, calls}
use Rattle.pua_calls.specs.Tables.{NoCallNeedsError}
use Rattle.pua_calls.specs.declared.call.Call.{Call}
use Rattle.pua_policy.specs.States.{ProcessState, may_any, held_set, with_both}
use Rattle.pua_policy.specs.Verdict.{Object, Is, IsProg, IsLink, IsMissing, cover_fault}
use Rattle.pua_policy.specs.Verdict.{covered_verdict, is_allowed, object_fault, or_fault}
use Rattle.pua_tree.specs.Tree.{empty_tree}
use Rattle.pua_policy.specs.declared.answer.Cover.{Cover}
use Rattle.pua_policy.proofs.ForCallers.{holds_through}
use Rattle.pua_script.proofs.ForCallers.{IsWithin, may_yes}
use Rattle.pua_audit.specs.Reach.{Word}
use Rattle.pua_objects.specs.Objects.{Subject, items, is_named_by}
use Rattle.pua_objects.proofs.ForCallers.{Among, among_map, map_among, among_filter, filter_among, among_either, contained, among_contained}
use Rattle.pua_ever.specs.Ever.{is_allowed_under, turning_calls, is_exec_call, is_turned, can_allow, covers_of, ever_object, is_ever_allowed}
use Rattle.pua_ever.specs.Ever.{New, NewDir, NewOthers, NewFile, NewLink, NewSock, NewFifo, is_made_by, may_start, starts_under, new_covers, new_object, file_covers, name_covers, dir_covers}
use Rattle.pua_ever.specs.Ever.{can_make, can_allow_new, is_new_named, is_new_allowed, may_edit, subjects_of, all_new, ever_line}
use Rattle.pua_ever.specs.Ever.{new_line, Thing, Stands, Comes, EverLine, has_ever_calls, ever}
use Rattle.pua_ever.specs.Through.{is_promised_by, is_promised_by_one, can_come, let_through, only_through, ever_through, has_exec, bound_of}
use Rattle.pua_ever.specs.Through.{ever_lasting}
use Rattle.pua_ever.proofs.ForCallers.{any_among, any_found, within_both, goes, along_now, may_holds, bound_parts}
use Rattle.pua_ever.proofs.ForCallers.{lasting_unbounded, lasting_alone, lasting_through}
use Rattle.pua_tight.specs.Narrower.{SetWithin, unset, within, StateWithin}
use Rattle.pua_tight.specs.Laws.{IsListedForEver, WithinLastsNoMore}
use Rattle.pua_tight.proofs.Sets.{or_more, any_more}
use Rattle.pua_tight.proofs.Within.{all_within, veils_self, held_within}
use Rattle.pua_tight.proofs.Worlds.{parts}
use Rattle.pua_tight.proofs.Eases.{Eases, eases, made_by_more, turned_more}
use Rattle.pua_tight.proofs.Listed.{has_more}
use Rattle.pua_tight.proofs.ForEver.{ever_more}

-- two sets together, each of them within another one
union_within : (a b c d : ℕ) → holds b a ≡ true → holds d c ≡ true → holds (bit_or b d) (bit_or a c) ≡ true
union_within a b c d first second = eq-eqb _ _ (same_from_bits _ _ (λ i.
    bit_at_and (bit_or b d) (bit_or a c) i ∙ (λ j. min (bit_at_or b d i j) (bit_at_or a c i j))
    ∙ least (bit_at a i) (bit_at b i) (bit_at c i) (bit_at d i) (at a b first i) (at c d second i) ∙ sym (bit_at_or a c i)))
  where
    at : (x y : ℕ) → holds y x ≡ true → (i : ℕ) → min (bit_at y i) (bit_at x i) ≡ bit_at x i
    at x y less i = sym (bit_at_and y x i) ∙ ap (λ s. bit_at s i) (eqb-true _ _ less)

    least : (x y z u : ℕ) → min y x ≡ x → min u z ≡ z → min (max y u) (max x z) ≡ max x z
    least x y z u p q = omega (arith, p, q)

module _ (table : CallTable) (t : Tree) (well : WellFormed t) where
  -- what is listed in one list, of which all lines are listed in another one
  listed_then : (lines others : List EverLine) → ((line : EverLine) → Among lines line → IsListedForEver others line) → (line : EverLine) →
      IsListedForEver lines line → IsListedForEver others line
  listed_then lines others each line first =
      let second = each first.other (among_contained lines first.other first.listed) in record {
        other = second.other;
        listed = second.listed;
        word = second.word ∙ first.word;
        thing = second.thing ∙ first.thing;
        calls = λ c has. second.calls c (first.calls c has);
      }

  listed_here : (lines : List EverLine) (line : EverLine) → Among lines line → IsListedForEver lines line
  listed_here lines line a =
      record { other = line; listed = contained lines line a; word = refl; thing = refl; calls = λ c has. has }

  -- a line with the calls of another one that pass
  module _ (passes : Call → Bool) (lines : List EverLine) (line : EverLine) (there : IsListedForEver lines line) where
    abbrev passed : EverLine
    passed = let_through passes there.other

    pub passed_through : nat_lt 0 (length line.calls) ≡ true →
        ((c : Call) → Among line.calls c → (can_come passes line.thing && passes c) ≡ true) →
        IsListedForEver (only_through passes lines) line
    passed_through some pass = record {
      other = passed;
      listed = contained (only_through passes lines) passed
          (among_filter has_ever_calls (map (let_through passes) lines) passed (has_more line.calls passed.calls kept some)
          (among_map (let_through passes) lines there.other (among_contained lines there.other there.listed)));
      word = there.word;
      thing = there.thing;
      calls = λ c has. contained passed.calls c (kept c (among_contained line.calls c has));
    }
      where
        kept : (c : Call) → Among line.calls c → Among passed.calls c
        kept c a = among_filter (λ c. can_come passes there.other.thing && passes c) there.other.calls c
            (ap (λ thing. can_come passes thing && passes c) there.thing ∙ pass c a)
            (among_contained there.other.calls c (there.calls c (contained line.calls c a)))

  -- the lines of a process itself are among those through execs
  module _ (sound : NoCallNeedsError table) (k : ProcessState) (given : ℕ) (inside : IsWithin (with_both k given) k) where
    abbrev both : ProcessState
    both = with_both k given

    eases_both : Eases table k both
    eases_both = record {
      calls = λ c. may_yes both k inside (rule_of table c).alternatives (sound.calls c);
      rename_old = may_yes both k inside table.rename.old.needs.alternatives sound.rename.0;
      rename_new = may_yes both k inside table.rename.new.needs.alternatives sound.rename.1;
      link_old = may_yes both k inside table.link.old.needs.alternatives sound.link.0;
      link_new = may_yes both k inside table.link.new.needs.alternatives sound.link.1;
      veiled = veils_self k.veils;
      turned = turned_more k both (inside.tightens.promises fattr (lit< tt, refl)) refl;
    }

    abbrev passes : Call → Bool
    passes = is_promised_by_one table k given

    promised : (xs : List Cover) (o : Object) (c : Call) → is_allowed_under table k xs o c ≡ true → passes c ≡ true
    promised xs o c e =
        let one = any_found (λ left. is_allowed (covered_verdict empty_tree table k c left o)) xs e in
        let sets = (rule_of table c).alternatives in
        ap (λ x. x || is_promised_by table given c) (may_holds k sets
        (parts (may_any k sets) (or_fault (cover_fault one.0 (rule_of table c).perms) (object_fault table.whose empty_tree c o)) one.2).0)

    -- of a file that can be made a program too
    one_way : (a b : Bool) (c : Call) → (a ≡ true → passes c ≡ true) → (b ≡ true → passes c ≡ true) → (a || b) ≡ true → passes c ≡ true
    one_way true b c first second e = first refl
    one_way false b c first second e = second e

    started : (xs : List Cover) (turned : Bool) (c : Call) →
        (turned && (is_exec_call c && is_allowed_under table k xs IsProg c)) ≡ true → passes c ≡ true
    started xs turned c e =
        promised xs IsProg c (and_parts (is_exec_call c) _ (and_parts turned _ e).1).1

    promised_on : (held : Bool) (xs : List Cover) (o : Object) (c : Call) → can_allow table k held xs o c ≡ true → passes c ≡ true
    promised_on held xs (Is kind) c e = by (may_start kind) e
      where
        by : (starts : Bool) →
            (if starts then (is_allowed_under table k xs (Is kind) c
            || ((held || list_any (is_allowed_under table k xs (Is kind)) turning_calls) && starts_under table k xs c))
            else is_allowed_under table k xs (Is kind) c) ≡ true → passes c ≡ true
        by true = one_way (is_allowed_under table k xs (Is kind) c) _ c (promised xs (Is kind) c)
            (started xs (held || list_any (is_allowed_under table k xs (Is kind)) turning_calls) c)
        by false = promised xs (Is kind) c
    promised_on held xs o c e = promised xs o c e

    promised_new : (new : New) (c : Call) → can_allow_new t table k new c ≡ true → passes c ≡ true
    promised_new NewFile c e = one_way (is_allowed_under table k (file_covers t table k None) (new_object table NewFile) c) _ c
        (promised (file_covers t table k None) (new_object table NewFile) c) (started (file_covers t table k None) true c) e
    promised_new NewDir c e = promised (new_covers t table k NewDir) (new_object table NewDir) c e
    promised_new NewOthers c e = promised (new_covers t table k NewOthers) IsMissing c e
    promised_new NewLink c e = promised (new_covers t table k NewLink) IsLink c e
    promised_new NewSock c e = promised (new_covers t table k NewSock) (new_object table NewSock) c e
    promised_new NewFifo c e = promised (new_covers t table k NewFifo) (new_object table NewFifo) c e

    -- the calls of each line pass
    abbrev Passes : EverLine → Type 0
    Passes line = (c : Call) → Among line.calls c → (can_come passes line.thing && passes c) ≡ true

    standing_pass : (about : Word × Subject) → Passes (ever_line t table k about)
    standing_pass about c a =
        let one = filter_among (is_ever_allowed t table k about.1) calls c a in
        promised_on (is_turned k about.1) (covers_of t table k about.1) (ever_object t table k about.1) c (and_parts (is_named_by t c about.1) _ one.1).1

    coming_pass : (new : New) → Passes (new_line t table k new)
    coming_pass new c a = by (may_edit table k && can_make t table k new) refl a
      where
        by : (b : Bool) → (may_edit table k && can_make t table k new) ≡ b →
            Among (if b then filter (is_new_allowed t table k new) calls else []) c →
            (is_made_by passes new && passes c) ≡ true
        by true is a =
            let one = filter_among (is_new_allowed t table k new) calls c a in
            let covers = name_covers t k None ++ dir_covers t k None in
            and_from (is_made_by passes new) (passes c)
            (made_by_more (is_allowed_under table k covers IsMissing) passes (promised covers IsMissing) new
            (and_parts (may_edit table k) _ is).1)
            (promised_new new c (and_parts (is_new_named new c) _ one.1).1)
        by false is a = absurd a

    pub ever_too : (line : EverLine) → Among (ever t table k) line → IsListedForEver (ever_through t table k given) line
    ever_too line a =
        passed_through passes (ever t table both) line (ever_more table k both eases_both t well line a) kept.1 (elim
        (among_either standing (map (new_line t table k) all_new) line kept.0) [
          | inl b ↦ (let from = map_among (ever_line t table k) subjects line b in subst Passes from.2 (standing_pass from.0))
          | inr b ↦ (let from = map_among (new_line t table k) all_new line b in subst Passes from.2 (coming_pass from.0))
        ])
      where
        subjects : List (Word × Subject)
        subjects = flat_map (subjects_of t table k) (items t k.veils)

        standing : List EverLine
        standing = map (ever_line t table k) subjects

        kept : Among (standing ++ map (new_line t table k) all_new) line × (has_ever_calls line ≡ true)
        kept = filter_among has_ever_calls (standing ++ map (new_line t table k) all_new) line a

  module _ (h k : ProcessState) (w : StateWithin h k) where
    ever_less : (line : EverLine) → Among (ever t table h) line → IsListedForEver (ever t table k) line
    ever_less = ever_more table h k (eases table h k w) t well

    -- both through execs
    module _ (a b : ℕ) (less : holds b a ≡ true) where
      wide : StateWithin (with_both h a) (with_both k b)
      wide = all_within (within (union_within (held_set h) (held_set k) a b (held_within w) less)) unset w.veils w.locked w.start w.ended w.files

      passes_more : (c : Call) → is_promised_by_one table h a c ≡ true → is_promised_by_one table k b c ≡ true
      passes_more c e =
          let sets = (rule_of table c).alternatives in
          or_more (is_promised_by table (held_set h) c) (is_promised_by table a c) (is_promised_by table (held_set k) c)
          (is_promised_by table b c)
          (any_more (holds (held_set h)) (holds (held_set k)) (λ set. holds_through (held_set k) (held_set h) set (held_within w)) sets)
          (any_more (holds a) (holds b) (λ set. holds_through b a set less) sets) e

      comes_more : (thing : Thing) → can_come (is_promised_by_one table h a) thing ≡ true → can_come (is_promised_by_one table k b) thing ≡ true
      comes_more (Stands subject) e = refl
      comes_more (Comes new) e = made_by_more (is_promised_by_one table h a) (is_promised_by_one table k b) passes_more new e

      through_less : (line : EverLine) → Among (ever_through t table h a) line → IsListedForEver (ever_through t table k b) line
      through_less line there =
          let first = is_promised_by_one table h a in
          let kept = filter_among has_ever_calls (map (let_through first) (ever t table (with_both h a))) line there in
          let from = map_among (let_through first) (ever t table (with_both h a)) line kept.0 in
          let wider = ever_more table (with_both h a) (with_both k b) (eases table (with_both h a) (with_both k b) wide) t well from.0 from.1 in
          let narrow : IsListedForEver (ever t table (with_both k b)) (let_through first from.0) = record {
            other = wider.other;
            listed = wider.listed;
            word = wider.word;
            thing = wider.thing;
            calls = λ c has. wider.calls c (contained from.0.calls c
                (filter_among (λ c. can_come first from.0.thing && first c) from.0.calls c
                (among_contained (let_through first from.0).calls c has)).0);
          } in
          subst (IsListedForEver (ever_through t table k b)) from.2
          (passed_through (is_promised_by_one table k b) (ever t table (with_both k b)) (let_through first from.0) narrow
          (ap has_ever_calls from.2 ∙ kept.1)
          (λ c a.
          let one = filter_among (λ c. can_come first from.0.thing && first c) from.0.calls c a in
          let two = and_parts (can_come first from.0.thing) (first c) one.1 in
          and_from _ _ (comes_more from.0.thing two.0) (passes_more c two.1)))

    -- some line has exec there where one has here
    exec_more : has_exec (ever t table h) ≡ true → has_exec (ever t table k) ≡ true
    exec_more e =
        let line = any_found (λ line. list_any is_exec_call line.calls) (ever t table h) e in
        let call = any_found is_exec_call line.0.calls line.2 in
        let there = ever_less line.0 line.1 in
        any_among (λ line. list_any is_exec_call line.calls) (ever t table k) there.other
        (among_contained (ever t table k) there.other there.listed)
        (any_among is_exec_call there.other.calls call.0
        (among_contained there.other.calls call.0 (there.calls call.0 (contained line.0.calls call.0 call.1))) call.2)

    module _ (sound : NoCallNeedsError table) where
      -- the lines of the outer one itself are among those of its list
      in_lasting : (line : EverLine) → Among (ever t table k) line → IsListedForEver (ever_lasting t table k) line
      in_lasting line there = by (bound_of table k) (has_exec (ever t table k)) refl refl
        where
          plain : IsListedForEver (ever t table k) line
          plain = listed_here (ever t table k) line there

          moved : (lines : List EverLine) → ever_lasting t table k ≡ lines → IsListedForEver lines line →
              IsListedForEver (ever_lasting t table k) line
          moved lines is = subst (λ (l : List EverLine). IsListedForEver l line) (sym is)

          by : (o : Option ℕ) (b : Bool) → bound_of table k ≡ o → has_exec (ever t table k) ≡ b → IsListedForEver (ever_lasting t table k) line
          by None b bound some = moved (ever t table k) (lasting_unbounded t table k bound) plain
          by (Some given) false bound some = moved (ever t table k) (lasting_alone t table k given bound some) plain
          by (Some given) true bound some =
              let said = bound_parts table k given bound in
              moved (ever_through t table k given) (lasting_through t table k given bound some)
              (ever_too sound k given (within_both k given table sound said.bounded k (goes table sound k given said.bounded k
              (along_now table sound k given said.bounded said.set said.confined))) line there)

      both_set : {p q : Option ℕ} → SetWithin p q → (a b : ℕ) → p ≡ Some a → q ≡ Some b → holds b a ≡ true
      both_set unset a b here there = cc
      both_set (within {a = x} {b = y} less) a b here there =
          let first : x ≡ a = cc in
          let second : y ≡ b = cc in
          subst (λ (n : ℕ). holds n a ≡ true) second (subst (λ (n : ℕ). holds y n ≡ true) first less)

      pub lasting_less : (bound_of table k ≡ None → bound_of table h ≡ None) → (line : EverLine) →
          Among (ever_lasting t table h) line → IsListedForEver (ever_lasting t table k) line
      lasting_less alike line there = by (bound_of table h) (bound_of table k) (has_exec (ever t table h)) refl refl refl
        where
          -- where the inner list is that of the process itself
          own : ever_lasting t table h ≡ ever t table h → IsListedForEver (ever_lasting t table k) line
          own is = listed_then (ever t table k) (ever_lasting t table k) in_lasting line
              (ever_less line (subst (λ (l : List EverLine). Among l line) is there))

          by : (o p : Option ℕ) (b : Bool) → bound_of table h ≡ o → bound_of table k ≡ p → has_exec (ever t table h) ≡ b →
              IsListedForEver (ever_lasting t table k) line
          by None p b bound other some = own (lasting_unbounded t table h bound)
          by (Some given) p false bound other some = own (lasting_alone t table h given bound some)
          by (Some given) None true bound other some = let never : Some given ≡ None = sym bound ∙ alike other in cc
          by (Some given) (Some handed) true bound other some =
              subst (λ (l : List EverLine). IsListedForEver l line) (sym (lasting_through t table k handed other (exec_more some)))
              (through_less given handed
              (both_set w.execpromises given handed (bound_parts table h given bound).set (bound_parts table k handed other).set) line
              (subst (λ (l : List EverLine). Among l line) (lasting_through t table h given bound some) there))

pub lasts_no_more : WithinLastsNoMore
lasts_no_more table sound tight given w t well alike line has =
    lasting_less table t well tight given w sound alike line (among_contained (ever_lasting t table tight) line has)
