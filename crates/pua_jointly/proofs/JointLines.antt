-- Rows tell the lines of one of several processes, one row after another.
use Rattle.pua_jointly.proofs.Common.{◌≡◌, ◌≤◌, ◌∙◌, ◌∷◌, ◌++◌, [], ℕ, Bool, true, false, List, length, map, take, refl, sym, ap, subst, inl, inr, Option, Some, None}
use Rattle.pua_jointly.proofs.Common.{flat_map, is_some, None≢Some, Tree, Spot, Slot, CallTable, has, ProcessState, veils, Call}
use Rattle.pua_jointly.proofs.Common.{Subject, subject_given, At, Stands, Comes, own_spot, all_new, both_of, made_left}
use Rattle.pua_jointly.proofs.Common.{perms_kept, if◌then◌else◌}
use Rattle.pua_objects.specs.Objects.{Item, items}
use Rattle.pua_audit.specs.Reach.{Word}
use Rattle.pua_calls.specs.Calls.{calls}
use Rattle.std.specs.Prelude.{option_map, filter}
use Rattle.std.proofs.lemmas.List.Elements.{filter-append}
use Rattle.pua_calls.specs.CallSets.{calls_in}
use Rattle.pua_objects.proofs.ForCallers.{last_append}
use Rattle.pua_objects.specs.ListItems.{items_told, last_word, with_name, word_after}
use Rattle.pua_objects.specs.declared.list.ListItem.{ListItem}
use Rattle.pua_policy.specs.declared.place.Place.TheVariants as place
use Rattle.pua_ever.specs.Ever.{Thing, EverLine, has_ever_calls}
use Rattle.pua_ever.specs.EverLines.{Left, Now, Freed, Coming, IsThing, line_with, new_of}
use Rattle.pua_ever.specs.EverList.{AreEverTold, IsFreedRow, IsRowAt, last_row_word, own_name, thing_by, thing_of, word_of_row}
use Rattle.pua_jointly.specs.JointCalls.{AreCallsOfOne, AreOwnCallsOfOne}
use Rattle.pua_jointly.specs.JointList.{AreJointBut, AreJointSoFar, joint_about, joint_lines_of}
use Rattle.pua_jointly.specs.JointPrograms.{IsListedOfOne, TellsOfOne}
use Rattle.pua_jointly.specs.Jointly.{agents_of, joint_line, joint_lines, joint_subjects, named_too}
use Rattle.pua_ever.specs.declared.line.EverLine as told_line
use Rattle.pua_ever.specs.declared.list.EverAbout.TheVariants as ever_about
use Rattle.pua_ever.specs.declared.list.EverRow.{EverRow}
use Rattle.pua_ever.specs.declared.made.Made.{Made}
use Rattle.pua_ever.specs.declared.made.Made.TheVariants as made
use Rattle.pua_policy.specs.States.{veil_at}
use Rattle.pua_jointly.proofs.JointAllowed.{shown}
use Rattle.pua_jointly.proofs.JointGroups.{veils_of_one}
use Rattle.pua_ever.proofs.ForCallers.{freed_name}
use Rattle.pua_ever.proofs.ForCallers.{freed_thing, last_row_more, row_word, same_word, told_more}

same_bool : (x y : Bool) → (x ≡ true → y ≡ true) → (y ≡ true → x ≡ true) → x ≡ y
same_bool true y f g = sym (f refl)
same_bool false true f g = g refl
same_bool false false f g = refl

module _ (t : Tree) (table : CallTable) (crew : List ProcessState) (a : ProcessState) (given : Option ℕ) (test : Thing → Call → Bool)
    (tells : TellsOfOne t table crew (agents_of (a, given)) test) where
  -- the definition's lines as they are gone through
  names_then : (word : Word) (names : List Subject) (more : List (Word × Subject)) (last : List EverLine) →
      map (λ (about : Word × Subject). joint_line test about.0 (Stands about.1)) (map (λ subject. (word, subject)) names ++ more) ++ last
      ≡ map (λ subject. joint_line test word (Stands subject)) names
      ++ (map (λ (about : Word × Subject). joint_line test about.0 (Stands about.1)) more ++ last)
  names_then word [] more last = refl
  names_then word (name ∷ names) more last = ap (λ lines. joint_line test word (Stands name) ∷ lines) (names_then word names more last)

  all_lines : (xs : List Item) → flat_map (joint_about test a) (flat_map both_of xs ++ made_left (Some made.Dir))
      ≡ map (λ (about : Word × Subject). joint_line test about.0 (Stands about.1)) (flat_map (joint_subjects a) xs)
      ++ map (λ new. joint_line test [] (Comes new)) all_new
  all_lines [] = refl
  all_lines (x ∷ xs) =
      ap (λ lines. joint_line test x.word (Stands x.subject)
      ∷ (map (λ subject. joint_line test x.word (Stands subject)) (named_too a (own_spot x.subject)) ++ lines)) (all_lines xs)
      ∙ ap (λ lines. joint_line test x.word (Stands x.subject) ∷ lines)
      (sym (names_then x.word (named_too a (own_spot x.subject)) (flat_map (joint_subjects a) xs) (map (λ new. joint_line test [] (Comes new)) all_new)))

  pub lines_first : joint_lines_of test a (flat_map both_of (items t (veils a)) ++ made_left (Some made.Dir)) ≡ joint_lines t a test
  lines_first = ap (filter has_ever_calls) (all_lines (items t (veils a)))

  lines_cons : (first : Left) (left : List Left) →
      joint_lines_of test a (first ∷ left) ≡ filter has_ever_calls (joint_about test a first) ++ joint_lines_of test a left
  lines_cons first left = filter-append has_ever_calls (joint_about test a first) (flat_map (joint_about test a) left)

  -- the calls of a line are those that pass the test
  same_calls : (thing : Thing) (set : ℕ) → AreCallsOfOne t table crew (agents_of (a, given)) thing set → filter (test thing) calls ≡ calls_in set
  same_calls thing set are = λ z. filter (λ call. same_bool (test thing call) (has set call)
      (λ e. are.all call (tells.only thing call e)) (λ e. tells.all thing call (are.only call e)) z) calls

  one_line : (word : Word) (thing : Thing) (line : told_line.EverLine) → AreCallsOfOne t table crew (agents_of (a, given)) thing line.calls →
      joint_line test word thing ≡ line_with word thing line
  one_line word thing line are = λ z. record { word = word; thing = thing; calls = same_calls thing line.calls are z }

  no_line : (word : Word) (thing : Thing) (line : told_line.EverLine) → ((call : Call) → has line.calls call ≡ false) →
      [] ≡ filter has_ever_calls (line_with word thing line ∷ [])
  no_line word thing line none =
      ap (λ cs. filter has_ever_calls (record { word = word; thing = thing; calls = cs } ∷ []))
      (sym (λ z. filter (λ call. none call z) calls))

  -- the name at which an item stands
  freed_line : (word : Word) (o : Option Spot) (line : told_line.EverLine) → AreOwnCallsOfOne t table crew (agents_of (a, given)) o line.calls →
      filter has_ever_calls (map (λ subject. joint_line test word (Stands subject)) (named_too a o))
      ≡ filter has_ever_calls (line_with word (Stands (freed_name t table a o)) line ∷ [])
  freed_line word None line none = no_line word (Stands (freed_name t table a None)) line none
  freed_line word (Some spot) line are = by (perms_kept a (place.Slot spot.0 spot.1)) refl
    where
      thing : Thing
      thing = Stands (At (Slot spot.0 spot.1 None))

      none_by : perms_kept a (place.Slot spot.0 spot.1) ≡ None → (call : Call) (b : Bool) → has line.calls call ≡ b → has line.calls call ≡ false
      none_by own call false e = e
      none_by own call true e = unveiled_name (are.only call e)
        where
          unveiled_name : IsListedOfOne t table crew (agents_of (a, given)) thing call → has line.calls call ≡ false
          unveiled_name one =
              let same = veils_of_one a given one.agent one.among in
              elim one.listed [
                | inl can ↦
                    (let s = shown t table crew one.agent can.shows in
                    absurd (None≢Some s.0 (sym own ∙ ap (λ vs. veil_at vs (place.Slot spot.0 spot.1)) (sym same) ∙ s.2)))
                | inr program ↦ absurd program.2
              ]

      by : (own : Option ℕ) → perms_kept a (place.Slot spot.0 spot.1) ≡ own →
          filter has_ever_calls (map (λ subject. joint_line test word (Stands subject)) (named_too a (Some spot)))
          ≡ filter has_ever_calls (line_with word (Stands (At (Slot spot.0 spot.1 None))) line ∷ [])
      by None own =
          ap (λ o. filter has_ever_calls (map (λ subject. joint_line test word (Stands subject))
          (if is_some o then At (Slot spot.0 spot.1 None) ∷ [] else []))) own
          ∙ no_line word (Stands (At (Slot spot.0 spot.1 None))) line (λ call. none_by own call (has line.calls call) refl)
      by (Some perms) own =
          ap (λ o. filter has_ever_calls (map (λ subject. joint_line test word (Stands subject))
          (if is_some o then At (Slot spot.0 spot.1 None) ∷ [] else []))) own
          ∙ ap (λ x. filter has_ever_calls (x ∷ [])) (one_line word (Stands (At (Slot spot.0 spot.1 None))) line are)

  told_first : (rows : List EverRow) (row : EverRow) (about : Thing) (first : Left) (left : List Left) (lines : List EverLine) →
      IsThing t about row.line.thing → thing_of t row ≡ Some about →
      filter has_ever_calls (joint_about test a first) ≡ filter has_ever_calls (line_with (word_of_row (last_row_word [] rows) row) about row.line ∷ []) →
      AreEverTold t [] rows lines (joint_lines_of test a (first ∷ left)) → AreEverTold t [] (rows ++ row ∷ []) lines (joint_lines_of test a left)
  told_first rows row about first left lines is told_of same told =
      told_more t [] rows row about lines (joint_lines_of test a left) is told_of (subst (AreEverTold t [] rows lines)
      (lines_cons first left ∙ ap (λ ls. ls ++ joint_lines_of test a left) same) told)

  -- ---- the two rows of an item

  module _ (items so_far left : List ListItem) (item : ListItem) (rows : List EverRow) (stands : EverRow)
      (now : AreJointSoFar t a test items so_far (item ∷ left) rows) (near : item.depth ≤ length (last_word [] so_far))
      (stands_at : IsRowAt item stands) (is : thing_of t stands ≡ Some (Stands (subject_given t item.item.subject)))
      (is_kind : IsThing t (Stands (subject_given t item.item.subject)) stands.line.thing)
      (are : AreCallsOfOne t table crew (agents_of (a, given)) (Stands (subject_given t item.item.subject)) stands.line.calls) where
    abbrev word : Word
    word = word_after (last_word [] so_far) item

    abbrev subject : Subject
    subject = subject_given t item.item.subject

    abbrev here : Item
    here = record { word = word; subject = subject }

    abbrev more : List Left
    more = flat_map both_of (items_told t word left) ++ made_left (Some made.Dir)

    abbrev all : List EverLine
    all = joint_lines_of test a (flat_map both_of (items_told t [] items) ++ made_left (Some made.Dir))

    abbrev one_more : List EverRow
    one_more = rows ++ stands ∷ []

    stands_word : word_of_row (last_row_word [] rows) stands ≡ word
    stands_word = ap (λ w. word_of_row w stands) now.word ∙ row_word t table a (last_word [] so_far) item stands stands_at

    then_word : last_row_word [] one_more ≡ word
    then_word = last_row_more [] rows stands ∙ stands_word

    stands_told : AreEverTold t [] one_more all (joint_lines_of test a (Freed here ∷ more))
    stands_told =
        told_first rows stands (Stands subject) (Now here) (Freed here ∷ more) all is_kind is
        (ap (λ x. filter has_ever_calls (x ∷ [])) (one_line word (Stands subject) stands.line are)
        ∙ ap (λ w. filter has_ever_calls (line_with w (Stands subject) stands.line ∷ [])) (sym stands_word)) now.told

    rows_told : (new : List EverRow) → last_row_word [] new ≡ word → AreEverTold t [] new all (joint_lines_of test a more) →
        AreJointSoFar t a test items (so_far ++ item ∷ []) left new
    rows_told new at told = record {
      word = at ∙ sym (last_append [] so_far (item ∷ []));
      told = subst (λ w. AreEverTold t [] new all (joint_lines_of test a (flat_map both_of (items_told t w left) ++ made_left (Some made.Dir))))
          (sym (last_append [] so_far (item ∷ []))) told;
    }

    -- an item that stands at no name
    pub one_told : own_spot subject ≡ None → (new : List EverRow) → new ≡ one_more → AreJointSoFar t a test items (so_far ++ item ∷ []) left new
    one_told none new same = subst (AreJointSoFar t a test items (so_far ++ item ∷ []) left) (sym same)
        (rows_told one_more then_word (subst (AreEverTold t [] one_more all)
        (lines_cons (Freed here) more ∙ ap (λ o. filter has_ever_calls (map (λ subject. joint_line test word (Stands subject)) (named_too a o))
        ++ joint_lines_of test a more) none) stands_told))

    module _ (freed : EverRow) (own : IsFreedRow item (own_spot subject) freed) (own_are : AreOwnCallsOfOne t table crew (agents_of (a, given)) (own_spot subject) freed.line.calls) where
      freed_word : word_of_row (last_row_word [] one_more) freed ≡ word
      freed_word =
          ap (λ w. word_of_row w freed) then_word ∙ row_word t table a word item freed own.at ∙ same_word t table a (last_word [] so_far) item near

      abbrev thing : Thing
      thing = Stands (freed_name t table a (own_spot subject))

      freed_is : thing_of t freed ≡ Some thing
      freed_is = (λ i. thing_by t (own.name i) (own.about i)) ∙ ap (λ o. Some (Stands (freed_name t table a o))) (sym own.is)

      pub both_told : (new : List EverRow) → new ≡ one_more ++ freed ∷ [] → AreJointSoFar t a test items (so_far ++ item ∷ []) left new
      both_told new same = subst (AreJointSoFar t a test items (so_far ++ item ∷ []) left) (sym same)
          (rows_told (one_more ++ freed ∷ []) (last_row_more [] one_more freed ∙ freed_word)
          (told_first one_more freed thing (Freed here) more all (subst (IsThing t thing) (sym own.thing) (freed_thing t table a (own_spot subject))) freed_is
          (freed_line word (own_spot subject) freed.line own_are
          ∙ ap (λ w. filter has_ever_calls (line_with w thing freed.line ∷ [])) (sym freed_word)) stands_told))

  -- ---- the row of what can be made

  pub made_told : (items : List ListItem) (rows new : List EverRow) (row : EverRow) (m : Made) (rest : Option Made) → row.depth ≡ 0 →
      row.name ≡ None → row.about ≡ ever_about.Comes m → IsThing t (Comes (new_of m)) row.line.thing →
      AreCallsOfOne t table crew (agents_of (a, given)) (Comes (new_of m)) row.line.calls → made_left (Some m) ≡ Coming (new_of m) ∷ made_left rest →
      new ≡ rows ++ row ∷ [] → AreJointBut t a test items rows (Some m) → AreJointBut t a test items new rest
  made_told items rows new row m rest depth none about is_thing are next is so_far =
      let all = joint_lines_of test a (flat_map both_of (items_told t [] items) ++ made_left (Some made.Dir)) in
      let no_word : word_of_row (last_row_word [] rows) row ≡ [] =
      (λ i. with_name (take (depth i) (last_row_word [] rows)) (option_map (λ name. name.now) (none i))) in
      subst (λ ns. AreEverTold t [] ns all (joint_lines_of test a (made_left rest))) (sym is)
      (told_first rows row (Comes (new_of m)) (Coming (new_of m)) (made_left rest) all is_thing (ap (thing_by t (own_name row)) about)
      (ap (λ x. filter has_ever_calls (x ∷ [])) (one_line [] (Comes (new_of m)) row.line are)
      ∙ ap (λ w. filter has_ever_calls (line_with w (Comes (new_of m)) row.line ∷ [])) (sym no_word))
      (subst (λ ls. AreEverTold t [] rows all (joint_lines_of test a ls)) next so_far))
