-- Rows tell the lines of the list for ever, one row after another.
use Rattle.pua_ever.proofs.Common.{◌≡◌, ℕ, suc, ◌<◌, ◌≤◌, List, [], ◌∷◌, ◌++◌, length, map, take, refl, sym, ap, subst, ◌∙◌, arith, Option}
use Rattle.pua_ever.proofs.Common.{Some, None, ◌&&◌, filter, flat_map, Tree, Spot, CallTable, has, ProcessState}
use Rattle.pua_ever.proofs.Common.{Call, Word, subject_given, Subject, Item, Stands, Comes, may_edit, can_make, own_spot}
use Rattle.pua_ever.proofs.Common.{has_ever_calls, ever_lines_of, AreOnFreed, both_of, made_left, EverLine, At, Slot, Whole, Named, look}
use Rattle.pua_ever.proofs.Common.{Others, SubjectFits, Top, is_some, same_Some, None≢Some, true}
use Rattle.std.specs.Prelude.{IfSome, option_map}
use Rattle.std.specs.List.{AllByRecursion}
use Rattle.std.proofs.Common.{get_or, zero}
use Rattle.std.proofs.lemmas.List.{length-take-le, take-append-le, take-take}
use Rattle.pua_objects.proofs.ForCallers.{last_append}
use Rattle.pua_objects.specs.ListItems.{AreNear, IsToldIn, items_told, last_name, last_word, with_name, word_after}
use Rattle.pua_objects.specs.declared.kind.ObjectKind.TheVariants as kind
use Rattle.pua_objects.specs.declared.list.ListItem.{ListItem}
use Rattle.pua_policy.specs.declared.object.Object as seen
use Rattle.pua_policy.specs.declared.object.Object.TheVariants as see
use Rattle.pua_objects.specs.declared.item.Subject as given
use Rattle.pua_objects.specs.declared.item.Subject.TheVariants as own_subject
use Rattle.pua_ever.specs.Prospects.{dir_of_subject, own_given}
use Rattle.pua_ever.specs.Ever.{Thing, ever_line, freed_at, is_new_allowed}
use Rattle.pua_ever.specs.EverLines.{Left, Now, Freed, Coming, IsThing, line_with, lines_about, new_of}
use Rattle.pua_ever.specs.EverList.{AreEverTold, AreRowsBut, AreRowsSoFar, IsAboutOn, IsFreedRow, IsRowAt, IsRowOn, IsStandingOn, IsStandsRow}
use Rattle.pua_ever.specs.EverList.{dir_at, last_row_word, own_name, subject_at, thing_by, thing_of, word_of_row}
use Rattle.pua_ever.specs.declared.line.EverThing.TheVariants as told
use Rattle.pua_ever.specs.declared.list.EverAbout.{EverAbout}
use Rattle.pua_ever.specs.declared.list.EverAbout.TheVariants as ever_about
use Rattle.pua_ever.specs.declared.list.EverPlace.{EverPlace}
use Rattle.pua_ever.specs.declared.list.EverPlace.TheVariants as place
use Rattle.pua_ever.specs.declared.list.EverRow.{EverRow}
use Rattle.pua_ever.specs.declared.made.Made.{Made}
use Rattle.pua_ever.specs.declared.made.Made.TheVariants as made
use Rattle.pua_ever.specs.ShownForEver.{is_inside}
use Rattle.pua_tree.specs.Tree.{is_within}
use Rattle.pua_policy.specs.States.{root_dir}
use Rattle.pua_ever.proofs.Lined.{lines_cons, now_lines, made_lines, freed_name, freed_lines}

pub last_row_more : (before : Word) (rows : List EverRow) (row : EverRow) →
    last_row_word before (rows ++ row ∷ []) ≡ word_of_row (last_row_word before rows) row
last_row_more before [] row = refl
last_row_more before (r ∷ rows) row = last_row_more (word_of_row before r) rows row

module _ (t : Tree) where
  -- a row more tells the first of the rest
  pub told_more : (before : Word) (rows : List EverRow) (row : EverRow) (about : Thing) (lines rest : List EverLine) → IsThing t about row.line.thing →
      thing_of t row ≡ Some about → AreEverTold t before rows lines (filter has_ever_calls (line_with (word_of_row (last_row_word before rows) row) about row.line ∷ []) ++ rest) →
      AreEverTold t before (rows ++ row ∷ []) lines rest
  told_more before [] row about lines rest is same told = (about, rest, is, told, refl, same)
  told_more before (r ∷ rows) row about lines rest is same told =
      (told.0, told.1, told.2, told.3, told_more (word_of_row before r) rows row about told.1 rest is same told.4, told.5)

  module _ (table : CallTable) (h : ProcessState) where
    -- a row at this word, for the first thing to come
    told_first : (rows : List EverRow) (row : EverRow) (about : Thing) (first : Left) (left : List Left) (lines : List EverLine) →
        IsThing t about row.line.thing → thing_of t row ≡ Some about →
        filter has_ever_calls (lines_about t table h first) ≡ filter has_ever_calls (line_with (word_of_row (last_row_word [] rows) row) about
        row.line ∷ []) → AreEverTold t [] rows lines (ever_lines_of t table h (first ∷ left)) →
        AreEverTold t [] (rows ++ row ∷ []) lines (ever_lines_of t table h left)
    told_first rows row about first left lines is told_of same told =
        told_more [] rows row about lines (ever_lines_of t table h left) is told_of (subst (AreEverTold t [] rows lines)
        (lines_cons t table h first left ∙ ap (λ ls. ls ++ ever_lines_of t table h left) same) told)

    pub freed_thing : (o : Option Spot) → IsThing t (Stands (freed_name t table h o)) (told.Stands kind.Missing)
    freed_thing None = refl
    freed_thing (Some spot) = refl

    -- ---- the two rows of an item

    pub row_word : (before : Word) (item : ListItem) (row : EverRow) → IsRowAt item row → word_of_row before row ≡ word_after before item
    row_word before item row at = λ i. with_name (take (at.depth i) before) (at.name i)

    pub same_word : (before : Word) (item : ListItem) → item.depth ≤ length before → word_after (word_after before item) item ≡ word_after before item
    same_word before item near = by (last_name item.item.subject)
      where
        by : (o : Option (List ℕ)) → with_name (take item.depth (with_name (take item.depth before) o)) o ≡ with_name (take item.depth before) o
        by None = take-take item.depth item.depth before (omega arith)
        by (Some name) = ap (λ w. w ++ name ∷ []) (take-append-le item.depth (take item.depth before) (name ∷ [])
            (omega (arith, length-take-le item.depth before near)) ∙ take-take item.depth item.depth before (omega arith))

    module _ (items so_far left : List ListItem) (item : ListItem) (rows : List EverRow) (stands : EverRow)
        (now : AreRowsSoFar t table h items so_far (item ∷ left) rows) (near : item.depth ≤ length (last_word [] so_far))
        (stands_at : IsRowAt item stands) (is : thing_of t stands ≡ Some (Stands (subject_given t item.item.subject))) (row : IsStandsRow t table h item stands) where
      abbrev word : Word
      word = word_after (last_word [] so_far) item

      abbrev subject : Subject
      subject = subject_given t item.item.subject

      abbrev here : Item
      here = record { word = word; subject = subject }

      abbrev more : List Left
      more = flat_map both_of (items_told t word left) ++ made_left (Some made.Dir)

      abbrev all : List EverLine
      all = ever_lines_of t table h (flat_map both_of (items_told t [] items) ++ made_left (Some made.Dir))

      abbrev one_more : List EverRow
      one_more = rows ++ stands ∷ []

      stands_word : word_of_row (last_row_word [] rows) stands ≡ word
      stands_word = ap (λ w. word_of_row w stands) now.word ∙ row_word (last_word [] so_far) item stands stands_at

      then_word : last_row_word [] one_more ≡ word
      then_word = last_row_more [] rows stands ∙ stands_word

      stands_told : AreEverTold t [] one_more all (ever_lines_of t table h (Freed here ∷ more))
      stands_told =
          told_first rows stands (Stands subject) (Now here) (Freed here ∷ more) all row.kind is
          (now_lines t table h word subject stands.line row.calls ∙
          ap (λ w. filter has_ever_calls (line_with w (Stands subject) stands.line ∷ [])) (sym stands_word)) now.told

      -- so many rows tell the lines of the item, and lead to where it stands
      rows_told : (new : List EverRow) → last_row_word [] new ≡ word → AreEverTold t [] new all (ever_lines_of t table h more) →
          AreRowsSoFar t table h items (so_far ++ item ∷ []) left new
      rows_told new at told = record {
        word = at ∙ sym (last_append [] so_far (item ∷ []));
        told = subst (λ w. AreEverTold t [] new all (ever_lines_of t table h (flat_map both_of (items_told t w left) ++ made_left (Some made.Dir))))
            (sym (last_append [] so_far (item ∷ []))) told;
      }

      -- an item that stands at no name
      pub one_told : own_spot subject ≡ None → (new : List EverRow) → new ≡ one_more → AreRowsSoFar t table h items (so_far ++ item ∷ []) left new
      one_told none new is = subst (AreRowsSoFar t table h items (so_far ++ item ∷ []) left) (sym is)
          (rows_told one_more then_word (subst (AreEverTold t [] one_more all)
          (lines_cons t table h (Freed here) more ∙ ap (λ o. filter has_ever_calls (map (λ subject. ever_line t table h (word, subject))
          (freed_at t table h o)) ++ ever_lines_of t table h more) none) stands_told))

      module _ (freed : EverRow) (own : IsFreedRow item (own_spot subject) freed) (are : AreOnFreed t table h (own_spot subject) freed.line.calls) where
        freed_word : word_of_row (last_row_word [] one_more) freed ≡ word
        freed_word = ap (λ w. word_of_row w freed) then_word ∙ row_word word item freed own.at ∙ same_word (last_word [] so_far) item near

        abbrev thing : Thing
        thing = Stands (freed_name t table h (own_spot subject))

        freed_is : thing_of t freed ≡ Some thing
        freed_is = (λ i. thing_by t (own.name i) (own.about i)) ∙ ap (λ o. Some (Stands (freed_name t table h o))) (sym own.is)

        pub both_told : (new : List EverRow) → new ≡ one_more ++ freed ∷ [] → AreRowsSoFar t table h items (so_far ++ item ∷ []) left new
        both_told new is = subst (AreRowsSoFar t table h items (so_far ++ item ∷ []) left) (sym is)
            (rows_told (one_more ++ freed ∷ []) (last_row_more [] one_more freed ∙ freed_word)
            (told_first one_more freed thing (Freed here) more all (subst (IsThing t thing) (sym own.thing) (freed_thing (own_spot subject))) freed_is
            (freed_lines t table h word subject freed.line are ∙
            ap (λ w. filter has_ever_calls (line_with w thing freed.line ∷ [])) (sym freed_word)) stands_told))

    -- ---- the row of what can be made

    pub made_told : (items : List ListItem) (rows new : List EverRow) (row : EverRow) (m : Made) (rest : Option Made) → row.depth ≡ 0 →
        row.name ≡ None → row.about ≡ ever_about.Comes m → IsThing t (Comes (new_of m)) row.line.thing →
        ((call : Call) → has row.line.calls call ≡ ((may_edit table h && can_make t table h (new_of m)) && is_new_allowed t table h (new_of m) call)) →
        made_left (Some m) ≡ Coming (new_of m) ∷ made_left rest → new ≡ rows ++ row ∷ [] →
        AreRowsBut t table h items rows (Some m) → AreRowsBut t table h items new rest
    made_told items rows new row m rest depth none about is_thing calls next is so_far =
        let all = ever_lines_of t table h (flat_map both_of (items_told t [] items) ++ made_left (Some made.Dir)) in
        let no_word : word_of_row (last_row_word [] rows) row ≡ [] =
        (λ i. with_name (take (depth i) (last_row_word [] rows)) (option_map (λ name. name.now) (none i))) in
        subst (λ ns. AreEverTold t [] ns all (ever_lines_of t table h (made_left rest))) (sym is)
        (told_first rows row (Comes (new_of m)) (Coming (new_of m)) (made_left rest) all is_thing (ap (thing_by t (own_name row)) about)
        (made_lines t table h (new_of m) row.line calls ∙
        ap (λ w. filter has_ever_calls (line_with w (Comes (new_of m)) row.line ∷ [])) (sym no_word))
        (subst (λ ls. AreEverTold t [] rows all (ever_lines_of t table h ls)) next so_far))

-- ---- what is so at each item

pub told_at : {A : Type 0} (P : A → Type 0) (xs : List A) (n : ℕ) (d : A) → AllByRecursion P xs → n < length xs → P (get_or xs n d)
told_at P [] n d all less = absurd (omega (arith, less))
told_at P (x ∷ xs) zero d all less = all.0
told_at P (x ∷ xs) (suc n) d all less = told_at P xs n d all.1 (omega (arith, less))

pub near_at : (before : Word) (xs : List ListItem) (n : ℕ) (d : ListItem) → AreNear before xs → n < length xs →
    (get_or xs n d).depth ≤ length (last_word before (take n xs))
near_at before [] n d near less = absurd (omega (arith, less))
near_at before (x ∷ xs) zero d near less = near.0
near_at before (x ∷ xs) (suc n) d near less = near_at (word_after before x) xs n d near.1 (omega (arith, less))

-- ---- what rows are about is of the tree

pub all_more : {A : Type 0} (P : A → Type 0) (xs : List A) (x : A) → AllByRecursion P xs → P x → AllByRecursion P (xs ++ x ∷ [])
all_more P [] x each is = (is, tt)
all_more P (y ∷ ys) x each is = (each.0, all_more P ys x each.1 is)

-- the directory of what stands at a place
pub dir_there : (t : Tree) (name : Option (List ℕ)) (at : EverPlace) (about : Subject) → subject_at t name at ≡ Some about → dir_at at ≡ dir_of_subject about
dir_there t name place.Root about is = ap dir_of_subject (same_Some (At (Whole 0 Top)) about is)
dir_there t None (place.Dir id dir) about is = absurd (None≢Some about is)
dir_there t (Some own) (place.Dir id dir) about is = ap dir_of_subject (same_Some (At (Whole id (Named dir own))) about is)
dir_there t name (place.Others dir) about is = ap dir_of_subject (same_Some (Others dir) about is)
dir_there t None (place.Name dir) about is = absurd (None≢Some about is)
dir_there t (Some own) (place.Name dir) about is = ap dir_of_subject (same_Some (At (Slot dir own (look t dir own))) about is)

module _ (t : Tree) (h : ProcessState) where
  -- the name at which something stands
  pub standing_there : (subject : Subject) (dir : ℕ) (name : List ℕ) → SubjectFits t subject → own_spot subject ≡ Some (dir, name) →
      is_some (look t dir name) ≡ true
  standing_there (At (Slot at own (Some node))) dir name fits is =
      subst (λ (spot : Spot). is_some (look t spot.0 spot.1) ≡ true) (same_Some (at, own) (dir, name) is) (ap is_some fits.1.1)
  standing_there (At (Whole id (Named at own))) dir name fits is =
      subst (λ (spot : Spot). is_some (look t spot.0 spot.1) ≡ true) (same_Some (at, own) (dir, name) is) (ap is_some fits.1.1)
  standing_there _ dir name fits is = cc

  pub freed_on : (subject : Subject) (item : ListItem) (row : EverRow) → SubjectFits t subject → IsFreedRow item (own_spot subject) row →
      ((spot : Spot) → own_spot subject ≡ Some spot → row.inside ≡ is_within t spot.0 (root_dir h)) → IsRowOn t h row
  freed_on subject item row fits own marked = (
    subst (λ (a : EverAbout). IsAboutOn t h (own_name row) a) (sym own.about)
        (subst (λ (o : Option (List ℕ)). IfSome o (λ name. is_some (look t own.spot.0 name) ≡ true)) (sym own.name)
        (standing_there subject own.spot.0 own.spot.1 fits own.is)),
    λ about e.
        marked own.spot own.is
        ∙ ap (is_inside t (root_dir h)) (same_Some (Stands (At (Slot own.spot.0 own.spot.1 None))) about
        (sym (λ i. thing_by t (own.name i) (own.about i)) ∙ e)),
  )

  -- what an item is about stands there, and is marked
  pub stands_on : (item : ListItem) → IsToldIn t h item → (o : Option Subject) → o ≡ Some (subject_given t item.item.subject) →
      IfSome o (IsStandingOn t h item.item.object item.item.cover)
      × ((about : Thing) → option_map Stands o ≡ Some about → item.inside ≡ is_inside t (root_dir h) about)
  stands_on item told o is = (
    subst (λ (o : Option Subject). IfSome o (IsStandingOn t h item.item.object item.item.cover)) (sym is)
        (record { fits = told.fits; object = told.tells.object; cover = told.tells.cover }),
    λ about e.
        told.inside ∙ ap (is_inside t (root_dir h)) (same_Some (Stands (subject_given t item.item.subject)) about
        (sym (ap (option_map Stands) is) ∙ e)),
  )

  -- what can be made is made there
  pub made_on : (row : EverRow) (m : Made) → row.about ≡ ever_about.Comes m → row.inside ≡ true → IsRowOn t h row
  made_on row m about inside = (
    subst (IsAboutOn t h (own_name row)) (sym about) tt,
    λ thing e.
        inside ∙ ap (is_inside t (root_dir h)) (same_Some (Comes (new_of m)) thing (sym (ap (thing_by t (own_name row)) about) ∙ e)),
  )

-- the name at which an item stands is the last of those that lead to it
pub own_last : (s : given.Subject) (object : seen.Object) (spot : Spot) → own_given s object ≡ Some spot → Some spot.1 ≡ last_name s
own_last (own_subject.Dir id dir name) object spot is = ap (λ (at : Spot). Some at.1) (sym (same_Some (dir, name.now) spot is))
own_last (own_subject.Name dir name) see.Missing spot is = absurd (None≢Some spot is)
own_last (own_subject.Name dir name) _ spot is = ap (λ (at : Spot). Some at.1) (sym (same_Some (dir, name.now) spot is))
own_last own_subject.Root object spot is = absurd (None≢Some spot is)
own_last (own_subject.Others dir) object spot is = absurd (None≢Some spot is)
