-- A list that is being made grows by what its innermost directory has to come.
use Rattle.pua_objects.proofs.Common.{◌≡◌, ◌<◌, ◌≤◌, ℕ, suc, ◌-◌, List, [], ◌∷◌, ◌++◌, true, false, length, take, drop, refl, sym}
use Rattle.pua_objects.proofs.Common.{ap, subst, ◌∙◌, arith, reverse, length-reverse, Option, Some, None, is_none, not, eq-eqb, AllByRecursion, Tree, WellFormed}
use Rattle.pua_objects.proofs.Common.{false, ◌||◌, Spot, is_dir, look, FoundFits, Named, Top, Bor, Whole, Slot, ProcessState, Word}
use Rattle.pua_objects.proofs.Common.{Item, At, Others, items, names_at, AreSpots, items_to_come}
use Rattle.pua_objects.proofs.Common.{others_item}
use Rattle.std.specs.Prelude.{◌==◌, Err, Ok, OnOk, Result}
use Rattle.std.specs.Option.{option_eq}
use Rattle.std.proofs.Common.{append_assoc, append-nil, length-append}
use Rattle.std.proofs.lemmas.Bool.{and_from}
use Rattle.std.proofs.lemmas.List.{length-take, length_push, reverse-append, take_all, take-append-le, take-take}
use Rattle.pua_tree.specs.Tree.{is_within}
use Rattle.pua_policy.proofs.ForCallers.{coverings_cover}
use Rattle.pua_policy.specs.States.{root_dir}
use Rattle.pua_policy.specs.Objects.{object_seen}
use Rattle.pua_policy.specs.Reasons.{covering}
use Rattle.pua_policy.specs.Verdict.{IsDir, object_of}
use Rattle.pua_policy.specs.declared.object.Object as seen
use Rattle.pua_policy.specs.declared.object.Object.TheVariants as see
use Rattle.pua_tree.specs.declared.node.Kind.TheVariants as kind
use Rattle.pua_objects.specs.Items.{subject_given}
use Rattle.pua_objects.specs.ListItems.{AreNear, IsToldIn, items_told, last_name, last_word, with_name, word_after}
use Rattle.pua_objects.specs.Listing.{AreEnteredAt, IsEnteredAt, IsListing, IsListingBefore, IsOverDir, after_next, item_of}
use Rattle.pua_policy.specs.declared.place.Place.TheVariants as place
use Rattle.pua_objects.specs.Veils.{IsHandedDown, IsOver, unveiled}
use Rattle.pua_objects.specs.Walk.{Frame, IsDeepEnough, StepsOfWalk, frame_of}
use Rattle.pua_objects.specs.declared.item.Subject.TheVariants as about
use Rattle.pua_objects.specs.declared.list.Entered.{Entered}
use Rattle.pua_objects.specs.declared.list.ListItem.{ListItem}
use Rattle.pua_objects.specs.declared.over.Over.{Over}
use Rattle.pua_objects.proofs.HandedDown.{others_cover, over_below, over_name, over_root, over_whole, root_within, row_within}
use Rattle.pua_objects.proofs.Ranges.{passed_more}
use Rattle.pua_objects.proofs.ItemsInOrder.{walks_objects}

-- ---- one item more

abbrev pub told_item : Tree → Word → ListItem → Item
told_item t before item = record { word = word_after before item; subject = subject_given t item.item.subject }

pub told_append : (t : Tree) (before : Word) (xs ys : List ListItem) →
    items_told t before (xs ++ ys) ≡ items_told t before xs ++ items_told t (last_word before xs) ys
told_append t before [] ys = refl
told_append t before (x ∷ xs) ys = ap (λ more. told_item t before x ∷ more) (told_append t (word_after before x) xs ys)

pub last_append : (before : Word) (xs ys : List ListItem) → last_word before (xs ++ ys) ≡ last_word (last_word before xs) ys
last_append before [] ys = refl
last_append before (x ∷ xs) ys = last_append (word_after before x) xs ys

all_append : {A : Type 0} (P : A → Type 0) (xs ys : List A) → AllByRecursion P xs → AllByRecursion P ys → AllByRecursion P (xs ++ ys)
all_append P [] ys all more = more
all_append P (x ∷ xs) ys all more = (all.0, all_append P xs ys all.1 more)

near_append : (before : Word) (xs ys : List ListItem) → AreNear before xs → AreNear (last_word before xs) ys → AreNear before (xs ++ ys)
near_append before [] ys near more = more
near_append before (x ∷ xs) ys near more = (near.0, near_append (word_after before x) xs ys near.1 more)

pub one_shorter : {A : Type 0} (xs front : List A) (x : A) → xs ≡ front ++ x ∷ [] → length xs ≡ suc (length front)
one_shorter xs front x split = omega (arith, ap length split, length_push front x)

-- what follows from what is so where a call succeeds
pub on_ok : {T E P Q : Type 0} (r : Result T E) → (P → Q) → OnOk r P → OnOk r Q
on_ok (Ok x) f p = f p
on_ok (Err e) f p = tt

pub on_both : {T E P Q S : Type 0} (r : Result T E) → (P → Q → S) → OnOk r P → OnOk r Q → OnOk r S
on_both (Ok x) f p q = f p q
on_both (Err e) f p q = tt

module _ (t : Tree) (fits : WellFormed t) (p : ProcessState) (spots : List Spot) (are : AreSpots t p.veils spots) where
  abbrev steps : StepsOfWalk t p.veils
  steps = walks_objects t p.veils fits

  abbrev Listed : List Entered → List ListItem → Type 0
  Listed entered so_far = IsListing t p spots entered so_far

  -- ---- an item of each kind tells what it is about

  abbrev OverDir : Over → ℕ → Type 0
  OverDir over dir = IsOverDir t p over dir

  told_others : (around dir : ℕ) (over : Over) → is_dir t dir ≡ true → OverDir over dir →
      IsToldIn t p (item_of around (about.Others dir) see.Missing over)
  told_others around dir over living covers = record {
    fits = living;
    tells = record { subject = refl; object = refl; cover = others_cover t fits p dir over living covers.covers };
    veil = covers.covers.veil;
    inside = covers.inside;
  }

  pub told_root : (over : Over) → OverDir over 0 → IsToldIn t p (item_of 0 about.Root (see.Node kind.Dir) over)
  told_root over covers = record {
    fits = (fits.root, tt);
    tells = record {
      subject = refl;
      object = refl;
      cover = (over_whole t fits p 0 Top over fits.root covers.covers).cover ∙ coverings_cover t p (Whole 0 Top);
    };
    veil = (over_whole t fits p 0 Top over fits.root covers.covers).veil;
    inside = covers.inside;
  }

  pub told_name : (around dir : ℕ) (name : Bor (List ℕ)) (object : seen.Object) (over : Over) → is_dir t dir ≡ true →
      ((x : ℕ) → look t dir name.now ≡ Some x → is_dir t x ≡ false) →
      object ≡ object_seen t (object_of t (Slot dir name.now (look t dir name.now))) →
      IsOver p.veils over (covering t p (Slot dir name.now (look t dir name.now))) → over.inside ≡ is_within t dir (root_dir p) →
      IsToldIn t p (item_of around (about.Name dir name) object over)
  told_name around dir name object over living plain sees covers inside = record {
    fits = (slot_fits (look t dir name.now) refl, (living, refl));
    tells = record {
      subject = refl;
      object = sees;
      cover = covers.cover ∙ coverings_cover t p (Slot dir name.now (look t dir name.now));
    };
    veil = covers.veil;
    inside = inside;
  }
    where
      slot_fits : (o : Option ℕ) → look t dir name.now ≡ o → FoundFits t (Slot dir name.now o)
      slot_fits None row = and_from (is_dir t dir) _ living (ap is_none row)
      slot_fits (Some x) row =
          and_from (is_dir t dir) _ living (and_from (option_eq ◌==◌ (look t dir name.now) (Some x)) _
          (ap (λ o. option_eq ◌==◌ o (Some x)) row ∙ eq-eqb x x refl) (ap not (plain x row)))

  pub told_dir : (around x dir : ℕ) (name : Bor (List ℕ)) (object : seen.Object) (over : Over) → is_dir t dir ≡ true →
      look t dir name.now ≡ Some x → is_dir t x ≡ true → object ≡ object_seen t (IsDir x (Named dir name.now)) → OverDir over x →
      IsToldIn t p (item_of around (about.Dir x dir name) object over)
  told_dir around x dir name object over living row is sees covers = record {
    fits = (is, (living, row));
    tells = record {
      subject = refl;
      object = sees;
      cover = (over_whole t fits p x (Named dir name.now) over is covers.covers).cover ∙
          coverings_cover t p (Whole x (Named dir name.now));
    };
    veil = (over_whole t fits p x (Named dir name.now) over is covers.covers).veil;
    inside = covers.inside;
  }

  -- ---- the directories that are entered, at a further word

  still_entered : (v w : Word) (n : ℕ) → ((k : ℕ) → k < n → take k v ≡ take k w) → (fs : List Frame) (es : List Entered) → length es ≤ n →
      AreEnteredAt t p spots v fs es → AreEnteredAt t p spots w fs es
  still_entered v w n same [] [] short at = tt
  still_entered v w n same (f ∷ fs) (e ∷ es) short at = (
    record {
      dir = at.0.dir;
      front = at.0.front ∙ same (length es) (omega (arith, short));
      long = at.0.long;
      names = at.0.names;
      deep = at.0.deep;
      passed = at.0.passed;
      over = at.0.over;
    },
    still_entered v w n same fs es (omega (arith, short)) at.1,
  )
  still_entered v w n same [] (e ∷ es) short at = at
  still_entered v w n same (f ∷ fs) [] short at = at

  -- the innermost directory has passed the spots of those before it
  pub passed_in : (inner : Entered) (around : List Entered) (so_far : List ListItem) → Listed (inner ∷ around) so_far →
      AllByRecursion (λ (s : Spot). inner.dir ≤ s.0) (drop inner.next spots)
  passed_in inner around so_far list = by list.frames list.entered
    where
      by : (frames : List Frame) → AreEnteredAt t p spots (last_word [] so_far) frames (inner ∷ around) →
          AllByRecursion (λ (s : Spot). inner.dir ≤ s.0) (drop inner.next spots)
      by [] at = absurd at
      by (f ∷ fs) at = at.0.passed

  -- the innermost directory has no name to come
  pub leaves : (inner : Entered) (around : List Entered) (so_far : List ListItem) → names_at inner.dir (drop inner.next spots) ≡ [] →
      Listed (inner ∷ around) so_far → Listed around so_far
  leaves inner around so_far none list = by list.frames list.entered list.all
    where
      by : (frames : List Frame) → AreEnteredAt t p spots (last_word [] so_far) frames (inner ∷ around) →
          items_told t [] so_far ++ items_to_come t p.veils frames ≡ items t p.veils → Listed around so_far
      by [] at all = absurd at
      by (f ∷ fs) at all = record {
        frames = fs;
        entered = at.1;
        all = ap (λ more. items_told t [] so_far ++ more) (sym (steps.leaves f fs (at.0.names ∙ none))) ∙ all;
        told = list.told;
        near = list.near;
      }

  module _ (before_it : Entered) (around : List Entered) (name : List ℕ) (so_far : List ListItem) (before : IsListingBefore t p spots before_it
      around name so_far) where
    abbrev after : Entered
    after = after_next before_it

    abbrev word : Word
    word = last_word [] so_far

    -- the first frame is that of the directory
    abbrev IsFirstFrame : Frame → List Frame → Type 0
    IsFirstFrame f fs = IsEnteredAt t p spots word f before_it (length around)
        × AreEnteredAt t p spots word fs around
        × (items_told t [] so_far ++ items_to_come t p.veils (f ∷ fs) ≡ items t p.veils)

    first_frame : (frames : List Frame) → AreEnteredAt t p spots word frames (before_it ∷ around) →
        items_told t [] so_far ++ items_to_come t p.veils frames ≡ items t p.veils → (f : Frame) × (fs : List Frame) × IsFirstFrame f fs
    first_frame [] at all = absurd at
    first_frame (f ∷ fs) at all = (f, fs, (at.0, at.1, all))

    abbrev first : (f : Frame) × (fs : List Frame) × IsFirstFrame f fs
    first = first_frame before.listing.frames before.listing.entered before.listing.all

    abbrev f : Frame
    f = first.0

    abbrev fs : List Frame
    fs = first.1

    abbrev at : IsEnteredAt t p spots word f before_it (length around)
    at = first.2.0

    abbrev rest : List (List ℕ)
    rest = names_at after.dir (drop after.next spots)

    abbrev left : Frame
    left = record f { names = rest }

    abbrev longer : Word
    longer = f.word ++ name ∷ []

    names : f.names ≡ name ∷ rest
    names = at.names ∙ before.names

    living : is_dir t after.dir ≡ true
    living = ap (is_dir t) (sym at.dir) ∙ at.deep.living

    -- the word of an item in the directory
    own_word : (item : ListItem) → item.depth ≡ length around → last_name item.item.subject ≡ Some name → word_after word item ≡ longer
    own_word item depth own = (λ i. with_name (take (depth i) word) (own i)) ∙ ap (λ w. w ++ name ∷ []) (sym at.front)

    around_short : length around ≤ length word
    around_short = omega (arith, at.long, ap length at.front, length-take (length around) word)

    -- a longer word has the same fronts
    same_front : (k : ℕ) → k < suc (length around) → take k word ≡ take k longer
    same_front k less =
        sym (take-take k (length around) word (omega (arith, less))) ∙ ap (take k) (sym at.front) ∙
        sym (take-append-le k f.word (name ∷ []) (omega (arith, less, at.long)))

    entered_still : AreEnteredAt t p spots longer (left ∷ fs) (after ∷ around)
    entered_still = (
      record {
        dir = at.dir;
        front = at.front ∙ same_front (length around) (omega arith);
        long = at.long;
        names = refl;
        deep = record { living = at.deep.living; steps = at.deep.steps; reaches = at.deep.reaches; deep = at.deep.deep };
        passed = passed_more after.dir spots before_it.next before.within at.passed;
        over = at.over;
      },
      still_entered word longer (suc (length around)) same_front fs around (omega arith) first.2.1,
    )

    -- ---- no directory stands at the name

    module _ (item : ListItem) (depth : item.depth ≡ length around) (own : last_name item.item.subject ≡ Some name)
        (subject : subject_given t item.item.subject ≡ At (Slot after.dir name (look t after.dir name)))
        (plain : (x : ℕ) → look t after.dir name ≡ Some x → is_dir t x ≡ false) where
      first_item : items_to_come t p.veils (f ∷ fs) ≡ record { word = longer; subject = At (Slot f.dir name (look t f.dir name)) }
          ∷ items_to_come t p.veils (left ∷ fs)
      first_item = by (look t f.dir name) refl
        where
          by : (o : Option ℕ) → look t f.dir name ≡ o →
              items_to_come t p.veils (f ∷ fs) ≡ record { word = longer; subject = At (Slot f.dir name o) } ∷ items_to_come t p.veils (left ∷ fs)
          by None row = steps.missing f fs name rest names row
          by (Some x) row = steps.plain f fs name rest x names row (plain x (ap (λ d. look t d name) (sym at.dir) ∙ row))

      pub stands : IsToldIn t p item → Listed (after ∷ around) (so_far ++ item ∷ [])
      stands told = record {
        frames = left ∷ fs;
        entered = subst (λ w. AreEnteredAt t p spots w (left ∷ fs) (after ∷ around))
            (sym (last_append [] so_far (item ∷ []) ∙ own_word item depth own)) entered_still;
        all =
            ap (λ xs. xs ++ items_to_come t p.veils (left ∷ fs)) (told_append t [] so_far (item ∷ []))
            ∙ append_assoc (items_told t [] so_far) (told_item t word item ∷ []) (items_to_come t p.veils (left ∷ fs))
            ∙ (λ i. items_told t [] so_far ++ record {
              word = own_word item depth own i;
              subject = (subject ∙
                  ap (λ d. At (Slot d name (look t d name))) (sym at.dir)) i;
            } ∷ items_to_come t p.veils (left ∷ fs))
            ∙ ap (λ more. items_told t [] so_far ++ more) (sym first_item)
            ∙ first.2.2;
        told = all_append (IsToldIn t p) so_far (item ∷ []) before.listing.told (told, tt);
        near = near_append [] so_far (item ∷ []) before.listing.near (omega (arith, depth, around_short), tt);
      }

    -- ---- a directory stands there

    module _ (x next : ℕ) (over : Over) (a : ListItem) (depth : a.depth ≡ length around) (own : last_name a.item.subject ≡ Some name)
        (subject : subject_given t a.item.subject ≡ At (Whole x (Named after.dir name))) (row : look t after.dir name ≡ Some x)
        (is : is_dir t x ≡ true)
        (passed : AllByRecursion (λ (s : Spot). x ≤ s.0) (drop next spots)) (start : names_at x (drop next spots) ≡ names_at x spots)
        (covers : OverDir over x) where
      abbrev below : Entered
      below = record { dir = x; next = next; over = over }

      abbrev b : ListItem
      b = item_of (suc (length around)) (about.Others x) see.Missing over

      abbrev inner : Frame
      inner = frame_of t p.veils (f.depth - 1) x longer

      abbrev to_come : List Item
      to_come = items_to_come t p.veils (inner ∷ left ∷ fs)

      enters_at : IsDeepEnough t inner × (items_to_come t p.veils (f ∷ fs) ≡ record { word = longer; subject = At (Whole x (Named f.dir name)) }
          ∷ others_item longer x ∷ to_come)
      enters_at = steps.enters f fs name rest x at.deep names (ap (λ d. look t d name) at.dir ∙ row) is

      long : length longer ≡ suc (length around)
      long = omega (arith, length_push f.word name, at.long)

      both_words : last_word word (a ∷ b ∷ []) ≡ longer
      both_words = ap (λ w. take (suc (length around)) w) (own_word a depth own) ∙ take_all (suc (length around)) longer (omega (arith, long))

      pub enters : IsToldIn t p a → Listed (below ∷ after ∷ around) (so_far ++ a ∷ b ∷ [])
      enters told = record {
        frames = inner ∷ left ∷ fs;
        entered = subst (λ w. AreEnteredAt t p spots w (inner ∷ left ∷ fs) (below ∷ after ∷ around))
            (sym (last_append [] so_far (a ∷ b ∷ []) ∙ both_words)) (
              record {
                dir = refl;
                front = sym (take_all (suc (length around)) longer (omega (arith, long)));
                long = long;
                names = sym (start ∙ are.entries x);
                deep = enters_at.0;
                passed = passed;
                over = covers;
              },
              entered_still,
            );
        all =
            ap (λ xs. xs ++ to_come) (told_append t [] so_far (a ∷ b ∷ []))
            ∙ append_assoc (items_told t [] so_far) (items_told t word (a ∷ b ∷ [])) to_come
            ∙ (λ i. items_told t [] so_far ++ record {
              word = own_word a depth own i;
              subject = (subject ∙
                  ap (λ d. At (Whole x (Named d name))) (sym at.dir)) i;
            } ∷ others_item (both_words i) x ∷ to_come)
            ∙ ap (λ more. items_told t [] so_far ++ more) (sym enters_at.1)
            ∙ first.2.2;
        told = all_append (IsToldIn t p) so_far (a ∷ b ∷ []) before.listing.told
            (told, (told_others (suc (length around)) x over is covers, tt));
        near = near_append [] so_far (a ∷ b ∷ []) before.listing.near (
          omega (arith, depth, around_short),
          (omega (arith, ap length (own_word a depth own), long), tt),
        );
      }

  module _ (inner : Entered) (around : List Entered) (lent : Bor (List ℕ)) (so_far : List ListItem) (before : IsListingBefore t p spots inner
      around lent.now so_far) (old : List Entered) (dirs : reverse old ≡ after_next inner ∷ around) (depth : ℕ) (deep : depth ≡ length around)
    where
      count : length old ≡ suc (length around)
      count = sym (length-reverse old) ∙ ap length dirs

      in_dir : is_dir t inner.dir ≡ true
      in_dir = living inner around lent.now so_far before

      above_over : OverDir inner.over inner.dir
      above_over = (at inner around lent.now so_far before).over

      pub name_listed : (items : List ListItem) (object : seen.Object) (over : Over) →
          ((x : ℕ) → look t inner.dir lent.now ≡ Some x → is_dir t x ≡ false) →
          object ≡ object_seen t (object_of t (Slot inner.dir lent.now (look t inner.dir lent.now))) →
          IsHandedDown p (place.Slot inner.dir lent.now) inner.over over → over.inside ≡ inner.over.inside →
          items ≡ so_far ++ item_of depth (about.Name inner.dir lent) object over ∷ [] → Listed (reverse old) items
      name_listed items object over plain sees down mark more =
          let item : ListItem = item_of depth (about.Name inner.dir lent) object over in
          subst (Listed (reverse old)) (sym more) (subst (λ es. Listed es (so_far ++ item ∷ [])) (sym dirs)
          (stands inner around lent.now so_far before item deep refl refl plain
          (told_name depth inner.dir lent object over in_dir plain sees
          (over_name t fits p inner.dir lent.now (look t inner.dir lent.now) inner.over over above_over.covers down)
          (mark ∙ above_over.inside))))

      pub dir_listed : (new : List Entered) (own items : List ListItem) (x next : ℕ) (object : seen.Object) (over : Over) →
          look t inner.dir lent.now ≡ Some x → is_dir t x ≡ true → AllByRecursion (λ (s : Spot). x ≤ s.0) (drop next spots) →
          names_at x (drop next spots) ≡ names_at x spots → object ≡ object_seen t (IsDir x (Named inner.dir lent.now)) →
          IsHandedDown p (place.Dir x) inner.over over → over.inside ≡ (x == root_dir p || inner.over.inside) →
          new ≡ old ++ record { dir = x; next = next; over = over } ∷ [] →
          own ≡ so_far ++ item_of depth (about.Dir x inner.dir lent) object over ∷ [] →
          items ≡ own ++ item_of (length old) (about.Others x) see.Missing over ∷ [] → Listed (reverse new) items
      dir_listed new own items x next object over row is passed start sees down mark more_dirs one more =
          let below : Entered = record { dir = x; next = next; over = over } in
          let item : ListItem = item_of depth (about.Dir x inner.dir lent) object over in
          let covers : OverDir over x = record {
            covers = over_below t fits p inner.dir x lent.now inner.over over row is above_over.covers down;
            inside = mark ∙ ap (λ b. x == root_dir p || b) above_over.inside ∙
                sym (row_within t fits p (root_dir p) inner.dir x lent.now in_dir row is);
          } in
          let now_dirs : reverse new ≡ below ∷ after_next inner ∷ around =
          ap reverse more_dirs ∙ reverse-append old (below ∷ []) ∙ ap (λ es. below ∷ es) dirs in
          let both : items ≡ so_far ++ item ∷ item_of (suc (length around)) (about.Others x) see.Missing over ∷ [] =
          more ∙ (λ i. one i ++ item_of (count i) (about.Others x) see.Missing over ∷ []) ∙ append_assoc so_far (item ∷ []) _ in
          subst (Listed (reverse new)) (sym both)
          (subst (λ es. Listed es (so_far ++ item ∷ item_of (suc (length around)) (about.Others x) see.Missing over ∷ [])) (sym now_dirs)
          (enters inner around lent.now so_far before x next over item deep refl refl row is passed start covers
          (told_dir depth x inner.dir lent object over in_dir row is sees covers)))

  -- ---- the root

  all_low : (spots : List Spot) → AllByRecursion (λ s. 0 ≤ s.0) spots
  all_low [] = tt
  all_low (s ∷ spots) = (omega arith, all_low spots)

  pub root_listed : (over : Over) (a : ListItem) → a.depth ≡ 0 → a.item.subject ≡ about.Root → OverDir over 0 → IsToldIn t p a →
      Listed (record { dir = 0; next = 0; over = over } ∷ []) (a ∷ item_of 0 (about.Others 0) see.Missing over ∷ [])
  root_listed over a depth root covers told =
      let top : Frame = frame_of t p.veils (length t.nodes - 1) 0 [] in
      let word : word_after [] a ≡ [] = (λ i. with_name (take (depth i) []) (last_name (root i))) in
      record {
        frames = top ∷ [];
        entered = subst (λ (w : Word). AreEnteredAt t p spots (take 0 w) (top ∷ []) (record { dir = 0; next = 0; over = over } ∷ [])) (sym word) (
          record {
            dir = refl;
            front = refl;
            long = refl;
            names = sym (are.entries 0);
            deep = steps.first_fits;
            passed = all_low spots;
            over = covers;
          },
          tt,
        );
        all =
            (λ i. record { word = word i; subject = subject_given t (root i) } ∷ record { word = take 0 (word i); subject = Others 0 }
            ∷ (items_to_come t p.veils (top ∷ [])))
            ∙ sym steps.begins;
        told = (told, (told_others 0 0 over fits.root covers, tt));
        near = (omega (arith, depth), (omega arith, tt));
      }

  pub root_made : (over up : Over) (old new : List Entered) (before own items : List ListItem) → old ≡ [] → before ≡ [] →
      new ≡ old ++ record { dir = 0; next = 0; over = over } ∷ [] → own ≡ before ++ item_of 0 about.Root (see.Node kind.Dir) over ∷ [] →
      items ≡ own ++ item_of (length old) (about.Others 0) see.Missing over ∷ [] → IsOver p.veils up (unveiled p.veils) →
      IsHandedDown p (place.Dir 0) up over → up.inside ≡ false → over.inside ≡ (0 == root_dir p || up.inside) → Listed (reverse new) items
  root_made over up old new before own items no_dirs none more_dirs one more above down outer mark =
      let covers : OverDir over 0 = record {
        covers = over_root t fits p up over above down;
        inside = mark ∙ ap (λ b. 0 == root_dir p || b) outer ∙ sym (root_within t fits p (root_dir p));
      } in
      let dirs : new ≡ record { dir = 0; next = 0; over = over } ∷ [] = more_dirs ∙ ap (λ es. es ++ record { dir = 0; next = 0; over = over } ∷ [])
      no_dirs in
      let both : items ≡ item_of 0 about.Root (see.Node kind.Dir) over ∷ item_of 0 (about.Others 0) see.Missing over ∷ [] =
      more ∙ (λ i. (one ∙ ap (λ xs. xs ++ item_of 0 about.Root (see.Node kind.Dir) over ∷ []) none) i
      ++ item_of (length (no_dirs i)) (about.Others 0) see.Missing over ∷ []) in
      subst (Listed (reverse new)) (sym both) (subst (λ es. Listed (reverse es) (item_of 0 about.Root (see.Node kind.Dir) over ∷ item_of 0 (about.Others 0) see.Missing over ∷ [])) (sym dirs)
      (root_listed over (item_of 0 about.Root (see.Node kind.Dir) over) refl refl covers (told_root over covers)))

-- ---- what was listed

told_length : (t : Tree) (before : Word) (xs : List ListItem) → length (items_told t before xs) ≡ length xs
told_length t before [] = refl
told_length t before (x ∷ xs) = ap suc (told_length t (word_after before x) xs)

module _ (t : Tree) (p : ProcessState) (spots : List Spot) (so_far : List ListItem) where
  pub listed_short : (entered : List Entered) → IsListing t p spots entered so_far → length so_far ≤ length (items t p.veils)
  listed_short entered list = omega (
    arith,
    ap length list.all,
    length-append (items_told t [] so_far) (items_to_come t p.veils list.frames),
    told_length t [] so_far,
  )

  -- where no directory is entered, everything is
  pub listed_all : IsListing t p spots [] so_far → items_told t [] so_far ≡ items t p.veils
  listed_all list = by list.frames list.entered list.all
    where
      by : (frames : List Frame) → AreEnteredAt t p spots (last_word [] so_far) frames [] →
          items_told t [] so_far ++ items_to_come t p.veils frames ≡ items t p.veils → items_told t [] so_far ≡ items t p.veils
      by [] inside all = sym (append-nil (items_told t [] so_far)) ∙ all
      by (_ ∷ _) inside all = absurd inside
