-- Lines stand in the order of their names, each once.
use Rattle.pua_objects.proofs.Common.{◌≡◌, ℕ, zero, suc, List, [], ◌∷◌, ◌++◌, length, map, Bool, true, false, refl, ap, ◌∙◌, Option, Some}
use Rattle.pua_objects.proofs.Common.{None, flat_map, if◌then◌else◌, AllByRecursion, Ordering, Less, Equal, nat_cmp, Tree, name_cmp, look}
use Rattle.pua_objects.proofs.Common.{is_dir, Way, Named, Top, Whole, Slot, veils, Place, Word, Rises, Subject, At, Others, Item, line_of}
use Rattle.pua_objects.proofs.Common.{has_calls, names_in, veiled_in, entries, items_at, items_below, items}
use Rattle.std.specs.Prelude.{⊤}
use Rattle.std.specs.Ordering.{ordering_then}
use Rattle.std.specs.Cmp.{tied_itself}
use Rattle.std.specs.Cmp.Lexicographic.{slice_cmp, nat_list_cmp_total}
use Rattle.pua_audit.proofs.ForCallers.{all_flat, rises_filtered, rises_mapped, rises_flat, distinct_names_rise, all_weaker}
use Rattle.pua_objects.specs.Laws.{subject_rank, line_cmp, ObjectsRise}

abbrev item_cmp : Item → Item → Ordering
item_cmp a b = ordering_then (slice_cmp name_cmp a.word b.word) (nat_cmp (subject_rank a.subject) (subject_rank b.subject))

-- the item's names begin with these
abbrev Extends : Word → Item → Type 0
Extends word item = (more : Word) × (item.word ≡ word ++ more)

appended : (word : Word) (name : List ℕ) (more : Word) → (word ++ name ∷ []) ++ more ≡ word ++ name ∷ more
appended [] name more = refl
appended (other ∷ word) name more = ap (λ w. other ∷ w) (appended word name more)

nothing_more : (word : Word) → word ≡ word ++ []
nothing_more [] = refl
nothing_more (name ∷ word) = ap (λ w. name ∷ w) (nothing_more word)

-- names that go apart at a name
apart_at : (word : Word) (a b : List ℕ) (u v : Word) → name_cmp a b ≡ Less → slice_cmp name_cmp (word ++ a ∷ u) (word ++ b ∷ v) ≡ Less
apart_at [] a b u v less = ap (λ o. ordering_then o (slice_cmp name_cmp u v)) less
apart_at (name ∷ word) a b u v less =
    ap (λ o. ordering_then o (slice_cmp name_cmp (word ++ a ∷ u) (word ++ b ∷ v))) (tied_itself nat_list_cmp_total name) ∙
    apart_at word a b u v less

-- names before longer ones
before_longer : (word : Word) (a : List ℕ) (u : Word) → slice_cmp name_cmp word (word ++ a ∷ u) ≡ Less
before_longer [] a u = refl
before_longer (name ∷ word) a u = ap (λ o. ordering_then o (slice_cmp name_cmp word (word ++ a ∷ u))) (tied_itself nat_list_cmp_total name)
    ∙ before_longer word a u

same_names : (word : Word) → slice_cmp name_cmp word word ≡ Equal
same_names [] = refl
same_names (name ∷ word) = ap (λ o. ordering_then o (slice_cmp name_cmp word word)) (tied_itself nat_list_cmp_total name) ∙ same_names word

items_apart : (word : Word) (a b : List ℕ) → name_cmp a b ≡ Less → (x y : Item) → Extends (word ++ a ∷ []) x → Extends (word ++ b ∷ []) y →
    item_cmp x y ≡ Less
items_apart word a b less x y ex ey =
    let first : slice_cmp name_cmp x.word y.word ≡ Less =
    (λ i. slice_cmp name_cmp ((ex.1 ∙ appended word a ex.0) i) ((ey.1 ∙ appended word b ey.0) i)) ∙ apart_at word a b ex.0 ey.0 less in
    ap (λ o. ordering_then o (nat_cmp (subject_rank x.subject) (subject_rank y.subject))) first

item_before : (word : Word) (subject : Subject) (name : List ℕ) (y : Item) → Extends (word ++ name ∷ []) y →
    item_cmp (record { word = word; subject = subject }) y ≡ Less
item_before word subject name y ey =
    let first : slice_cmp name_cmp word y.word ≡ Less = ap (slice_cmp name_cmp word) (ey.1 ∙ appended word name ey.0) ∙
    before_longer word name ey.0 in
    ap (λ o. ordering_then o (nat_cmp (subject_rank subject) (subject_rank y.subject))) first

all_pairs : {A B : Type 0} (P : A → Type 0) (Q : B → Type 0) (R : A → B → Type 0) → ((x : A) (y : B) → P x → Q y → R x y) →
    (xs : List A) (ys : List B) → AllByRecursion P xs → AllByRecursion Q ys → AllByRecursion (λ x. AllByRecursion (R x) ys) xs
all_pairs P Q R leads [] ys all others = tt
all_pairs P Q R leads (x ∷ xs) ys all others = (
  all_weaker Q (R x) (λ y q. leads x y all.0 q) ys others,
  all_pairs P Q R leads xs ys all.1 others,
)

module _ (t : Tree) (vs : List (Place × ℕ)) where
  abbrev Inside : Word → List Item → Type 0
  Inside word list = AllByRecursion (Extends word) list × Rises item_cmp list

  at_name : (below : ℕ → Way → Word → List Item) → ((x : ℕ) (way : Way) (word : Word) → Inside word (below x way word)) →
      (dir : ℕ) (word : Word) (name : List ℕ) (o : Option ℕ) → Inside (word ++ name ∷ []) (items_at t below dir word name o)
  at_name below inside dir word name None = ((([], nothing_more (word ++ name ∷ [])), tt), (tt, tt))
  at_name below inside dir word name (Some x) = by (is_dir t x)
    where
      by : (b : Bool) → Inside (word ++ name ∷ []) (if b then below x (Named dir name) (word ++ name ∷ []) else record
          { word = word ++ name ∷ []; subject = At (Slot dir name (Some x)) } ∷ [])
      by true = inside x (Named dir name) (word ++ name ∷ [])
      by false = ((([], nothing_more (word ++ name ∷ [])), tt), (tt, tt))

  shorter : (word : Word) (name : List ℕ) (item : Item) → Extends (word ++ name ∷ []) item → Extends word item
  shorter word name item e = (name ∷ e.0, e.1 ∙ appended word name e.0)

  inside : (depth dir : ℕ) (way : Way) (word : Word) → Inside word (items_below depth t vs dir way word)
  inside zero dir way word = (tt, tt)
  inside (suc depth) dir way word =
      let f : List ℕ → List Item = λ name. items_at t (items_below depth t vs) dir word name (look t dir name) in
      let each : (name : List ℕ) → Inside (word ++ name ∷ []) (f name) =
      λ name. at_name (items_below depth t vs) (inside depth) dir word name (look t dir name) in
      let names = entries t vs dir in
      let every : AllByRecursion (λ (n : List ℕ). ⊤) names = all_tt names in
      let rest : Rises item_cmp (flat_map f names) = rises_flat name_cmp item_cmp f (λ name. (each name).1)
      (λ a b less. all_pairs (Extends (word ++ a ∷ [])) (Extends (word ++ b ∷ [])) (λ x y. item_cmp x y ≡ Less)
      (λ x y ex ey. items_apart word a b less x y ex ey) (f a) (f b) (each a).0 (each b).0)
      names (distinct_names_rise (names_in t dir ++ veiled_in vs dir)) in
      let after : (subject : Subject) →
      AllByRecursion (λ y. item_cmp (record { word = word; subject = subject }) y ≡ Less) (flat_map f names) =
      (λ subject. all_flat (λ _. ⊤) (λ y. item_cmp (record { word = word; subject = subject }) y ≡ Less) f
      (λ name _. all_weaker (Extends (word ++ name ∷ [])) (λ y. item_cmp (record { word = word; subject = subject }) y ≡ Less)
      (item_before word subject name) (f name) (each name).0) names every) in
      let first : item_cmp (record { word = word; subject = At (Whole dir way) }) (record { word = word; subject = Others dir }) ≡ Less =
      ap (λ o. ordering_then o Less) (same_names word) in (
        (
          ([], nothing_more word),
          (
            ([], nothing_more word),
            all_flat (λ _. ⊤) (Extends word) f (λ name _. all_weaker (Extends (word ++ name ∷ [])) (Extends word) (shorter word name)
                (f name) (each name).0) names every,
          ),
        ),
        ((first, after (At (Whole dir way))), (after (Others dir), rest)),
      )
    where
      all_tt : (ns : List (List ℕ)) → AllByRecursion (λ (n : List ℕ). ⊤) ns
      all_tt [] = tt
      all_tt (n ∷ ns) = (tt, all_tt ns)

pub objects_rise : ObjectsRise
objects_rise t table h =
    rises_filtered line_cmp has_calls (map (line_of t table h) (items t (veils h)))
    (rises_mapped item_cmp line_cmp (line_of t table h) (λ x y less. less) (items t (veils h))
    (inside t (veils h) (length t.nodes) 0 Top []).1)
