-- The names at the spots of a directory are its entries.
use Rattle.pua_objects.proofs.Common.{◌≡◌, ◌==◌, ℕ, List, [], ◌∷◌, ◌++◌, Bool, true, false, cond, map, refl, sym, ap, ◌∙◌, inl, inr, Option}
use Rattle.pua_objects.proofs.Common.{filter, filter_map, if◌then◌else◌, AllByRecursion, Less, Equal, nat_cmp, eq-eqb, eqb-true, Tree, Spot}
use Rattle.pua_objects.proofs.Common.{spot_cmp, name_cmp, Place, Rises, names_in, name_at, veiled_in, entries, veil_spot, names_at}
use Rattle.pua_objects.proofs.Common.{AreInOrder, AreSpots}
use Rattle.std.proofs.Common.{Some, None, ◌⊎◌}
use Rattle.std.specs.List.{cons_option}
use Rattle.std.specs.Ordering.{ordering_then}
use Rattle.std.specs.FinMap.{nat_cmp-IsAntisymmetric, slice_cmp-IsAntisymmetric}
use Rattle.std.specs.Cmp.Lexicographic.{nat_list_cmp_total}
use Rattle.std.specs.Cmp.{nat_cmp_total, tied_itself}
use Rattle.pua_tree.proofs.ForCallers.{same_Some, None≢Some}
use Rattle.pua_policy.specs.declared.place.Place.TheVariants as place
use Rattle.pua_audit.proofs.ForCallers.{distinct_names_rise}
use Rattle.pua_objects.proofs.Among.{Among, among_left, among_right, among_either, among_map, map_among, among_filter, filter_among}
use Rattle.pua_objects.proofs.Among.{among_distinct, distinct_among, contained, among_contained}

-- ---- what `filter_map` gives

pub among_filter_map : {X Y : Type 0} (f : X → Option Y) (xs : List X) (x : X) (y : Y) → Among xs x → f x ≡ Some y →
    Among (filter_map f xs) y
among_filter_map f [] x y a e = absurd a
among_filter_map f (z ∷ xs) x y (inl same) e = let here : f z ≡ Some y = ap f same ∙ e in rw here (inl refl)
among_filter_map f (z ∷ xs) x y (inr a) e =
    elim (f z) as (λ o. Among (cons_option o (filter_map f xs)) y) [
      | None ↦ among_filter_map f xs x y a e
      | Some other ↦ inr (among_filter_map f xs x y a e)
    ]

pub filter_map_among : {X Y : Type 0} (f : X → Option Y) (xs : List X) (y : Y) → Among (filter_map f xs) y →
    (x : X) × Among xs x × (f x ≡ Some y)
filter_map_among f [] y a = absurd a
filter_map_among f (z ∷ xs) y a =
    elim (f z) as (λ o. f z ≡ o → Among (cons_option o (filter_map f xs)) y → ((x : _) × Among (z ∷ xs) x × (f x ≡ Some y))) [
      | None ↦ λ e a. let more = filter_map_among f xs y a in (more.0, inr more.1, more.2)
      | Some other ↦ λ e a. elim a [
        | inl same ↦ (z, inl refl, e ∙ ap Some same)
        | inr b ↦ (let more = filter_map_among f xs y b in (more.0, inr more.1, more.2))
      ]
    ] refl a

-- ---- lists of names that rise

abbrev exact_names : (a b : List ℕ) → name_cmp a b ≡ Equal → a ≡ b
exact_names = slice_cmp-IsAntisymmetric nat_cmp-IsAntisymmetric

not_above : (n : List ℕ) (ms : List (List ℕ)) (x : List ℕ) → AllByRecursion (λ m. name_cmp n m ≡ Less) ms → Among ms x → name_cmp n x ≡ Less
not_above n [] x all a = absurd a
not_above n (m ∷ ms) x all (inl e) = ap (name_cmp n) (sym e) ∙ all.0
not_above n (m ∷ ms) x all (inr a) = not_above n ms x all.1 a

not_both : (a b : List ℕ) → name_cmp a b ≡ Less → name_cmp b a ≡ Less → ⊥
not_both a b e f = let turned = nat_list_cmp_total.antisymm a b in cc

-- a name that is among the later ones isn't the first
later : (n : List ℕ) (ns ms : List (List ℕ)) → AllByRecursion (λ m. name_cmp n m ≡ Less) ns → (x : List ℕ) → Among ns x →
    (n ≡ x) ⊎ Among ms x → Among ms x
later n ns ms all x a (inl e) = let less : name_cmp n n ≡ Less = ap (name_cmp n) e ∙ not_above n ns x all a in let tied =
    tied_itself nat_list_cmp_total n in cc
later n ns ms all x a (inr b) = b

-- lists that rise with the same members are one
same_rising : (ns ms : List (List ℕ)) → Rises name_cmp ns → Rises name_cmp ms → ((x : List ℕ) → Among ns x → Among ms x) →
    ((x : List ℕ) → Among ms x → Among ns x) → ns ≡ ms
same_rising [] [] p q to from = refl
same_rising [] (m ∷ ms) p q to from = absurd (from m (inl refl))
same_rising (n ∷ ns) [] p q to from = absurd (to n (inl refl))
same_rising (n ∷ ns) (m ∷ ms) p q to from =
    let first : n ≡ m = heads (to n (inl refl)) (from m (inl refl)) in
    let rest : ns ≡ ms = same_rising ns ms p.1 q.1
    (λ x a. later n ns ms p.0 x a (elim (to x (inr a)) [ inl e ↦ inl (first ∙ e) | inr b ↦ inr b ]))
    (λ x a. later m ms ns q.0 x a (elim (from x (inr a)) [ inl e ↦ inl (sym first ∙ e) | inr b ↦ inr b ])) in
    (λ i. first i ∷ rest i)
  where
    heads : Among (m ∷ ms) n → Among (n ∷ ns) m → n ≡ m
    heads (inl e) b = sym e
    heads (inr a) (inl e) = e
    heads (inr a) (inr b) = absurd (not_both n m (not_above n ns m p.0 b) (not_above m ms n q.0 a))

-- ---- the names at the spots of a directory

module _ (dir : ℕ) where
  below_first : (name : List ℕ) (spots : List Spot) → AllByRecursion (λ s. spot_cmp (dir, name) s ≡ Less) spots →
      AllByRecursion (λ n. name_cmp name n ≡ Less) (names_at dir spots)
  below_first name [] all = tt
  below_first name (s ∷ spots) all =
      elim (s.0 == dir) as (λ b. (s.0 == dir) ≡ b →
      AllByRecursion (λ n. name_cmp name n ≡ Less)
      (map (λ spot. spot.1) (cond b (s ∷ filter (λ spot. spot.0 == dir) spots) (filter (λ spot. spot.0 == dir) spots)))) [
        | true ↦ λ e. (let same : s.0 ≡ dir = eqb-true s.0 dir e in
            let tied : nat_cmp dir s.0 ≡ Equal = ap (nat_cmp dir) same ∙ tied_itself nat_cmp_total dir in
            let less : name_cmp name s.1 ≡ Less = ap (λ o. ordering_then o (name_cmp name s.1)) (sym tied) ∙ all.0 in
            (less, below_first name spots all.1))
        | false ↦ λ e. below_first name spots all.1
      ] refl

  names_rise : (spots : List Spot) → Rises spot_cmp spots → Rises name_cmp (names_at dir spots)
  names_rise [] rises = tt
  names_rise (s ∷ spots) rises =
      elim (s.0 == dir) as (λ b. (s.0 == dir) ≡ b →
      Rises name_cmp (map (λ spot. spot.1) (cond b (s ∷ filter (λ spot. spot.0 == dir) spots) (filter (λ spot. spot.0 == dir) spots)))) [
        | true ↦ λ e. (below_first s.1 spots (rw (eqb-true s.0 dir e) at rises.0), names_rise spots rises.1)
        | false ↦ λ e. names_rise spots rises.1
      ] refl

  there_at : (spots : List Spot) (n : List ℕ) → Among spots (dir, n) → Among (names_at dir spots) n
  there_at spots n a = among_map (λ spot. spot.1) (filter (λ spot. spot.0 == dir) spots) (
    dir,
    n,
  ) (among_filter (λ spot. spot.0 == dir) spots (dir, n) (eq-eqb dir dir refl) a)

  at_there : (spots : List Spot) (n : List ℕ) → Among (names_at dir spots) n → Among spots (dir, n)
  at_there spots n a =
      let named = map_among (λ spot. spot.1) (filter (λ spot. spot.0 == dir) spots) n a in
      let there = filter_among (λ spot. spot.0 == dir) spots named.0 named.1 in
      let same : named.0 ≡ (dir, n) = (λ i. (eqb-true named.0.0 dir there.1 i, named.2 i)) in
      rw same at there.0

  -- ---- of rows and veils

  slot_named : (p : Place) (n : List ℕ) → veil_spot p ≡ Some (dir, n) → name_at dir p ≡ Some n
  slot_named (place.Slot d m) n e =
      let same = same_Some (d, m) (dir, n) e in
      ap (λ b. if b then Some m else None) (eq-eqb d dir (ap (λ s. s.0) same)) ∙ ap (λ s. Some s.1) same
  slot_named (place.Dir d) n e = absurd (None≢Some (dir, n) e)

  named_slot : (p : Place) (n : List ℕ) → name_at dir p ≡ Some n → veil_spot p ≡ Some (dir, n)
  named_slot (place.Slot d m) n e = by (d == dir) refl e
    where
      by : (b : Bool) → (d == dir) ≡ b → (if b then Some m else None) ≡ Some n → veil_spot (place.Slot d m) ≡ Some (dir, n)
      by true is e = let same : ◌≡◌ {A = Spot} (d, m) (dir, n) = (λ i. (eqb-true d dir is i, same_Some m n e i)) in
          ap (λ (s : Spot). Some s) same
      by false is e = absurd (None≢Some n e)
  named_slot (place.Dir d) n e = absurd (None≢Some n e)

  module _ (t : Tree) (vs : List (Place × ℕ)) where
    abbrev given : List Spot
    given = map (λ row. row.0) t.rows ++ filter_map veil_spot (map (λ veil. veil.0) vs)

    row_there : (n : List ℕ) → Among (map (λ row. row.0) t.rows) (dir, n) → Among (names_in t dir) n
    row_there n a =
        let row = map_among (λ row. row.0) t.rows (dir, n) a in
        let at_dir : (row.0.0.0 == dir) ≡ true = eq-eqb row.0.0.0 dir (ap (λ s. s.0) row.2) in
        let there = among_map (λ row. row.0.1) (filter (λ row. row.0.0 == dir) t.rows) row.0
        (among_filter (λ row. row.0.0 == dir) t.rows row.0 at_dir row.1) in
        rw (ap (λ s. s.1) row.2) at there

    there_row : (n : List ℕ) → Among (names_in t dir) n → Among (map (λ row. row.0) t.rows) (dir, n)
    there_row n a =
        let named = map_among (λ row. row.0.1) (filter (λ row. row.0.0 == dir) t.rows) n a in
        let there = filter_among (λ row. row.0.0 == dir) t.rows named.0 named.1 in
        let same : named.0.0 ≡ (dir, n) = (λ i. (eqb-true named.0.0.0 dir there.1 i, named.2 i)) in
        rw same at (among_map (λ row. row.0) t.rows named.0 there.0)

    veil_there : (n : List ℕ) → Among (filter_map veil_spot (map (λ veil. veil.0) vs)) (dir, n) → Among (veiled_in vs dir) n
    veil_there n a =
        let slot = filter_map_among veil_spot (map (λ veil. veil.0) vs) (dir, n) a in
        let veil = map_among (λ veil. veil.0) vs slot.0 slot.1 in
        among_filter_map (λ veil. name_at dir veil.0) vs veil.0 n veil.1 (ap (name_at dir) veil.2 ∙ slot_named slot.0 n slot.2)

    there_veil : (n : List ℕ) → Among (veiled_in vs dir) n → Among (filter_map veil_spot (map (λ veil. veil.0) vs)) (dir, n)
    there_veil n a =
        let veil = filter_map_among (λ veil. name_at dir veil.0) vs n a in
        among_filter_map veil_spot (map (λ veil. veil.0) vs) veil.0.0 (
          dir,
          n,
        ) (among_map (λ veil. veil.0) vs veil.0 veil.1) (named_slot veil.0.0 n veil.2)

    given_there : (n : List ℕ) → Among given (dir, n) → Among (names_in t dir ++ veiled_in vs dir) n
    given_there n a =
        elim (among_either (map (λ row. row.0) t.rows) (filter_map veil_spot (map (λ veil. veil.0) vs)) (dir, n) a) [
          | inl b ↦ among_left (names_in t dir) (veiled_in vs dir) n (row_there n b)
          | inr b ↦ among_right (names_in t dir) (veiled_in vs dir) n (veil_there n b)
        ]

    there_given : (n : List ℕ) → Among (names_in t dir ++ veiled_in vs dir) n → Among given (dir, n)
    there_given n a =
        elim (among_either (names_in t dir) (veiled_in vs dir) n a) [
          | inl b ↦ among_left (map (λ row. row.0) t.rows) (filter_map veil_spot (map (λ veil. veil.0) vs)) (dir, n) (there_row n b)
          | inr b ↦ among_right (map (λ row. row.0) t.rows) (filter_map veil_spot (map (λ veil. veil.0) vs)) (dir, n) (there_veil n b)
        ]

    names_are : (spots : List Spot) → AreInOrder given spots → names_at dir spots ≡ entries t vs dir
    names_are spots order =
        same_rising (names_at dir spots) (entries t vs dir) (names_rise spots order.rise)
        (distinct_names_rise (names_in t dir ++ veiled_in vs dir))
        (λ n a. among_distinct (names_in t dir ++ veiled_in vs dir) n
        (given_there n (among_contained given (dir, n) (order.no_other (dir, n) (contained spots (dir, n) (at_there spots n a))))))
        (λ n a. there_at spots n (among_contained spots (
          dir,
          n,
        ) (order.all (dir, n) (contained given (dir, n) (there_given n (distinct_among (names_in t dir ++ veiled_in vs dir) n a))))))

-- the spots of all rows and all veils at names
pub spots_of : (t : Tree) (vs : List (Place × ℕ)) (spots : List Spot) →
    AreInOrder (map (λ row. row.0) t.rows ++ filter_map veil_spot (map (λ veil. veil.0) vs)) spots → AreSpots t vs spots
spots_of t vs spots order = record { rise = order.rise; entries = λ dir. names_are dir t vs spots order }
