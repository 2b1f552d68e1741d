-- What the list of objects has: each living directory, what stands in it, and what is missing there.
use Rattle.pua_objects.proofs.Common.{◌≡◌, ◌+◌, ◌-◌, ℕ, zero, suc, List, [], ◌∷◌, ◌++◌, length, Bool, true, false, refl, sym, ap, inl}
use Rattle.pua_objects.proofs.Common.{inr, arith, subst, Option, Some, None, not, ◌&&◌, is_some, is_none, filter_map, if◌then◌else◌, eq-eqb}
use Rattle.pua_objects.proofs.Common.{eqb-true, and_parts, Tree, Spot, look, is_dir, spot_cmp, exact_spots, Sound, climb_ends, Way, Top}
use Rattle.pua_objects.proofs.Common.{Found, Whole, Slot, ProcessState, perms_kept, veils, FoundFits, Place, Word, Subject, At, Others, Item}
use Rattle.pua_objects.proofs.Common.{subject_of, names_in, name_at, veiled_in, entries, items_at, items_below, items}
use Rattle.std.specs.Prelude.{◌==◌}
use Rattle.std.specs.Option.{option_eq}
use Rattle.std.specs.Ordering.{is_eq}
use Rattle.std.specs.Cmp.{Equal-is}
use Rattle.std.specs.FinMap.{find as find_key}
use Rattle.pua_tree.specs.Names.{same_bytes}
use Rattle.pua_tree.specs.Tree.{above}
use Rattle.pua_tree.proofs.ForCallers.{same_word}
use Rattle.pua_tree.proofs.ForCallers.{Reaches, row_of, above_dir}
use Rattle.pua_policy.specs.States.{veil_at}
use Rattle.pua_policy.specs.declared.place.Place.TheVariants as place
use Rattle.pua_objects.specs.Objects.{own_way}
use Rattle.pua_objects.proofs.Among.{Among, among_left, among_right, among_map, among_filter, among_flat, among_distinct}
use Rattle.pua_objects.proofs.Judged.{named_by_row}

-- what is found by its key is among the entries
pub found_among : (k : Spot) (v : ℕ) (es : List (Spot × ℕ)) → find_key spot_cmp k es ≡ Some v → Among es (k, v)
found_among k v [] e = cc
found_among k v (y ∷ ys) e =
    elim (is_eq (spot_cmp k y.0)) as (λ b. is_eq (spot_cmp k y.0) ≡ b → (if b then Some y.1 else find_key spot_cmp k ys) ≡ Some v →
    Among (y ∷ ys) (k, v)) [
      | true ↦ λ same is.
          let key : k ≡ y.0 = exact_spots k y.0 ((Equal-is (spot_cmp k y.0)).0 same) in
          let value : y.1 ≡ v = cc in
          inl (λ i. (sym key i, value i))
      | false ↦ λ other is. inr (found_among k v ys is)
    ] refl e

-- a veil on a name is among those of its directory
veil_among : (vs : List (Place × ℕ)) (dir : ℕ) (name : List ℕ) (perms : ℕ) → veil_at vs (place.Slot dir name) ≡ Some perms →
    Among (filter_map (λ veil. name_at dir veil.0) vs) name
veil_among [] dir name perms e = cc
veil_among ((place.Dir other, given) ∷ vs) dir name perms e = veil_among vs dir name perms e
veil_among ((place.Slot other called, given) ∷ vs) dir name perms e =
    by (dir == other) (same_bytes name called) refl refl (λ k. later (other == dir) refl (veil_among vs dir name perms k)) e
  where
    later : (b : Bool) → (other == dir) ≡ b → Among (filter_map (λ veil. name_at dir veil.0) vs) name →
        Among (filter_map (λ veil. name_at dir veil.0) ((place.Slot other called, given) ∷ vs)) name
    later true is a = rw is (inr a)
    later false is a = rw is a

    by : (here same : Bool) → (dir == other) ≡ here → same_bytes name called ≡ same
        → (veil_at vs (place.Slot dir name) ≡ Some perms →
        Among (filter_map (λ veil. name_at dir veil.0) ((place.Slot other called, given) ∷ vs)) name)
        → (if here && same then Some given else veil_at vs (place.Slot dir name)) ≡ Some perms →
        Among (filter_map (λ veil. name_at dir veil.0) ((place.Slot other called, given) ∷ vs)) name
    by true true is same more e =
        let this : (other == dir) ≡ true = eq-eqb other dir (sym (eqb-true dir other is)) in
        rw this (inl (sym (same_word name called same)))
    by true false is same more e = more e
    by false same is also more e = more e

module _ (t : Tree) (sound : Sound t) (h : ProcessState) where
  -- the names of a directory's rows and of veils in it are among its entries
  row_entry : (dir : ℕ) (name : List ℕ) (x : ℕ) → look t dir name ≡ Some x → Among (entries t (veils h) dir) name
  row_entry dir name x e =
      among_distinct (names_in t dir ++ veiled_in (veils h) dir) name
      (among_left (names_in t dir) (veiled_in (veils h) dir) name (among_map (λ row. row.0.1) _ (
        (dir, name),
        x,
      ) (among_filter (λ row. row.0.0 == dir) t.rows ((dir, name), x) (eq-eqb dir dir refl) (found_among (dir, name) x t.rows e))))

  veil_entry : (dir : ℕ) (name : List ℕ) (perms : ℕ) → perms_kept h (place.Slot dir name) ≡ Some perms →
      Among (entries t (veils h) dir) name
  veil_entry dir name perms e =
      among_distinct (names_in t dir ++ veiled_in (veils h) dir) name (among_right (names_in t dir) (veiled_in (veils h) dir) name
      (veil_among (veils h) dir name perms e))

  -- what stands at an entry of a directory is below it
  below_entry : (depth dir : ℕ) (way : Way) (word : Word) (name : List ℕ) (o : Option ℕ) (item : Item) →
      Among (entries t (veils h) dir) name → look t dir name ≡ o →
      Among (items_at t (items_below depth t (veils h)) dir word name o) item →
      Among (items_below (suc depth) t (veils h) dir way word) item
  below_entry depth dir way word name o item entry is a =
      inr (inr (among_flat (λ n. items_at t (items_below depth t (veils h)) dir word n (look t dir n)) (entries t (veils h) dir) name item
      entry
      (let P : Option ℕ → Type 0 = λ o. Among (items_at t (items_below depth t (veils h)) dir word name o) item in subst P (sym is) a)))

  -- the items of a directory are among those of the root, under some names
  abbrev pub IsVisited : ℕ → ℕ → ℕ → Type 0
  IsVisited depth d left = (word : Word) × ((item : Item) → Among (items_below (suc left) t (veils h) d (own_way t d) word) item →
      Among (items_below depth t (veils h) 0 Top []) item)

  visited : (k d : ℕ) → Reaches t k d → is_dir t d ≡ true → (depth left : ℕ) → depth ≡ suc k + left → IsVisited depth d left
  visited zero d root living depth left e =
      let deep : depth ≡ suc left = omega (arith, e) in
      let P : ℕ → Type 0 = λ p. IsVisited (suc left) p left in
      let Q : ℕ → Type 0 = λ n. IsVisited n d left in
      subst Q (sym deep) (subst P (sym root) ([], λ item a. a))
  visited (suc k) d up living depth left e =
      let row = row_of t sound d living up.0 in
      let s = row.0 in
      let living_above : is_dir t (above t d) ≡ true = above_dir t sound d living up.0 in
      let over = visited k (above t d) up.1 living_above depth (suc left) (omega (arith, e)) in
      let P : ℕ → Type 0 = λ p. IsVisited depth p (suc left) in
      let there = subst P row.2 over in (
        there.0 ++ s.1 ∷ [],
        λ item a. there.1 item (below_entry (suc left) s.0 (own_way t s.0) there.0 s.1 (Some d) item (row_entry s.0 s.1 d row.1) row.1
            (let named = named_by_row t sound d s living up.0 row.1 in rw (living, sym named) a)),
      )

  -- so each living directory is visited
  pub found_dir : (d : ℕ) → is_dir t d ≡ true → (left : ℕ) × IsVisited (length t.nodes) d left
  found_dir zero living = let few = climb_ends t sound 0 living 0 refl in
      (length t.nodes - 1, visited zero zero refl living (length t.nodes) (length t.nodes - 1) (omega (arith, few)))
  found_dir (suc d) living =
      let rooted = sound.rooted (suc d) living (λ e. omega (arith, e)) in
      let few = climb_ends t sound (suc d) living rooted.0 rooted.1 in (
        length t.nodes - suc rooted.0,
        visited rooted.0 (suc d) rooted.1 living (length t.nodes) (length t.nodes - suc rooted.0) (omega (arith, few)),
      )

  abbrev pub HasItem : Subject → Type 0
  HasItem subject = (word : Word) × Among (items t (veils h)) (record { word = word; subject = subject })

  missing_item : (dir : ℕ) (name : List ℕ) (o : Option ℕ) → is_dir t dir ≡ true → look t dir name ≡ None →
      perms_kept h (place.Slot dir name) ≡ o → HasItem (if is_some o then At (Slot dir name None) else Others dir)
  missing_item dir name None living none is =
      let at = found_dir dir living in
      (at.1.0, at.1.1 _ (inr (inl refl)))
  missing_item dir name (Some perms) living none is =
      let at = found_dir dir living in (
        at.1.0 ++ name ∷ [],
        at.1.1 _ (below_entry at.0 dir (own_way t dir) at.1.0 name None _ (veil_entry dir name perms is) none (inl refl)),
      )

  plain_here : (depth dir : ℕ) (word : Word) (name : List ℕ) (x : ℕ) → is_dir t x ≡ false →
      Among (items_at t (items_below depth t (veils h)) dir word name (Some x))
      (record { word = word ++ name ∷ []; subject = At (Slot dir name (Some x)) })
  plain_here depth dir word name x plain = rw plain (inl refl)

  plain_item : (dir : ℕ) (name : List ℕ) (x : ℕ) → is_dir t dir ≡ true → look t dir name ≡ Some x → is_dir t x ≡ false →
      HasItem (At (Slot dir name (Some x)))
  plain_item dir name x living row plain =
      let at = found_dir dir living in (
        at.1.0 ++ name ∷ [],
        at.1.1 _ (below_entry at.0 dir (own_way t dir) at.1.0 name (Some x) _ (row_entry dir name x row) row
            (plain_here at.0 dir at.1.0 name x plain)),
      )

  -- what was found has an item
  pub has_item : (object : Found) → FoundFits t object → HasItem (subject_of t h object)
  has_item (Whole dir way) fits =
      let at = found_dir dir fits in
      (at.1.0, at.1.1 _ (inl refl))
  has_item (Slot dir name (Some x)) fits =
      let living = and_parts (is_dir t dir) _ fits in
      let there = and_parts (option_eq ◌==◌ (look t dir name) (Some x)) (not (is_dir t x)) living.1 in
      let row : look t dir name ≡ Some x = is_row (look t dir name) there.0 in
      let plain : is_dir t x ≡ false = denied (is_dir t x) there.1 in
      plain_item dir name x living.0 row plain
    where
      is_row : (o : Option ℕ) → option_eq ◌==◌ o (Some x) ≡ true → o ≡ Some x
      is_row None e = cc
      is_row (Some y) e = ap Some (eqb-true y x e)

      denied : (b : Bool) → not b ≡ true → b ≡ false
      denied true e = cc
      denied false e = refl
  has_item (Slot dir name None) fits =
      let living = and_parts (is_dir t dir) _ fits in
      missing_item dir name (perms_kept h (place.Slot dir name)) living.0 (nothing (look t dir name) living.1) refl
    where
      nothing : (o : Option ℕ) → is_none o ≡ true → o ≡ None
      nothing None e = refl
      nothing (Some x) e = cc
