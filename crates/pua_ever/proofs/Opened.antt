-- The veils alone tell which directories come to be empty, and outside of which something has `c`.
use Rattle.pua_ever.proofs.Common.{◌≡◌, ◌≢◌, ℕ, List, [], ◌∷◌, Bool, true, false, cond, map, refl, sym, ap, ◌∙◌, inl, inr, Option, Some}
use Rattle.pua_ever.proofs.Common.{None, is_some, not, ◌&&◌, ◌||◌, ◌==◌, filter_map, list_any, list_all, false≢true, eq-eqb, eqb-true}
use Rattle.pua_ever.proofs.Common.{and_parts, and_from, not-true, Tree, WellFormed, Spot, is_dir, look, empty_tree, same_Some, None≢Some}
use Rattle.pua_ever.proofs.Common.{sound_from, row_says, row_of, ProcessState, has_veil, perms_kept, veils, Cover, Only, Place, has_c, own_or}
use Rattle.pua_ever.proofs.Common.{cover_in, Among, among_map, among_filter_map, row_cover, can_empty, can_leave, is_below, has_c_outside, directories}
use Rattle.pua_ever.proofs.Common.{is_mount, option_eq, or_left, or_right}
use Rattle.pua_ever.proofs.Common.{opened_dir, held_dir}
use Rattle.std.proofs.lemmas.Bool.{true≢false, or_cases}
use Rattle.pua_policy.specs.States.{EachOnce}
use Rattle.pua_policy.specs.declared.place.Place.TheVariants as place
use Rattle.pua_objects.proofs.ForCallers.{found_among, filter_map_among}
use Rattle.pua_ever.specs.Ever.{opens_outside}
use Rattle.pua_ever.specs.Laws.{dir_of_place}
use Rattle.pua_ever.specs.Destinations.{has_mount, holds_dir, if_c, is_barred, is_mounted_in, is_no_dir, is_outside, is_without_c}
use Rattle.pua_ever.proofs.Covers.{dir_row, slot_row, own_dir, under_dir}
use Rattle.pua_ever.proofs.KeptVeils.{among_kept_at}
use Rattle.pua_ever.proofs.Origin.{below_both, own_cover, origin}
use Rattle.pua_ever.proofs.Quiet.{above_row}
use Rattle.pua_ever.proofs.Ways.{any_among, any_found, all_among, kept_among, among_dir, among_rows, quiet_dir, quiet_name}

-- the value and the test of a value that a test gives
pub when_some : {X : Type 0} (b : Bool) (o : Option X) (x : X) → cond b o None ≡ Some x → (b ≡ true) × (o ≡ Some x)
when_some true o x e = (refl, e)
when_some false o x e = absurd (None≢Some x e)

pub when : {X : Type 0} (b : Bool) (o : Option X) → b ≡ true → cond b o None ≡ o
when b o e = ap (λ b. cond b o None) e

-- an element that doesn't pass
pub fails : {X : Type 0} (p : X → Bool) (xs : List X) → list_all p xs ≡ false → (x : X) × Among xs x × (p x ≡ false)
fails p [] e = absurd (true≢false e)
fails {X} p (x ∷ xs) e = by (p x) refl e (fails p xs)
  where
    by : (b : Bool) → p x ≡ b → (b && list_all p xs) ≡ false → (list_all p xs ≡ false → (y : X) × Among xs y × (p y ≡ false)) →
        (y : X) × Among (x ∷ xs) y × (p y ≡ false)
    by true is e more = let found = more e in (found.0, inr found.1, found.2)
    by false is e more = (x, inl refl, is)

neither : (a b : Bool) → (not a || b) ≡ false → (a ≡ true) × (b ≡ false)
neither true b e = (refl, e)
neither false b e = absurd (true≢false e)

-- letters that are kept, and have `c`, or lack it
pub opening_is : (o : Option ℕ) (c : Cover) → if_c o ≡ Some c → (perms : ℕ) × (o ≡ Some perms) × (c ≡ Only perms) × (has_c c ≡ true)
opening_is None c e = absurd (None≢Some c e)
opening_is (Some perms) c e =
    let parts = when_some (has_c (Only perms)) (Some (Only perms)) c e in
    let same = same_Some (Only perms) c parts.1 in
    (perms, refl, sym same, ap has_c (sym same) ∙ parts.0)

pub destination_from : (o : Option ℕ) (perms : ℕ) → o ≡ Some perms → has_c (Only perms) ≡ true → if_c o ≡ Some (Only perms)
destination_from o perms e has = ap if_c e ∙ when (has_c (Only perms)) (Some (Only perms)) has

pub opening_some : (o : Option ℕ) → is_some (if_c o) ≡ true → (perms : ℕ) × (o ≡ Some perms) × (has_c (Only perms) ≡ true)
opening_some None e = absurd (false≢true e)
opening_some (Some perms) e = by (has_c (Only perms)) refl e
  where
    by : (b : Bool) → has_c (Only perms) ≡ b → is_some (cond b (Some (Only perms)) None) ≡ true →
        (p : ℕ) × (Some perms ≡ Some p) × (has_c (Only p) ≡ true)
    by true is e = (perms, refl, is)
    by false is e = absurd (false≢true e)

barred_is : (o : Option ℕ) → is_without_c o ≡ true → (perms : ℕ) × (o ≡ Some perms) × (has_c (Only perms) ≡ false)
barred_is None e = absurd (false≢true e)
barred_is (Some perms) e = (perms, refl, not-true _ e)

-- the places of a process's veils
abbrev pub places_of : ProcessState → List Place
places_of h = map (λ veil. veil.0) (veils h)

pub place_among : (h : ProcessState) (at : Place) (perms : ℕ) → perms_kept h at ≡ Some perms → Among (places_of h) at
place_among h at perms e = among_map (λ (veil : Place × ℕ). veil.0) (veils h) (at, perms) (kept_among empty_tree h at perms e)

module _ (t : Tree) (h : ProcessState) (well : WellFormed t) where
  -- something stays in a directory, and holds it
  abbrev pub is_held : ℕ → Bool
  is_held y = has_mount t y || list_any (holds_dir t h y) (places_of h)

  -- those with `c` by a veil, or a name in which has
  abbrev pub opened : List ℕ
  opened = filter_map (opened_dir h) (places_of h)

  -- the directory of what can't leave it never is empty
  staying_row : (s : Spot) (x y : ℕ) → look t s.0 s.1 ≡ Some x → s.0 ≡ y → can_leave t h s x ≡ false → can_empty t h y ≡ false
  staying_row s x y row at stays = by (can_empty t h y) refl
    where
      by : (b : Bool) → can_empty t h y ≡ b → can_empty t h y ≡ false
      by false e = e
      by true all =
          let one = all_among (λ row. not (row.0.0 == y) || can_leave t h row.0 row.1) t.rows (
            s,
            x,
          ) all (found_among s x t.rows row) in
          let differs : (not (s.0 == y) || can_leave t h s x) ≡ false = (λ i. not (eq-eqb s.0 y at i) || stays i) in
          absurd (false≢true (sym differs ∙ one))

  -- as that of what a veil without `c` is on
  barred_row : (s : Spot) (x y : ℕ) → look t s.0 s.1 ≡ Some x → s.0 ≡ y → has_c (row_cover t h s x) ≡ false → can_empty t h y ≡ false
  barred_row s x y row at lacks = staying_row s x y row at (ap (λ b. b && not (is_mount t x)) lacks)

  -- and that of a mount point
  mount_bars : (y : ℕ) → has_mount t y ≡ true → can_empty t h y ≡ false
  mount_bars y some =
      let found = any_found (is_mounted_in t y) t.rows some in
      let both = and_parts (found.0.0.0 == y) (is_mount t found.0.1) found.2 in
      staying_row found.0.0 found.0.1 y (among_rows t well found.0 found.1) (eqb-true found.0.0.0 y both.0)
      (mounted (has_c (row_cover t h found.0.0 found.0.1)) (is_mount t found.0.1) both.1)
    where
      mounted : (b m : Bool) → m ≡ true → (b && not m) ≡ false
      mounted true m e = ap not e
      mounted false m e = refl

  held_bars : (at : Place) (y : ℕ) → held_dir t h at ≡ Some y → can_empty t h y ≡ false
  held_bars (place.Dir x) y e =
      let parts = when_some _ _ y e in
      let one = and_parts (is_dir t x) _ parts.0 in
      let two = and_parts (not (x == 0)) _ one.1 in
      let veil = barred_is (perms_kept h (place.Dir x)) two.1 in
      let n : x ≢ 0 = λ z. false≢true (sym (not-true _ two.0) ∙ eq-eqb x 0 z) in
      let row = row_of t (sound_from t well) x one.0 n in
      barred_row row.0 x y row.1 (sym row.2 ∙ same_Some _ _ parts.1) (ap has_c (dir_row t h well row.0 x one.0 ∙
      own_dir t h well x veil.0 one.0 n veil.1) ∙ veil.2)
  held_bars (place.Slot d name) y e = by (look t d name) refl parts.0
    where
      parts : ((is_no_dir t (look t d name) && is_barred h (place.Slot d name)) ≡ true) × (Some d ≡ Some y)
      parts = when_some _ _ y e

      by : (o : Option ℕ) → look t d name ≡ o → (is_no_dir t o && is_barred h (place.Slot d name)) ≡ true → can_empty t h y ≡ false
      by None row both = absurd (false≢true both)
      by (Some x) row both =
          let one = and_parts (not (is_dir t x)) _ both in
          let veil = barred_is (perms_kept h (place.Slot d name)) one.1 in
          barred_row (d, name) x y row (same_Some d y parts.1) (ap has_c (slot_row t h well (d, name) x (not-true _ one.0) ∙
          ap (λ o. own_or o (cover_in t h d)) veil.1) ∙ veil.2)

  -- and in a directory with `c` nothing else stays
  module _ (y : ℕ) (is : is_dir t y ≡ true) (has : has_c (cover_in t h y) ≡ true) where
    held_at : (at : Place) (perms : ℕ) → perms_kept h at ≡ Some perms → held_dir t h at ≡ Some y → is_held y ≡ true
    held_at at perms e held =
        or_right (has_mount t y) _ (any_among (holds_dir t h y) (places_of h) at (place_among h at perms e)
        (ap (λ o. option_eq ◌==◌ o (Some y)) held ∙ eq-eqb y y refl))

    bars_held : (s : Spot) (x : ℕ) → look t s.0 s.1 ≡ Some x → s.0 ≡ y → has_c (row_cover t h s x) ≡ false → is_held y ≡ true
    bars_held s x row at lacks = by (is_dir t x) refl
      where
        over : has_c (cover_in t h s.0) ≡ true
        over = ap (λ d. has_c (cover_in t h d)) at ∙ has

        n : x ≢ 0
        n = (row_says t (sound_from t well) s x row).3

        dir_held : is_dir t x ≡ true → (o : Option ℕ) → perms_kept h (place.Dir x) ≡ o → is_held y ≡ true
        dir_held dir None e = absurd (false≢true (sym lacks ∙ ap has_c (dir_row t h well s x dir ∙ under_dir t h well s x dir row e) ∙
            over))
        dir_held dir (Some perms) e =
            let bad : has_c (Only perms) ≡ false = ap has_c (sym (dir_row t h well s x dir ∙ own_dir t h well x perms dir n e)) ∙ lacks in
            let zero_no : not (x == 0) ≡ true = elim (x == 0) as (λ b. (x == 0) ≡ b → not b ≡ true) [
              | true ↦ λ z. absurd (n (eqb-true x 0 z))
              | false ↦ λ z. refl
            ] refl in
            held_at (place.Dir x) perms e
            (when _ _ (and_from (is_dir t x) _ dir (and_from (not (x == 0)) _ zero_no (ap is_without_c e ∙ ap not bad))) ∙
            ap Some (above_row t well y s x row dir ∙ at))

        slot_held : is_dir t x ≡ false → (o : Option ℕ) → perms_kept h (place.Slot s.0 s.1) ≡ o → is_held y ≡ true
        slot_held plain None e =
            absurd (false≢true (sym lacks ∙ ap has_c (slot_row t h well s x plain ∙ ap (λ o. own_or o (cover_in t h s.0)) e) ∙ over))
        slot_held plain (Some perms) e =
            let bad : has_c (Only perms) ≡ false = ap has_c (sym (slot_row t h well s x plain ∙ ap (λ o. own_or o (cover_in t h s.0)) e)) ∙
            lacks in
            held_at (place.Slot s.0 s.1) perms e
            (when _ _ (and_from (is_no_dir t (look t s.0 s.1)) _ (ap (is_no_dir t) row ∙ ap not plain) (ap is_without_c e ∙ ap not bad)) ∙
            ap Some at)

        by : (b : Bool) → is_dir t x ≡ b → is_held y ≡ true
        by true dir = dir_held dir (perms_kept h (place.Dir x)) refl
        by false plain = slot_held plain (perms_kept h (place.Slot s.0 s.1)) refl

    -- whatever stays holds it
    stays_held : (s : Spot) (x : ℕ) → look t s.0 s.1 ≡ Some x → s.0 ≡ y → can_leave t h s x ≡ false → is_held y ≡ true
    stays_held s x row at = by (has_c (row_cover t h s x)) (is_mount t x) refl refl
      where
        by : (c m : Bool) → has_c (row_cover t h s x) ≡ c → is_mount t x ≡ m → (c && not m) ≡ false → is_held y ≡ true
        by false m lacks mount stays = bars_held s x row at lacks
        by true true some mount stays =
            or_left (has_mount t y) _ (any_among (is_mounted_in t y) t.rows (s, x) (found_among s x t.rows row)
            (and_from (s.0 == y) _ (eq-eqb s.0 y at) mount))
        by true false some mount stays = absurd (false≢true (sym stays))

    pub empties : can_empty t h y ≡ not (is_held y)
    empties = by (is_held y) (can_empty t h y) refl refl
      where
        same : (o : Option ℕ) → option_eq ◌==◌ o (Some y) ≡ true → o ≡ Some y
        same None e = absurd (false≢true e)
        same (Some z) e = ap Some (eqb-true z y e)

        by : (l c : Bool) → is_held y ≡ l → can_empty t h y ≡ c → c ≡ not l
        by true c any e = sym e ∙ elim (or_cases (has_mount t y) (list_any (holds_dir t h y) (places_of h)) any) [
          | inl mount ↦ mount_bars y mount
          | inr some ↦ (let found = any_found (holds_dir t h y) (places_of h) some in held_bars found.0 y (same (held_dir t h found.0) found.2))
        ]
        by false true any e = refl
        by false false any e =
            let row = fails (λ row. not (row.0.0 == y) || can_leave t h row.0 row.1) t.rows e in
            let two = neither (row.0.0.0 == y) _ row.2 in
            absurd (false≢true (sym any ∙
            stays_held row.0.0 row.0.1 (among_rows t well row.0 row.1) (eqb-true _ _ two.0) two.1))

  -- something has `c` outside of a directory
  module _ (once : EachOnce h.veils) (veiled : has_veil h.veils ≡ true) (y : ℕ) where
    not_below : (x d : ℕ) → is_dir t d ≡ true → is_below t x d ≡ true → is_below t y d ≡ false → is_below t y x ≡ false
    not_below x d is inner outside = by (is_below t y x) refl
      where
        by : (b : Bool) → is_below t y x ≡ b → is_below t y x ≡ false
        by false e = e
        by true e = absurd (false≢true (sym outside ∙ below_both t well y x d is inner e))

    outside_any : has_c_outside t h y ≡ true → list_any (is_outside t y) opened ≡ true
    outside_any more = elim (or_cases _ _ more) [ inl a ↦ by_dir (any_found _ _ a) | inr a ↦ by_veil (any_found _ _ a) ]
      where
        opens : (at : Place) (perms d : ℕ) → perms_kept h at ≡ Some perms → has_c (Only perms) ≡ true → dir_of_place at ≡ d →
            is_dir t d ≡ true → is_below t y d ≡ false → list_any (is_outside t y) opened ≡ true
        opens at perms d e has same is outside =
            any_among (is_outside t y) opened d
            (among_filter_map (opened_dir h) (places_of h) at d (place_among h at perms e)
            (when _ _ (ap is_some (destination_from (perms_kept h at) perms e has)) ∙ ap Some same))
            (and_from (is_dir t d) _ is (ap not outside))

        by_dir : (d : ℕ) × Among (directories t) d × ((not (is_below t y d) && has_c (cover_in t h d)) ≡ true) →
            list_any (is_outside t y) opened ≡ true
        by_dir (d, a, both) =
            let parts = and_parts _ _ both in
            let is = among_dir t well d a in
            let from = origin t well h veiled d is parts.1 in
            opens (place.Dir from.dir) from.perms from.dir from.veil (ap has_c (sym from.cover) ∙
            parts.1) refl from.living (not_below from.dir d is from.below (not-true _ parts.0))

        by_veil : (veil : Place × ℕ) × Among (veils h) veil × (opens_outside t y veil.0 veil.1 ≡ true) →
            list_any (is_outside t y) opened ≡ true
        by_veil ((place.Slot d name, perms), a, all) =
            let one = and_parts (is_dir t d) _ all in
            let two = and_parts (not (is_below t y d)) _ one.1 in
            opens (place.Slot d name) perms d (among_kept_at h.veils once (place.Slot d name) perms a) two.1 refl one.0 (not-true _ two.0)
        by_veil ((place.Dir d, perms), a, all) = absurd (false≢true all)

    any_outside : list_any (is_outside t y) opened ≡ true → has_c_outside t h y ≡ true
    any_outside any = by (has_c_outside t h y) refl
      where
        found : (d : ℕ) × Among opened d × (is_outside t y d ≡ true)
        found = any_found _ _ any

        from : (at : Place) × Among (places_of h) at × (opened_dir h at ≡ Some found.0)
        from = filter_map_among (opened_dir h) (places_of h) found.0 found.1

        at_place : (at : Place) → opened_dir h at ≡ Some found.0 → has_c_outside t h y ≡ false → ⊥
        at_place (place.Dir d) e none =
            let parts = when_some _ _ found.0 e in
            let same = same_Some d found.0 parts.1 in
            let veil = opening_some (perms_kept h (place.Dir d)) parts.0 in
            let both = and_parts (is_dir t found.0) _ found.2 in
            let is = ap (is_dir t) same ∙ both.0 in
            let outside : is_below t y d ≡ false = ap (is_below t y) same ∙ not-true _ both.1 in
            false≢true (sym (quiet_dir t h y d none is outside) ∙ ap has_c (own_cover t well h d veil.0 is veil.1) ∙ veil.2)
        at_place (place.Slot d name) e none =
            let parts = when_some _ _ found.0 e in
            let same = same_Some d found.0 parts.1 in
            let veil = opening_some (perms_kept h (place.Slot d name)) parts.0 in
            let both = and_parts (is_dir t found.0) _ found.2 in
            let is = ap (is_dir t) same ∙ both.0 in
            let outside : is_below t y d ≡ false = ap (is_below t y) same ∙ not-true _ both.1 in
            false≢true (sym (quiet_name t h y d name veil.0 none is outside veil.1) ∙ veil.2)

        by : (b : Bool) → has_c_outside t h y ≡ b → has_c_outside t h y ≡ true
        by true e = e
        by false e = absurd (at_place from.0 from.2 e)

    pub outsides : has_c_outside t h y ≡ list_any (is_outside t y) opened
    outsides = by (has_c_outside t h y) (list_any (is_outside t y) opened) refl refl
      where
        by : (a b : Bool) → has_c_outside t h y ≡ a → list_any (is_outside t y) opened ≡ b → a ≡ b
        by true b e f = sym (outside_any e) ∙ f
        by false false e f = refl
        by false true e f = sym e ∙ any_outside f
