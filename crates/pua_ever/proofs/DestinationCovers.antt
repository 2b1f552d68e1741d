-- The covers that the veils give are those of the definition.
use Rattle.pua_ever.proofs.Common.{◌≡◌, ◌≢◌, ℕ, List, [], ◌∷◌, ◌++◌, Bool, true, false, map, refl, sym, ap, subst, ◌∙◌, inl, inr}
use Rattle.pua_ever.proofs.Common.{Option, Some, None, is_some, not, ◌&&◌, ◌==◌, filter, filter_map, if◌then◌else◌}
use Rattle.pua_ever.proofs.Common.{false≢true, eq-eqb, eqb-true, and_parts, and_from, not-true, Tree, WellFormed, Spot, is_dir, look, climb}
use Rattle.pua_ever.proofs.Common.{same_Some, None≢Some, sound_from, row_says, row_of, ProcessState, perms_kept, veils, has_veil}
use Rattle.pua_ever.proofs.Common.{Cover, All, Only, Place, has_c, cover_in, Among, among_left, among_right, map_among, filter_among}
use Rattle.pua_ever.proofs.Common.{contained, among_contained, among_filter_map, is_free, is_mount, can_empty, can_yield, has_c_outside, nat_cmp, directories, dir_covers}
use Rattle.pua_ever.proofs.Common.{name_covers, open_covers, dir_destination, name_destination, entrance_cover, HaveSame}
use Rattle.std.proofs.lemmas.Bool.{or_cases}
use Rattle.std.specs.BTreeSet.{BTreeSet, contains}
use Rattle.std.specs.Prelude.{is_none}
use Rattle.pua_tree.specs.Tree.{above, device}
use Rattle.pua_tree.proofs.DevicesKeep.{device_root}
use Rattle.pua_ever.proofs.Common.{◌⊎◌}
use Rattle.pua_policy.specs.Verdict.{nearest}
use Rattle.pua_policy.specs.declared.place.Place.TheVariants as place
use Rattle.pua_policy.specs.States.{EachOnce}
use Rattle.pua_objects.proofs.ForCallers.{among_either}
use Rattle.pua_objects.proofs.ForCallers.{filter_map_among}
use Rattle.pua_ever.specs.Ever.{goes_along, is_device, is_on, opens_at, gives_way, is_way_in, veil_cover_at}
use Rattle.pua_ever.specs.Destinations.{AreHeld, StaysPut, cover_on, covers_on, destination, with_device}
use Rattle.pua_ever.proofs.Covers.{under_dir}
use Rattle.pua_ever.proofs.KeptVeils.{among_kept_at}
use Rattle.pua_ever.proofs.Opened.{when_some, when, opening_is, destination_from, opening_some, places_of, place_among, opened, empties}
use Rattle.pua_ever.proofs.Opened.{outsides}
use Rattle.pua_ever.proofs.Origin.{own_cover, origin}
use Rattle.pua_ever.proofs.Quiet.{above_row}
use Rattle.pua_ever.proofs.Ways.{any_found, among_dir, among_rows, way_by_c, way_by_name, way_by_turn, name_by_veil, open_by}

-- both ways
pub have_same : {X : Type 0} (xs ys : List X) → ((x : X) → Among xs x → Among ys x) → ((x : X) → Among ys x → Among xs x) → HaveSame xs ys
have_same xs ys within all = record {
  within = λ x a. contained ys x (within x (among_contained xs x a));
  all = λ x a. contained xs x (all x (among_contained ys x a));
}

-- a cover with its device, in its parts
with_some : (t : Tree) (dir : ℕ) (o : Option Cover) (p : ℕ × Cover) → with_device t dir o ≡ Some p →
    (o ≡ Some p.1) × (device t dir ≡ p.0)
with_some t dir None p e = absurd (None≢Some p e)
with_some t dir (Some left) p e =
    let same = same_Some (device t dir, left) p e in
    (ap (λ (q : ℕ × Cover). Some q.1) same, ap (λ (q : ℕ × Cover). q.0) same)

-- what is found on a device, or on any
on_among : (on : Option ℕ) (xs : List (ℕ × Cover)) (found : ℕ) (c : Cover) → Among xs (found, c) → is_device on found ≡ true →
    Among (covers_on on xs) c
on_among on xs found c a is = among_filter_map (cover_on on) xs (found, c) c a (when (is_device on found) (Some c) is)

among_on : (on : Option ℕ) (xs : List (ℕ × Cover)) (c : Cover) → Among (covers_on on xs) c →
    (p : ℕ × Cover) × Among xs p × (is_device on p.0 ≡ true) × (p.1 ≡ c)
among_on on xs c a =
    let from = filter_map_among (cover_on on) xs c a in
    let parts = when_some (is_device on from.0.0) (Some from.0.1) c from.2 in
    (from.0, from.1, parts.0, same_Some from.0.1 c parts.1)

module _ (t : Tree) (h : ProcessState) (well : WellFormed t) where
  -- the covers of directories with `c`, and those of entrances, as they are gathered
  abbrev pub own_covers : List (ℕ × Cover)
  own_covers = filter_map (dir_destination t h) (places_of h) ++ (if has_veil (veils h) then [] else (0, All) ∷ [])

  no_veils : has_veil (veils h) ≡ false → (d : ℕ) → cover_in t h d ≡ All
  no_veils none d = ap (λ b. if b then nearest (map (λ over. perms_kept h (place.Dir over)) (climb t d)) else All) none

  veiled : (at : Place) (perms : ℕ) → perms_kept h at ≡ Some perms → has_veil h.veils ≡ true
  veiled at perms e = some (veils h) (place_among h at perms e)
    where
      some : (vs : List (Place × ℕ)) → Among (map (λ veil. veil.0) vs) at → has_veil vs ≡ true
      some [] a = absurd a
      some (v ∷ vs) a = refl

  -- where no veil is kept, all goes along
  all_goes : has_veil (veils h) ≡ false → (m : ℕ) → goes_along t h m ≡ true
  all_goes none m = and_from (is_none (perms_kept h (place.Dir m))) _ (by (perms_kept h (place.Dir m)) refl) (ap has_c (no_veils none m))
    where
      by : (o : Option ℕ) → perms_kept h (place.Dir m) ≡ o → is_none o ≡ true
      by None e = refl
      by (Some perms) e = absurd (false≢true (sym none ∙ veiled (place.Dir m) perms e))

  module _ (on : Option ℕ) (put : StaysPut t h on) where
    -- a device that doesn't go along, or the same
    is_here : (d m : ℕ) → is_on t on d ≡ true → (m ≡ device t d) ⊎ (goes_along t h (device t d) ≡ true) → is_device on m ≡ true
    is_here d m here near = by on put here
      where
        by : (on : Option ℕ) → StaysPut t h on → is_on t on d ≡ true → is_device on m ≡ true
        by None put here = refl
        by (Some found) put here = elim near [
          | inl same ↦ ap (λ n. n == found) same ∙ here
          | inr goes ↦ absurd (false≢true (sym (put found refl) ∙ ap (goes_along t h) (sym (eqb-true (device t d) found here)) ∙ goes))
        ]

    -- a directory that has `c` gives its cover
    by_own : (d : ℕ) → is_dir t d ≡ true → is_on t on d ≡ true → has_c (cover_in t h d) ≡ true → Among (covers_on on own_covers) (cover_in t h d)
    by_own d is here has = by (has_veil (veils h)) refl
      where
        by : (b : Bool) → has_veil (veils h) ≡ b → Among (covers_on on own_covers) (cover_in t h d)
        by false none =
            on_among on own_covers 0 (cover_in t h d)
            (among_right (filter_map (dir_destination t h) (places_of h)) _ (0, cover_in t h d)
            (subst (λ b. Among {X = ℕ × Cover} (if b then [] else (0, All) ∷ []) (0, cover_in t h d)) (sym none) (inl (λ i. (0, sym (no_veils none d) i)))))
            (is_here d 0 here (inr (all_goes none (device t d))))
        by true some =
            let from = origin t well h some d is has in
            on_among on own_covers (device t from.dir) (cover_in t h d)
            (among_left (filter_map (dir_destination t h) (places_of h)) _ (device t from.dir, cover_in t h d)
            (among_filter_map (dir_destination t h) (places_of h) (place.Dir from.dir) (device t from.dir, cover_in t h d)
            (place_among h (place.Dir from.dir) from.perms from.veil)
            (when _ _ from.living ∙
            ap (with_device t from.dir) (destination_from (perms_kept h (place.Dir from.dir)) from.perms from.veil (ap has_c (sym from.cover) ∙ has) ∙
            ap Some (sym from.cover)))))
            (is_here d (device t from.dir) here from.near)

  own_dir_at : (p : ℕ × Cover) → Among own_covers p →
      (d : ℕ) × (is_dir t d ≡ true) × (has_c (cover_in t h d) ≡ true) × (cover_in t h d ≡ p.1) × (device t d ≡ p.0)
  own_dir_at p a = elim (among_either (filter_map (dir_destination t h) (places_of h)) _ p a) [
    | inl b ↦ by_veil (filter_map_among (dir_destination t h) (places_of h) p b)
    | inr b ↦ by_none (has_veil (veils h)) refl b
  ]
    where
      Found : Type 0
      Found = (d : ℕ) × (is_dir t d ≡ true) × (has_c (cover_in t h d) ≡ true) × (cover_in t h d ≡ p.1) × (device t d ≡ p.0)

      by_veil : (at : Place) × Among (places_of h) at × (dir_destination t h at ≡ Some p) → Found
      by_veil (place.Dir d, _, e) =
          let parts = when_some (is_dir t d) _ p e in
          let both = with_some t d (destination h (place.Dir d)) p parts.1 in
          let veil = opening_is (perms_kept h (place.Dir d)) p.1 both.0 in
          let same : cover_in t h d ≡ p.1 = own_cover t well h d veil.0 parts.0 veil.1 ∙ sym veil.2 in
          (d, parts.0, ap has_c same ∙ veil.3, same, both.1)
      by_veil (place.Slot d name, _, e) = absurd (None≢Some p e)

      by_none : (b : Bool) → has_veil (veils h) ≡ b → Among {X = ℕ × Cover} (if b then [] else (0, All) ∷ []) p → Found
      by_none true some a = absurd a
      by_none false none (inl e) = (
        0,
        well.root,
        ap has_c (no_veils none 0),
        no_veils none 0 ∙ ap (λ (q : ℕ × Cover). q.1) e,
        device_root t (sound_from t well) ∙ ap (λ (q : ℕ × Cover). q.0) e,
      )
      by_none false none (inr a) = absurd a

  module _ (stays : BTreeSet ℕ) (are : AreHeld t h (places_of h) stays) where
    abbrev pub entrances : List (ℕ × Cover)
    entrances = filter_map (entrance_cover t h stays (opened t h well)) (places_of h)

    -- in a directory with `c` all can leave, if it is not in that set
    pub empties_told : (y : ℕ) → is_dir t y ≡ true → has_c (cover_in t h y) ≡ true → can_empty t h y ≡ not (contains nat_cmp stays y)
    empties_told y is has = empties t h well y is has ∙ ap not (sym (are y))

    -- a directory that is moved or made can come there
    entrance_covers : EachOnce h.veils → (on : Option ℕ) (at : Place) (p : ℕ × Cover) →
        entrance_cover t h stays (opened t h well) at ≡ Some p → is_device on p.0 ≡ true → Among (dir_covers t h on) p.1
    entrance_covers once on (place.Slot d name) p e here =
        let parts = when_some _ _ p e in
        let both = with_some t d (Some (cover_in t h d)) p parts.1 in
        let one = and_parts (is_dir t d) _ parts.0 in
        let two = and_parts (is_free t h (d, name)) _ one.1 in
        let veil = opening_some (perms_kept h (place.Slot d name)) two.1 in
        subst (Among (dir_covers t h on)) (same_Some _ p.1 both.0)
        (way_by_name t h on d name veil.0 one.0 (ap (is_device on) both.1 ∙ here) veil.1 veil.2 two.0)
    entrance_covers once on (place.Dir y) p e here =
        let parts = when_some _ _ p e in
        let both = with_some t (above t y) (Some (cover_in t h (above t y))) p parts.1 in
        let one = and_parts (is_dir t y) _ parts.0 in
        let two = and_parts (not (y == 0)) _ one.1 in
        let three = and_parts (is_some (destination h (place.Dir y))) _ two.1 in
        let plain = and_parts (not (is_mount t y)) _ three.1 in
        let four = and_parts (not (contains nat_cmp stays y)) _ plain.1 in
        let veil = opening_some (perms_kept h (place.Dir y)) three.0 in
        let n : y ≢ 0 = λ z. false≢true (sym (not-true _ two.0) ∙ eq-eqb y 0 z) in
        let row = row_of t (sound_from t well) y one.0 n in
        let has : has_c (cover_in t h y) ≡ true = ap has_c (own_cover t well h y veil.0 one.0 veil.1) ∙ veil.2 in
        subst (Among (dir_covers t h on)) (ap (cover_in t h) (sym row.2) ∙ same_Some _ p.1 both.0)
        (way_by_turn t h on row.0.0 row.0.1 y (row_says t (sound_from t well) row.0 y row.1).0
        (ap (is_on t on) (sym row.2) ∙ ap (is_device on) both.1 ∙ here) row.1 one.0 has
        (and_from (not (is_mount t y)) _ plain.0 (and_from (can_empty t h y) _ (empties_told y one.0 has ∙ four.0)
        (outsides t h well once (veiled (place.Dir y) veil.0 veil.1) y ∙ four.1))))

    -- and no other covers a directory that comes there
    ways_gathered : EachOnce h.veils → (on : Option ℕ) → StaysPut t h on → (d : ℕ) → is_dir t d ≡ true → is_on t on d ≡ true →
        is_way_in t h d ≡ true → Among (covers_on on (own_covers ++ entrances)) (cover_in t h d)
    ways_gathered once on put d is here way = elim (or_cases _ _ way) [
      | inl has ↦ own has
      | inr more ↦ elim (or_cases _ _ more) [ inl a ↦ by_name (any_found _ _ a) | inr a ↦ by_turn (any_found _ _ a) ]
    ]
      where
        Here : Type 0
        Here = Among (covers_on on (own_covers ++ entrances)) (cover_in t h d)

        own : has_c (cover_in t h d) ≡ true → Here
        own has =
            let found = among_on on own_covers (cover_in t h d) (by_own on put d is here has) in
            subst (Among (covers_on on (own_covers ++ entrances))) found.3
            (on_among on (own_covers ++ entrances) found.0.0 found.0.1 (among_left own_covers entrances found.0 found.1) found.2)

        enters : (at : Place) (perms : ℕ) → perms_kept h at ≡ Some perms →
            entrance_cover t h stays (opened t h well) at ≡ Some (device t d, cover_in t h d) → Here
        enters at perms veil e =
            on_among on (own_covers ++ entrances) (device t d) (cover_in t h d)
            (among_right own_covers entrances (device t d, cover_in t h d)
            (among_filter_map (entrance_cover t h stays (opened t h well)) (places_of h) at (device t d, cover_in t h d)
            (place_among h at perms veil) e)) here

        by_name : (veil : Place × ℕ) × Among (veils h) veil × (opens_at t h d veil.0 veil.1 ≡ true) → Here
        by_name ((place.Slot other name, perms), a, all) =
            let one = and_parts (other == d) _ all in
            let two = and_parts (has_c (Only perms)) _ one.1 in
            let same = eqb-true other d one.0 in
            let veil = among_kept_at h.veils once (place.Slot other name) perms a in
            enters (place.Slot other name) perms veil
            (when _ _ (and_from (is_dir t other) _ (ap (is_dir t) same ∙
            is) (and_from (is_free t h (other, name)) _ two.1 (ap is_some (destination_from _ perms veil two.0)))) ∙
            ap (λ d. Some (device t d, cover_in t h d)) same)
        by_name ((place.Dir other, perms), a, all) = absurd (false≢true all)

        by_turn : (row : Spot × ℕ) × Among t.rows row × (gives_way t h d row ≡ true) → Here
        by_turn ((s, y), a, all) = turned (perms_kept h (place.Dir y)) refl
          where
            row : look t s.0 s.1 ≡ Some y
            row = among_rows t well (s, y) a

            one : ((s.0 == d) ≡ true) × ((is_dir t y && (has_c (cover_in t h y) && can_yield t h y)) ≡ true)
            one = and_parts (s.0 == d) _ all

            two : (is_dir t y ≡ true) × ((has_c (cover_in t h y) && can_yield t h y) ≡ true)
            two = and_parts (is_dir t y) _ one.1

            three : (has_c (cover_in t h y) ≡ true) × (can_yield t h y ≡ true)
            three = and_parts (has_c (cover_in t h y)) _ two.1

            plain : (not (is_mount t y) ≡ true) × ((can_empty t h y && has_c_outside t h y) ≡ true)
            plain = and_parts (not (is_mount t y)) _ three.1

            four : (can_empty t h y ≡ true) × (has_c_outside t h y ≡ true)
            four = and_parts (can_empty t h y) _ plain.1

            same : s.0 ≡ d
            same = eqb-true s.0 d one.0

            turned : (o : Option ℕ) → perms_kept h (place.Dir y) ≡ o → Here
            turned None e = own (ap has_c (sym (under_dir t h well s y two.0 row e ∙ ap (cover_in t h) same)) ∙ three.0)
            turned (Some perms) e =
                let n : y ≢ 0 = (row_says t (sound_from t well) s y row).3 in
                let no_root : not (y == 0) ≡ true = elim (y == 0) as (λ b. (y == 0) ≡ b → not b ≡ true) [
                  | true ↦ λ z. absurd (n (eqb-true y 0 z))
                  | false ↦ λ z. refl
                ] refl in
                let has : has_c (Only perms) ≡ true = ap has_c (sym (own_cover t well h y perms two.0 e)) ∙ three.0 in
                enters (place.Dir y) perms e
                (when _ _ (and_from (is_dir t y) _ two.0
                (and_from (not (y == 0)) _ no_root
                (and_from (is_some (destination h (place.Dir y))) _ (ap is_some (destination_from _ perms e has))
                (and_from (not (is_mount t y)) _ plain.0
                (and_from (not (contains nat_cmp stays y)) _ (sym (empties_told y two.0 three.0) ∙ four.0)
                (sym (outsides t h well once (veiled (place.Dir y) perms e) y) ∙ four.1))))))
                ∙ ap (λ d. Some (device t d, cover_in t h d)) (above_row t well y s y row two.0 ∙ same))

    pub dirs_same : EachOnce h.veils → (on : Option ℕ) → StaysPut t h on → HaveSame (covers_on on (own_covers ++ entrances)) (dir_covers t h on)
    dirs_same once on put = have_same _ _ within all
      where
        within : (c : Cover) → Among (covers_on on (own_covers ++ entrances)) c → Among (dir_covers t h on) c
        within c a =
            let found = among_on on (own_covers ++ entrances) c a in
            subst (Among (dir_covers t h on)) found.3
            (elim (among_either own_covers entrances found.0 found.1) [
              | inl b ↦ (let at = own_dir_at found.0 b in
                  subst (Among (dir_covers t h on)) at.3 (way_by_c t h on at.0 at.1 (ap (is_device on) at.4 ∙ found.2) at.2))
              | inr b ↦ (let from = filter_map_among (entrance_cover t h stays (opened t h well)) (places_of h) found.0 b in
                  entrance_covers once on from.0 found.0 from.2 found.2)
            ])

        all : (c : Cover) → Among (dir_covers t h on) c → Among (covers_on on (own_covers ++ entrances)) c
        all c a =
            let test : ℕ → Bool = λ dir. is_on t on dir && is_way_in t h dir in
            let from = map_among (cover_in t h) (filter test (directories t)) c a in
            let d = filter_among test (directories t) from.0 from.1 in
            let both = and_parts (is_on t on from.0) _ d.1 in
            subst (Among (covers_on on (own_covers ++ entrances))) from.2
            (ways_gathered once on put from.0 (among_dir t well from.0 d.0) both.0 both.1)

  pub names_same : EachOnce h.veils → (on : Option ℕ) →
      HaveSame (covers_on on (filter_map (name_destination t h) (places_of h))) (name_covers t h on)
  names_same once on = have_same _ _ (λ c a. within c (among_on on (filter_map (name_destination t h) (places_of h)) c a))
      (λ c a. all c (filter_map_among (λ veil. veil_cover_at t h on veil.0 veil.1) (veils h) c a))
    where
      by_place : (at : Place) (p : ℕ × Cover) → name_destination t h at ≡ Some p → is_device on p.0 ≡ true → Among (name_covers t h on) p.1
      by_place (place.Slot d name) p e here =
          let parts = when_some _ _ p e in
          let found = with_some t d (destination h (place.Slot d name)) p parts.1 in
          let both = and_parts (is_dir t d) _ parts.0 in
          let veil = opening_is (perms_kept h (place.Slot d name)) p.1 found.0 in
          subst (Among (name_covers t h on)) (sym veil.2)
          (name_by_veil t h on d name veil.0 both.0 (ap (is_device on) found.1 ∙ here) veil.1 (ap has_c (sym veil.2) ∙ veil.3) both.1)
      by_place (place.Dir d) p e here = absurd (None≢Some p e)

      within : (c : Cover) → (p : ℕ × Cover) × Among (filter_map (name_destination t h) (places_of h)) p × (is_device on p.0 ≡ true) × (p.1 ≡ c) →
          Among (name_covers t h on) c
      within c (p, a, here, same) =
          let from = filter_map_among (name_destination t h) (places_of h) p a in
          subst (Among (name_covers t h on)) same (by_place from.0 p from.2 here)

      all : (c : Cover) → (veil : Place × ℕ) × Among (veils h) veil × (veil_cover_at t h on veil.0 veil.1 ≡ Some c) →
          Among (covers_on on (filter_map (name_destination t h) (places_of h))) c
      all c ((place.Slot d name, perms), a, e) =
          let parts = when_some _ _ c e in
          let one = and_parts (is_dir t d) _ parts.0 in
          let here = and_parts (is_on t on d) _ one.1 in
          let two = and_parts (has_c (Only perms)) _ here.1 in
          let veil = among_kept_at h.veils once (place.Slot d name) perms a in
          on_among on (filter_map (name_destination t h) (places_of h)) (device t d) c
          (among_filter_map (name_destination t h) (places_of h) (place.Slot d name) (device t d, c) (place_among h (place.Slot d name) perms veil)
          (when _ _ (and_from (is_dir t d) _ one.0 two.1) ∙ ap (with_device t d) (destination_from _ perms veil two.0 ∙ parts.1))) here.0
      all c ((place.Dir d, perms), a, e) = absurd (None≢Some c e)

  pub open_same : (on : Option ℕ) → StaysPut t h on → HaveSame (covers_on on own_covers) (open_covers t h on)
  open_same on put = have_same _ _ within all
    where
      within : (c : Cover) → Among (covers_on on own_covers) c → Among (open_covers t h on) c
      within c a =
          let found = among_on on own_covers c a in
          let at = own_dir_at found.0 found.1 in
          subst (Among (open_covers t h on)) (at.3 ∙ found.3) (open_by t h on at.0 at.1 (ap (is_device on) at.4 ∙ found.2) at.2)

      all : (c : Cover) → Among (open_covers t h on) c → Among (covers_on on own_covers) c
      all c a =
          let parts = filter_among has_c (map (cover_in t h) (filter (is_on t on) (directories t))) c a in
          let from = map_among (cover_in t h) (filter (is_on t on) (directories t)) c parts.0 in
          let here = filter_among (is_on t on) (directories t) from.0 from.1 in
          subst (Among (covers_on on own_covers)) from.2
          (by_own on put from.0 (among_dir t well from.0 here.0) here.1 (ap has_c from.2 ∙ parts.1))
