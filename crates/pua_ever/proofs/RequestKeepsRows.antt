-- One request keeps what is known of each row.
use Rattle.pua_ever.proofs.Common.{◌≡◌, ◌≢◌, ◌⊎◌, ◌≤◌, ◌<◌, ℕ, true, false, refl, sym, ap, subst, ◌∙◌, inl, inr, arith, Option, Some, None}
use Rattle.pua_ever.proofs.Common.{◌==◌, ◌++◌, is_some, option_map, false≢true, and_parts, eqb-true, Tree, WellFormed, Spot, is_dir, is_living}
use Rattle.pua_ever.proofs.Common.{zero, suc, Bool, Reaches, above, row_of, look, node_at, is_empty, has_no_row, empty_tree, sound_from, row_says, same_dir, CallTable, ProcessState}
use Rattle.pua_ever.proofs.Common.{perms_kept, IsMissing, covered_verdict, is_allowed, has_c, UncoveredStay, cover_in, own_or}
use Rattle.pua_ever.proofs.Common.{covers_descend, row_cover, can_link, has_c_outside, some_dir_moves, New, is_allowed_under, name_covers, dir_covers, can_make, can_move, VeilsStand}
use Rattle.pua_policy.specs.declared.place.Place.TheVariants as place
use Rattle.pua_script.proofs.ForCallers.{spared_twice}
use Rattle.pua_ever.proofs.Grown.{Grown, Written, by_name, by_turn, From, IsNear, is_new, is_moved, is_linked, Makes, name_cover, moved_has_c}
use Rattle.pua_tree.specs.Tree.{device}
use Rattle.std.specs.Prelude.{cond, unwrap_or}
use Rattle.pua_ever.proofs.Common.{Node, and_from, can_empty, can_yield, eq-eqb, is_mount, not, same_Some}
use Rattle.pua_ever.specs.Ever.{kept_on}
use Rattle.pua_ever.proofs.Devices.{devices_keep}
use Rattle.pua_ever.proofs.Ways.{any_among, on_same, open_by, open_among, moves_by}
use Rattle.pua_ever.proofs.Covers.{dir_row, own_dir, under_dir, living_dir, below_next}
use Rattle.pua_ever.proofs.Quiet.{quiet_then, never_turned, way_up}
use Rattle.pua_ever.proofs.Origins.{Fixed, Origin, linked, since, Entrance, by_veil, turned, still, Came, Known, Stays, DirUnder, at_rest}
use Rattle.pua_ever.proofs.Origins.{come, dir_under, fixed_covered, origin_on, same_then, name_under, could_empty, free_then}

module _ (table : CallTable) (t0 : Tree) (h : ProcessState) (well0 : WellFormed t0) (stand : VeilsStand t0 h) where
  abbrev Came0 : Tree → Spot → ℕ → Type 0
  Came0 = Came table t0 h well0 stand

  abbrev Stays0 : Tree → Type 0
  Stays0 = Stays table t0 h well0 stand

  abbrev Origin0 : ℕ → ℕ → Type 0
  Origin0 = Origin table t0 h well0 stand

  abbrev Entrance0 : Spot → ℕ → Type 0
  Entrance0 = Entrance table t0 h well0 stand

  abbrev Under0 : Tree → ℕ → Type 0
  Under0 = DirUnder table t0 h well0 stand

  module _ (t u : Tree) (k : Stays0 t) (well : WellFormed u) (grown : Grown table t h u) (spared : UncoveredStay h t u) where
    -- a node of t that lives still is what it was
    same_node : (x : ℕ) → is_living t x ≡ true → is_living u x ≡ true → node_at u x ≡ node_at t x
    same_node x was is = elim (grown.nodes x is) [
      | inl same ↦ same
      | inr born ↦ (let below = below_next t h k.well x was in let new = born.new in absurd (omega arith))
    ]

    lives : (s : Spot) (x : ℕ) → look u s.0 s.1 ≡ Some x → is_living u x ≡ true
    lives s x e = (row_says u (sound_from u well) s x e).2

    -- a directory of both trees is on its device
    on_device : (d : ℕ) → is_dir t d ≡ true → is_dir u d ≡ true → device u d ≡ device t d
    on_device d was is = devices_keep table t u h k.well well grown d was is

    -- a row by which its thing can be moved, by the tree before, came with its origin
    came_from : (r : Spot) (x : ℕ) → look t r.0 r.1 ≡ Some x → can_move table h (row_cover t h r x) ≡ true → Origin0 (device t r.0) x
    came_from r x e can = elim (k.rows r x e) [
      | inl fixed ↦ absurd (false≢true (sym fixed.1 ∙
          ap (can_move table h) (sym (fixed_covered table t0 h well0 stand t k r x e fixed)) ∙ can))
      | inr came ↦ came.origin
    ]

    origin_of : (to x : ℕ) (from : From table t h x) → IsNear table t h to x from → Origin0 (device t to) x
    origin_of to x (is_new new) near = since (let from = k.next in omega arith)
    origin_of to x (is_moved r e can) near =
        origin_on table t0 h well0 stand (device t r.0) (device t to) x (λ was at plain.
        let other : is_dir t x ≡ false = same_dir t0 t x (same_then table t0 h well0 stand t k was r x at e) ∙ plain in
        sym (ap (λ b. cond b (device t x) (device t r.0)) other) ∙ near) (came_from r x e can)
    origin_of to x (is_linked r e plain can) near = elim (k.rows r x e) [
      | inl fixed ↦ (let node = same_then table t0 h well0 stand t k r r x fixed.0 e in
          let covered = fixed_covered table t0 h well0 stand t k r x e fixed in
          linked r fixed.0 (sym (same_dir t0 t x node) ∙ plain)
          ((λ i. can_link table h (ap (option_map (λ n. n.kind)) (sym node) i) (sym covered i)) ∙ can)
          (sym (k.devices r.0 (row_says t0 (sound_from t0 well0) r x fixed.0).0 (row_says t (sound_from t k.well) r x e).0) ∙ near))
      | inr came ↦ origin_on table t0 h well0 stand (device t r.0) (device t to) x (λ was at plain. near) came.origin
    ]

    -- a directory that has `c` now had it at the beginning, or is not of the beginning
    had_c : (d : ℕ) → is_dir t0 d ≡ true → Under0 t d → has_c (cover_in t h d) ≡ true → has_c (cover_in t0 h d) ≡ true
    had_c d dir (at_rest is same) has = ap has_c (sym same) ∙ has
    had_c d dir (come a n had) has = moved_has_c table h (cover_in t0 h d) (had dir)

    -- a directory that can be moved is covered as one was that could be
    movable_then : (d : ℕ) → is_dir t d ≡ true → Under0 t d → can_move table h (cover_in t h d) ≡ true →
        some_dir_moves t0 table h (kept_on t0 h (device t d)) ≡ true
    movable_then d is (at_rest dir same) can =
        let was : can_move table h (cover_in t0 h d) ≡ true = ap (can_move table h) (sym same) ∙ can in
        let on = kept_on t0 h (device t d) in
        moves_by t0 h on table (cover_in t0 h d)
        (open_by t0 h on d dir (on_same t0 h d (device t d) (sym (k.devices d dir is))) (moved_has_c table h (cover_in t0 h d) was)) was
    movable_then d is (come a n had) can =
        let on = kept_on t0 h (device t d) in
        moves_by t0 h on table (cover_in t h d) (open_among t0 h on (cover_in t h d) a (moved_has_c table h (cover_in t h d) can)) can

    -- a directory whose cover is none by which anything is moved keeps it
    never_moved : (d : ℕ) → is_dir t d ≡ true → can_move table h (cover_in t h d) ≡ false → From table t h d → ⊥
    never_moved d dir stays (is_new new) = let below = below_next t h k.well d (living_dir t h k.well d dir) in omega (arith, new)
    never_moved d dir stays (is_linked r e plain can) = false≢true (sym plain ∙ dir)
    never_moved d dir stays (is_moved r e can) = false≢true (sym stays ∙ ap (can_move table h) (sym (dir_row t h k.well r d dir)) ∙ can)

    cover_stays_in : (steps d : ℕ) → Reaches u steps d → is_dir u d ≡ true → is_dir t d ≡ true → can_move table h (cover_in t h d) ≡ false →
        cover_in u h d ≡ cover_in t h d
    cover_stays_in zero d root is dir stays =
        ap (cover_in u h) root ∙ (covers_descend u h well).root ∙ sym (covers_descend t h k.well).root ∙ ap (cover_in t h) (sym root)
    cover_stays_in (suc steps) d up is dir stays = by (perms_kept h (place.Dir d)) refl (cover_stays_in steps (above u d) up.1)
      where
        by : (o : Option ℕ) → perms_kept h (place.Dir d) ≡ o
            → (is_dir u (above u d) ≡ true → is_dir t (above u d) ≡ true → can_move table h (cover_in t h (above u d)) ≡ false →
            cover_in u h (above u d) ≡ cover_in t h (above u d))
            → cover_in u h d ≡ cover_in t h d
        by (Some perms) own rest = own_dir u h well d perms is up.0 own ∙ sym (own_dir t h k.well d perms dir up.0 own)
        by None own rest =
            let row = row_of u (sound_from u well) d is up.0 in
            elim (grown.rows row.0 d row.1) [
              | inl there ↦ (let same = under_dir t h k.well row.0 d dir there own in
                  let over : cover_in u h row.0.0 ≡ cover_in t h row.0.0 =
                  ap (cover_in u h) (sym row.2) ∙
                  rest (ap (is_dir u) row.2 ∙ (row_says u (sound_from u well) row.0 d row.1).0)
                  (ap (is_dir t) row.2 ∙ (row_says t (sound_from t k.well) row.0 d there).0)
                  (ap (λ e. can_move table h (cover_in t h e)) row.2 ∙ ap (can_move table h) (sym same) ∙ stays) ∙
                  ap (cover_in t h) row.2 in
                  under_dir u h well row.0 d is row.1 own ∙ over ∙ sym same)
              | inr put ↦ absurd (never_moved d dir stays put.from)
            ]

    -- so what had `c` in the tree before has it still, or something can be moved there
    stays_open : (d : ℕ) → is_dir u d ≡ true → is_dir t d ≡ true → has_c (cover_in t h d) ≡ true →
        (has_c (cover_in u h d) ≡ true) ⊎ (some_dir_moves t0 table h (kept_on t0 h (device u d)) ≡ true)
    stays_open d is dir has = by (can_move table h (cover_in t h d)) refl
      where
        by : (b : Bool) → can_move table h (cover_in t h d) ≡ b →
            (has_c (cover_in u h d) ≡ true) ⊎ (some_dir_moves t0 table h (kept_on t0 h (device u d)) ≡ true)
        by true can = inr (subst (λ n. some_dir_moves t0 table h (kept_on t0 h n) ≡ true) (sym (on_device d dir is))
            (movable_then d dir (dir_under table t0 h well0 stand t k d dir) can))
        by false stays =
            let up = way_up u well 0 d is in
            inl (ap has_c (cover_stays_in up.0 d up.1 is dir stays) ∙ has)

    -- a mount point of the beginning stands where it stood
    mounts_then : (s : Spot) (x : ℕ) → look t0 s.0 s.1 ≡ Some x → is_mount t0 x ≡ true → look u s.0 s.1 ≡ Some x
    mounts_then s x at mount =
        let there = k.mounts s x at mount in
        let same = same_then table t0 h well0 stand t k s s x at there in
        grown.mounts s x there (ap (λ o. unwrap_or (option_map (λ (n : Node). n.mount) o) false) same ∙ mount)

    -- what stood in a directory without `c` and had `c` gave way
    gave_way : (s : Spot) (y x : ℕ) → look t s.0 s.1 ≡ Some y → look u s.0 s.1 ≡ Some x → is_dir t y ≡ true → is_empty t y ≡ true →
        has_c (cover_in t h y) ≡ true → is_dir t x ≡ true → From table t h x
        → is_dir t0 s.0 ≡ true → has_c (cover_in t0 h s.0) ≡ false → Entrance0 s x
    gave_way s y x e after dir empty has is from over lacks = elim (x == y) as (λ b. (x == y) ≡ b → Entrance0 s x) [
      | true ↦ λ same. subst (Entrance0 s) (sym (eqb-true x y same)) stood_so
      | false ↦ λ differs. by differs stood_so
    ] refl
      where
        stood_so : Entrance0 s y
        stood_so = elim (k.rows s y e) [
          | inl fixed ↦ (let was : is_dir t0 y ≡ true = sym (same_dir t0 t y (same_then table t0 h well0 stand t k s s y fixed.0 e)) ∙ dir in
              still fixed.0 was (ap has_c (sym (dir_row t0 h well0 s y was) ∙ sym (fixed_covered table t0 h well0 stand t k s y e fixed) ∙
              dir_row t h k.well s y dir) ∙ has))
          | inr came ↦ came.dir dir over lacks
        ]

        other : y ≢ 0
        other = (row_says t (sound_from t k.well) s y e).3

        more : (x == y) ≡ false → has_c_outside t0 h y ≡ true
        more differs = elim (has_c_outside t0 h y) as (λ b. has_c_outside t0 h y ≡ b → has_c_outside t0 h y ≡ true) [
          | true ↦ λ some. some
          | false ↦ λ none. absurd (never_turned table h t u k.well well grown spared y other (k.quiet y other none) x is from differs
              empty)
        ] refl

        -- a mount point would stand there still
        plain : (x == y) ≡ false → look t0 s.0 s.1 ≡ Some y → not (is_mount t0 y) ≡ true
        plain differs at = elim (is_mount t0 y) as (λ b. is_mount t0 y ≡ b → not b ≡ true) [
          | true ↦ λ mount. absurd (false≢true (sym differs ∙
              eq-eqb x y (same_Some x y (sym after ∙ mounts_then s y at mount))))
          | false ↦ λ none. refl
        ] refl

        yields : (x == y) ≡ false → look t0 s.0 s.1 ≡ Some y → can_yield t0 h y ≡ true
        yields differs at =
            and_from (not (is_mount t0 y)) _ (plain differs at)
            (and_from (can_empty t0 h y) _ (could_empty table t0 h well0 stand t k y empty) (more differs))

        by : (x == y) ≡ false → Entrance0 s y → Entrance0 s x
        by differs (by_veil perms e c) = by_veil perms e c
        by differs (turned z at is c can) = turned z at is c can
        by differs (still at is c) = turned y at is c (yields differs at)

    named_c : (s : Spot) → has_c (name_cover table t h s) ≡ true →
        has_c (own_or (perms_kept h (place.Slot s.0 s.1)) (cover_in t h s.0)) ≡ true
    named_c s has = ap has_c (sym ((covers_descend t h k.well).at_name s.0 s.1 None)) ∙ has

    put_file : (s : Spot) (x : ℕ) → look u s.0 s.1 ≡ Some x → is_dir t s.0 ≡ true → Written table t h s x → is_dir u x ≡ false →
        is_dir t0 s.0 ≡ true
        → has_c (own_or (perms_kept h (place.Slot s.0 s.1)) (cover_in t0 h s.0)) ≡ true
    put_file s x e over (by_name has) other dir = by (perms_kept h (place.Slot s.0 s.1)) (named_c s has)
      where
        by : (o : Option ℕ) → has_c (own_or o (cover_in t h s.0)) ≡ true → has_c (own_or o (cover_in t0 h s.0)) ≡ true
        by (Some perms) has = has
        by None has = had_c s.0 dir (dir_under table t0 h well0 stand t k s.0 over) has
    put_file s x e over (by_turn y at empty has is) other dir =
        absurd (false≢true (sym other ∙ same_dir t u x (same_node x (living_dir t h k.well x is) (lives s x e)) ∙ is))

    put_dir : (s : Spot) (x : ℕ) → look u s.0 s.1 ≡ Some x → is_dir t s.0 ≡ true → From table t h x → Written table t h s x →
        is_dir t0 s.0 ≡ true → has_c (cover_in t0 h s.0) ≡ false → Entrance0 s x
    put_dir s x after over from (by_name has) dir lacks = by (perms_kept h (place.Slot s.0 s.1)) refl (named_c s has)
      where
        by : (o : Option ℕ) → perms_kept h (place.Slot s.0 s.1) ≡ o → has_c (own_or o (cover_in t h s.0)) ≡ true → Entrance0 s x
        by (Some perms) e has = by_veil perms e has
        by None e has = absurd (false≢true (sym lacks ∙ had_c s.0 dir (dir_under table t0 h well0 stand t k s.0 over) has))
    put_dir s x after over from (by_turn y at empty has is) dir lacks =
        gave_way s y x at after (and_parts (is_dir t y) (has_no_row t y) empty).0 empty has is from dir lacks

    put_inner : (s : Spot) (x : ℕ) → look u s.0 s.1 ≡ Some x → is_dir t s.0 ≡ true → Written table t h s x → is_dir u x ≡ false →
        t0.next ≤ s.0 → (has_c (cover_in u h s.0) ≡ true) ⊎ (some_dir_moves t0 table h (kept_on t0 h (device u s.0)) ≡ true)
    put_inner s x e over (by_name has) other from = by (perms_kept h (place.Slot s.0 s.1)) refl (named_c s has)
      where
        by : (o : Option ℕ) → perms_kept h (place.Slot s.0 s.1) ≡ o → has_c (own_or o (cover_in t h s.0)) ≡ true →
            (has_c (cover_in u h s.0) ≡ true) ⊎ (some_dir_moves t0 table h (kept_on t0 h (device u s.0)) ≡ true)
        by (Some perms) e has = let below : s.0 < t0.next = stand (place.Slot s.0 s.1) perms e in absurd (omega arith)
        by None own has = stays_open s.0 (row_says u (sound_from u well) s x e).0 over has
    put_inner s x e over (by_turn y at empty has is) other from =
        absurd (false≢true (sym other ∙ same_dir t u x (same_node x (living_dir t h k.well x is) (lives s x e)) ∙ is))

    rows_then : (s : Spot) (x : ℕ) → look u s.0 s.1 ≡ Some x → Fixed table t0 h well0 stand s x ⊎ Came0 u s x
    rows_then s x e = elim (grown.rows s x e) [
      | inl there ↦ elim (k.rows s x there) [
        | inl fixed ↦ inl fixed
        | inr came ↦ (let same = same_dir t u x (same_node x (row_says t (sound_from t k.well) s x there).2 (lives s x e)) in
            let on = on_device s.0 (row_says t (sound_from t k.well) s x there).0 (row_says u (sound_from u well) s x e).0 in
            inr (record {
              origin = subst (λ n. Origin0 n x) (sym on) came.origin;
              file = λ other dir. came.file (sym same ∙ other) dir;
              dir = λ is dir lacks. came.dir (sym same ∙ is) dir lacks;
              inner = λ other from. elim (came.inner (sym same ∙ other) from) [
                | inl has ↦ stays_open s.0 (row_says u (sound_from u well) s x e).0 (row_says t (sound_from t k.well) s x there).0 has
                | inr some ↦ inr (subst (λ n. some_dir_moves t0 table h (kept_on t0 h n) ≡ true) (sym on) some)
              ];
            }))
      ]
      | inr put ↦ inr (record {
        origin = subst (λ n. Origin0 n x) (sym (on_device s.0 put.lives (row_says u (sound_from u well) s x e).0)) (origin_of s.0 x put.from put.near);
        file = λ other dir. put_file s x e put.lives put.written other dir;
        dir = λ is dir lacks. put_dir s x e put.lives put.from put.written dir lacks;
        inner = λ other from. put_inner s x e put.lives put.written other from;
      })
    ]

    can : (made : New) → Makes table t h made → can_make t0 table h made ≡ true
    can made makes =
        makes.makes (is_allowed_under table h (name_covers t0 h None ++ dir_covers t0 h None) IsMissing)
        (any_among (λ left. is_allowed (covered_verdict empty_tree table h makes.maker left IsMissing)) _ _
        (name_under table t0 h well0 stand t k makes.spot makes.lives (free_then table t0 h well0 stand t k makes.spot makes.free)
        (named_c makes.spot makes.covered))
        (ap (λ left. is_allowed (covered_verdict empty_tree table h makes.maker left IsMissing))
        (sym ((covers_descend t h k.well).at_name makes.spot.0 makes.spot.1 None)) ∙ makes.allowed))

    young_then : (x : ℕ) → t0.next ≤ x → is_living u x ≡ true → Known table t0 h well0 stand u x
    young_then x from is = elim (grown.nodes x is) [
      | inl same ↦ (let was = k.young x from (sym (ap is_some same) ∙ is) in
          record {
            made = was.made;
            kinds = ap (option_map (λ n. n.kind)) same ∙ was.kinds;
            plain = ap (λ o. unwrap_or (option_map (λ (n : Node). n.mount) o) false) same ∙ was.plain;
            can = was.can;
          })
      | inr born ↦ record { made = born.made; kinds = born.kinds; plain = born.unmarked; can = can born.made born.makes }
    ]

    old_then : (x : ℕ) → x < t0.next → is_living u x ≡ true → node_at u x ≡ node_at t0 x
    old_then x below is = elim (grown.nodes x is) [
      | inl same ↦ same ∙ k.old x below (sym (ap is_some same) ∙ is)
      | inr born ↦ (let new = born.new in let from = k.next in absurd (omega arith))
    ]

    -- a directory of the beginning that lives lived all the while
    devices_then : (d : ℕ) → is_dir t0 d ≡ true → is_dir u d ≡ true → device u d ≡ device t0 d
    devices_then d was is = on_device d lived is ∙ k.devices d was lived
      where
        lived : is_dir t d ≡ true
        lived = elim (grown.nodes d (living_dir u h well d is)) [
          | inl same ↦ sym (same_dir t u d same) ∙ is
          | inr born ↦ (let below = below_next t0 h well0 d (living_dir t0 h well0 d was) in let new = born.new in
              let from = k.next in absurd (omega (arith, below, new, from)))
        ]

    pub stays_then : Stays0 u
    stays_then = record {
      well = well;
      uncovered = spared_twice h t0 t u k.uncovered spared;
      rows = rows_then;
      old = old_then;
      young = young_then;
      next = let more = grown.next in let from = k.next in omega arith;
      devices = devices_then;
      quiet = λ y n none. quiet_then table h t u k.well well grown spared y n (k.quiet y n none);
      mounts = mounts_then;
    }
