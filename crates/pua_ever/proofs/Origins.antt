-- What stays true of each tree on the way, by the tree and the process at the beginning: where each row came from, and
-- so by what it is covered.
use Rattle.pua_ever.proofs.Common.{◌≡◌, ◌≢◌, ◌⊎◌, ◌≤◌, ◌<◌, ℕ, zero, suc, ◌++◌, Bool, true, false, refl, sym, ap, subst, ◌∙◌, inl, inr}
use Rattle.pua_ever.proofs.Common.{arith, Option, Some, None, not, ◌||◌, ◌==◌, list_any, false≢true, and_parts, not-true, or_right, Tree}
use Rattle.pua_ever.proofs.Common.{WellFormed, Spot, spot_cmp, is_dir, is_living, look, node_at, kind_at, above, is_empty, has_no_row}
use Rattle.pua_ever.proofs.Common.{Reaches, sound_from, row_says, row_of, same_Some, Some≢None, spots_total, exact_spots, same_dir}
use Rattle.pua_ever.proofs.Common.{CallTable, ProcessState, perms_kept, Only, has_c, UncoveredStay, cover_in, own_or, Among, among_left}
use Rattle.pua_ever.proofs.Common.{among_right, covers_descend, row_cover, is_free, can_leave, can_link, can_empty, can_yield, has_c_outside, dir_covers}
use Rattle.pua_ever.proofs.Common.{name_covers, open_covers, some_dir_moves, file_covers, New, can_make, can_move, VeilsStand, Cover}
use Rattle.pua_tree.proofs.ForCallers.{Sound, above_dir}
use Rattle.pua_tree.proofs.ForCallers.{none_found, all_from_found}
use Rattle.pua_policy.specs.declared.place.Place.TheVariants as place
use Rattle.pua_ever.proofs.Grown.{new_kind, moved_has_c}
use Rattle.pua_ever.proofs.Covers.{given_or_new, dir_row, slot_row, own_dir, under_dir, living_dir, below_next}
use Rattle.pua_ever.proofs.Quiet.{Quiet}
use Rattle.pua_tree.specs.Tree.{device}
use Rattle.pua_ever.specs.Ever.{is_on, kept_on}
use Rattle.pua_ever.proofs.Common.{◌&&◌, and_from, is_mount, is_none}
use Rattle.pua_ever.proofs.Devices.{device_at, device_over_row}
use Rattle.pua_ever.proofs.Mounts.{mount_lives}
use Rattle.pua_ever.proofs.Ways.{all_within, anywhere, on_same}
use Rattle.pua_ever.proofs.Ways.{way_by_c, way_by_name, way_by_turn, name_by_veil, open_by, open_among, moves_by, file_by_name}
use Rattle.pua_ever.proofs.Ways.{file_by_open, file_by_dir, quiet_dir, quiet_name}

module _ (table : CallTable) (t0 : Tree) (h : ProcessState) (well0 : WellFormed t0) (stand : VeilsStand t0 h) where
  -- a row by which nothing can be moved at the beginning
  abbrev pub Fixed : Spot → ℕ → Type 0
  Fixed s x = (look t0 s.0 s.1 ≡ Some x) × (can_move table h (row_cover t0 h s x) ≡ false)

  -- the devices under whose covers things come that are in a directory
  abbrev pub kept_in : Tree → ℕ → Option ℕ
  kept_in u d = kept_on t0 h (device u d)

  -- a thing that stood in a row by which it can be moved, or in one by which link gives it a further name, or was made since: on this device,
  -- if it is no directory
  pub data Origin (on x : ℕ) : Type 0 where
    stood : (r : Spot) → look t0 r.0 r.1 ≡ Some x → can_move table h (row_cover t0 h r x) ≡ true →
        (is_dir t0 x ≡ false → device t0 r.0 ≡ on) → Origin on x
    linked : (r : Spot) → look t0 r.0 r.1 ≡ Some x → is_dir t0 x ≡ false → can_link table h (kind_at t0 x) (row_cover t0 h r x) ≡ true →
        device t0 r.0 ≡ on → Origin on x
    since : t0.next ≤ x → Origin on x

  -- and on another, if that is the same
  pub origin_on : (m n x : ℕ) → ((r : Spot) → look t0 r.0 r.1 ≡ Some x → is_dir t0 x ≡ false → m ≡ n) → Origin m x → Origin n x
  origin_on m n x same (stood r at can near) = stood r at can (λ plain. near plain ∙ same r at plain)
  origin_on m n x same (linked r at plain can near) = linked r at plain can (near ∙ same r at plain)
  origin_on m n x same (since from) = since from

  -- how a directory can stand in a directory without `c`
  pub data Entrance (s : Spot) (x : ℕ) : Type 0 where
    by_veil : (perms : ℕ) → perms_kept h (place.Slot s.0 s.1) ≡ Some perms → has_c (Only perms) ≡ true → Entrance s x
    turned : (y : ℕ) → look t0 s.0 s.1 ≡ Some y → is_dir t0 y ≡ true → has_c (cover_in t0 h y) ≡ true → can_yield t0 h y ≡ true →
        Entrance s x
    still : look t0 s.0 s.1 ≡ Some x → is_dir t0 x ≡ true → has_c (cover_in t0 h x) ≡ true → Entrance s x

  pub record Came (u : Tree) (s : Spot) (x : ℕ) : Type 0 where
    pub origin : Origin (device u s.0) x
    pub file : is_dir u x ≡ false → is_dir t0 s.0 ≡ true → has_c (own_or (perms_kept h (place.Slot s.0 s.1)) (cover_in t0 h s.0)) ≡ true
    pub dir : is_dir u x ≡ true → is_dir t0 s.0 ≡ true → has_c (cover_in t0 h s.0) ≡ false → Entrance s x
    pub inner : is_dir u x ≡ false → t0.next ≤ s.0 → (has_c (cover_in u h s.0) ≡ true) ⊎ (some_dir_moves t0 table h (kept_in u s.0) ≡ true)

  pub record Known (u : Tree) (x : ℕ) : Type 0 where
    pub made : New
    pub kinds : kind_at u x ≡ Some (new_kind table made)
    pub plain : is_mount u x ≡ false
    pub can : can_make t0 table h made ≡ true

  pub record Stays (u : Tree) : Type 0 where
    pub well : WellFormed u
    pub uncovered : UncoveredStay h t0 u
    pub rows : (s : Spot) (x : ℕ) → look u s.0 s.1 ≡ Some x → Fixed s x ⊎ Came u s x
    pub old : (x : ℕ) → x < t0.next → is_living u x ≡ true → node_at u x ≡ node_at t0 x
    pub young : (x : ℕ) → t0.next ≤ x → is_living u x ≡ true → Known u x
    pub next : t0.next ≤ u.next
    pub devices : (d : ℕ) → is_dir t0 d ≡ true → is_dir u d ≡ true → device u d ≡ device t0 d
    pub quiet : (y : ℕ) → y ≢ 0 → has_c_outside t0 h y ≡ false → Quiet h y u
    pub mounts : (s : Spot) (x : ℕ) → look t0 s.0 s.1 ≡ Some x → is_mount t0 x ≡ true → look u s.0 s.1 ≡ Some x

  -- it is so at the beginning
  pub at_first : Stays t0
  at_first = record {
    well = well0;
    uncovered = λ s x here lacks. record { row = here; node = refl; covered = refl };
    rows = λ s x e. by s x e (can_move table h (row_cover t0 h s x)) refl;
    old = λ x below lives. refl;
    young = λ x from lives. let below = below_next t0 h well0 x lives in absurd (omega arith);
    next = omega arith;
    devices = λ d was is. refl;
    quiet = λ y n none. record {
      dirs = λ d is outside. quiet_dir t0 h y d none is outside;
      names = λ d name perms is outside e. quiet_name t0 h y d name perms none is outside e;
    };
    mounts = λ s x e mount. e;
  }
    where
      has : (s : Spot) (x : ℕ) → can_move table h (row_cover t0 h s x) ≡ true → has_c (row_cover t0 h s x) ≡ true
      has s x can = moved_has_c table h (row_cover t0 h s x) can

      by : (s : Spot) (x : ℕ) → look t0 s.0 s.1 ≡ Some x → (b : Bool) → can_move table h (row_cover t0 h s x) ≡ b → Fixed s x ⊎ Came t0 s x
      by s x e false is = inl (e, is)
      by s x e true is = inr (record {
        origin = stood s e is (λ plain. refl);
        file = λ other lives. ap has_c (sym (slot_row t0 h well0 s x other)) ∙ has s x is;
        dir = λ dir lives lacks. still e dir (ap has_c (sym (dir_row t0 h well0 s x dir)) ∙ has s x is);
        inner = λ other from. let below = below_next t0 h well0 s.0 (living_dir t0 h well0 s.0 (row_says t0 (sound_from t0 well0) s x e).0) in
            absurd (omega arith);
      })

  -- what a directory is covered by: as at the beginning, or as one that can come somewhere
  pub data DirUnder (u : Tree) (d : ℕ) : Type 0 where
    at_rest : is_dir t0 d ≡ true → cover_in u h d ≡ cover_in t0 h d → DirUnder u d
    come : Among (dir_covers t0 h (kept_in u d)) (cover_in u h d) → perms_kept h (place.Dir d) ≡ None →
        (is_dir t0 d ≡ true → can_move table h (cover_in t0 h d) ≡ true) → DirUnder u d

  module _ (u : Tree) (k : Stays u) where
    su : Sound u
    su = sound_from u k.well

    -- what lives still and lived then is as it was
    pub old_dir : (d : ℕ) → d < t0.next → is_dir u d ≡ true → is_dir t0 d ≡ true
    old_dir d below is = sym (same_dir t0 u d (k.old d below (living_dir u h k.well d is))) ∙ is

    -- what lives still and stood in a row then
    pub same_then : (r s : Spot) (x : ℕ) → look t0 r.0 r.1 ≡ Some x → look u s.0 s.1 ≡ Some x → node_at u x ≡ node_at t0 x
    same_then r s x then e = k.old x (below_next t0 h well0 x (row_says t0 (sound_from t0 well0) r x then).2) (row_says u su s x e).2

    dir_then : (r s : Spot) (x : ℕ) → look t0 r.0 r.1 ≡ Some x → look u s.0 s.1 ≡ Some x → is_dir u x ≡ true → is_dir t0 x ≡ true
    dir_then r s x then e is = sym (same_dir t0 u x (same_then r s x then e)) ∙ is

    -- without `c` nothing moves
    unmoved : (left : Cover) → has_c left ≡ false → can_move table h left ≡ false
    unmoved left lacks = by (can_move table h left) refl
      where
        by : (b : Bool) → can_move table h left ≡ b → can_move table h left ≡ false
        by false e = e
        by true e = absurd (false≢true (sym lacks ∙ moved_has_c table h left e))

    -- what can't leave its row stays there
    pub stays_there : (s : Spot) (y : ℕ) → look t0 s.0 s.1 ≡ Some y → can_leave t0 h s y ≡ false → look u s.0 s.1 ≡ Some y
    stays_there s y at = by (has_c (row_cover t0 h s y)) (is_mount t0 y) refl refl
      where
        by : (c m : Bool) → has_c (row_cover t0 h s y) ≡ c → is_mount t0 y ≡ m → (c && not m) ≡ false → look u s.0 s.1 ≡ Some y
        by false m lacks is none = (k.uncovered s y at lacks).row
        by true true has is none = k.mounts s y at is
        by true false has is none = absurd (false≢true (sym none))

    -- a name at which something stands could come to be free, or what stands there can't be moved: it lacks `c`, or is a mount point
    abbrev Mounted : Spot → ℕ → Type 0
    Mounted s x = (look t0 s.0 s.1 ≡ Some x) × (is_mount t0 x ≡ true)

    pub free_or_fixed : (s : Spot) (x : ℕ) → look u s.0 s.1 ≡ Some x → (is_free t0 h s ≡ true) ⊎ (Fixed s x ⊎ Mounted s x)
    free_or_fixed s x e = by (look t0 s.0 s.1) refl
      where
        held : (y : ℕ) → look t0 s.0 s.1 ≡ Some y → (c m : Bool) → has_c (row_cover t0 h s y) ≡ c → is_mount t0 y ≡ m →
            (c && not m) ≡ false → Fixed s y ⊎ Mounted s y
        held y is false m lacks mount none = inl (is, unmoved (row_cover t0 h s y) lacks)
        held y is true true has mount none = inr (is, mount)
        held y is true false has mount none = absurd (false≢true (sym none))

        at : (y : ℕ) → look t0 s.0 s.1 ≡ Some y → (b : Bool) → can_leave t0 h s y ≡ b → (is_free t0 h s ≡ true) ⊎ (Fixed s x ⊎ Mounted s x)
        at y is true leaves = inl (rw is leaves)
        at y is false stays =
            let same : y ≡ x = same_Some y x (sym (stays_there s y is stays) ∙ e) in
            inr (subst (λ z. Fixed s z ⊎ Mounted s z) same (held y is (has_c (row_cover t0 h s y)) (is_mount t0 y) refl refl stays))

        by : (o : Option ℕ) → look t0 s.0 s.1 ≡ o → (is_free t0 h s ≡ true) ⊎ (Fixed s x ⊎ Mounted s x)
        by None is = inl (rw is refl)
        by (Some y) is = at y is (can_leave t0 h s y) refl

    -- a directory of the beginning is on its device
    on_it : (d : ℕ) → is_dir t0 d ≡ true → is_dir u d ≡ true → is_on t0 (kept_in u d) d ≡ true
    on_it d was is = on_same t0 h d (device u d) (sym (k.devices d was is))

    -- the cover of a directory that has `c` at the beginning and lies still is one that things can come under
    rest_way : (d : ℕ) → is_dir t0 d ≡ true → is_dir u d ≡ true → cover_in u h d ≡ cover_in t0 h d → has_c (cover_in t0 h d) ≡ true →
        Among (dir_covers t0 h (kept_in u d)) (cover_in u h d)
    rest_way d was is same has = subst (Among (dir_covers t0 h (kept_in u d))) (sym same) (way_by_c t0 h (kept_in u d) d was (on_it d was is) has)

    -- a directory that came where it has no veil of its own
    came_under : (s : Spot) (d : ℕ) → look u s.0 s.1 ≡ Some d → is_dir u d ≡ true → perms_kept h (place.Dir d) ≡ None → Came u s d →
        DirUnder u s.0 → DirUnder u d
    came_under s d e is none came over =
        come (subst (Among (dir_covers t0 h (kept_in u d))) (sym (under_dir u h k.well s d is e none)) (moved (by over))) none (had came.origin)
      where
        had : Origin (device u s.0) d → is_dir t0 d ≡ true → can_move table h (cover_in t0 h d) ≡ true
        had (stood r at can near) dir = ap (can_move table h) (sym (dir_row t0 h well0 r d dir)) ∙ can
        had (linked r at plain can near) dir = absurd (false≢true (sym plain ∙ dir))
        had (since from) dir = let below = below_next t0 h well0 d (living_dir t0 h well0 d dir) in absurd (omega arith)

        over_lives : is_dir u s.0 ≡ true
        over_lives = (row_says u su s d e).0

        -- a mount point that came goes along
        goes : is_mount u d ≡ true → kept_in u d ≡ None
        goes mount = elim (given_or_new t0 d) [
          | inl below ↦ (let dir = old_dir d below is in
              ap (kept_on t0 h) (device_at u k.well d is mount) ∙
              anywhere t0 h d (and_from (is_none (perms_kept h (place.Dir d))) _ (ap is_none none)
              (moved_has_c table h (cover_in t0 h d) (had came.origin dir))))
          | inr from ↦ absurd (false≢true (sym (k.young d from (living_dir u h k.well d is)).plain ∙ mount))
        ]

        moved : Among (dir_covers t0 h (kept_in u s.0)) (cover_in u h s.0) → Among (dir_covers t0 h (kept_in u d)) (cover_in u h s.0)
        moved a = elim (is_mount u d) as (λ b. is_mount u d ≡ b → Among (dir_covers t0 h (kept_in u d)) (cover_in u h s.0)) [
          | true ↦ λ mount. subst (λ on. Among (dir_covers t0 h on) (cover_in u h s.0)) (sym (goes mount))
              (all_within t0 h (kept_in u s.0) (cover_in u h s.0) a)
          | false ↦ λ plain. subst (λ n. Among (dir_covers t0 h (kept_on t0 h n)) (cover_in u h s.0)) (sym (device_over_row u k.well s d e is plain)) a
        ] refl

        entered : is_dir t0 s.0 ≡ true → has_c (cover_in t0 h s.0) ≡ false → Entrance s d →
            Among (dir_covers t0 h (kept_in u s.0)) (cover_in t0 h s.0)
        entered lives lacks (by_veil perms is_kept has) = elim (free_or_fixed s d e) [
          | inl free ↦ way_by_name t0 h (kept_in u s.0) s.0 s.1 perms lives (on_it s.0 lives over_lives) is_kept has free
          | inr other ↦ absurd (fixed_never (elim other [ inl fixed ↦ fixed | inr mount ↦ lacks_too mount ]))
        ]
          where
            -- a mount point is covered as what it stands in
            lacks_too : Mounted s d → Fixed s d
            lacks_too mount =
                let was : is_dir t0 d ≡ true = dir_then s s d mount.0 e is in
                (mount.0, unmoved (row_cover t0 h s d) (ap has_c (dir_row t0 h well0 s d was ∙ under_dir t0 h well0 s d was mount.0 none) ∙ lacks))

            fixed_never : Fixed s d → ⊥
            fixed_never fixed = never fixed came.origin
              where
                never : Fixed s d → Origin (device u s.0) d → ⊥
                never fixed (stood r at can near) =
                    let dir : is_dir t0 d ≡ true = dir_then s s d fixed.0 e is in
                    false≢true (sym fixed.1 ∙ ap (can_move table h) (dir_row t0 h well0 s d dir ∙ sym (dir_row t0 h well0 r d dir)) ∙ can)
                never fixed (linked r at plain can near) = false≢true (sym plain ∙ dir_then s s d fixed.0 e is)
                never fixed (since from) =
                    let below = below_next t0 h well0 d (row_says t0 (sound_from t0 well0) s d fixed.0).2 in absurd (omega arith)
        entered lives lacks (turned y at dir has yields) = way_by_turn t0 h (kept_in u s.0) s.0 s.1 y lives (on_it s.0 lives over_lives) at dir has yields
        entered lives lacks (still at dir has) =
            absurd (false≢true (sym lacks ∙ ap has_c (sym (under_dir t0 h well0 s d dir at none)) ∙ has))

        by : DirUnder u s.0 → Among (dir_covers t0 h (kept_in u s.0)) (cover_in u h s.0)
        by (come a n l) = a
        by (at_rest lives same) = elim (has_c (cover_in t0 h s.0)) as (λ b. has_c (cover_in t0 h s.0) ≡ b →
            Among (dir_covers t0 h (kept_in u s.0)) (cover_in u h s.0)) [
              | true ↦ λ has. rest_way s.0 lives over_lives same has
              | false ↦ λ lacks. subst (Among (dir_covers t0 h (kept_in u s.0))) (sym same) (entered lives lacks (came.dir is lives lacks))
            ] refl

    -- a directory that stays where it was is covered as what it stands in, which can't be moved either
    fixed_under : (s : Spot) (d : ℕ) → look u s.0 s.1 ≡ Some d → is_dir u d ≡ true → perms_kept h (place.Dir d) ≡ None → Fixed s d →
        DirUnder u s.0 → DirUnder u d
    fixed_under s d e is none fixed over = by over
      where
        dir : is_dir t0 d ≡ true
        dir = dir_then s s d fixed.0 e is

        under_then : cover_in t0 h d ≡ cover_in t0 h s.0
        under_then = under_dir t0 h well0 s d dir fixed.0 none

        by : DirUnder u s.0 → DirUnder u d
        by (at_rest lives same) = at_rest dir (under_dir u h k.well s d is e none ∙ same ∙ sym under_then)
        by (come a n had) = absurd (false≢true (sym fixed.1 ∙ ap (can_move table h) (dir_row t0 h well0 s d dir ∙ under_then) ∙
            had (row_says t0 (sound_from t0 well0) s d fixed.0).0))

    under : (steps d : ℕ) → Reaches u steps d → is_dir u d ≡ true → DirUnder u d
    under zero d root is =
        at_rest (ap (is_dir t0) root ∙ well0.root)
        (ap (cover_in u h) root ∙ (covers_descend u h k.well).root ∙ sym (covers_descend t0 h well0).root ∙ ap (cover_in t0 h) (sym root))
    under (suc steps) d up is = by (perms_kept h (place.Dir d)) refl (under steps (above u d) up.1 (above_dir u su d is up.0))
      where
        by : (o : Option ℕ) → perms_kept h (place.Dir d) ≡ o → DirUnder u (above u d) → DirUnder u d
        by (Some perms) own over =
            let dir = old_dir d (stand (place.Dir d) perms own) is in
            at_rest dir (own_dir u h k.well d perms is up.0 own ∙ sym (own_dir t0 h well0 d perms dir up.0 own))
        by None own over =
            let row = row_of u su d is up.0 in
            elim (k.rows row.0 d row.1) [
              | inl fixed ↦ fixed_under row.0 d row.1 is own fixed (subst (DirUnder u) row.2 over)
              | inr came ↦ came_under row.0 d row.1 is own came (subst (DirUnder u) row.2 over)
            ]

    pub dir_under : (d : ℕ) → is_dir u d ≡ true → DirUnder u d
    dir_under zero is = under zero 0 refl is
    dir_under (suc d) is = let way = su.rooted (suc d) is (λ e. omega (arith, e)) in under way.0 (suc d) way.1 is

    -- what stays where it was is covered as it was
    pub fixed_covered : (s : Spot) (x : ℕ) → look u s.0 s.1 ≡ Some x → Fixed s x → row_cover u h s x ≡ row_cover t0 h s x
    fixed_covered s x e fixed = by (is_dir u x) refl
      where
        same : is_dir u x ≡ is_dir t0 x
        same = same_dir t0 u x (same_then s s x fixed.0 e)

        at_dir : is_dir u x ≡ true → is_dir t0 x ≡ true → DirUnder u x → row_cover u h s x ≡ row_cover t0 h s x
        at_dir is was (at_rest _ covers) = dir_row u h k.well s x is ∙ covers ∙ sym (dir_row t0 h well0 s x was)
        at_dir is was (come a n had) = absurd (false≢true (sym fixed.1 ∙ ap (can_move table h) (dir_row t0 h well0 s x was) ∙ had was))

        at_name : is_dir t0 x ≡ false → (o : Option ℕ) → perms_kept h (place.Slot s.0 s.1) ≡ o → DirUnder u s.0 →
            own_or o (cover_in u h s.0) ≡ own_or o (cover_in t0 h s.0)
        at_name plain (Some perms) own over = refl
        at_name plain None own (at_rest _ covers) = covers
        at_name plain None own (come a n had) =
            absurd (false≢true (sym fixed.1 ∙ ap (can_move table h) (slot_row t0 h well0 s x plain ∙
            ap (λ o. own_or o (cover_in t0 h s.0)) own) ∙ had (row_says t0 (sound_from t0 well0) s x fixed.0).0))

        by : (b : Bool) → is_dir u x ≡ b → row_cover u h s x ≡ row_cover t0 h s x
        by true is = at_dir is (sym same ∙ is) (dir_under x is)
        by false other =
            let plain = sym same ∙ other in
            slot_row u h k.well s x other ∙
            at_name plain (perms_kept h (place.Slot s.0 s.1)) refl (dir_under s.0 (row_says u su s x e).0) ∙
            sym (slot_row t0 h well0 s x plain)

    -- what a name is covered by at which nothing or no directory stands, if it has `c`
    pub name_under : (s : Spot) → is_dir u s.0 ≡ true → is_free t0 h s ≡ true →
        has_c (own_or (perms_kept h (place.Slot s.0 s.1)) (cover_in u h s.0)) ≡ true
        → Among (name_covers t0 h None ++ dir_covers t0 h None) (own_or (perms_kept h (place.Slot s.0 s.1)) (cover_in u h s.0))
    name_under s is free = by (perms_kept h (place.Slot s.0 s.1)) refl
      where
        at_dir : DirUnder u s.0 → has_c (cover_in u h s.0) ≡ true → Among (dir_covers t0 h None) (cover_in u h s.0)
        at_dir (come a n l) has = all_within t0 h (kept_in u s.0) (cover_in u h s.0) a
        at_dir (at_rest lives same) has =
            all_within t0 h (kept_in u s.0) (cover_in u h s.0) (rest_way s.0 lives is same (ap has_c (sym same) ∙ has))

        by : (o : Option ℕ) → perms_kept h (place.Slot s.0 s.1) ≡ o → has_c (own_or o (cover_in u h s.0)) ≡ true →
            Among (name_covers t0 h None ++ dir_covers t0 h None) (own_or o (cover_in u h s.0))
        by (Some perms) e has =
            among_left (name_covers t0 h None) (dir_covers t0 h None) (Only perms)
            (name_by_veil t0 h None s.0 s.1 perms (old_dir s.0 (stand (place.Slot s.0 s.1) perms e) is) refl e has free)
        by None e has = among_right (name_covers t0 h None) (dir_covers t0 h None) (cover_in u h s.0) (at_dir (dir_under s.0 is) has)

    -- what is no directory: it stays as it was, or came under one of the covers
    pub file_under : (s : Spot) (x : ℕ) → look u s.0 s.1 ≡ Some x → is_dir u x ≡ false →
        Fixed s x ⊎ (Came u s x × Among (file_covers t0 table h (kept_in u s.0)) (row_cover u h s x))
    file_under s x e other = elim (k.rows s x e) [
      | inl fixed ↦ inl fixed
      | inr came ↦ elim (free_or_fixed s x e) [
        | inr held ↦ elim held [
          | inl fixed ↦ inl fixed
          | inr mount ↦ absurd (false≢true (sym other ∙ same_dir t0 u x (same_then s s x mount.0 e) ∙ mount_lives t0 well0 x mount.1))
        ]
        | inl free ↦ inr (
          came,
          subst (Among (file_covers t0 table h (kept_in u s.0))) (sym (slot_row u h k.well s x other)) (by came free (perms_kept h (place.Slot s.0 s.1)) refl),
        )
      ]
    ]
      where
        lives : is_dir u s.0 ≡ true
        lives = (row_says u su s x e).0

        -- a file in it can be moved with a directory of the beginning
        with_old : is_dir t0 s.0 ≡ true → can_move table h (cover_in t0 h s.0) ≡ true → some_dir_moves t0 table h (kept_in u s.0) ≡ true
        with_old dir can =
            moves_by t0 h (kept_in u s.0) table (cover_in t0 h s.0)
            (open_by t0 h (kept_in u s.0) s.0 dir (on_it s.0 dir lives) (moved_has_c table h (cover_in t0 h s.0) can)) can

        at_dir : Came u s x → perms_kept h (place.Slot s.0 s.1) ≡ None → DirUnder u s.0 → Among (file_covers t0 table h (kept_in u s.0)) (cover_in u h s.0)
        at_dir came none (at_rest dir same) =
            let has : has_c (cover_in t0 h s.0) ≡ true = ap (λ o. has_c (own_or o (cover_in t0 h s.0))) (sym none) ∙ came.file other dir in
            file_by_open t0 h (kept_in u s.0) table (cover_in u h s.0)
            (subst (Among (open_covers t0 h (kept_in u s.0))) (sym same) (open_by t0 h (kept_in u s.0) s.0 dir (on_it s.0 dir lives) has))
        at_dir came none (come a n had) = elim (given_or_new t0 s.0) [
          | inl below ↦ (let dir = old_dir s.0 below lives in file_by_dir t0 h (kept_in u s.0) table (cover_in u h s.0) a (with_old dir (had dir)))
          | inr from ↦ elim (came.inner other from) [
            | inl has ↦ file_by_open t0 h (kept_in u s.0) table (cover_in u h s.0) (open_among t0 h (kept_in u s.0) (cover_in u h s.0) a has)
            | inr some ↦ file_by_dir t0 h (kept_in u s.0) table (cover_in u h s.0) a some
          ]
        ]

        by : Came u s x → is_free t0 h s ≡ true → (o : Option ℕ) → perms_kept h (place.Slot s.0 s.1) ≡ o →
            Among (file_covers t0 table h (kept_in u s.0)) (own_or o (cover_in u h s.0))
        by came free (Some perms) is =
            let dir = old_dir s.0 (stand (place.Slot s.0 s.1) perms is) lives in
            let has : has_c (Only perms) ≡ true = ap (λ o. has_c (own_or o (cover_in t0 h s.0))) (sym is) ∙ came.file other dir in
            file_by_name t0 h (kept_in u s.0) table (Only perms)
            (name_by_veil t0 h (kept_in u s.0) s.0 s.1 perms dir (on_it s.0 dir lives) is has free)
        by came free None is = at_dir came is (dir_under s.0 lives)

    -- a directory in which nothing stands could come to be empty at the beginning
    pub could_empty : (y : ℕ) → is_empty u y ≡ true → can_empty t0 h y ≡ true
    could_empty y empty =
        all_from_found spot_cmp spots_total exact_spots (λ row. not (row.0.0 == y) || can_leave t0 h row.0 row.1) t0.rows
        (sound_from t0 well0).rows_sorted
        (λ s z e. by s z e (s.0 == y) (can_leave t0 h s z) refl refl)
      where
        none : list_any (λ (row : Spot × ℕ). row.0.0 == y) u.rows ≡ false
        none = not-true _ (and_parts (is_dir u y) (has_no_row u y) empty).1

        by : (s : Spot) (z : ℕ) → look t0 s.0 s.1 ≡ Some z → (a b : Bool) → (s.0 == y) ≡ a → can_leave t0 h s z ≡ b →
            (not (s.0 == y) || can_leave t0 h s z) ≡ true
        by s z e false b other leaves = ap (λ a. not a || can_leave t0 h s z) other
        by s z e a true other leaves = or_right (not (s.0 == y)) _ leaves
        by s z e true false here stays =
            absurd (false≢true (sym (none_found spot_cmp spots_total exact_spots (λ (row : Spot × ℕ). row.0.0 == y) u.rows none s z
            (stays_there s z e stays)) ∙ here))

    -- a name at which nothing stands could come to be free at the beginning
    pub free_then : (s : Spot) → look u s.0 s.1 ≡ None → is_free t0 h s ≡ true
    free_then s none = by (look t0 s.0 s.1) refl
      where
        at : (y : ℕ) → look t0 s.0 s.1 ≡ Some y → (b : Bool) → can_leave t0 h s y ≡ b → can_leave t0 h s y ≡ true
        at y is true leaves = leaves
        at y is false stays = absurd (Some≢None y (sym (stays_there s y is stays) ∙ none))

        by : (o : Option ℕ) → look t0 s.0 s.1 ≡ o → is_free t0 h s ≡ true
        by None is = rw is refl
        by (Some y) is = rw is (at y is (can_leave t0 h s y) refl)
