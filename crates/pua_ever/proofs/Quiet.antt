-- Where nothing outside of a directory has `c`, nothing outside of it comes to have it, and nothing is moved onto it.
use Rattle.pua_ever.proofs.Common.{◌≡◌, ◌≢◌, ℕ, zero, suc, List, Bool, true, false, refl, sym, ap, ◌∙◌, inl, inr, arith, Option, Some, None}
use Rattle.pua_ever.proofs.Common.{◌||◌, ◌==◌, list_any, false≢true, and_parts, not-true, eqb-true, or_left, Tree, WellFormed, Spot}
use Rattle.pua_ever.proofs.Common.{spot_cmp, is_dir, is_living, look, node_at, above, climb, is_empty, has_no_row, Reaches, sound_from}
use Rattle.pua_ever.proofs.Common.{row_says, row_of, spots_total, exact_spots, same_dir, CallTable, ProcessState, perms_kept, Only, has_c}
use Rattle.pua_ever.proofs.Common.{UncoveredStay, cover_in, own_or, covers_descend, is_below, row_cover}
use Rattle.pua_tree.proofs.ForCallers.{above_is}
use Rattle.pua_tree.proofs.ForCallers.{none_found}
use Rattle.pua_policy.proofs.ForCallers.{climb_step, climb_root}
use Rattle.pua_policy.specs.declared.place.Place.TheVariants as place
use Rattle.pua_ever.proofs.Grown.{Grown, Written, by_name, by_turn, From, is_new, is_moved, is_linked, Put, name_cover, moved_has_c}
use Rattle.pua_ever.proofs.Covers.{dir_row, living_dir, below_next}

-- nothing with `c` is outside
pub record Quiet (h : ProcessState) (y : ℕ) (t : Tree) : Type 0 where
  pub dirs : (d : ℕ) → is_dir t d ≡ true → is_below t y d ≡ false → has_c (cover_in t h d) ≡ false
  pub names : (d : ℕ) (name : List ℕ) (perms : ℕ) → is_dir t d ≡ true → is_below t y d ≡ false →
      perms_kept h (place.Slot d name) ≡ Some perms → has_c (Only perms) ≡ false

module _ (t : Tree) (well : WellFormed t) (y : ℕ) where
  -- what is below goes up
  pub below_self : (d : ℕ) → (d == y) ≡ true → is_dir t d ≡ true → is_below t y d ≡ true
  below_self zero same is = ap (list_any (λ e. e == y)) (climb_root t) ∙ or_left (0 == y) false same
  below_self (suc d) same is = ap (list_any (λ e. e == y)) (climb_step t well (suc d) (λ e. omega (arith, e)) is) ∙
      or_left (suc d == y) _ same

  pub below_up : (d : ℕ) → (d == y) ≡ false → d ≢ 0 → is_dir t d ≡ true → is_below t y d ≡ is_below t y (above t d)
  below_up d other n is = ap (list_any (λ e. e == y)) (climb_step t well d n is) ∙
      ap (λ b. b || list_any (λ e. e == y) (climb t (above t d))) other

  pub above_row : (s : Spot) (d : ℕ) → look t s.0 s.1 ≡ Some d → is_dir t d ≡ true → above t d ≡ s.0
  above_row s d e is = let n = (row_says t (sound_from t well) s d e).3 in above_is t d s n ((sound_from t well).once d is n) e

  pub root_below : y ≢ 0 → is_below t y 0 ≡ false
  root_below n = ap (list_any (λ e. e == y)) (climb_root t) ∙ by (0 == y) refl
    where
      by : (b : Bool) → (0 == y) ≡ b → (b || false) ≡ false
      by false e = refl
      by true e = absurd (n (sym (eqb-true 0 y e)))

  -- something stands in a directory that another one is below
  pub not_empty : y ≢ 0 → (steps d : ℕ) → Reaches t steps d → is_dir t d ≡ true → (d == y) ≡ false → is_below t y d ≡ true →
      has_no_row t y ≡ true → ⊥
  not_empty n zero d root is other below none = false≢true (sym (ap (is_below t y) root ∙ root_below n) ∙ below)
  not_empty n (suc steps) d up is other below none = by (above t d == y) refl (not_empty n steps (above t d) up.1)
    where
      row : (s : Spot) × (look t s.0 s.1 ≡ Some d) × (above t d ≡ s.0)
      row = row_of t (sound_from t well) d is up.0

      no_row : list_any (λ (r : Spot × ℕ). r.0.0 == y) t.rows ≡ false
      no_row = not-true _ none

      by : (b : Bool) → (above t d == y) ≡ b → (is_dir t (above t d) ≡ true → (above t d == y) ≡ false → is_below t y (above t d) ≡ true →
          has_no_row t y ≡ true → ⊥) → ⊥
      by true same rest =
          false≢true (sym (none_found spot_cmp spots_total exact_spots (λ (r : Spot × ℕ). r.0.0 == y) t.rows no_row row.0 d row.1) ∙
          ap (λ z. z == y) (sym row.2) ∙ same)
      by false differs rest =
          rest (ap (is_dir t) row.2 ∙ (row_says t (sound_from t well) row.0 d row.1).0) differs (sym (below_up d other up.0 is) ∙
          below) none

  pub way_up : (d : ℕ) → is_dir t d ≡ true → (steps : ℕ) × Reaches t steps d
  way_up zero is = (0, refl)
  way_up (suc d) is = (sound_from t well).rooted (suc d) is (λ e. omega (arith, e))

module _ (table : CallTable) (h : ProcessState) (t u : Tree) (well : WellFormed t) (well_then : WellFormed u) (grown : Grown table t h u)
    (spared : UncoveredStay h t u) (y : ℕ) (n : y ≢ 0) (quiet : Quiet h y t) where
  -- what has `c` is inside
  inside_name : (s : Spot) → is_dir t s.0 ≡ true → has_c (name_cover table t h s) ≡ true → is_below t y s.0 ≡ true
  inside_name s is has = by (is_below t y s.0) refl
    where
      at : is_below t y s.0 ≡ false → (o : Option ℕ) → perms_kept h (place.Slot s.0 s.1) ≡ o → has_c (own_or o (cover_in t h s.0)) ≡ true →
          ⊥
      at outside (Some perms) e has = false≢true (sym (quiet.names s.0 s.1 perms is outside e) ∙ has)
      at outside None e has = false≢true (sym (quiet.dirs s.0 is outside) ∙ has)

      by : (b : Bool) → is_below t y s.0 ≡ b → is_below t y s.0 ≡ true
      by true e = e
      by false outside = absurd (at outside (perms_kept h (place.Slot s.0 s.1)) refl
          (ap has_c (sym ((covers_descend t h well).at_name s.0 s.1 None)) ∙ has))

  inside_dir : (d : ℕ) → is_dir t d ≡ true → has_c (cover_in t h d) ≡ true → is_below t y d ≡ true
  inside_dir d is has = by (is_below t y d) refl
    where
      by : (b : Bool) → is_below t y d ≡ b → is_below t y d ≡ true
      by true e = e
      by false outside = absurd (false≢true (sym (quiet.dirs d is outside) ∙ has))

  -- nothing else is moved onto the directory
  pub never_turned : (x : ℕ) → is_dir t x ≡ true → From table t h x → (x == y) ≡ false → is_empty t y ≡ true → ⊥
  never_turned x is (is_new new) other empty = let below = below_next t h well x (living_dir t h well x is) in absurd (omega (arith, new))
  never_turned x is (is_linked r e plain can) other empty = absurd (false≢true (sym plain ∙ is))
  never_turned x is (is_moved r e can) other empty =
      let way = way_up t well y x is in
      not_empty t well y n way.0 x way.1 is other (inside_dir x is (ap has_c (sym (dir_row t h well r x is)) ∙
      moved_has_c table h (row_cover t h r x) can))
      (and_parts (is_dir t y) (has_no_row t y) empty).1

  -- where a row was written is inside
  put_inside : (s : Spot) (x : ℕ) → Put table t h s x → (look t s.0 s.1 ≡ Some x → is_below t y s.0 ≡ true) → is_below t y s.0 ≡ true
  put_inside s x put there = by put.written
    where
      by : Written table t h s x → is_below t y s.0 ≡ true
      by (by_name has) = inside_name s put.lives has
      by (by_turn z at empty has is) = elim (z == y) as (λ b. (z == y) ≡ b → is_below t y s.0 ≡ true) [
        | true ↦ λ same.
            let zy : z ≡ y = eqb-true z y same in
            elim (x == y) as (λ b. (x == y) ≡ b → is_below t y s.0 ≡ true) [
              | true ↦ λ this. there (at ∙ ap Some (zy ∙ sym (eqb-true x y this)))
              | false ↦ λ differs. absurd (never_turned x is put.from differs (ap (is_empty t) (sym zy) ∙ empty))
            ] refl
        | false ↦ λ other.
            let dir = (and_parts (is_dir t z) (has_no_row t z) empty).0 in
            let m = (row_says t (sound_from t well) s z at).3 in
            ap (is_below t y) (sym (above_row t well y s z at dir)) ∙ sym (below_up t well y z other m dir) ∙ inside_dir z dir has
      ] refl

  same_node : (x : ℕ) → is_living t x ≡ true → is_living u x ≡ true → node_at u x ≡ node_at t x
  same_node x was is = elim (grown.nodes x is) [
    | inl same ↦ same
    | inr born ↦ (let below = below_next t h well x was in let new = born.new in absurd (omega arith))
  ]

  -- what was inside is inside still
  inside_then : (steps d : ℕ) → Reaches u steps d → is_dir u d ≡ true → (is_dir t d ≡ true → is_below t y d ≡ true) → is_below u y d ≡ true
  inside_then zero d root is was =
      absurd (false≢true (sym (ap (is_below t y) root ∙ root_below t well y n) ∙ was (ap (is_dir t) root ∙ well.root)))
  inside_then (suc steps) d up is was = by (d == y) refl (inside_then steps (above u d) up.1)
    where
      row : (s : Spot) × (look u s.0 s.1 ≡ Some d) × (above u d ≡ s.0)
      row = row_of u (sound_from u well_then) d is up.0

      says : (is_dir u row.0.0 ≡ true) × (is_living u d ≡ true)
      says = ((row_says u (sound_from u well_then) row.0 d row.1).0, (row_says u (sound_from u well_then) row.0 d row.1).2)

      -- a row that was there
      stood : (d == y) ≡ false → look t row.0.0 row.0.1 ≡ Some d → is_below t y row.0.0 ≡ true
      stood other e =
          let told = row_says t (sound_from t well) row.0 d e in
          let dir : is_dir t d ≡ true = sym (same_dir t u d (same_node d told.2 says.1)) ∙ is in
          ap (is_below t y) (sym (above_row t well y row.0 d e dir)) ∙ sym (below_up t well y d other told.3 dir) ∙ was dir

      over : (d == y) ≡ false → is_below t y row.0.0 ≡ true
      over other = elim (grown.rows row.0 d row.1) [
        | inl there ↦ stood other there
        | inr put ↦ put_inside row.0 d put (stood other)
      ]

      by : (b : Bool) → (d == y) ≡ b → (is_dir u (above u d) ≡ true → (is_dir t (above u d) ≡ true → is_below t y (above u d) ≡ true) →
          is_below u y (above u d) ≡ true) → is_below u y d ≡ true
      by true same rest = below_self u well_then y d same is
      by false other rest =
          below_up u well_then y d other up.0 is
          ∙ rest (ap (is_dir u) row.2 ∙ says.0) (λ _. ap (is_below t y) row.2 ∙ over other)

  -- what is outside was outside
  outside_was : (d : ℕ) → is_dir u d ≡ true → is_below u y d ≡ false → (is_dir t d ≡ true) × (is_below t y d ≡ false)
  outside_was d is outside = by (is_dir t d) (is_below t y d) refl refl
    where
      way : (steps : ℕ) × Reaches u steps d
      way = way_up u well_then y d is

      by : (a b : Bool) → is_dir t d ≡ a → is_below t y d ≡ b → (is_dir t d ≡ true) × (is_below t y d ≡ false)
      by true false dir below = (dir, below)
      by true true dir below = absurd (false≢true (sym outside ∙ inside_then way.0 d way.1 is (λ _. below)))
      by false b dir below = absurd (false≢true (sym outside ∙ inside_then way.0 d way.1 is (λ e. absurd (false≢true (sym dir ∙ e)))))

  -- and its cover is the same
  same_outside : (d : ℕ) → is_dir u d ≡ true → is_dir t d ≡ true → has_c (cover_in t h d) ≡ false → cover_in u h d ≡ cover_in t h d
  same_outside zero is dir lacks = (covers_descend u h well_then).root ∙ sym (covers_descend t h well).root
  same_outside (suc d) is dir lacks =
      let row = row_of t (sound_from t well) (suc d) dir (λ e. omega (arith, e)) in
      let stay = spared row.0 (suc d) row.1 (ap has_c (dir_row t h well row.0 (suc d) dir) ∙ lacks) in
      sym (dir_row u h well_then row.0 (suc d) is) ∙ stay.covered ∙ dir_row t h well row.0 (suc d) dir

  pub quiet_then : Quiet h y u
  quiet_then = record {
    dirs = λ d is outside.
        let was = outside_was d is outside in
        let lacks = quiet.dirs d was.0 was.1 in
        ap has_c (same_outside d is was.0 lacks) ∙ lacks;
    names = λ d name perms is outside e. let was = outside_was d is outside in quiet.names d name perms was.0 was.1 e;
  }
