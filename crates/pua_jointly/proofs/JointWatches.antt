-- The directories that are watched are found by climbing from each veil once, and each has its column by its number.
use Rattle.pua_jointly.proofs.Common.{◌≡◌, ◌≢◌, ◌<◌, ◌⊎◌, ◌∙◌, ◌||◌, ◌&&◌, ◌==◌, ◌∷◌, ◌++◌, [], ℕ, zero, suc, Bool, true, false, List, length, refl, sym, ap}
use Rattle.pua_jointly.proofs.Common.{subst, inl, inr, arith, not, Option, Some, None, same_Some, None≢Some, among_contained, false≢true, eqb-true, eq-eqb}
use Rattle.pua_jointly.proofs.Common.{list_any, Tree, WellFormed, Spot, is_dir, look, above, row_of, row_says, sound_from}
use Rattle.pua_jointly.proofs.Common.{is_below}
use Rattle.std.specs.Prelude.{get_or}
use Rattle.pua_tree.specs.Tree.{is_within}
use Rattle.pua_policy.proofs.ForCallers.{climb_root}
use Rattle.pua_ever.proofs.ForCallers.{below_self, below_up}
use Rattle.pua_jointly.specs.JointSetting.{AreColumns}
use Rattle.pua_jointly.specs.declared.crew.Watch.{Watch}
use Rattle.pua_jointly.proofs.JointGathered.{in_last, in_front, at_last}

-- a list with one thing more
module _ (x : Option ℕ) where
  got_before : (xs : List (Option ℕ)) (i c : ℕ) → get_or xs i None ≡ Some c → get_or (xs ++ x ∷ []) i None ≡ Some c
  got_before [] i c e = absurd (None≢Some c e)
  got_before (y ∷ xs) zero c e = e
  got_before (y ∷ xs) (suc i) c e = got_before xs i c e

  got_after : (xs : List (Option ℕ)) (i c : ℕ) → get_or (xs ++ x ∷ []) i None ≡ Some c →
      (get_or xs i None ≡ Some c) ⊎ ((i ≡ length xs) × (x ≡ Some c))
  got_after [] zero c e = inr (refl, e)
  got_after [] (suc i) c e = absurd (None≢Some c e)
  got_after (y ∷ xs) zero c e = inl e
  got_after (y ∷ xs) (suc i) c e = elim (got_after xs i c e) [ inl a ↦ inl a | inr b ↦ inr (ap suc b.0, b.1) ]

  got_last : (xs : List (Option ℕ)) → get_or (xs ++ x ∷ []) (length xs) None ≡ x
  got_last [] = refl
  got_last (y ∷ xs) = got_last xs

-- the columns of watched directories, by their numbers
module _ (watches : List Watch) (columns : List (Option ℕ)) (so_far : AreColumns watches columns) where
  pub columns_more : (watch : Watch) → watch.dir ≡ length columns → AreColumns (watches ++ watch ∷ []) (columns ++ Some watch.column ∷ [])
  columns_more watch here = record {
    each = λ dir column e. elim (got_after (Some watch.column) columns dir column e) [
      | inl a ↦ (let w = so_far.each dir column a in (w.0, in_front watches watch w.0 w.1, w.2, w.3))
      | inr b ↦ (watch, at_last watches watch, here ∙ sym b.0, same_Some watch.column column b.1)
    ];
    all = λ w c. elim (in_last watches watch w c) [
      | inl one ↦ got_before (Some watch.column) columns w.dir w.column (so_far.all w one)
      | inr two ↦
          subst (λ (v : Watch). get_or (columns ++ Some watch.column ∷ []) v.dir None ≡ Some v.column) two
          (ap (λ i. get_or (columns ++ Some watch.column ∷ []) i None) here ∙ got_last (Some watch.column) columns)
    ];
  }

  pub columns_still : AreColumns watches (columns ++ None ∷ [])
  columns_still = record {
    each = λ dir column e. elim (got_after None columns dir column e) [
      | inl a ↦ so_far.each dir column a
      | inr b ↦ absurd (None≢Some column b.1)
    ];
    all = λ w c. got_before None columns w.dir w.column (so_far.all w c);
  }

pub no_columns : AreColumns [] []
no_columns = record { each = λ dir column e. absurd (None≢Some column e); all = λ w c. absurd (among_contained [] w c) }

-- tests
absorbed : (a b c : Bool) → (b ≡ true → c ≡ true) → ((a || b) || c) ≡ (a || c)
absorbed true b c h = refl
absorbed false true c h = sym (h refl)
absorbed false false c h = refl

or_none : (a : Bool) → (a || false) ≡ a
or_none true = refl
or_none false = refl

other_way : (x y : ℕ) → (x == y) ≡ false → (y == x) ≡ false
other_way x y e = by (y == x) refl
  where
    by : (b : Bool) → (y == x) ≡ b → (y == x) ≡ false
    by true same = absurd (false≢true (sym e ∙ eq-eqb x y (sym (eqb-true y x same))))
    by false is = is

both_ways : (b : Bool) → (b && not b) ≡ false
both_ways true = refl
both_ways false = refl

-- a climb from a directory marks all others above it
pub record Climbing (t : Tree) (dir : ℕ) (old now : List Bool) (at : ℕ) : Type 0 where
  pub begun : is_dir t dir ≡ true
  pub living : is_dir t at ≡ true
  pub full : length now ≡ length old
  pub own : dir < length old → get_or now dir false ≡ get_or old dir false
  pub here : (dir == at) ≡ false → at < length old → get_or now at false ≡ true
  pub rest : (other : ℕ) → (dir == other) ≡ false → other < length old →
      (get_or now other false || is_below t other at) ≡ (get_or old other false || is_below t other dir)

module _ (t : Tree) (well : WellFormed t) (dir : ℕ) where
  module _ (old now : List Bool) (at : ℕ) (so_far : Climbing t dir old now at) where
    pub climb_goes_on : (new : List Bool) → at ≢ 0 → length new ≡ length now →
        ((other : ℕ) → other < length now → get_or new other false
        ≡ (get_or now other false || ((above t at == other) && not (above t at == dir)))) → Climbing t dir old new (above t at)
    climb_goes_on new under long step = record {
      begun = so_far.begun;
      living = over;
      full = long ∙ so_far.full;
      own = λ low. marked dir low ∙ ap (λ b. get_or now dir false || b) (both_ways (above t at == dir)) ∙ or_none (get_or now dir false) ∙ so_far.own low;
      here = λ apart low.
          marked (above t at) low ∙ ap (λ b. get_or now (above t at) false || b) (on (above t at) apart) ∙ ap (λ b. get_or now (above t at) false || b)
          (eq-eqb (above t at) (above t at) refl) ∙ or_true (get_or now (above t at) false);
      rest = λ other apart low. ap (λ b. b || is_below t other (above t at)) (marked other low ∙ ap (λ b. get_or now other false || b) (on other apart))
          ∙ by other apart low (at == other) refl;
    }
      where
        row : (s : Spot) × (look t s.0 s.1 ≡ Some at) × (above t at ≡ s.0)
        row = row_of t (sound_from t well) at so_far.living under

        over : is_dir t (above t at) ≡ true
        over = ap (is_dir t) row.2 ∙ (row_says t (sound_from t well) row.0 at row.1).0

        marked : (other : ℕ) → other < length old →
            get_or new other false ≡ (get_or now other false || ((above t at == other) && not (above t at == dir)))
        marked other low = let same = so_far.full in step other (omega (arith, low, same))

        -- a mark on another one than the first
        on : (other : ℕ) → (dir == other) ≡ false → ((above t at == other) && not (above t at == dir)) ≡ (above t at == other)
        on other apart = by (above t at == other) refl
          where
            by : (b : Bool) → (above t at == other) ≡ b → (b && not (above t at == dir)) ≡ b
            by true same = ap (λ x. not (x == dir)) (eqb-true (above t at) other same) ∙ ap not (other_way dir other apart)
            by false differs = refl

        or_true : (a : Bool) → (a || true) ≡ true
        or_true true = refl
        or_true false = refl

        by : (other : ℕ) → (dir == other) ≡ false → other < length old → (b : Bool) → (at == other) ≡ b →
            ((get_or now other false || (above t at == other)) || is_below t other (above t at))
            ≡ (get_or old other false || is_below t other dir)
        by other apart low true same =
            let is = eqb-true at other same in
            let set : get_or now other false ≡ true = subst (λ x. (dir == x) ≡ false → x < length old → get_or now x false ≡ true) is so_far.here apart low in
            ap (λ a. (a || (above t at == other)) || is_below t other (above t at)) set
            ∙ sym (ap (λ a. a || is_below t other at) set) ∙ so_far.rest other apart low
        by other apart low false differs =
            absorbed (get_or now other false) (above t at == other) (is_below t other (above t at))
            (λ same. below_self t well other (above t at) same over)
            ∙ ap (λ b. get_or now other false || b) (sym (below_up t well other at differs under so_far.living)) ∙ so_far.rest other apart low

    pub climb_ends : at ≡ 0 → (other : ℕ) → (dir == other) ≡ false → other < length old →
        get_or now other false ≡ (get_or old other false || is_within t dir other)
    climb_ends root other apart low =
        by (at == other) refl ∙ so_far.rest other apart low ∙ ap (λ b. get_or old other false || (b && is_below t other dir)) (sym so_far.begun)
      where
        by : (b : Bool) → (at == other) ≡ b → get_or now other false ≡ (get_or now other false || is_below t other at)
        by true same =
            let set : get_or now other false ≡ true =
            subst (λ x. (dir == x) ≡ false → x < length old → get_or now x false ≡ true) (eqb-true at other same) so_far.here apart low in
            set ∙ sym (ap (λ a. a || is_below t other at) set)
        by false differs =
            sym (ap (λ b. get_or now other false || b)
            (ap (is_below t other) root ∙ ap (list_any (λ e. e == other)) (climb_root t) ∙ or_none (0 == other) ∙ ap (λ d. d == other) (sym root) ∙ differs)
            ∙ or_none (get_or now other false))
