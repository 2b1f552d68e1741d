-- The directories that are watched by a crew's veils are enough of them.
use Rattle.pua_jointly.proofs.Common.{◌≡◌, ◌∷◌, ◌∙◌, ◌==◌, [], ℕ, zero, suc, Bool, true, false, List, refl, sym, ap, subst, inl, inr}
use Rattle.pua_jointly.proofs.Common.{cond, eqb-true, eq-eqb, false≢true, None≢Some, Some, same_Some}
use Rattle.pua_jointly.proofs.Common.{Among, among_contained, has_c, is_below, is_dir, look, above, list_any, Tree, WellFormed, CallTable}
use Rattle.pua_jointly.proofs.Common.{ProcessState, veils, same_place, same_place_is, Only, Reaches, Spot, row_of, row_says, sound_from}
use Rattle.std.specs.Prelude.{◌&&◌}
use Rattle.pua_tree.specs.Tree.{is_within}
use Rattle.pua_policy.specs.States.{veil_at}
use Rattle.pua_policy.specs.declared.place.Place.{Place}
use Rattle.pua_policy.specs.declared.place.Place.TheVariants as place
use Rattle.pua_ever.proofs.ForCallers.{below_self, below_up, way_up}
use Rattle.pua_ever.proofs.ForCallers.{any_among}
use Rattle.pua_jointly.specs.Jointly.{Seat, Old, NotAbove, Can, stays_in, not_above_root, not_above_up}
use Rattle.pua_jointly.specs.JointFacts.{WatchesEnough, watches_by, watches}

pub kept_among : (vs : List (Place × ℕ)) (at : Place) (perms : ℕ) → veil_at vs at ≡ Some perms → Among vs (at, perms)
kept_among [] at perms e = absurd (None≢Some perms e)
kept_among (v ∷ vs) at perms e = by (same_place at v.0) refl (kept_among vs at perms)
  where
    by : (b : Bool) → same_place at v.0 ≡ b → (veil_at vs at ≡ Some perms → Among vs (at, perms)) → Among (v ∷ vs) (at, perms)
    by true is rest =
        let here : v.1 ≡ perms = same_Some v.1 perms (ap (λ s. cond s (Some v.1) (veil_at vs at)) (sym is) ∙ e) in
        inl (λ i. (sym (same_place_is at v.0 is) i, here i))
    by false is rest = inr (rest (ap (λ s. cond s (Some v.1) (veil_at vs at)) (sym is) ∙ e))

none_among : {X : Type 0} (p : X → Bool) (xs : List X) (x : X) → list_any p xs ≡ false → Among xs x → p x ≡ false
none_among p xs x none a = by (p x) refl
  where
    by : (b : Bool) → p x ≡ b → p x ≡ false
    by true e = absurd (false≢true (sym none ∙ any_among p xs x a e))
    by false e = e

unless : (b : Bool) → (b ≡ true → ⊥) → b ≡ false
unless true never = absurd (never refl)
unless false never = refl

abbrev old_number : Seat → ℕ
old_number (Old d) = d
old_number _ = 0

module _ (t : Tree) (well : WellFormed t) (table : CallTable) (crew : List ProcessState) where
  clear_up_from : (d steps e : ℕ) → Reaches t steps e → is_dir t e ≡ true → is_below t d e ≡ false →
      Can t table crew (NotAbove (Old d) (Old e))
  clear_up_from d zero e root is outside = subst (λ z. Can t table crew (NotAbove (Old d) (Old z))) (sym root)
      (not_above_root (λ same. false≢true (sym outside ∙ below_self t well d e (eq-eqb e d (root ∙ sym same)) is)))
  clear_up_from d (suc steps) e up is outside = by (e == d) refl (clear_up_from d steps (above t e) up.1)
    where
      row : (s : Spot) × (look t s.0 s.1 ≡ Some e) × (above t e ≡ s.0)
      row = row_of t (sound_from t well) e is up.0

      over : is_dir t (above t e) ≡ true
      over = ap (is_dir t) row.2 ∙ (row_says t (sound_from t well) row.0 e row.1).0

      by : (b : Bool) → (e == d) ≡ b →
          (is_dir t (above t e) ≡ true → is_below t d (above t e) ≡ false → Can t table crew (NotAbove (Old d) (Old (above t e)))) →
          Can t table crew (NotAbove (Old d) (Old e))
      by true same rest = absurd (false≢true (sym outside ∙ below_self t well d e same is))
      by false differs rest = not_above_up (Old row.0.0) (λ same. false≢true (sym differs ∙ eq-eqb e d (ap old_number same)))
          (stays_in row.0.1 row.1 is)
          (subst (λ z. Can t table crew (NotAbove (Old d) (Old z))) row.2 (rest over (sym (below_up t well d e differs up.0 is) ∙ outside)))

  clear_outside : (d e : ℕ) → is_dir t e ≡ true → is_below t d e ≡ false → Can t table crew (NotAbove (Old d) (Old e))
  clear_outside d e is outside = let way = way_up t well 0 e is in clear_up_from d way.0 e way.1 is outside

  pub watches_enough : WatchesEnough t table crew (watches t crew)
  watches_enough = record {
    plain = λ d e a perms is among stands own other.
        let none_of = none_among (λ h. list_any (watches_by t d) (veils h)) crew a is (among_contained crew a among) in
        let none = none_among (watches_by t d) (veils a) (place.Dir e, perms) none_of (kept_among (veils a) (place.Dir e) perms own) in
        let differs : (e == d) ≡ false = unless (e == d) (λ same. other (eqb-true e d same)) in
        clear_outside d e stands (ap (λ b. b && is_below t d e) (sym stands)
        ∙ (ap (λ b. cond b (has_c (Only perms)) (is_within t e d)) (sym differs) ∙ none));
    turned = λ y a perms among own has.
        any_among (λ h. list_any (watches_by t y) (veils h)) crew a (among_contained crew a among)
        (any_among (watches_by t y) (veils a) (place.Dir y, perms) (kept_among (veils a) (place.Dir y) perms own)
        (ap (λ b. cond b (has_c (Only perms)) (is_within t y y)) (eq-eqb y y refl) ∙ has));
  }
