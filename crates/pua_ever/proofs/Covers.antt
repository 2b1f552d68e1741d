-- The cover of what stands in a row, by what it is.
use Rattle.pua_ever.proofs.Common.{◌≡◌, Bool, ◌≢◌, ◌⊎◌, ◌<◌, ◌≤◌, ℕ, true, false, cond, refl, sym, ap, ◌∙◌, inl, inr, Option, Some, None}
use Rattle.pua_ever.proofs.Common.{is_some, nat_lt, option_map, not, ◌==◌, option_eq, false≢true, and_from, eq-eqb, Tree, Node, WellFormed}
use Rattle.pua_ever.proofs.Common.{Spot, is_dir, is_dir_kind, is_living, look, node_at, above, sound_from, row_of, row_says, same_Some}
use Rattle.pua_ever.proofs.Common.{None≢Some, above_lives, Whole, Slot, Named, ProcessState, perms_kept, cover, FoundFits, Only, cover_in}
use Rattle.pua_ever.proofs.Common.{own_or, covers_descend, row_cover}
use Rattle.std.proofs.Common.{ltb-true}
use Rattle.std.proofs.lemmas.Bool.{ltb-false}
use Rattle.pua_tree.specs.Tree.{parent}
use Rattle.pua_policy.specs.declared.place.Place.TheVariants as place
use Rattle.pua_script.specs.Confinement.{object_in}

-- the cover of what stands in a row, by what it is
module _ (t : Tree) (h : ProcessState) (well : WellFormed t) where
  pub dir_row : (s : Spot) (d : ℕ) → is_dir t d ≡ true → row_cover t h s d ≡ cover_in t h d
  dir_row s d is = ap (λ b. cover t h (cond b (Whole d (Named s.0 s.1)) (Slot s.0 s.1 (Some d)))) is ∙
      (covers_descend t h well).directory d (Named s.0 s.1) is

  pub slot_row : (s : Spot) (x : ℕ) → is_dir t x ≡ false → row_cover t h s x ≡ own_or (perms_kept h (place.Slot s.0 s.1)) (cover_in t h s.0)
  slot_row s x is = ap (λ b. cover t h (cond b (Whole x (Named s.0 s.1)) (Slot s.0 s.1 (Some x)))) is ∙
      (covers_descend t h well).at_name s.0 s.1 (Some x)

  pub own_dir : (d : ℕ) (perms : ℕ) → is_dir t d ≡ true → d ≢ 0 → perms_kept h (place.Dir d) ≡ Some perms → cover_in t h d ≡ Only perms
  own_dir d perms is n e =
      let row = row_of t (sound_from t well) d is n in
      (covers_descend t h well).below row.0.0 row.0.1 d row.1 is ∙ ap (λ o. own_or o (cover_in t h row.0.0)) e

  pub under_dir : (s : Spot) (d : ℕ) → is_dir t d ≡ true → look t s.0 s.1 ≡ Some d → perms_kept h (place.Dir d) ≡ None →
      cover_in t h d ≡ cover_in t h s.0
  under_dir s d is e none = (covers_descend t h well).below s.0 s.1 d e is ∙ ap (λ o. own_or o (cover_in t h s.0)) none

  pub living_dir : (d : ℕ) → is_dir t d ≡ true → is_living t d ≡ true
  living_dir d is = elim (node_at t d) as (λ o. is_dir_kind (option_map (λ n. n.kind) o) ≡ true → is_some o ≡ true) [
    | None ↦ λ e. absurd (false≢true e)
    | Some n ↦ λ e. refl
  ] is

  pub below_next : (x : ℕ) → is_living t x ≡ true → x < t.next
  below_next x = by (node_at t x) refl
    where
      by : (o : Option Node) → node_at t x ≡ o → is_some o ≡ true → x < t.next
      by None e l = absurd (false≢true l)
      by (Some n) e l = ((sound_from t well).node x n e).0

-- a number was given, or is new
pub given_or_new : (t : Tree) (d : ℕ) → (d < t.next) ⊎ (t.next ≤ d)
given_or_new t d =
    elim (nat_lt d t.next) as (λ b. nat_lt d t.next ≡ b → (d < t.next) ⊎ (t.next ≤ d)) [
      | true ↦ λ e. inl (ltb-true d t.next e)
      | false ↦ λ e. inr (ltb-false d t.next e)
    ] refl

-- what stands in a row is of the tree
pub row_fits : (t : Tree) → WellFormed t → (s : Spot) (x : ℕ) → look t s.0 s.1 ≡ Some x → FoundFits t (object_in t s x)
row_fits t well s x row = by (is_dir t x) refl
  where
    by : (b : Bool) → is_dir t x ≡ b → FoundFits t (cond b (Whole x (Named s.0 s.1)) (Slot s.0 s.1 (Some x)))
    by true is = is
    by false is = and_from (is_dir t s.0) _ (row_says t (sound_from t well) s x row).0
        (and_from _ _ (ap (λ o. option_eq ◌==◌ o (Some x)) row ∙ eq-eqb x x refl) (ap not is))

-- what is so of the directory above one
pub cover_over : {X : Type 0} (t : Tree) (f : ℕ → X) → WellFormed t → (dir x : ℕ) (r : Option X) → parent t dir ≡ Some x
    → r ≡ cond (is_dir t x) (Some (f x)) None → r ≡ cond (is_dir t dir) (Some (f (above t dir))) None
cover_over {X} t f well dir x r over is = by (is_dir t dir) over
  where
    by : (b : Bool) → cond b (Some (above t dir)) None ≡ Some x → r ≡ cond b (Some (f (above t dir))) None
    by true over =
        let same : x ≡ above t dir = sym (same_Some (above t dir) x over) in
        is ∙ ap (λ d. cond (is_dir t d) (Some (f d)) None) same ∙ ap (λ b. cond b (Some (f (above t dir))) None) (above_lives t dir well)
    by false over = absurd (None≢Some x over)
