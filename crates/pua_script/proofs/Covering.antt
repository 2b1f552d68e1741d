-- Where each row that isn't covered with `c` stays, its cover stays too.
use Rattle.pua_script.proofs.Common.{◌≡◌, ◌≢◌, ℕ, zero, suc, ◌∷◌, Bool, true, false, cond, map, refl, sym, ap, ◌∙◌, Option, Some}
use Rattle.pua_script.proofs.Common.{None, option_map, true≢false, Tree, WellFormed, Spot, is_dir, look, node_at, above, climb, sound_from}
use Rattle.pua_script.proofs.Common.{Whole, Slot, ProcessState, cover, place_of, Cover, All, object_in, has_c, UncoveredStay}
use Rattle.pua_tree.specs.Tree.{is_dir_kind}
use Rattle.pua_tree.proofs.ForCallers.{Sound, Reaches, row_says, row_of, above_is, above_dir}
use Rattle.pua_path.specs.declared.found.Way.TheVariants.{Named}
use Rattle.pua_policy.specs.States.{has_veil}
use Rattle.pua_policy.specs.States.{perms_kept}
use Rattle.pua_policy.specs.Verdict.{nearest, directories_over}
use Rattle.pua_policy.specs.declared.place.Place.TheVariants as place
use Rattle.pua_policy.proofs.ForCallers.{climb_root, nearest_here, nearest_above, nearest_whole}
use Rattle.pua_script.specs.Confinement.{RowStays}

-- the row is there with its node, and the node is what it was
abbrev pub IsThere : Tree → Tree → Spot → ℕ → Type 0
IsThere t u spot x = (look u spot.0 spot.1 ≡ Some x) × (node_at u x ≡ node_at t x)

module _ (t u : Tree) (well : WellFormed t) (well_then : WellFormed u) (h : ProcessState) where
  ft : Sound t
  ft = sound_from t well

  fu : Sound u
  fu = sound_from u well_then

  abbrev veil : ℕ → Option ℕ
  veil d = perms_kept h (place.Dir d)

  abbrev over : Tree → ℕ → Cover
  over v d = nearest (map veil (climb v d))

  abbrev dir_cover : Tree → ℕ → Cover
  dir_cover v d = nearest (veil d ∷ map veil (climb v (above v d)))

  same_dir : (x : ℕ) → node_at u x ≡ node_at t x → is_dir u x ≡ is_dir t x
  same_dir x e = ap (λ o. is_dir_kind (option_map (λ n. n.kind) o)) e

  module _ (some : has_veil h.veils ≡ true) (stays : (s : Spot) (x : ℕ) → look t s.0 s.1 ≡ Some x →
      has_c (cover t h (object_in t s x)) ≡ false → IsThere t u s x) where
    cover_dir : (v : Tree) → WellFormed v → (s : Spot) (d : ℕ) → is_dir v d ≡ true → cover v h (object_in v s d) ≡ over v d
    cover_dir v w s d is =
        ap (λ b. cover v h (cond b (Whole d (Named s.0 s.1)) (Slot s.0 s.1 (Some d)))) is
        ∙ ap (λ b. cond b (dir_cover v d) All) some
        ∙ nearest_whole v w veil d is

    cover_slot : (v : Tree) (s : Spot) (x : ℕ) → is_dir v x ≡ false →
        cover v h (object_in v s x) ≡ nearest (perms_kept h (place.Slot s.0 s.1) ∷ map veil (climb v s.0))
    cover_slot v s x is =
        ap (λ b. cover v h (cond b (Whole x (Named s.0 s.1)) (Slot s.0 s.1 (Some x)))) is
        ∙ ap (λ b. cond b (nearest (perms_kept h (place.Slot s.0 s.1) ∷ map veil (climb v s.0))) All) some

    same_over : (k d : ℕ) → Reaches t k d → is_dir t d ≡ true → has_c (over t d) ≡ false → over u d ≡ over t d
    same_over zero d r is lacks =
        ap (over u) r ∙ ap (λ ds. nearest (map veil ds)) (climb_root u ∙ sym (climb_root t)) ∙ ap (over t) (sym r)
    same_over (suc k) d r is lacks =
        let row = row_of t ft d is r.0 in
        let there = stays row.0 d row.1 (ap has_c (cover_dir t well row.0 d is) ∙ lacks) in
        let is_then : is_dir u d ≡ true = same_dir d there.1 ∙ is in
        let up : above u d ≡ above t d = above_is u d row.0 r.0 (fu.once d is_then r.0) there.0 ∙ sym row.2 in
        by (veil d) refl is_then up (same_over k (above t d) r.1 (above_dir t ft d is r.0))
      where
        by : (o : Option ℕ) → veil d ≡ o → is_dir u d ≡ true → above u d ≡ above t d
            → (has_c (over t (above t d)) ≡ false → over u (above t d) ≡ over t (above t d)) → over u d ≡ over t d
        by (Some perms) e is_then up rest = nearest_here u well_then veil d perms is_then e ∙ sym (nearest_here t well veil d perms is e)
        by None e is_then up rest =
            let below = nearest_above t well veil d r.0 is e in
            nearest_above u well_then veil d r.0 is_then e
            ∙ ap (over u) up
            ∙ rest (ap has_c (sym below) ∙ lacks)
            ∙ sym below

    way_up : (d : ℕ) → is_dir t d ≡ true → (k : ℕ) × Reaches t k d
    way_up zero is = (0, refl)
    way_up (suc d) is = ft.rooted (suc d) is (λ e. not_zero d e)
      where
        not_zero : (d : ℕ) → suc d ≢ 0
        not_zero d e = cc

    row_stays : (s : Spot) (x : ℕ) → look t s.0 s.1 ≡ Some x → has_c (cover t h (object_in t s x)) ≡ false → RowStays h t u s x
    row_stays s x here lacks = record { row = there.0; node = there.1; covered = by (is_dir t x) refl }
      where
        there : IsThere t u s x
        there = stays s x here lacks

        dir : is_dir t s.0 ≡ true
        dir = (row_says t ft s x here).0

        at_slot : (o : Option ℕ) → perms_kept h (place.Slot s.0 s.1) ≡ o → has_c (nearest (o ∷ map veil (climb t s.0))) ≡ false →
            nearest (o ∷ map veil (climb u s.0)) ≡ nearest (o ∷ map veil (climb t s.0))
        at_slot (Some perms) e lacking = refl
        at_slot None e lacking = let way = way_up s.0 dir in same_over way.0 s.0 way.1 dir lacking

        by : (b : Bool) → is_dir t x ≡ b → cover u h (object_in u s x) ≡ cover t h (object_in t s x)
        by true is =
            let way = way_up x is in
            cover_dir u well_then s x (same_dir x there.1 ∙ is)
            ∙ same_over way.0 x way.1 is (ap has_c (sym (cover_dir t well s x is)) ∙ lacks)
            ∙ sym (cover_dir t well s x is)
        by false is =
            cover_slot u s x (same_dir x there.1 ∙ is)
            ∙ at_slot (perms_kept h (place.Slot s.0 s.1)) refl (ap has_c (sym (cover_slot t s x is)) ∙ lacks)
            ∙ sym (cover_slot t s x is)

  -- without a veil everything is covered with `c`
  no_veils : (s : Spot) (x : ℕ) → has_veil h.veils ≡ false → has_c (cover t h (object_in t s x)) ≡ true
  no_veils s x none = ap
      (λ b. has_c (cond b (nearest (perms_kept h (place_of (object_in t s x)) ∷ map veil (directories_over t (object_in t s x)))) All)) none

  pub covers_stay : ((s : Spot) (x : ℕ) → look t s.0 s.1 ≡ Some x → has_c (cover t h (object_in t s x)) ≡ false → IsThere t u s x) →
      UncoveredStay h t u
  covers_stay stays s x here lacks = by (has_veil h.veils) refl
    where
      by : (b : Bool) → has_veil h.veils ≡ b → RowStays h t u s x
      by true some = row_stays some stays s x here lacks
      by false none = absurd (true≢false (sym (no_veils s x none) ∙ lacks))
