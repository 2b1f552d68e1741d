-- What the veils of a process leave, by where it looks.
use Rattle.pua_policy.proofs.Common.{◌≡◌, ℕ, List, ◌∷◌, map, Bool, true, false, ap, ◌∙◌, Option, Some, None, and_parts, Tree, WellFormed}
use Rattle.pua_policy.proofs.Common.{is_dir, climb, Way, Found, Whole, Slot, All, ProcessState, veil_at, has_veil, cover, nearest}
use Rattle.pua_policy.specs.declared.place.Place.TheVariants as place
use Rattle.pua_policy.specs.Verdict.{FoundFits, cover_with}
use Rattle.pua_policy.proofs.Climbs.{nearest_whole}

-- a name that was found stands in a directory
pub slot_lives : (t : Tree) (dir : ℕ) (name : List ℕ) (node : Option ℕ) → FoundFits t (Slot dir name node) → is_dir t dir ≡ true
slot_lives t dir name None fits = (and_parts (is_dir t dir) _ fits).0
slot_lives t dir name (Some x) fits = (and_parts (is_dir t dir) _ fits).0

module _ (p : ProcessState) (t : Tree) where
  by_veil : (object : Found) (veiled : Bool) → has_veil p.veils ≡ veiled →
      cover t p object ≡ cover_with veiled (veil_at p.veils) t object
  by_veil object veiled e = ap (λ b. cover_with b (veil_at p.veils) t object) e

  -- without a veil everything is left
  pub cover-unveiled : (object : Found) → has_veil p.veils ≡ false → cover t p object ≡ All
  cover-unveiled object e = by_veil object false e

  module _ (veiled : has_veil p.veils ≡ true) where
    -- a directory has what is nearest from itself up
    pub cover-whole : WellFormed t → (dir : ℕ) (way : Way) → is_dir t dir ≡ true →
        cover t p (Whole dir way) ≡ nearest (map (λ dir. veil_at p.veils (place.Dir dir)) (climb t dir))
    cover-whole fits dir way e = by_veil (Whole dir way) true veiled ∙ nearest_whole t fits (λ dir. veil_at p.veils (place.Dir dir)) dir e

    -- a name has what is kept at it, and else what is nearest from its directory up
    pub cover-slot : (dir : ℕ) (name : List ℕ) (node own : Option ℕ) → veil_at p.veils (place.Slot dir name) ≡ own →
        cover t p (Slot dir name node) ≡ nearest (own ∷ map (λ dir. veil_at p.veils (place.Dir dir)) (climb t dir))
    cover-slot dir name node own e = by_veil (Slot dir name node) true veiled ∙
        ap (λ o. nearest (o ∷ map (λ dir. veil_at p.veils (place.Dir dir)) (climb t dir))) e
