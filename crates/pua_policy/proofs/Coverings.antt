-- Which veil of a process covers an object, by where it looks.
use Rattle.pua_policy.proofs.Common.{◌≡◌, ℕ, List, [], ◌∷◌, map, Bool, true, false, refl, sym, ap, ◌∙◌, Option, Some, None, if◌then◌else◌}
use Rattle.pua_policy.proofs.Common.{Tree, WellFormed, is_dir, above, climb, Way, Found, Whole, Slot, Place}
use Rattle.pua_policy.proofs.Common.{ProcessState, veil_at, has_veil, cover, nearest, places_over}
use Rattle.pua_policy.proofs.Common.{first_veiled, covering_at, cover_of}
use Rattle.pua_policy.specs.declared.place.Place.TheVariants as place
use Rattle.pua_policy.specs.declared.reason.Covering.TheVariants.{InView}
use Rattle.pua_policy.specs.Verdict.{place_of, directories_over, cover_with}
use Rattle.pua_policy.specs.Reasons.{kept_or, or_farther, first_kept, covering, covering_with}
use Rattle.pua_policy.proofs.Veiled.{veiled_whole}

-- what the first place with a veil leaves
first_covers : (kept_at : Place → Option ℕ) (places : List Place) → cover_of (first_kept kept_at places) ≡ nearest (map kept_at places)
first_covers kept_at [] = refl
first_covers kept_at (p ∷ ps) = by (kept_at p) (first_covers kept_at ps)
  where
    by : (o : Option ℕ) → cover_of (first_kept kept_at ps) ≡ nearest (map kept_at ps) →
        cover_of (kept_or p o (first_kept kept_at ps)) ≡ nearest (o ∷ map kept_at ps)
    by (Some perms) e = refl
    by None e = e

at_dirs : (kept_at : Place → Option ℕ) (ds : List ℕ) → map kept_at (map place.Dir ds) ≡ map (λ dir. kept_at (place.Dir dir)) ds
at_dirs kept_at [] = refl
at_dirs kept_at (d ∷ ds) = ap (λ more. kept_at (place.Dir d) ∷ more) (at_dirs kept_at ds)

-- the veil that covers an object leaves its cover
pub coverings_cover : (t : Tree) (p : ProcessState) (object : Found) → cover_of (covering t p object) ≡ cover t p object
coverings_cover t p object = by (has_veil p.veils)
  where
    by : (v : Bool) → cover_of (covering_with v (veil_at p.veils) t object) ≡ cover_with v (veil_at p.veils) t object
    by true = first_covers (veil_at p.veils) (places_over t object) ∙
        ap (λ more. nearest (veil_at p.veils (place_of object) ∷ more)) (at_dirs (veil_at p.veils) (directories_over t object))
    by false = refl

-- the first of some directories is the first of their places
first_over : (kept_at : Place → Option ℕ) (ds : List ℕ) →
    first_kept kept_at (map place.Dir ds) ≡ covering_at (first_veiled (λ dir. kept_at (place.Dir dir)) ds)
first_over kept_at [] = refl
first_over kept_at (d ∷ ds) = by (kept_at (place.Dir d)) (first_over kept_at ds)
  where
    by : (o : Option ℕ) → first_kept kept_at (map place.Dir ds) ≡ covering_at (first_veiled (λ dir. kept_at (place.Dir dir)) ds) →
        kept_or (place.Dir d) o (first_kept kept_at (map place.Dir ds))
        ≡ covering_at (or_farther d o (first_veiled (λ dir. kept_at (place.Dir dir)) ds))
    by (Some perms) e = refl
    by None e = e

module _ (p : ProcessState) (t : Tree) where
  by_veil : (object : Found) (veiled : Bool) → has_veil p.veils ≡ veiled →
      covering t p object ≡ covering_with veiled (veil_at p.veils) t object
  by_veil object veiled e = ap (λ b. covering_with b (veil_at p.veils) t object) e

  -- without a veil everything is in view
  pub covering-unveiled : (object : Found) → has_veil p.veils ≡ false → covering t p object ≡ InView
  covering-unveiled object e = by_veil object false e

  module _ (veiled : has_veil p.veils ≡ true) where
    -- a directory is covered by the first veil from itself up
    pub covering-whole : WellFormed t → (dir : ℕ) (way : Way) → is_dir t dir ≡ true →
        covering t p (Whole dir way) ≡ covering_at (first_veiled (λ dir. veil_at p.veils (place.Dir dir)) (climb t dir))
    covering-whole fits dir way e =
        by_veil (Whole dir way) true veiled ∙ first_over (veil_at p.veils) (dir ∷ climb t (above t dir))
        ∙ ap covering_at (veiled_whole t fits (λ dir. veil_at p.veils (place.Dir dir)) dir e)

    -- a name is covered by what is kept at it, and else by the first veil from its directory up
    pub covering-slot : (dir : ℕ) (name : List ℕ) (node own : Option ℕ) → veil_at p.veils (place.Slot dir name) ≡ own →
        covering t p (Slot dir name node)
        ≡ kept_or (place.Slot dir name) own (covering_at (first_veiled (λ dir. veil_at p.veils (place.Dir dir)) (climb t dir)))
    covering-slot dir name node own e =
        by_veil (Slot dir name node) true veiled ∙ (λ i. kept_or (place.Slot dir name) (e i) (first_over (veil_at p.veils) (climb t dir) i))
