-- The first directory with a veil, on the way up.
use Rattle.pua_policy.proofs.Common.{◌≡◌, ℕ, ◌≢◌, List, [], ◌∷◌, length, map, true, refl, sym, ap, ◌∙◌, Option, Some, None, Tree}
use Rattle.pua_policy.proofs.Common.{WellFormed, is_dir, above, climb, nearest, first_veiled, covering_at, cover_of}
use Rattle.std.proofs.Common.{zero, suc}
use Rattle.pua_tree.specs.Tree.{climb_within}
use Rattle.pua_policy.specs.Reasons.{or_farther}
use Rattle.pua_policy.proofs.Climbs.{climb_root, climb_step}

-- what it leaves is the nearest cover
pub veiled_covers : (f : ℕ → Option ℕ) (ds : List ℕ) → cover_of (covering_at (first_veiled f ds)) ≡ nearest (map f ds)
veiled_covers f [] = refl
veiled_covers f (d ∷ ds) = by (f d) (veiled_covers f ds)
  where
    by : (o : Option ℕ) → cover_of (covering_at (first_veiled f ds)) ≡ nearest (map f ds) →
        cover_of (covering_at (or_farther d o (first_veiled f ds))) ≡ nearest (o ∷ map f ds)
    by (Some perms) e = refl
    by None e = e

module _ (t : Tree) (f : ℕ → Option ℕ) where
  -- a directory that has one is the first on its own way up
  pub veiled_here : (d perms : ℕ) → f d ≡ Some perms → first_veiled f (climb t d) ≡ Some (d, perms)
  veiled_here = within (length t.nodes)
    where
      within : (n d perms : ℕ) → f d ≡ Some perms → first_veiled f (climb_within n t d) ≡ Some (d, perms)
      within zero d perms here = ap (λ o. or_farther d o None) here
      within (suc n) zero perms here = ap (λ o. or_farther 0 o None) here
      within (suc n) (suc d) perms here = ap (λ o. or_farther (suc d) o (first_veiled f (climb_within n t (above t (suc d))))) here

module _ (t : Tree) (fits : WellFormed t) (f : ℕ → Option ℕ) where
  -- where a directory has none, the first above it is
  pub veiled_above : (d : ℕ) → d ≢ 0 → is_dir t d ≡ true → f d ≡ None → first_veiled f (climb t d) ≡ first_veiled f (climb t (above t d))
  veiled_above d other e nothing =
      ap (first_veiled f) (climb_step t fits d other e) ∙ ap (λ o. or_farther d o (first_veiled f (climb t (above t d)))) nothing

  pub veiled_root : f 0 ≡ None → first_veiled f (climb t 0) ≡ None
  veiled_root nothing = ap (first_veiled f) (climb_root t) ∙ ap (λ o. or_farther 0 o None) nothing

  -- a directory itself and those over it are its climb
  pub veiled_whole : (d : ℕ) → is_dir t d ≡ true → first_veiled f (d ∷ climb t (above t d)) ≡ first_veiled f (climb t d)
  veiled_whole zero e = ap (λ ds. first_veiled f (0 ∷ ds)) (climb_root t) ∙ once (f 0) ∙ ap (first_veiled f) (sym (climb_root t))
    where
      once : (o : Option ℕ) → or_farther 0 o (or_farther 0 o None) ≡ or_farther 0 o None
      once (Some perms) = refl
      once None = refl
  veiled_whole (suc d) e = ap (first_veiled f) (sym (climb_step t fits (suc d) (λ is. cc) e))
