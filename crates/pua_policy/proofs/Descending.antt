-- Covers go down from directory to directory.
use Rattle.pua_policy.proofs.Common.{◌≡◌, ◌≢◌, ℕ, List, ◌∷◌, map, Bool, true, refl, sym, ap, ◌∙◌, Option, Some, None, if◌then◌else◌}
use Rattle.pua_policy.proofs.Common.{Tree, WellFormed, is_dir, above, climb, Slot, ProcessState, has_veil, veil_at, nearest, cover}
use Rattle.pua_policy.proofs.Common.{All}
use Rattle.pua_tree.specs.Tree.{look}
use Rattle.pua_tree.proofs.ForCallers.{Sound, sound_from, row_says, above_is}
use Rattle.pua_policy.specs.declared.place.Place.TheVariants as place
use Rattle.pua_policy.specs.declared.answer.Cover.{Cover}
use Rattle.pua_policy.specs.declared.answer.Cover.TheVariants.{Nothing}
use Rattle.pua_policy.specs.Descent.{cover_in, own_or}
use Rattle.pua_policy.specs.Laws.{CoversDescend}
use Rattle.pua_policy.proofs.Climbs.{nearest_here, nearest_above, nearest_root, nearest_whole}
use Rattle.pua_policy.proofs.Veils.{veiled_where_kept}

abbrev if_any : Bool → Cover → Cover
if_any any over = if any then over else All

module _ (t : Tree) (p : ProcessState) (fits : WellFormed t) (sound : Sound t) where
  abbrev kept_in : ℕ → Option ℕ
  kept_in dir = veil_at p.veils (place.Dir dir)

  root_cover : (o : Option ℕ) → kept_in 0 ≡ o → cover_in t p 0 ≡ own_or o (if has_veil p.veils then Nothing else All)
  root_cover None e = ap (if_any (has_veil p.veils)) (nearest_root t fits kept_in e)
  root_cover (Some perms) e =
      ap (λ b. if_any b (nearest (map kept_in (climb t 0)))) (veiled_where_kept p.veils (place.Dir 0) perms e) ∙
      nearest_here t fits kept_in 0 perms fits.root e

  below_cover : (dir : ℕ) (name : List ℕ) (x : ℕ) → look t dir name ≡ Some x → is_dir t x ≡ true → (o : Option ℕ) → kept_in x ≡ o →
      cover_in t p x ≡ own_or o (cover_in t p dir)
  below_cover dir name x row living None e =
      let other : x ≢ 0 = (row_says t sound (dir, name) x row).3 in
      let over : above t x ≡ dir = above_is t x (dir, name) other (sound.once x living other) row in
      ap (if_any (has_veil p.veils)) (nearest_above t fits kept_in x other living e ∙ ap (λ d. nearest (map kept_in (climb t d))) over)
  below_cover dir name x row living (Some perms) e =
      ap (λ b. if_any b (nearest (map kept_in (climb t x)))) (veiled_where_kept p.veils (place.Dir x) perms e) ∙
      nearest_here t fits kept_in x perms living e

  over_cover : (dir : ℕ) → is_dir t dir ≡ true → (o : Option ℕ) → kept_in dir ≡ o → cover_in t p dir ≡ own_or o (cover_in t p (above t dir))
  over_cover dir living None e =
      ap (if_any (has_veil p.veils)) (sym (nearest_whole t fits kept_in dir living) ∙
      ap (λ k. nearest (k ∷ map kept_in (climb t (above t dir)))) e)
  over_cover dir living (Some perms) e =
      ap (λ b. if_any b (nearest (map kept_in (climb t dir)))) (veiled_where_kept p.veils (place.Dir dir) perms e) ∙
      nearest_here t fits kept_in dir perms living e

  name_cover : (dir : ℕ) (name : List ℕ) (node : Option ℕ) (o : Option ℕ) → veil_at p.veils (place.Slot dir name) ≡ o →
      cover t p (Slot dir name node) ≡ own_or o (cover_in t p dir)
  name_cover dir name there None e = ap (λ k. if_any (has_veil p.veils) (nearest (k ∷ map kept_in (climb t dir)))) e
  name_cover dir name there (Some perms) e =
      ap (λ b. if_any b (nearest (veil_at p.veils (place.Slot dir name) ∷ map kept_in (climb t dir))))
      (veiled_where_kept p.veils (place.Slot dir name) perms e)
      ∙ ap (λ k. nearest (k ∷ map kept_in (climb t dir))) e

pub covers_descend : CoversDescend
covers_descend t p fits = record {
  root = root_cover t p fits (sound_from t fits) (veil_at p.veils (place.Dir 0)) refl;
  below = λ dir name x row living. below_cover t p fits (sound_from t fits) dir name x row living (veil_at p.veils (place.Dir x)) refl;
  over = λ dir living. over_cover t p fits (sound_from t fits) dir living (veil_at p.veils (place.Dir dir)) refl;
  directory = λ dir way living. ap (if_any (has_veil p.veils)) (nearest_whole t fits (λ d. veil_at p.veils (place.Dir d)) dir living);
  at_name = λ dir name node. name_cover t p fits (sound_from t fits) dir name node (veil_at p.veils (place.Slot dir name)) refl;
}
