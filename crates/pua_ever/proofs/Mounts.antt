-- What is moved, and what gives way to it, is no mount point: those are on a file system of their own.
use Rattle.pua_ever.proofs.Common.{◌≡◌, ◌≢◌, ℕ, List, [], ◌∷◌, Bool, true, false, cond, refl, sym, ap, ◌∙◌, Option, Some, None, not, ◌&&◌, ◌||◌}
use Rattle.pua_ever.proofs.Common.{◌==◌, list_any, option_map, false≢true, eq-eqb, and_parts, and_from, not-true, or_left, or_right, Tree, Node}
use Rattle.pua_ever.proofs.Common.{WellFormed, Spot, spot_cmp, is_dir, is_dir_kind, is_empty, is_mount, has_no_row, look, node_at, climb, is_below}
use Rattle.pua_ever.proofs.Common.{sound_from, row_says, spots_total, exact_spots}
use Rattle.std.specs.Prelude.{unwrap_or}
use Rattle.pua_tree.specs.Edits.{is_inside}
use Rattle.pua_tree.specs.Tree.{device, first_mount}
use Rattle.pua_tree.proofs.ForCallers.{none_found}
use Rattle.pua_ever.proofs.Devices.{device_at}
use Rattle.pua_ever.proofs.Quiet.{not_empty, way_up}

module _ (t : Tree) (well : WellFormed t) where
  -- a mount point is a directory
  pub mount_lives : (d : ℕ) → is_mount t d ≡ true → is_dir t d ≡ true
  mount_lives d = by (node_at t d) refl
    where
      fits : (x : ℕ) (n : Node) → node_at t x ≡ Some n → n.mount ≡ true → is_dir_kind (Some n.kind) ≡ true
      fits x n e mount =
          (and_parts (is_dir_kind (Some n.kind)) (not (x == 0))
          (sym (ap (λ b. cond b (is_dir_kind (Some n.kind) && not (x == 0)) true) mount) ∙ (sound_from t well).marks x n e)).0

      by : (o : Option Node) → node_at t d ≡ o → unwrap_or (option_map (λ (n : Node). n.mount) o) false ≡ true →
          is_dir_kind (option_map (λ (n : Node). n.kind) o) ≡ true
      by None e mount = absurd (false≢true mount)
      by (Some n) e mount = fits d n e mount

  pub no_mount : (d : ℕ) → is_dir t d ≡ false → is_mount t d ≡ false
  no_mount d plain = by (is_mount t d) refl
    where
      by : (b : Bool) → is_mount t d ≡ b → is_mount t d ≡ false
      by false e = e
      by true mount = absurd (false≢true (sym plain ∙ mount_lives d mount))

  -- what is on the file system of a mount point is below it
  first_below : (x : ℕ) → x ≢ 0 → (ds : List ℕ) → first_mount t ds ≡ x → list_any (λ over. over == x) ds ≡ true
  first_below x other [] e = absurd (other (sym e))
  first_below x other (d ∷ ds) e = by (is_mount t d) e (first_below x other ds)
    where
      by : (b : Bool) → cond b d (first_mount t ds) ≡ x → (first_mount t ds ≡ x → list_any (λ over. over == x) ds ≡ true) →
          (d == x || list_any (λ over. over == x) ds) ≡ true
      by true e more = or_left (d == x) _ (eq-eqb d x e)
      by false e more = or_right (d == x) _ (more e)

  below_device : (x d : ℕ) → x ≢ 0 → is_dir t d ≡ true → device t d ≡ x → is_below t x d ≡ true
  below_device x d other is e = first_below x other (climb t d) (sym (ap (λ b. cond b (first_mount t (climb t d)) 0) is) ∙ e)

  -- so nothing that goes to its own device, and not beneath itself, is one
  pub moves_none : (s : Spot) (x to : ℕ) → look t s.0 s.1 ≡ Some x → is_dir t to ≡ true →
      cond (is_dir t x) (device t x) (device t s.0) ≡ device t to → is_inside t x to ≡ false → is_mount t x ≡ false
  moves_none s x to at lives near outside = by (is_mount t x) refl
    where
      by : (b : Bool) → is_mount t x ≡ b → is_mount t x ≡ false
      by false e = e
      by true mount =
          let dir = mount_lives x mount in
          let on : device t to ≡ x = sym near ∙ ap (λ b. cond b (device t x) (device t s.0)) dir ∙ device_at t well x dir mount in
          absurd (false≢true (sym outside ∙
          and_from (is_dir t x) _ dir (below_device x to (row_says t (sound_from t well) s x at).3 lives on)))

  -- nor is an empty directory on the device of the one in which it stands
  pub turns_none : (s : Spot) (y : ℕ) → look t s.0 s.1 ≡ Some y → is_empty t y ≡ true → device t y ≡ device t s.0 → is_mount t y ≡ false
  turns_none s y at empty near = by (is_mount t y) refl
    where
      none : has_no_row t y ≡ true
      none = (and_parts (is_dir t y) (has_no_row t y) empty).1

      by : (b : Bool) → is_mount t y ≡ b → is_mount t y ≡ false
      by false e = e
      by true mount =
          let says = row_says t (sound_from t well) s y at in
          let below = below_device y s.0 says.3 says.0 (sym near ∙ device_at t well y (and_parts (is_dir t y) (has_no_row t y) empty).0 mount) in
          let way = way_up t well y s.0 says.0 in
          elim (s.0 == y) as (λ b. (s.0 == y) ≡ b → is_mount t y ≡ false) [
            | true ↦ λ same. absurd (false≢true (sym (none_found spot_cmp spots_total exact_spots (λ (r : Spot × ℕ). r.0.0 == y) t.rows
                (not-true _ none) s y at) ∙ same))
            | false ↦ λ differs. absurd (not_empty t well y says.3 way.0 s.0 way.1 says.0 differs below none)
          ] refl
