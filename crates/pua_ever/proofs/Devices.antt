-- A request leaves each directory on its device.
use Rattle.pua_ever.proofs.Common.{◌≡◌, ◌≢◌, ℕ, Bool, true, false, above, cond, refl, None≢Some, sym, ap, ◌∙◌, inl, inr, arith, None, Some, ◌==◌, false≢true, eqb-true, and_parts}
use Rattle.pua_ever.proofs.Common.{same_Some, Tree, WellFormed, Spot, is_dir, is_mount, look, node_at, sound_from, row_says, CallTable, ProcessState}
use Rattle.pua_ever.proofs.Common.{Found, Slot, Whole, Named, Top, Dot, DotDot}
use Rattle.std.proofs.lemmas.Bool.{not-false}
use Rattle.pua_tree.specs.Laws.{KeepsDevices}
use Rattle.pua_tree.specs.Tree.{device, parent}
use Rattle.pua_tree.proofs.DevicesKeep.{device_here, device_up, keeps}
use Rattle.pua_path.specs.Fits.{node_named, spot_named}
use Rattle.pua_path.specs.declared.errno.Errno.TheVariants.{EXDEV}
use Rattle.pua_script.specs.Decide.{device_of, device_over, fault_if, fits_fault, is_elsewhere, kinds_fault}
use Rattle.pua_script.specs.Judged.{NameFits}
use Rattle.pua_script.proofs.ForCallers.{first_none, not_faulty}
use Rattle.pua_ever.proofs.Covers.{living_dir, below_next}
use Rattle.pua_ever.proofs.Grown.{From, Grown, IsNear, is_linked, is_moved, is_new}
use Rattle.pua_ever.proofs.Quiet.{above_row}

-- a directory at which nothing is mounted is on the device of the one in which it stands
pub device_over_row : (t : Tree) → WellFormed t → (s : Spot) (d : ℕ) → look t s.0 s.1 ≡ Some d → is_dir t d ≡ true → is_mount t d ≡ false →
    device t d ≡ device t s.0
device_over_row t well s d row is none =
    device_up t (sound_from t well) d is (row_says t (sound_from t well) s d row).3 none ∙ ap (device t) (above_row t well 0 s d row is)

-- by the one above it
pub device_above : (t : Tree) → WellFormed t → (d over : ℕ) → parent t d ≡ Some over → d ≢ 0 → is_mount t d ≡ false → device t d ≡ device t over
device_above t well d over at other none = by (is_dir t d) refl at
  where
    by : (b : Bool) → is_dir t d ≡ b → cond b (Some (above t d)) None ≡ Some over → device t d ≡ device t over
    by true living at = device_up t (sound_from t well) d living other none ∙ ap (device t) (same_Some (above t d) over at)
    by false living at = absurd (None≢Some over at)

pub device_at : (t : Tree) → WellFormed t → (d : ℕ) → is_dir t d ≡ true → is_mount t d ≡ true → device t d ≡ d
device_at t well d is here = device_here t (sound_from t well) d is here

module _ (table : CallTable) (t u : Tree) (h : ProcessState) (well : WellFormed t) (well_then : WellFormed u) (grown : Grown table t h u) where
  same_node : (d : ℕ) → is_dir t d ≡ true → is_dir u d ≡ true → node_at u d ≡ node_at t d
  same_node d was is = elim (grown.nodes d (living_dir u h well_then d is)) [
    | inl stays ↦ stays
    | inr born ↦ (let below = below_next t h well d (living_dir t h well d was) in let new = born.new in absurd (omega (arith, below, new)))
  ]

  near : (s : Spot) (d : ℕ) → is_dir t d ≡ true → is_dir u d ≡ true → look u s.0 s.1 ≡ Some d →
      (is_dir t s.0 ≡ true) × (is_mount t d ≡ false → device t s.0 ≡ device t d)
  near s d was is row = elim (grown.rows s d row) [
    | inl there ↦ (
      (row_says t (sound_from t well) s d there).0,
      λ none. sym (device_over_row t well s d there was none),
    )
    | inr put ↦ (put.lives, λ none. from put.from put.near)
  ]
    where
      from : (came : From table t h d) → IsNear table t h s.0 d came → device t s.0 ≡ device t d
      from (is_new new) close = let below = below_next t h well d (living_dir t h well d was) in absurd (omega (arith, below, new))
      from (is_moved r e can) close = sym close ∙ ap (λ b. cond b (device t d) (device t r.0)) was
      from (is_linked r e plain can) close = absurd (false≢true (sym plain ∙ was))

  pub devices_keep : KeepsDevices t u
  devices_keep = keeps t u (sound_from t well) (sound_from u well_then) same_node near

-- ---- what has two names

module _ (t : Tree) where
  -- the device of what stands in a row, by whose name it was found
  pub named_device : (a : Found) (x : ℕ) → NameFits t a → node_named a ≡ Some x → (s : Spot) → spot_named a ≡ Some s → is_dir t x ≡ false →
      device t s.0 ≡ device_of t a
  named_device (Whole dir w) x fits is s e plain = absurd (false≢true (sym plain ∙ ap (is_dir t) (sym (same_Some dir x is)) ∙ fits.fits))
  named_device (Slot dir name o) x fits is s e plain = ap (λ (r : Spot). device t r.0) (sym (same_Some (dir, name) s e))

  over_spot : (b : Found) (s : Spot) → spot_named b ≡ Some s → device_over t b ≡ device t s.0
  over_spot (Whole dir (Named parent name)) s e = ap (λ (r : Spot). device t r.0) (same_Some (parent, name) s e)
  over_spot (Whole dir Dot) s e = cc
  over_spot (Whole dir DotDot) s e = cc
  over_spot (Whole dir Top) s e = cc
  over_spot (Slot dir name o) s e = ap (λ (r : Spot). device t r.0) (same_Some (dir, name) s e)

  -- what is not elsewhere is on the device of the new name
  pub close_to : (a b : Found) → is_elsewhere t a b ≡ false → (s : Spot) → spot_named b ≡ Some s → device_of t a ≡ device t s.0
  close_to a b e s at =
      eqb-true (device_of t a) (device_over t b) (and_parts (device_of t a == device_over t b) _ (not-false _ e)).0 ∙ over_spot b s at

  pub moves_close : (a b : Found) (x : ℕ) → kinds_fault t x a b ≡ None → is_elsewhere t a b ≡ false
  moves_close a b x kinds = not_faulty (is_elsewhere t a b) EXDEV (first_none (fault_if (is_elsewhere t a b) EXDEV) (fits_fault t a b) kinds)
