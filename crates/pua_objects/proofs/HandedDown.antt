-- Which veil covers something follows from which one covers its directory.
use Rattle.pua_objects.proofs.Common.{◌≡◌, ◌≢◌, ℕ, List, [], ◌∷◌, map, Bool, true, false, refl, sym, ap, ◌∙◌, subst, Option, Some, None}
use Rattle.pua_objects.proofs.Common.{if◌then◌else◌, ◌&&◌, ◌||◌, list_any, Tree, WellFormed, is_dir, look, sound_from, row_says, Way, Top}
use Rattle.pua_objects.proofs.Common.{Whole, Slot, ProcessState, perms_kept, Place, Others, cover_in}
use Rattle.pua_objects.proofs.Common.{covers_descend}
use Rattle.std.specs.Prelude.{slice_get, ◌==◌}
use Rattle.std.proofs.lemmas.Bool.{eqb-false, eqb-true}
use Rattle.pua_tree.specs.Tree.{climb, is_within}
use Rattle.pua_tree.proofs.ForCallers.{above_is}
use Rattle.pua_policy.proofs.ForCallers.{climb_root, climb_step, coverings_cover, veiled_where_kept}
use Rattle.pua_policy.specs.States.{has_veil, veil_at}
use Rattle.pua_policy.specs.Reasons.{cover_of, covering, first_kept, kept_or}
use Rattle.pua_policy.specs.declared.place.Place.TheVariants as place
use Rattle.pua_policy.specs.declared.reason.Covering.{Covering}
use Rattle.pua_policy.specs.declared.reason.Covering.TheVariants.{InView, NoneOver, By}
use Rattle.pua_objects.specs.Veils.{IsHandedDown, IsOver, covering_by, covering_over, unveiled, veil_there}
use Rattle.pua_objects.specs.declared.over.Over.{Over}

-- where there is no veil a place has none
no_veil_at : (vs : List (Place × ℕ)) (at : Place) → has_veil vs ≡ false → veil_at vs at ≡ None
no_veil_at [] at none = refl
no_veil_at (v ∷ vs) at none = cc

-- the place's own veil
pub own_over : (p : ProcessState) (at : Place) (over new : Over) (index perms : ℕ) → veil_at p.veils at ≡ Some perms →
    slice_get p.veils index ≡ Some (at, perms) → new.veil ≡ Some index → new.cover ≡ cover_of (By at perms) → IsHandedDown p at over new
own_over p at over new index perms kept there veil cover = λ covers before.
    let is : By at perms ≡ (if has_veil p.veils then kept_or at (veil_at p.veils at) covers else InView) =
    (λ i. if sym (veiled_where_kept p.veils at perms kept) i then kept_or at (sym kept i) covers else InView) in
    record {
      veil = ap (covering_by p.veils) veil ∙ ap veil_there there ∙ is;
      cover = cover ∙ ap cover_of is;
    }

-- none of its own
pub same_over : (p : ProcessState) (at : Place) (over : Over) → veil_at p.veils at ≡ None → IsHandedDown p at over over
same_over p at over none = λ covers before.
    subst (IsOver p.veils over) (λ i. if has_veil p.veils then kept_or at (sym none i) covers else InView) before

pub none_over : (p : ProcessState) (at : Place) (over : Over) → has_veil p.veils ≡ false → IsHandedDown p at over over
none_over p at over none = same_over p at over (no_veil_at p.veils at none)

module _ (t : Tree) (fits : WellFormed t) (p : ProcessState) where
  abbrev far : ℕ → Covering
  far dir = first_kept (perms_kept p) (map place.Dir (climb t dir))

  abbrev over_dir : ℕ → Covering
  over_dir dir = covering_over t p (Others dir)

  pub over_root : (over new : Over) → IsOver p.veils over (unveiled p.veils) → IsHandedDown p (place.Dir 0) over new →
      IsOver p.veils new (over_dir 0)
  over_root over new before down =
      subst (λ ds. IsOver p.veils new (if has_veil p.veils then first_kept (perms_kept p) (map place.Dir ds) else InView))
      (sym (climb_root t))
      (down NoneOver before)

  -- from a directory one comes to the one around it
  row_climb : (dir x : ℕ) (name : List ℕ) → look t dir name ≡ Some x → is_dir t x ≡ true → climb t x ≡ x ∷ climb t dir
  row_climb dir x name row living =
      let sound = sound_from t fits in
      let other : x ≢ 0 = (row_says t sound (dir, name) x row).3 in
      climb_step t fits x other living ∙ ap (λ d. x ∷ climb t d) (above_is t x (dir, name) other (sound.once x living other) row)

  pub over_below : (dir x : ℕ) (name : List ℕ) (over new : Over) → look t dir name ≡ Some x → is_dir t x ≡ true →
      IsOver p.veils over (over_dir dir) → IsHandedDown p (place.Dir x) over new → IsOver p.veils new (over_dir x)
  over_below dir x name over new row living before down =
      subst (λ ds. IsOver p.veils new (if has_veil p.veils then first_kept (perms_kept p) (map place.Dir ds) else InView))
      (sym (row_climb dir x name row living)) (down (far dir) before)

  -- what stands in a directory is at or below another if it is that, or the directory around it is
  pub root_within : (root : ℕ) → is_within t 0 root ≡ (0 == root || false)
  root_within root = λ i. fits.root i && list_any (λ e. e == root) (climb_root t i)

  pub row_within : (root dir x : ℕ) (name : List ℕ) → is_dir t dir ≡ true → look t dir name ≡ Some x → is_dir t x ≡ true →
      is_within t x root ≡ (x == root || is_within t dir root)
  row_within root dir x name around row living =
      (λ i. living i && list_any (λ e. e == root) (row_climb dir x name row living i))
      ∙ (λ i. x == root || (sym around i && list_any (λ e. e == root) (climb t dir)))

  pub over_name : (dir : ℕ) (name : List ℕ) (there : Option ℕ) (over new : Over) → IsOver p.veils over (over_dir dir) →
      IsHandedDown p (place.Slot dir name) over new → IsOver p.veils new (covering t p (Slot dir name there))
  over_name dir name there over new before down = down (far dir) before

  -- a directory is covered as its further names are
  once : (o : Option ℕ) → kept_or (place.Dir 0) o (kept_or (place.Dir 0) o NoneOver) ≡ kept_or (place.Dir 0) o NoneOver
  once None = refl
  once (Some perms) = refl

  root_same : (way : Way) → covering t p (Whole 0 way) ≡ over_dir 0
  root_same way =
      (λ i. if has_veil p.veils then kept_or (place.Dir 0) (perms_kept p (place.Dir 0))
      (first_kept (perms_kept p) (map place.Dir (climb_root t i))) else InView)
      ∙ (λ i. if has_veil p.veils then once (perms_kept p (place.Dir 0)) i else InView)
      ∙ (λ i. if has_veil p.veils then first_kept (perms_kept p) (map place.Dir (sym (climb_root t) i)) else InView)

  whole_same : (dir : ℕ) (way : Way) → is_dir t dir ≡ true → covering t p (Whole dir way) ≡ over_dir dir
  whole_same dir way living = by (dir == 0) refl
    where
      by : (b : Bool) → (dir == 0) ≡ b → covering t p (Whole dir way) ≡ over_dir dir
      by false e = ap (λ ds. if has_veil p.veils then first_kept (perms_kept p) (map place.Dir ds) else InView)
          (sym (climb_step t fits dir (eqb-false dir 0 e) living))
      by true e = subst (λ d. covering t p (Whole d way) ≡ over_dir d) (sym (eqb-true dir 0 e)) (root_same way)

  pub over_whole : (dir : ℕ) (way : Way) (over : Over) → is_dir t dir ≡ true → IsOver p.veils over (over_dir dir) →
      IsOver p.veils over (covering t p (Whole dir way))
  over_whole dir way over living before = subst (IsOver p.veils over) (sym (whole_same dir way living)) before

  -- what it leaves is the cover
  pub others_cover : (dir : ℕ) (over : Over) → is_dir t dir ≡ true → IsOver p.veils over (over_dir dir) → over.cover ≡ cover_in t p dir
  others_cover dir over living before =
      before.cover ∙ ap cover_of (sym (whole_same dir Top living)) ∙ coverings_cover t p (Whole dir Top) ∙
      (covers_descend t p fits).directory dir Top living
