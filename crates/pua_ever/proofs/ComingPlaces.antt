-- By which veils a directory and a name in it are covered, and which directories give way.
use Rattle.pua_ever.proofs.Common.{◌≡◌, ℕ, List, Bool, true, false, map, refl, sym, ap, subst, ◌∙◌, Option, Some, None, not, ◌&&◌, ◌==◌}
use Rattle.pua_ever.proofs.Common.{cond, if◌then◌else◌, list_any, eqb-true, Tree, WellFormed, above, above_lives, is_dir, climb, Whole, Slot, Way, Top}
use Rattle.std.specs.BTreeSet.{BTreeSet, contains}
use Rattle.std.specs.Ordering.{nat_cmp}
use Rattle.std.specs.Prelude.{IfSome}
use Rattle.pua_ever.proofs.Common.{is_mount}
use Rattle.pua_tree.specs.Tree.{parent}
use Rattle.pua_ever.proofs.Common.{ProcessState, has_veil, perms_kept, has_c, cover_in, can_empty}
use Rattle.std.proofs.lemmas.Bool.{eqb-false}
use Rattle.pua_policy.proofs.ForCallers.{climb_root, climb_step, veiled_where_kept}
use Rattle.pua_policy.specs.Reasons.{covering, first_kept, kept_or}
use Rattle.pua_policy.specs.States.{EachOnce}
use Rattle.pua_policy.specs.declared.place.Place.TheVariants as place
use Rattle.pua_policy.specs.declared.reason.Covering.{Covering}
use Rattle.pua_policy.specs.declared.reason.Covering.TheVariants.{InView, NoneOver}
use Rattle.pua_ever.specs.Comings.{GivesWay, place_by, place_over}
use Rattle.pua_ever.specs.Destinations.{is_outside}
use Rattle.pua_ever.proofs.Opened.{opened, opening_some, outsides}
use Rattle.pua_ever.proofs.Origin.{own_cover}

-- what is above a directory is one
pub parent_lives : (t : Tree) → WellFormed t → (dir : ℕ) (r : Option ℕ) → r ≡ parent t dir → IfSome r (λ over. is_dir t over ≡ true)
parent_lives t well dir r is = subst (λ r. IfSome r (λ over. is_dir t over ≡ true)) (sym is) (by (is_dir t dir))
  where
    by : (b : Bool) → IfSome (cond b (Some (above t dir)) None) (λ over. is_dir t over ≡ true)
    by true = above_lives t dir well
    by false = cc

module _ (t : Tree) (well : WellFormed t) (h : ProcessState) where
  abbrev far : ℕ → Covering
  far dir = first_kept (perms_kept h) (map place.Dir (climb t dir))

  abbrev over : ℕ → Covering
  over dir = if has_veil h.veils then far dir else InView

  -- a directory is covered as its further names are
  once : (o : Option ℕ) → kept_or (place.Dir 0) o (kept_or (place.Dir 0) o NoneOver) ≡ kept_or (place.Dir 0) o NoneOver
  once None = refl
  once (Some perms) = refl

  root_same : (way : Way) → covering t h (Whole 0 way) ≡ over 0
  root_same way =
      (λ i. if has_veil h.veils then kept_or (place.Dir 0) (perms_kept h (place.Dir 0))
      (first_kept (perms_kept h) (map place.Dir (climb_root t i))) else InView)
      ∙ (λ i. if has_veil h.veils then once (perms_kept h (place.Dir 0)) i else InView)
      ∙ (λ i. if has_veil h.veils then first_kept (perms_kept h) (map place.Dir (sym (climb_root t) i)) else InView)

  whole_same : (dir : ℕ) (way : Way) → is_dir t dir ≡ true → covering t h (Whole dir way) ≡ over dir
  whole_same dir way living = by (dir == 0) refl
    where
      by : (b : Bool) → (dir == 0) ≡ b → covering t h (Whole dir way) ≡ over dir
      by false e = ap (λ ds. if has_veil h.veils then first_kept (perms_kept h) (map place.Dir ds) else InView)
          (sym (climb_step t well dir (eqb-false dir 0 e) living))
      by true e = subst (λ d. covering t h (Whole d way) ≡ over d) (sym (eqb-true dir 0 e)) (root_same way)

  -- a name without a veil of its own is covered as its directory
  pub name_over : (dir : ℕ) (name : List ℕ) (node : Option ℕ) → is_dir t dir ≡ true → perms_kept h (place.Slot dir name) ≡ None →
      place_over t h (Whole dir Top) ≡ place_over t h (Slot dir name node)
  name_over dir name node is none =
      ap place_by (whole_same dir Top is ∙ (λ i. if has_veil h.veils then kept_or (place.Slot dir name) (sym none i) (far dir) else InView))

  -- which directories give way is told by those in which something stays, and those with `c`
  pub ways_given : EachOnce h.veils → (stays : BTreeSet ℕ) (dirs : List ℕ)
      → ((dir : ℕ) → is_dir t dir ≡ true → has_c (cover_in t h dir) ≡ true → can_empty t h dir ≡ not (contains nat_cmp stays dir))
      → dirs ≡ opened t h well → GivesWay t h stays dirs
  ways_given single stays dirs empties is dir living has =
      let veil = opening_some (perms_kept h (place.Dir dir)) has in
      let covers : has_c (cover_in t h dir) ≡ true = ap has_c (own_cover t well h dir veil.0 living veil.1) ∙ veil.2 in
      λ i. not (is_mount t dir) && (sym (empties dir living covers) i
      && (ap (list_any (is_outside t dir)) is ∙ sym (outsides t h well single (veiled_where_kept h.veils (place.Dir dir) veil.0 veil.1) dir)) i)
