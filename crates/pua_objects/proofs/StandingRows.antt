-- What stands in rows that are read by their places, and where names are veiled.
use Rattle.pua_objects.proofs.Common.{◌≡◌, ◌==◌, ◌<◌, ◌&&◌, ◌||◌, length, ℕ, zero, suc, List, [], ◌∷◌, Bool, true, false, map, filter_map, refl, sym, ap, subst, ◌∙◌}
use Rattle.pua_objects.proofs.Common.{Option, Some, None, list_all, list_any, and_parts, eq-eqb, eqb-true, arith, Tree, WellFormed, Spot, spot_cmp, exact_spots, look}
use Rattle.pua_objects.proofs.Common.{sound_from, Place, if◌then◌else◌}
use Rattle.std.proofs.Common.{get_or}
use Rattle.std.proofs.lemmas.List.{get_or-map}
use Rattle.std.specs.Prelude.{IfOk, Result}
use Rattle.std.specs.Borrow.{Bor}
use Rattle.pua_tree.specs.Names.{same_bytes}
use Rattle.std.specs.List.{cons_option}
use Rattle.pua_tree.specs.LentRows.{lent_entry}
use Rattle.pua_tree.specs.Tree.{kind_at}
use Rattle.pua_tree.specs.declared.node.Kind.{Kind}
use Rattle.pua_tree.specs.declared.tree.LentRow.{LentRow}
use Rattle.pua_tree.proofs.ForCallers.{all_from_found, spots_total}
use Rattle.std.specs.FinMap.{find as find_key}
use Rattle.pua_policy.specs.States.{ProcessState, veil_at}
use Rattle.pua_policy.specs.declared.place.Place.TheVariants as place
use Rattle.pua_objects.specs.Standing.{AreVeiledIn, IsFound, IsStanding, slot_dir}
use Rattle.pua_objects.specs.declared.standing.Standing.{Standing}

abbrev is_value : ℕ → Option ℕ → Bool
is_value x None = false
is_value x (Some y) = y == x

from_value : (x : ℕ) (o : Option ℕ) → is_value x o ≡ true → o ≡ Some x
from_value x None e = cc
from_value x (Some y) e = ap Some (eqb-true y x e)

at_place : (q : Spot × ℕ → Bool) (rows : List LentRow) (i : ℕ) (row : LentRow) → list_all q (map lent_entry rows) ≡ true →
    i < length rows → row ≡ get_or rows i row → q (lent_entry row) ≡ true
at_place q [] i row all within at = absurd (omega (arith, within))
at_place q (r ∷ rows) zero row all within at = ap (λ x. q (lent_entry x)) at ∙ (and_parts (q (lent_entry r)) _ all).0
at_place q (r ∷ rows) (suc i) row all within at =
    at_place q rows i row (and_parts (q (lent_entry r)) _ all).1 (omega (arith, within)) at

-- a row that is lent is the one that is found
row_stands : (t : Tree) → WellFormed t → (rows : List LentRow) → map lent_entry rows ≡ t.rows → (i : ℕ) (row : LentRow) →
    i < length rows → row ≡ get_or rows i row → look t row.dir row.name.now ≡ Some row.node
row_stands t well rows are i row within at = from_value row.node (look t row.dir row.name.now) (at_place tells rows i row all within at)
  where
    tells : Spot × ℕ → Bool
    tells e = is_value e.1 (find_key spot_cmp e.0 t.rows)

    all : list_all tells (map lent_entry rows) ≡ true
    all = subst (λ es. list_all tells es ≡ true) (sym are)
        (all_from_found spot_cmp spots_total exact_spots tells t.rows (sound_from t well).rows_sorted
        (λ k v f. ap (is_value v) f ∙ eq-eqb v v refl))

-- the row at a place is that of its name
pub stands_at : (t : Tree) (h : ProcessState) (s : Standing) → WellFormed t → IsStanding t h s → (rows : List LentRow) (kinds : List (Option Kind)) →
    rows ≡ s.rows.items → kinds ≡ s.kinds.items → (i : ℕ) (row : LentRow) (kind : Option Kind) → i < length rows → row ≡ get_or rows i row →
    kind ≡ get_or kinds i kind → (dir : ℕ) (name : List ℕ) → row.dir ≡ dir → row.name.now ≡ name → IsFound t dir name (Some (row.node, kind))
stands_at t h s well is rows kinds same alike i row kind within at of dir name here named =
    let kinded : kinds ≡ map (λ r. kind_at t r.node) rows = alike ∙ is.kinds ∙ ap (map (λ r. kind_at t r.node)) (sym same) in
    let found : kind ≡ kind_at t row.node = of ∙ ap (λ ks. get_or ks i kind) kinded
    ∙ get_or-map (λ (r : LentRow). kind_at t r.node) rows i row kind within ∙ ap (λ (r : LentRow). kind_at t r.node) (sym at) in (
      (λ j. look t (sym here j) (sym named j)) ∙ row_stands t well rows (ap (map lent_entry) same ∙ is.rows) i row within at,
      sym found,
    )

-- where a directory isn't among those of veils at names, no name there is veiled
other_way : (a b : ℕ) → (a == b) ≡ false → (b == a) ≡ false
other_way a b e = elim (b == a) as (λ x. (b == a) ≡ x → x ≡ false) [
  | true ↦ λ same. sym (eq-eqb a b (sym (eqb-true b a same))) ∙ e
  | false ↦ λ same. refl
] refl

pub veiled_in_dirs : (vs : List (Place × ℕ)) → AreVeiledIn vs (filter_map slot_dir (map (λ veil. veil.0) vs))
veiled_in_dirs [] dir name none = refl
veiled_in_dirs ((place.Dir d, perms) ∷ vs) dir name none = veiled_in_dirs vs dir name none
veiled_in_dirs ((place.Slot d n, perms) ∷ vs) dir name none = by (d == dir) refl (veiled_in_dirs vs dir name) none
  where
    by : (b : Bool) → (d == dir) ≡ b →
        (list_any (λ other. other == dir) (filter_map slot_dir (map (λ veil. veil.0) vs)) ≡ false → veil_at vs (place.Slot dir name) ≡ None) → (b || list_any (λ other. other == dir) (filter_map slot_dir (map (λ veil. veil.0) vs))) ≡ false →
        veil_at ((place.Slot d n, perms) ∷ vs) (place.Slot dir name) ≡ None
    by true same more none = cc
    by false other more none = ap (λ b. if b && same_bytes name n then Some perms else veil_at vs (place.Slot dir name)) (other_way d dir other)
        ∙ more none

-- what is picked of places that are lent
same_picked : {A B : Type 0} (f : A → Option B) (ps : List (Bor A)) → filter_map (λ p. f p.now) ps ≡ filter_map f (map (λ p. p.now) ps)
same_picked f [] = refl
same_picked f (p ∷ ps) = ap (cons_option (f p.now)) (same_picked f ps)

pub picked_now : {A B V E : Type 0} (f : A → Option B) (ps : List (Bor A)) (r : Result V E) (items : V → List B) →
    IfOk r (λ v. items v ≡ filter_map (λ p. f p.now) ps) → IfOk r (λ v. items v ≡ filter_map f (map (λ p. p.now) ps))
picked_now f ps r items = subst (λ xs. IfOk r (λ v. items v ≡ xs)) (same_picked f ps)
