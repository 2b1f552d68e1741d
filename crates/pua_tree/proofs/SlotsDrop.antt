-- A node that goes where none of its names is left.
use Rattle.pua_tree.proofs.Common.{◌≡◌, ◌==◌, ℕ, Bool, true, false, cond, not, Option, Some, None, option_map, refl, sym, ap, subst, ◌∙◌}
use Rattle.pua_tree.proofs.Common.{eqb-true, IfSome, is_eq, nat_cmp, find, put, where_key, spot_cmp, Tree, without_unnamed}
use Rattle.pua_tree.proofs.Common.{row_at, node_in, made_of, held_rows, held_nodes, held_in_slots, names_of, Slots, SlotNode}
use Rattle.pua_tree.specs.declared.numbering.Numbering.{Numbering}
use Rattle.pua_tree.specs.Tree as tree
use Rattle.pua_tree.specs.Edits.{without_node}
use Rattle.pua_tree.proofs.Base.{mapped}
use Rattle.pua_tree.proofs.Content.{spots_total, exact_spots}
use Rattle.pua_tree.proofs.Tallies.{without_at}
use Rattle.pua_tree.proofs.InOrder.{counted-put, counted-without}
use Rattle.pua_tree.proofs.SlotsHold.{rows_found, rows_sorted, nodes_found, nodes_taken}
use Rattle.pua_tree.proofs.SlotsKeep.{each}

-- a number without a node has none to take away
none_to_take : (s : Slots) (numbering : Numbering) (x : ℕ) → node_in s x ≡ None → held_in_slots s numbering ≡ without_node (held_in_slots s numbering) x
none_to_take s numbering x none =
    ap (λ nodes. record (held_in_slots s numbering) { nodes = nodes }) (nodes_taken s s x (λ q.
    elim (q == x) as (λ b. (q == x) ≡ b → node_in s q ≡ cond b None (node_in s q)) [
      | true ↦ λ t. ap (node_in s) (eqb-true q x t) ∙ none
      | false ↦ λ _. refl
    ] refl))

-- taken away where it has no name, or left
pub unnamed_goes : (s : Slots) (numbering : Numbering) (x names : ℕ) → IfSome (node_in s x) (λ _. names ≡ names_of (held_rows s) x) →
    cond (names == 0) (without_node (held_in_slots s numbering) x) (held_in_slots s numbering) ≡ without_unnamed (held_in_slots s numbering) x
unnamed_goes s numbering x names left = by (node_in s x) refl left
  where
    t : Tree
    t = held_in_slots s numbering

    either : (a b : Bool) → t ≡ without_node t x → cond a (without_node t x) t ≡ cond b (without_node t x) t
    either true true e = refl
    either true false e = sym e
    either false true e = e
    either false false e = refl

    by : (o : Option SlotNode) → node_in s x ≡ o → IfSome o (λ _. names ≡ names_of (held_rows s) x) →
        cond (names == 0) (without_node t x) t ≡ without_unnamed t x
    by None e _ = either (names == 0) (names_of (held_rows s) x == 0) (none_to_take s numbering x e)
    by (Some n) e same = ap (λ count. cond (count == 0) (without_node t x) t) same

-- a row that moves leaves each node as many names
module _ (old new : Slots) (from to : tree.Spot) (x : ℕ)
    (rows : held_rows new ≡ put spot_cmp to x (where_key spot_cmp (λ spot. not (is_eq (spot_cmp from spot))) (held_rows old)))
    (nodes : held_nodes new ≡ held_nodes old) (there : row_at old from ≡ Some x) (free : row_at old to ≡ None) where
  names_stay : (y : ℕ) → names_of (held_rows new) y ≡ names_of (held_rows old) y
  names_stay y =
      ap (λ r. names_of r y) rows
      ∙ counted-put spot_cmp spots_total exact_spots (λ row. row.1 == y) to x _ (
      without_at spot_cmp spots_total exact_spots to from (held_rows old)
      ∙ ap (λ o. cond (not (is_eq (spot_cmp from to))) o None) (rows_found old to ∙ free) ∙ neither (not (is_eq (spot_cmp from to))))
      ∙ counted-without spot_cmp spots_total exact_spots (λ row. row.1 == y) from x (held_rows old) (rows_sorted old)
      (rows_found old from ∙ there)
    where
      neither : (b : Bool) → ◌≡◌ {A = Option ℕ} (cond b None None) None
      neither true = refl
      neither false = refl

  pub left_after_move : (y names : ℕ) → IfSome (node_in old y) (λ _. names ≡ names_of (held_rows old) y) →
      IfSome (node_in new y) (λ _. names ≡ names_of (held_rows new) y)
  left_after_move y names left = each (node_in new y) (λ n e.
      let was = mapped made_of (node_in old y) (made_of n) (sym (nodes_found old y) ∙ ap (find nat_cmp y) (sym nodes) ∙ nodes_found new y ∙
      ap (λ (o : Option SlotNode). option_map made_of o) e) in
      subst (λ (o : Option SlotNode). IfSome o (λ _. names ≡ names_of (held_rows old) y)) was.1 left ∙ sym (names_stay y))
