-- What is found in the rows and nodes that slots hold, and how they change.
use Rattle.pua_tree.proofs.Common.{◌≡◌, ℕ, Bool, true, false, not, ◌==◌, cond, T, List, [], ◌∷◌, map, Option, Some, None, option_map, refl}
use Rattle.pua_tree.proofs.Common.{sym, ap, subst, ◌∙◌, eqb-true, eq-eqb, option_and_then, lookup, nat_cmp, is_eq, eq_by_cmp, nat_cmp_total}
use Rattle.pua_tree.proofs.Common.{tied_itself, Equal-is, find, put, is_sorted, nat_cmp-IsAntisymmetric, where_key, find-put, is_sorted-put}
use Rattle.pua_tree.proofs.Common.{is_sorted-where_key, same_entries, and_parts, and_from, same_from_decides, bytes_decides, Slab, spot_cmp}
use Rattle.pua_tree.proofs.Common.{row_at, node_in, made_of, in_order, with_entry, held_rows, held_nodes, Slots, SlotNode}
use Rattle.slab.specs.Slab.{get as slot_get}
use Rattle.pua_tree.specs.Tree as tree
use Rattle.pua_tree.specs.NamedRows.{key_at, ChangesAt}
use Rattle.pua_tree.specs.Slots.{row_in}
use Rattle.pua_tree.specs.declared.spot.Spot.{Spot}
use Rattle.pua_tree.specs.declared.spot.RowNode.{RowNode}
use Rattle.pua_tree.specs.contracts.spot.SpotPartialEq.TheImpl.{ghosts as spot_ghosts}
use Rattle.pua_tree.specs.contracts.node.NodeIdPartialEq.TheImpl.{ghosts as number_ghosts}
use Rattle.pua_tree.proofs.Content.{spots_total, exact_spots}
use Rattle.pua_tree.proofs.Tallies.{without_at}
use Rattle.pua_tree.proofs.InOrder.{sorted_in_order}

-- keys are equal where their spots tie
pub same_key : (a b : tree.Spot) → spot_ghosts.eq (key_at a) (key_at b) ≡ is_eq (spot_cmp a b)
same_key a b = same_from_decides {P = a ≡ b} _ _ (
  λ e. (let parts = and_parts (a.0 == b.0) _ e in λ i. (eqb-true a.0 b.0 parts.0 i, (bytes_decides a.1 b.1).0 parts.1 i)),
  λ s. subst (λ (c : tree.Spot). spot_ghosts.eq (key_at a) (key_at c) ≡ true) s
      (and_from _ _ (eq-eqb a.0 a.0 refl) ((bytes_decides a.1 a.1).1 refl)),
)
    (λ e. exact_spots a b ((Equal-is _).0 e), λ s. subst (λ c. is_eq (spot_cmp a c) ≡ true) s (ap is_eq (tied_itself spots_total a)))

pub same_tie : (a b : tree.Spot) → eq_by_cmp spot_cmp a b ≡ spot_ghosts.eq (key_at a) (key_at b)
same_tie a b = sym (same_key a b)

pub turned_key : (a b : tree.Spot) → is_eq (spot_cmp a b) ≡ is_eq (spot_cmp b a)
turned_key a b = same_from_decides {P = a ≡ b} _ _
    (λ e. exact_spots a b ((Equal-is _).0 e), λ s. subst (λ c. is_eq (spot_cmp a c) ≡ true) s (ap is_eq (tied_itself spots_total a)))
    (λ e. sym (exact_spots b a ((Equal-is _).0 e)), λ s. subst (λ c. is_eq (spot_cmp c a) ≡ true) s (ap is_eq (tied_itself spots_total a)))

-- the node of a row that may be there
abbrev pub node_of_row : Option RowNode → Option ℕ
node_of_row row = option_map (λ (r : RowNode). r.node) row

pub node_of_one : (b : Bool) (row : Option RowNode) (v : Option RowNode) →
    node_of_row (cond b row v) ≡ cond b (node_of_row row) (node_of_row v)
node_of_one true row v = refl
node_of_one false row v = refl

pub rows_found_in : (es : List (Spot × RowNode)) (at : tree.Spot)
    → find spot_cmp at (in_order spot_cmp (map {B = tree.Spot × Option ℕ} (λ e. ((e.0.dir, e.0.name), Some e.1.node)) es))
    ≡ node_of_row (lookup (spot_ghosts.eq (key_at at)) es)
rows_found_in [] at = refl
rows_found_in (e ∷ es) at =
    find-put spot_cmp spots_total at (e.0.dir, e.0.name) e.1.node _
    ∙ (λ i. cond (same_tie at (e.0.dir, e.0.name) i) (Some e.1.node) (rows_found_in es at i))
    ∙ sym (node_of_one (spot_ghosts.eq (key_at at) e.0) (Some e.1) (lookup (spot_ghosts.eq (key_at at)) es))

-- rows are found where they are held
pub rows_found : (s : Slots) (at : tree.Spot) → find spot_cmp at (held_rows s) ≡ row_at s at
rows_found s at = rows_found_in s.rows.entries at

pub rows_sorted : (s : Slots) → T (is_sorted spot_cmp (held_rows s))
rows_sorted s = sorted_in_order spot_cmp spots_total
    (map {B = tree.Spot × Option ℕ} (λ e. ((e.0.dir, e.0.name), Some e.1.node)) s.rows.entries)

pub nodes_sorted : (s : Slots) → T (is_sorted nat_cmp (held_nodes s))
nodes_sorted s = sorted_in_order nat_cmp nat_cmp_total
    (map {B = ℕ × Option tree.Node} (λ e. (e.0, option_map made_of (slot_get s.nodes e.1))) s.numbers.entries)

-- a row put
pub rows_put : (old new : Slots) (at : tree.Spot) (row : RowNode) →
    ChangesAt at (Some row) old.rows new.rows → held_rows new ≡ put spot_cmp at row.node (held_rows old)
rows_put old new at row u =
    let x = row.node in
    same_entries spot_cmp spots_total exact_spots (held_rows new) (put spot_cmp at x (held_rows old)) (rows_sorted new)
    (is_sorted-put spot_cmp spots_total at x (held_rows old) (rows_sorted old))
    (λ q. rows_found new q ∙ ap node_of_row (u (key_at q))
    ∙ node_of_one (spot_ghosts.eq (key_at at) (key_at q)) (Some row) (row_in old q)
    ∙ ap (λ b. cond b (Some x) (row_at old q)) (same_key at q ∙ turned_key at q)
    ∙ ap (λ v. cond (is_eq (spot_cmp q at)) (Some x) v) (sym (rows_found old q))
    ∙ sym (find-put spot_cmp spots_total q at x (held_rows old)))

-- a row taken away
pub rows_taken : (old new : Slots) (at : tree.Spot) → ChangesAt at None old.rows new.rows
    → held_rows new ≡ where_key spot_cmp (λ spot. not (is_eq (spot_cmp at spot))) (held_rows old)
rows_taken old new at u =
    same_entries spot_cmp spots_total exact_spots (held_rows new) (where_key spot_cmp (λ spot. not (is_eq (spot_cmp at spot)))
    (held_rows old)) (rows_sorted new) (is_sorted-where_key spot_cmp _ (held_rows old) (rows_sorted old))
    (λ q. rows_found new q ∙ ap node_of_row (u (key_at q))
    ∙ node_of_one (spot_ghosts.eq (key_at at) (key_at q)) None (row_in old q)
    ∙ ap (λ b. cond b None (row_at old q)) (same_key at q)
    ∙ ap (λ v. cond (is_eq (spot_cmp at q)) None v) (sym (rows_found old q))
    ∙ turned (is_eq (spot_cmp at q)) (find spot_cmp q (held_rows old))
    ∙ sym (without_at spot_cmp spots_total exact_spots q at (held_rows old)))
  where
    turned : (b : Bool) (v : Option ℕ) → cond b None v ≡ cond (not b) v None
    turned true v = refl
    turned false v = refl

-- the number's own node, and none where its slot has none
number_tie : (x y : ℕ) → eq_by_cmp nat_cmp x y ≡ number_ghosts.eq x y
number_tie x y = same_from_decides {P = x ≡ y} _ _ (
  λ e. nat_cmp-IsAntisymmetric x y ((Equal-is _).0 e),
  λ s. subst (λ c. eq_by_cmp nat_cmp x c ≡ true) s (ap is_eq (tied_itself nat_cmp_total x)),
)
    (λ e. eqb-true x y e, λ e. eq-eqb x y e)

turned_number : (x y : ℕ) → is_eq (nat_cmp x y) ≡ number_ghosts.eq y x
turned_number x y = same_from_decides {P = x ≡ y} _ _ (
  λ e. nat_cmp-IsAntisymmetric x y ((Equal-is _).0 e),
  λ s. subst (λ c. is_eq (nat_cmp x c) ≡ true) s (ap is_eq (tied_itself nat_cmp_total x)),
)
    (λ e. sym (eqb-true y x e), λ e. eq-eqb y x (sym e))

pub nodes_found_in : (slots : Slab SlotNode) (es : List (ℕ × ℕ)) (x : ℕ)
    → find nat_cmp x (in_order nat_cmp (map {B = ℕ × Option tree.Node} (λ e. (e.0, option_map made_of (slot_get slots e.1))) es))
    ≡ option_map made_of (option_and_then (slot_get slots) (lookup (number_ghosts.eq x) es))
nodes_found_in slots [] x = refl
nodes_found_in slots (e ∷ es) x =
    let rest = in_order nat_cmp (map {B = ℕ × Option tree.Node} (λ e. (e.0, option_map made_of (slot_get slots e.1))) es) in
    elim (slot_get slots e.1) as (λ v. slot_get slots e.1 ≡ v →
    find nat_cmp x (with_entry nat_cmp e.0 (option_map made_of v) rest)
    ≡ option_map made_of (option_and_then (slot_get slots) (cond (number_ghosts.eq x e.0) (Some e.1) (lookup (number_ghosts.eq x) es)))) [
      | None ↦ λ g. without_at nat_cmp nat_cmp_total nat_cmp-IsAntisymmetric x e.0 rest
          ∙ ap (λ b. cond (not b) (find nat_cmp x rest) None) (turned_number e.0 x)
          ∙ ap (λ v. cond (not (number_ghosts.eq x e.0)) v None) (nodes_found_in slots es x)
          ∙ emptied (number_ghosts.eq x e.0) g
      | Some n ↦ λ g. find-put nat_cmp nat_cmp_total x e.0 (made_of n) rest
          ∙ (λ i. cond (number_tie x e.0 i) (Some (made_of n)) (nodes_found_in slots es x i))
          ∙ filled n (number_ghosts.eq x e.0) g
    ] refl
  where
    emptied : (b : Bool) → slot_get slots e.1 ≡ None
        → cond (not b) (option_map made_of (option_and_then (slot_get slots) (lookup (number_ghosts.eq x) es))) None
        ≡ option_map made_of (option_and_then (slot_get slots) (cond b (Some e.1) (lookup (number_ghosts.eq x) es)))
    emptied true g = ap (λ (v : Option SlotNode). option_map made_of v) (sym g)
    emptied false g = refl

    filled : (n : SlotNode) (b : Bool) → slot_get slots e.1 ≡ Some n
        → cond b (Some (made_of n)) (option_map made_of (option_and_then (slot_get slots) (lookup (number_ghosts.eq x) es)))
        ≡ option_map made_of (option_and_then (slot_get slots) (cond b (Some e.1) (lookup (number_ghosts.eq x) es)))
    filled n true g = ap (λ (v : Option SlotNode). option_map made_of v) (sym g)
    filled n false g = refl

-- nodes are found where they are held
pub nodes_found : (s : Slots) (x : ℕ) → find nat_cmp x (held_nodes s) ≡ option_map made_of (node_in s x)
nodes_found s x = nodes_found_in s.nodes s.numbers.entries x

-- what is found alike is held alike
pub nodes_same : (old new : Slots) → ((x : ℕ) → option_map made_of (node_in new x) ≡ option_map made_of (node_in old x)) →
    held_nodes new ≡ held_nodes old
nodes_same old new same =
    same_entries nat_cmp nat_cmp_total nat_cmp-IsAntisymmetric (held_nodes new) (held_nodes old) (nodes_sorted new) (nodes_sorted old)
    (λ q. nodes_found new q ∙ same q ∙ sym (nodes_found old q))

-- a node put
pub nodes_put : (old new : Slots) (x : ℕ) (node : SlotNode) → ((q : ℕ) → node_in new q ≡ cond (q == x) (Some node) (node_in old q)) →
    held_nodes new ≡ put nat_cmp x (made_of node) (held_nodes old)
nodes_put old new x node found =
    same_entries nat_cmp nat_cmp_total nat_cmp-IsAntisymmetric (held_nodes new) (put nat_cmp x (made_of node) (held_nodes old))
    (nodes_sorted new) (is_sorted-put nat_cmp nat_cmp_total x (made_of node) (held_nodes old) (nodes_sorted old))
    (λ q. nodes_found new q ∙ ap (λ (v : Option SlotNode). option_map made_of v) (found q)
    ∙ inside (q == x) (node_in old q)
    ∙ (λ i. cond (sym (number_tie q x) i) (Some (made_of node)) (sym (nodes_found old q) i))
    ∙ sym (find-put nat_cmp nat_cmp_total q x (made_of node) (held_nodes old)))
  where
    inside : (b : Bool) (v : Option SlotNode) →
        option_map made_of (cond b (Some node) v) ≡ cond b (Some (made_of node)) (option_map made_of v)
    inside true v = refl
    inside false v = refl

-- a node taken away
pub nodes_taken : (old new : Slots) (x : ℕ) → ((q : ℕ) → node_in new q ≡ cond (q == x) None (node_in old q))
    → held_nodes new ≡ where_key nat_cmp (λ other. not (is_eq (nat_cmp x other))) (held_nodes old)
nodes_taken old new x found =
    same_entries nat_cmp nat_cmp_total nat_cmp-IsAntisymmetric (held_nodes new) (where_key nat_cmp (λ other. not (is_eq (nat_cmp x other)))
    (held_nodes old)) (nodes_sorted new) (is_sorted-where_key nat_cmp _ (held_nodes old) (nodes_sorted old))
    (λ q. nodes_found new q ∙ ap (λ (v : Option SlotNode). option_map made_of v) (found q)
    ∙ inside (q == x) (node_in old q)
    ∙ (λ i. cond (not (sym (turned_number x q) i)) (sym (nodes_found old q) i) None)
    ∙ sym (without_at nat_cmp nat_cmp_total nat_cmp-IsAntisymmetric q x (held_nodes old)))
  where
    inside : (b : Bool) (v : Option SlotNode) → option_map made_of (cond b None v) ≡ cond (not b) (option_map made_of v) None
    inside true v = refl
    inside false v = refl

-- rows are held by the entries of their map alone
pub rows_by_entries : (s t : Slots) → s.rows.entries ≡ t.rows.entries → held_rows s ≡ held_rows t
rows_by_entries s t e =
    ap (λ es. in_order spot_cmp (map {B = tree.Spot × Option ℕ} (λ (e : Spot × RowNode). ((e.0.dir, e.0.name), Some e.1.node)) es)) e
