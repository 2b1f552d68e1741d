-- As many rows and nodes are held as the maps have entries.
use Rattle.pua_tree.proofs.Common.{◌≡◌, ℕ, suc, Bool, true, false, cond, List, [], ◌∷◌, map, length, Option, Some, None, option_map, refl}
use Rattle.pua_tree.proofs.Common.{sym, ap, ◌∙◌, eqb-true, eq-eqb, true≢false, IsSome, option_and_then, lookup, keys_of, Ordering, Less}
use Rattle.pua_tree.proofs.Common.{Equal, Greater, nat_cmp, is_eq, find, put, by_order, Slab, index_map_len, spot_cmp, made_of, in_order}
use Rattle.pua_tree.proofs.Common.{with_entry, held_rows, held_nodes, Slots, SlotNode}
use Rattle.std.specs.List.{IsDistinct, AllByRecursion}
use Rattle.std.proofs.lemmas.Map.Keys.{IsDistinct-head, IsDistinct-tail}
use Rattle.slab.specs.Slab.{get as slot_get}
use Rattle.indexmap.specs.IndexMap.{IsUnique}
use Rattle.pua_tree.specs.Tree as tree
use Rattle.pua_tree.specs.Slots.{IsFiled}
use Rattle.pua_tree.specs.declared.spot.Spot.{Spot}
use Rattle.pua_tree.specs.declared.spot.RowNode.{RowNode}
use Rattle.pua_tree.specs.contracts.spot.SpotPartialEq.TheImpl.{ghosts as spot_ghosts}
use Rattle.pua_tree.specs.contracts.node.NodeIdPartialEq.TheImpl.{ghosts as number_ghosts}
use Rattle.pua_tree.proofs.Base.{Some≢None}
use Rattle.pua_tree.proofs.SlotsHold.{node_of_row, rows_found_in, nodes_found_in}

length-put : {K X : Type 0} (R : K → K → Ordering) (k : K) (v : X) (es : List (K × X)) → find R k es ≡ None →
    length (put R k v es) ≡ suc (length es)
length-put R k v [] none = refl
length-put R k v (e ∷ es) none =
    elim (R k e.0) as (λ r. cond (is_eq r) (Some e.1) (find R k es) ≡ None →
    length (by_order r ((k, v) ∷ e ∷ es) ((e.0, v) ∷ es) (e ∷ put R k v es)) ≡ suc (suc (length es))) [
      | Less ↦ λ n. refl
      | Equal ↦ λ n. absurd (Some≢None e.1 n)
      | Greater ↦ λ n. ap suc (length-put R k v es n)
    ] none

-- a key that is no later one's is not found later
first_only : {K X : Type 0} (eq : K → K → Bool) (k : K) (es : List (K × X)) → AllByRecursion (λ y. eq k y ≡ false) (keys_of es) →
    lookup (eq k) es ≡ None
first_only eq k [] h = refl
first_only eq k (e ∷ es) h = ap (λ b. cond b (Some e.1) (lookup (eq k) es)) h.0 ∙ first_only eq k es h.1

rows_as_many : (es : List (Spot × RowNode)) → IsDistinct spot_ghosts.eq (keys_of es) →
    length (in_order spot_cmp (map {B = tree.Spot × Option ℕ} (λ e. ((e.0.dir, e.0.name), Some e.1.node)) es)) ≡ length es
rows_as_many [] d = refl
rows_as_many (e ∷ es) d =
    length-put spot_cmp (
      e.0.dir,
      e.0.name,
    ) e.1.node (in_order spot_cmp (map {B = tree.Spot × Option ℕ} (λ e. ((e.0.dir, e.0.name), Some e.1.node)) es))
    (rows_found_in es (e.0.dir, e.0.name) ∙
    ap node_of_row (first_only spot_ghosts.eq e.0 es (IsDistinct-head spot_ghosts.eq e.0 (keys_of es) d)))
    ∙ ap suc (rows_as_many es (IsDistinct-tail spot_ghosts.eq e.0 (keys_of es) d))

pub row_count_is : (s : Slots) → IsDistinct spot_ghosts.eq (keys_of s.rows.entries) → length (held_rows s) ≡ length s.rows.entries
row_count_is s d = rows_as_many s.rows.entries d

some_value : {X : Type 0} (o : Option X) → IsSome o → (x : X) × (o ≡ Some x)
some_value None h = absurd (true≢false (sym h))
some_value (Some x) h = (x, refl)

nodes_as_many : (slots : Slab SlotNode) (es : List (ℕ × ℕ)) → IsDistinct number_ghosts.eq (keys_of es) →
    ((x slot : ℕ) → lookup (number_ghosts.eq x) es ≡ Some slot → IsSome (slot_get slots slot))
    → length (in_order nat_cmp (map {B = ℕ × Option tree.Node} (λ e. (e.0, option_map made_of (slot_get slots e.1))) es)) ≡ length es
nodes_as_many slots [] d filled = refl
nodes_as_many slots (e ∷ es) d filled =
    let rest = in_order nat_cmp (map {B = ℕ × Option tree.Node} (λ e. (e.0, option_map made_of (slot_get slots e.1))) es) in
    let none : lookup (number_ghosts.eq e.0) es ≡ None =
    first_only number_ghosts.eq e.0 es (IsDistinct-head number_ghosts.eq e.0 (keys_of es) d) in
    let node = some_value (slot_get slots e.1)
    (filled e.0 e.1 (ap (λ b. cond b (Some e.1) (lookup (number_ghosts.eq e.0) es)) (eq-eqb e.0 e.0 refl))) in
    let absent : find nat_cmp e.0 rest ≡ None = nodes_found_in slots es e.0 ∙
    ap (λ (o : Option ℕ). option_map made_of (option_and_then (slot_get slots) o)) none in
    ap (λ v. length (with_entry nat_cmp e.0 (option_map made_of v) rest)) node.1
    ∙ length-put nat_cmp e.0 (made_of node.0) rest absent
    ∙ ap suc (nodes_as_many slots es (IsDistinct-tail number_ghosts.eq e.0 (keys_of es) d)
    (λ x slot l. filled x slot (ap (λ b. cond b (Some e.1) (lookup (number_ghosts.eq x) es)) (apart x slot l) ∙ l)))
  where
    apart : (x slot : ℕ) → lookup (number_ghosts.eq x) es ≡ Some slot → number_ghosts.eq x e.0 ≡ false
    apart x slot l = elim (number_ghosts.eq x e.0) as (λ b. number_ghosts.eq x e.0 ≡ b → b ≡ false) [
      | true ↦ λ t. absurd (Some≢None slot (sym l ∙ ap (λ y. lookup (number_ghosts.eq y) es) (eqb-true x e.0 t) ∙
          first_only number_ghosts.eq e.0 es (IsDistinct-head number_ghosts.eq e.0 (keys_of es) d)))
      | false ↦ λ f. refl
    ] refl

pub node_count_is : (s : Slots) → IsUnique number_ghosts.eq s.numbers → IsFiled s → length (held_nodes s) ≡ index_map_len s.numbers
node_count_is s d f = nodes_as_many s.nodes s.numbers.entries d f.filled
