-- Edits of the lists that hold a tree, as edits of the tree.
use Rattle.pua_tree.proofs.Common.{◌≡◌, ◌≤◌, ℕ, ◌+◌, ◌++◌, ltb, true, false, not, ◌&&◌, ◌||◌, cond, List, [], ◌∷◌, map, Option, Some, None}
use Rattle.pua_tree.proofs.Common.{option_map, ◌==◌, count_by, eqb, refl, sym, ap, ◌∙◌, list_all, list_any, cons_option, nat_cmp, is_eq}
use Rattle.pua_tree.proofs.Common.{is_sorted, put, where_key, is_sorted-where_key, and_parts, and_from, sum_by-zero, WellFormed}
use Rattle.pua_tree.proofs.Common.{without_row, without_unnamed, with_row, Entry, Enters, grown_by, row_entry, node_entry, held_tree}
use Rattle.pua_tree.proofs.Common.{ListRow, passes}
use Rattle.std.proofs.Common.{IsTrue}
use Rattle.std.proofs.lemmas.List.{append-nil}
use Rattle.pua_tree.specs.Tree as tree
use Rattle.pua_tree.specs.Tree.{node_fits}
use Rattle.pua_tree.specs.Edits.{without_node}
use Rattle.pua_tree.specs.Numbering.{with_next}
use Rattle.pua_tree.specs.declared.numbering.Numbering.{Numbering}
use Rattle.pua_tree.specs.declared.list.ListNode.{ListNode}
use Rattle.pua_tree.proofs.Base.{holds}
use Rattle.pua_tree.proofs.Entries.{put_last}
use Rattle.pua_tree.proofs.Raised.{raised_keeps}

no_row : (rows : List ListRow) (x : ℕ) →
    list_all (λ row. eqb (cond (row.1 == x) 1 0) 0) (map row_entry rows) ≡ not (list_any (λ row. row.node == x) rows)
no_row [] x = refl
no_row (r ∷ rows) x =
    elim (r.node == x) as (λ b. (eqb (cond b 1 0) 0 && list_all (λ row. eqb (cond (row.1 == x) 1 0) 0) (map row_entry rows))
    ≡ not (b || list_any (λ row. row.node == x) rows)) [
      | true ↦ refl
      | false ↦ no_row rows x
    ]

-- a node stands in no row where none has it
rows_none : (rows : List ListRow) (x : ℕ) →
    (count_by (λ row. row.1 == x) (map row_entry rows) == 0) ≡ not (list_any (λ row. row.node == x) rows)
rows_none rows x = sum_by-zero (λ row. cond (row.1 == x) 1 0) (map row_entry rows) ∙ no_row rows x

pub unnamed_taken : (rows : List ListRow) (nodes left : List ListNode) (x : ℕ) (numbering : Numbering) → list_any (λ row. row.node == x) rows ≡ false
    → map node_entry left ≡ where_key nat_cmp (λ other. not (is_eq (nat_cmp x other))) (map node_entry nodes)
    → held_tree rows left numbering ≡ without_unnamed (held_tree rows nodes numbering) x
unnamed_taken rows nodes left x numbering none e =
    let t = held_tree rows nodes numbering in
    let taken : held_tree rows left numbering ≡ without_node t x = λ i. record { rows = map row_entry rows; nodes = e i; next = numbering.next; room = numbering.room } in
    taken ∙ sym (ap (λ b. cond b (without_node t x) t) (rows_none rows x ∙ ap not none))

pub named_kept : (rows : List ListRow) (nodes : List ListNode) (x : ℕ) (numbering : Numbering) → list_any (λ row. row.node == x) rows ≡ true
    → held_tree rows nodes numbering ≡ without_unnamed (held_tree rows nodes numbering) x
named_kept rows nodes x numbering some =
    let t = held_tree rows nodes numbering in
    sym (ap (λ b. cond b (without_node t x) t) (rows_none rows x ∙ ap not some))

pub sorted_without : (dir : ℕ) (name : List ℕ) (es : List (tree.Spot × ℕ)) → IsTrue (is_sorted tree.spot_cmp es)
    → IsTrue (is_sorted tree.spot_cmp (where_key tree.spot_cmp (λ spot. not (is_eq (tree.spot_cmp (dir, name) spot))) es))
sorted_without dir name es h =
    holds _ (is_sorted-where_key tree.spot_cmp (λ spot. not (is_eq (tree.spot_cmp (dir, name) spot))) es (passes _ h))

pub row_gone : (rows left : List ListRow) (nodes : List ListNode) (numbering : Numbering) (dir : ℕ) (name : List ℕ)
    → map row_entry left ≡ where_key tree.spot_cmp (λ spot. not (is_eq (tree.spot_cmp (dir, name) spot))) (map row_entry rows)
    → held_tree left nodes numbering ≡ without_row (held_tree rows nodes numbering) dir name
row_gone rows left nodes numbering dir name e = λ i. record { rows = e i; nodes = map node_entry nodes; next = numbering.next; room = numbering.room }

pub row_came : (rows more : List ListRow) (nodes : List ListNode) (numbering : Numbering) (dir : ℕ) (name : List ℕ) (x : ℕ)
    → map row_entry more ≡ put tree.spot_cmp (dir, name) x (map row_entry rows)
    → held_tree more nodes numbering ≡ with_row (held_tree rows nodes numbering) dir name x
row_came rows more nodes numbering dir name x e = λ i. record { rows = e i; nodes = map node_entry nodes; next = numbering.next; room = numbering.room }

pub row_moved : (rows left more : List ListRow) (nodes : List ListNode) (numbering : Numbering) (from : ℕ) (name : List ℕ) (to : ℕ) (new_name : List ℕ) (x : ℕ)
    → map row_entry left ≡ where_key tree.spot_cmp (λ spot. not (is_eq (tree.spot_cmp (from, name) spot))) (map row_entry rows)
    → map row_entry more ≡ put tree.spot_cmp (to, new_name) x (map row_entry left)
    → held_tree more nodes numbering ≡ with_row (without_row (held_tree rows nodes numbering) from name) to new_name x
row_moved rows left more nodes numbering from name to new_name x took came =
    let moved = came ∙ ap (put tree.spot_cmp (to, new_name) x) took in
    λ i. record { rows = moved i; nodes = map node_entry nodes; next = numbering.next; room = numbering.room }

numbers_below : (t : tree.Tree) (es : List (ℕ × tree.Node)) → list_all (node_fits t) es ≡ true → list_all (λ e. ltb e.0 t.next) es ≡ true
numbers_below t [] h = refl
numbers_below t (e ∷ es) h =
    let parts = and_parts _ _ h in
    and_from _ _ (and_parts _ _ parts.0).0 (numbers_below t es parts.1)

-- an entry more in the lists, as what it makes of the tree
pub entry_came : (rows more : List ListRow) (nodes all : List ListNode) (numbering : Numbering) (e : Entry) (m : Option tree.Node) →
    WellFormed (held_tree rows nodes numbering) → numbering.next ≤ e.number → Enters (held_tree rows nodes numbering) e m
    → map row_entry more ≡ put tree.spot_cmp (e.parent, e.name) e.node (map row_entry rows)
    → map node_entry all ≡ map node_entry nodes ++ cons_option (option_map (λ node. (e.node, node)) m) []
    → held_tree more all (with_next numbering (e.number + 1)) ≡ grown_by (held_tree rows nodes numbering) e m
entry_came rows more nodes all numbering e None w le enters row node =
    let same = node ∙ append-nil (map node_entry nodes) in
    λ i. record { rows = row i; nodes = same i; next = e.number + 1; room = numbering.room }
entry_came rows more nodes all numbering e (Some made) w le enters row node =
    let raised : WellFormed (held_tree rows nodes (with_next numbering e.number)) = raised_keeps (held_tree rows nodes numbering) e.number w le in
    let below = numbers_below (held_tree rows nodes (with_next numbering e.number)) (map node_entry nodes) raised.nodes_fit in
    let came = row ∙ ap (λ x. put tree.spot_cmp (e.parent, e.name) x (map row_entry rows)) enters.0 in
    let pushed : map node_entry all ≡ put nat_cmp e.number made (map node_entry nodes) =
    node ∙ ap (λ x. map node_entry nodes ++ (x, made) ∷ []) enters.0 ∙ sym (put_last e.number made (map node_entry nodes) below) in
    λ i. record { rows = came i; nodes = pushed i; next = e.number + 1; room = numbering.room }
