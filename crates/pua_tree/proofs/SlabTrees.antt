-- A tree in slots, looked up by what each node knows of how it stands.
use Rattle.pua_tree.proofs.Common.{◌≡◌, ℕ, true, false, not, ◌&&◌, ◌||◌, ◌==◌, ◌≢◌, cond, List, [], ◌∷◌, Option, Some, None, option_map}
use Rattle.pua_tree.proofs.Common.{refl, sym, ap, ◌∙◌, eqb, option_and_then, list_any, list_all}
use Rattle.pua_tree.proofs.Common.{false≢true, sum_by-zero, Tree, WellFormed, kind_at, is_dir, is_dir_kind, node_in}
use Rattle.pua_tree.proofs.Common.{made_of, held_rows, held_in_slots, AreConsistent, Dir, Slots, SlotNode}
use Rattle.pua_tree.specs.declared.numbering.Numbering.{Numbering}
use Rattle.pua_tree.specs.Tree as tree
use Rattle.pua_tree.specs.Tree.{target_at, spot_of, dir_spot, is_empty, is_mount, has_no_row}
use Rattle.pua_tree.specs.Tree.{found_at}
use Rattle.pua_tree.specs.NamedRows.{spot_at}
use Rattle.pua_tree.specs.Slots.{row_in, standing_of_dir}
use Rattle.pua_tree.specs.declared.slots.Stance.{Stance}
use Rattle.pua_tree.proofs.Common.{unwrap_or, is_some, look, row_at}
use Rattle.pua_tree.specs.declared.spot.RowNode.{RowNode}
use Rattle.pua_tree.proofs.Common.{IsSome}
use Rattle.pua_tree.proofs.SlabEdits.{living_in, row_living}
use Rattle.pua_tree.proofs.SlotsHold.{node_of_row, nodes_found, rows_found}
use Rattle.pua_tree.proofs.Sound.{sound_from, row_of, spot_stands, dir_kind}

-- a directory knows its spot
spot_known : (s : Slots) (numbering : Numbering) (d : ℕ) (n : SlotNode) → WellFormed (held_in_slots s numbering) → AreConsistent s →
    is_dir (held_in_slots s numbering) d ≡ true → d ≢ 0 → node_in s d ≡ Some n → n.kind ≡ Dir →
    spot_of (held_in_slots s numbering) d ≡ spot_at s.rows.names n.standing.key
spot_known s numbering d n w kept dir below here kind =
    let sound = sound_from (held_in_slots s numbering) w in
    let row = row_of (held_in_slots s numbering) sound d dir below in
    spot_stands (held_in_slots s numbering) sound d row.0 dir below row.1
    ∙ sym (kept.standing.dir_spot row.0 d n row.1 here kind)

no_row_counted : (rows : List (tree.Spot × ℕ)) (d : ℕ) →
    list_all (λ row. eqb (cond (row.0.0 == d) 1 0) 0) rows ≡ not (list_any (λ row. row.0.0 == d) rows)
no_row_counted [] d = refl
no_row_counted (r ∷ rows) d =
    elim (r.0.0 == d) as (λ b. (eqb (cond b 1 0) 0 && list_all (λ row. eqb (cond (row.0.0 == d) 1 0) 0) rows)
    ≡ not (b || list_any (λ row. row.0.0 == d) rows)) [
      | true ↦ refl
      | false ↦ no_row_counted rows d
    ]

-- and whether it has rows
pub empty_known : (s : Slots) (numbering : Numbering) (d : ℕ) (n : SlotNode) → AreConsistent s → node_in s d ≡ Some n →
    (n.standing.rows == 0) ≡ has_no_row (held_in_slots s numbering) d
empty_known s numbering d n kept here =
    ap (λ r. r == 0) (kept.standing.rows_counted d n here) ∙ sum_by-zero (λ (row : tree.Spot × ℕ). cond (row.0.0 == d) 1 0) (held_rows s) ∙
    no_row_counted (held_rows s) d

-- what a tree answers, by what its slots have
pub kind_known : (s : Slots) (numbering : Numbering) (x : ℕ) → option_map (λ (n : SlotNode). n.kind) (node_in s x) ≡ kind_at (held_in_slots s numbering) x
kind_known s numbering x = fused (node_in s x) ∙ ap (λ (o : Option tree.Node). option_map (λ n. n.kind) o) (sym (nodes_found s x))
  where
    fused : (o : Option SlotNode) → option_map (λ (n : SlotNode). n.kind) o ≡ option_map (λ n. n.kind) (option_map made_of o)
    fused None = refl
    fused (Some n) = refl

pub mount_known : (s : Slots) (numbering : Numbering) (x : ℕ) →
    unwrap_or (option_map (λ (n : SlotNode). n.mount) (node_in s x)) false ≡ is_mount (held_in_slots s numbering) x
mount_known s numbering x =
    fused (node_in s x) ∙ ap (λ (o : Option tree.Node). unwrap_or (option_map (λ n. n.mount) o) false) (sym (nodes_found s x))
  where
    fused : (o : Option SlotNode) →
        unwrap_or (option_map (λ (n : SlotNode). n.mount) o) false ≡ unwrap_or (option_map (λ n. n.mount) (option_map made_of o)) false
    fused None = refl
    fused (Some n) = refl

-- a row's node is as the row says
pub found_known : (s : Slots) (numbering : Numbering) (at : tree.Spot) → WellFormed (held_in_slots s numbering) → AreConsistent s →
    option_map (λ (row : RowNode). (row.node, row.kind)) (row_in s at) ≡ found_at (held_in_slots s numbering) at.0 at.1
found_known s numbering at w kept = by (row_in s at) refl
  where
    t : Tree
    t = held_in_slots s numbering

    kind_of : (o : Option SlotNode) (row : RowNode) → row_in s at ≡ Some row → node_in s row.node ≡ o → IsSome o →
        option_map (λ (n : SlotNode). n.kind) o ≡ Some row.kind
    kind_of None row e f some = absurd (false≢true some)
    kind_of (Some n) row e f some = ap Some (kept.kinds at row n e f)

    by : (o : Option RowNode) → row_in s at ≡ o →
        option_map (λ (row : RowNode). (row.node, row.kind)) o ≡ found_at t at.0 at.1
    by None e = sym (ap (option_and_then (λ x. option_map (λ kind. (x, kind)) (kind_at t x))) (rows_found s at ∙ ap node_of_row e))
    by (Some row) e =
        let there = ap node_of_row e in
        let lives = living_in s row.node (row_living s numbering at.0 row.node at.1 w there) in
        let kind = sym (kind_known s numbering row.node) ∙ kind_of (node_in s row.node) row e refl lives in
        sym (ap (option_and_then (λ x. option_map (λ kind. (x, kind)) (kind_at t x))) (rows_found s at ∙ there) ∙
        ap (option_map (λ k. (row.node, k))) kind)

pub target_known : (s : Slots) (numbering : Numbering) (x : ℕ) → option_and_then (λ (n : SlotNode). option_map (λ target. target.items) n.target) (node_in s x)
    ≡ target_at (held_in_slots s numbering) x
target_known s numbering x = fused (node_in s x) ∙ ap (λ (o : Option tree.Node). option_and_then (λ n. n.target) o) (sym (nodes_found s x))
  where
    fused : (o : Option SlotNode) → option_and_then (λ (n : SlotNode). option_map (λ target. target.items) n.target) o
        ≡ option_and_then (λ n. n.target) (option_map made_of o)
    fused None = refl
    fused (Some n) = refl

-- a directory's own slot answers the same
module _ (s : Slots) (numbering : Numbering) (d : ℕ) (w : WellFormed (held_in_slots s numbering)) (kept : AreConsistent s) where
  abbrev held : Tree
  held = held_in_slots s numbering

  dir_by : (o : Option SlotNode) → node_in s d ≡ o → is_dir held d ≡ is_dir_kind (option_map (λ (n : SlotNode). n.kind) o)
  dir_by o e = ap is_dir_kind (sym (kind_known s numbering d) ∙ ap (λ (o : Option SlotNode). option_map (λ n. n.kind) o) e)

  -- the spot to which a node came last
  abbrev came_to : Option Stance → Option tree.Spot
  came_to o = option_and_then (λ (st : Stance). spot_at s.rows.names st.key) o

  pub spot_of_dir : d ≢ 0 → came_to (option_and_then standing_of_dir (node_in s d)) ≡ dir_spot held d
  spot_of_dir below = by (node_in s d) refl
    where
      by : (o : Option SlotNode) → node_in s d ≡ o → came_to (option_and_then standing_of_dir o) ≡ dir_spot held d
      by None e = sym (ap (λ b. cond b (spot_of held d) None) (dir_by None e))
      by (Some n) e =
          elim (is_dir_kind (Some n.kind)) as (λ b. is_dir_kind (Some n.kind) ≡ b → came_to (cond b (Some n.standing) None) ≡ dir_spot held d) [
            | true ↦ λ k. (let dir = dir_by (Some n) e ∙ k in
                sym (ap (λ b. cond b (spot_of held d) None) dir ∙ spot_known s numbering d n w kept dir below e (dir_kind n.kind k)))
            | false ↦ λ k. sym (ap (λ b. cond b (spot_of held d) None) (dir_by (Some n) e ∙ k))
          ] refl

  pub bare_of_dir : (standing : Option Stance) → standing ≡ option_and_then standing_of_dir (node_in s d) →
      unwrap_or (option_map (λ (st : Stance). st.rows == 0) standing) false ≡ is_empty held d
  bare_of_dir standing is = ap (λ (o : Option Stance). unwrap_or (option_map (λ (st : Stance). st.rows == 0) o) false) is ∙
      by (node_in s d) refl
    where
      by : (o : Option SlotNode) → node_in s d ≡ o →
          unwrap_or (option_map (λ (st : Stance). st.rows == 0) (option_and_then standing_of_dir o)) false ≡ is_empty held d
      by None e = sym (ap (λ b. b && has_no_row held d) (dir_by None e))
      by (Some n) e =
          elim (is_dir_kind (Some n.kind)) as (λ b. is_dir_kind (Some n.kind) ≡ b →
          unwrap_or (option_map (λ (st : Stance). st.rows == 0) (cond b (Some n.standing) None)) false ≡ is_empty held d) [
            | true ↦ λ k. empty_known s numbering d n kept e ∙ sym (ap (λ b. b && has_no_row held d) (dir_by (Some n) e ∙ k))
            | false ↦ λ k. sym (ap (λ b. b && has_no_row held d) (dir_by (Some n) e ∙ k))
          ] refl

-- the node that was looked up by the place of a name
pub looked_up : (s : Slots) (numbering : Numbering) (t : Tree) (dir : ℕ) (name bytes : List ℕ) (there : Option ℕ) → held_in_slots s numbering ≡ t →
    bytes ≡ name → there ≡ row_at s (dir, bytes) → there ≡ look t dir name
looked_up s numbering t dir name bytes there same spelled found =
    found ∙ ap (λ n. row_at s (dir, n)) spelled ∙ sym (rows_found s (dir, name)) ∙ ap (λ (u : Tree). look u dir name) same

-- the directory of a spot lives where its slot was found
pub slot_of_dir : (s : Slots) (numbering : Numbering) (t : Tree) (dir : ℕ) (slot : Option ℕ) → held_in_slots s numbering ≡ t →
    is_some slot ≡ is_dir_kind (option_map (λ (n : SlotNode). n.kind) (node_in s dir)) → is_dir t dir ≡ is_some slot
slot_of_dir s numbering t dir slot same found =
    ap (λ (u : Tree). is_dir u dir) (sym same) ∙ ap is_dir_kind (sym (kind_known s numbering dir)) ∙ sym found
