-- A copy of rows and nodes holds the same tree, and is as consistent.
use Rattle.pua_tree.proofs.Common.{◌≡◌, ℕ, zero, suc, List, [], ◌∷◌, Option, Some, None, option_map, is_some, refl, sym, ap, subst, ◌∙◌, option_and_then}
use Rattle.pua_tree.proofs.Common.{lookup, made_of, node_in, slot_of, held_in_slots, rows_in, names_of, AreConsistent, Slots}
use Rattle.pua_tree.proofs.Common.{SlotNode, find, spot_cmp, count_by, length, ◌+◌, cond}
use Rattle.std.specs.List.{AllZip, fold}
use Rattle.slab.specs.Slab.{get as slot_get, IsSlotClone}
use Rattle.std.specs.Prelude.{slice_index_or}
use Rattle.pua_tree.specs.declared.numbering.Numbering.{Numbering}
use Rattle.pua_tree.specs.NamedRows.{key_at, spot_at}
use Rattle.pua_tree.specs.Slots.{IsNodeCopy, AreCopied}
use Rattle.pua_tree.proofs.Base.{same_Some, None≢Some}
use Rattle.pua_tree.proofs.SlotsHold.{nodes_same, rows_by_entries}
use Rattle.pua_tree.specs.contracts.spot.SpotPartialEq.TheImpl.{ghosts as spot_ghosts}
use Rattle.pua_tree.specs.contracts.node.NodeIdPartialEq.TheImpl.{ghosts as number_ghosts}

abbrev Copied : Option SlotNode → Option SlotNode → Type 0
Copied = IsSlotClone IsNodeCopy

made_at : (o p : Option SlotNode) → Copied o p → option_map made_of p ≡ option_map made_of o
made_at None p same = ap (option_map made_of) same
made_at (Some m) None same = absurd same
made_at (Some m) (Some k) same = ap Some same.made

there_at : (o p : Option SlotNode) → Copied o p → is_some p ≡ is_some o
there_at None p same = ap is_some same
there_at (Some m) None same = absurd same
there_at (Some m) (Some k) same = refl

back_at : (o p : Option SlotNode) → Copied o p → (n : SlotNode) → p ≡ Some n → (m : SlotNode) × (o ≡ Some m) × IsNodeCopy m n
back_at None p same n e = absurd (None≢Some n (sym same ∙ e))
back_at (Some m) None same n e = absurd same
back_at (Some m) (Some k) same n e = (m, refl, subst (IsNodeCopy m) (same_Some k n e) same)

copied_at : (xs ys : List (Option SlotNode)) → AllZip Copied xs ys → (key : ℕ) → Copied (slice_index_or xs key None) (slice_index_or ys key None)
copied_at [] [] each key = refl
copied_at [] (y ∷ ys) each key = absurd each
copied_at (x ∷ xs) [] each key = absurd each
copied_at (x ∷ xs) (y ∷ ys) each zero = each.0
copied_at (x ∷ xs) (y ∷ ys) each (suc key) = copied_at xs ys each.1 key

abbrev more : ℕ → Option SlotNode → ℕ
more a o = a + cond (is_some o) 1 0

counted_from : (xs ys : List (Option SlotNode)) → AllZip Copied xs ys → (a : ℕ) → fold more a ys ≡ fold more a xs
counted_from [] [] each a = refl
counted_from [] (y ∷ ys) each a = absurd each
counted_from (x ∷ xs) [] each a = absurd each
counted_from (x ∷ xs) (y ∷ ys) each a =
    ap (λ b. fold more (a + cond b 1 0) ys) (there_at x y each.0) ∙ counted_from xs ys each.1 (a + cond (is_some x) 1 0)

counted : (xs ys : List (Option SlotNode)) → AllZip Copied xs ys → count_by is_some ys ≡ count_by is_some xs
counted xs ys each = counted_from xs ys each 0

module _ (old new : Slots) (c : AreCopied old new) where
  slot_same : (x : ℕ) → slot_of new x ≡ slot_of old x
  slot_same x = ap (lookup (number_ghosts.eq x)) c.numbers

  at_slot : (slot : ℕ) → Copied (slot_get old.nodes slot) (slot_get new.nodes slot)
  at_slot slot = copied_at old.nodes.slots new.nodes.slots c.nodes.slots slot

  by_slot : (x : ℕ) (o : Option ℕ) → slot_of new x ≡ o → Copied (option_and_then (slot_get old.nodes) o) (option_and_then (slot_get new.nodes) o)
  by_slot x None e = refl
  by_slot x (Some slot) e = at_slot slot

  node_copied : (x : ℕ) → Copied (node_in old x) (node_in new x)
  node_copied x = subst (λ (o : Option ℕ). Copied (option_and_then (slot_get old.nodes) o) (node_in new x)) (slot_same x)
      (by_slot x (slot_of new x) refl)

  pub copied_held : (numbering : Numbering) → held_in_slots new numbering ≡ held_in_slots old numbering
  copied_held next = search (
    rows_by_entries new old c.rows,
    nodes_same old new (λ x. made_at (node_in old x) (node_in new x) (node_copied x)),
  )

  pub copied_kept : AreConsistent old → AreConsistent new
  copied_kept kept = let rows = rows_by_entries new old c.rows in record {
    filed = record {
      filled = λ x slot e. there_at (slot_get old.nodes slot) (slot_get new.nodes slot) (at_slot slot) ∙
          kept.filed.filled x slot (sym (slot_same x) ∙ e);
      apart = λ x y slot e d. kept.filed.apart x y slot (sym (slot_same x) ∙ e) (sym (slot_same y) ∙ d);
      no_other = counted old.nodes.slots new.nodes.slots c.nodes.slots ∙ kept.filed.no_other ∙ sym (ap length c.numbers);
    };
    standing = record {
      rows_counted = λ x n e. (let was = back_at (node_in old x) (node_in new x) (node_copied x) n e in
          ap (λ s. s.rows) was.2.standing ∙ kept.standing.rows_counted x was.0 was.1 ∙ ap (λ r. rows_in r x) (sym rows));
      names_counted = λ x n e. (let was = back_at (node_in old x) (node_in new x) (node_copied x) n e in
          ap (λ s. s.names) was.2.standing ∙ kept.standing.names_counted x was.0 was.1 ∙ ap (λ r. names_of r x) (sym rows));
      dir_spot = λ at x n f e d. (let was = back_at (node_in old x) (node_in new x) (node_copied x) n e in
          (λ i. spot_at (c.names i) (was.2.standing i).key) ∙ kept.standing.dir_spot at x was.0 (ap (find spot_cmp at) (sym rows) ∙ f) was.1
          (sym (ap (λ m. m.kind) was.2.made) ∙ d));
    };
    kinds = λ at row n r e. (let was = back_at (node_in old row.node) (node_in new row.node) (node_copied row.node) n e in
        ap (λ m. m.kind) was.2.made ∙ kept.kinds at row was.0 (ap (lookup (spot_ghosts.eq (key_at at))) (sym c.rows) ∙ r) was.1);
  }
