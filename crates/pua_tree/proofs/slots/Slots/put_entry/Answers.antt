use Rattle.pua_tree.proofs.Common.{◌≡◌, ◌<◌, ◌∙◌, sym, ap, subst, put, IfSome, WellFormed, spot_cmp, Follows, entry_at}
use Rattle.pua_tree.proofs.Common.{◌+◌, AreConsistent, held_in_slots, held_rows, slot_of, true, Slots, Entry, tree_with}
use Rattle.std.specs.Prelude.{is_none}
use Rattle.pua_tree.specs.NamedRows.{HeldRows}
use Rattle.pua_tree.specs.Numbering.{with_next}
use Rattle.pua_tree.specs.declared.numbering.Numbering.{Numbering}
use Rattle.pua_tree.specs.Tree as tree
use Rattle.pua_tree.specs.Slots.{IsNew, MayEnter}
use Rattle.pua_tree.proofs.SlotsKeep.{rows_by}
use Rattle.pua_tree.proofs.SlabEdits.{new_where_made, has_slot, entry_may_enter, grown_held}
use Rattle.pua_tree.proofs.slots.Slots.put_entry.Goals as goal

-- an entry that may follow the tree that is held may follow it once there is room
module _ (c : goal.After-put_row_under) (above : c.args.above ≡ slot_of c.args.self.now c.args.dir)
    (there : is_none c.args.stands.made ≡ true → c.args.other ≡ slot_of c.args.self.now c.args.stands.node)
    (kept : AreConsistent c.args.self.now) (numbering : Numbering)
    (formed : WellFormed (held_in_slots c.args.self.now numbering))
    (follows : Follows (held_in_slots c.args.self.now numbering) (entry_at c.args.dir c.args.name.now c.args.stands)) where
  abbrev s : Slots
  s = c.reserve_node.new.self

  abbrev e : Entry
  e = entry_at c.args.dir c.args.name.now c.args.stands

  still_kept : AreConsistent s
  still_kept = c.reserve_node.ensures.kept kept

  still_formed : WellFormed (held_in_slots s numbering)
  still_formed = subst WellFormed (sym (c.reserve_node.ensures.same numbering)) formed

  still_follows : Follows (held_in_slots s numbering) e
  still_follows = subst (λ (t : tree.Tree). Follows t e) (sym (c.reserve_node.ensures.same numbering)) follows

  row_room : 0 < c.add_made-slot.new.self.rows.room
  row_room = subst (λ (rows : HeldRows). 0 < rows.room) (sym c.add_made-slot.ensures.rows) c.in_ok-reserve_node.ensures.row_room

  -- the node that is made is new, and its row may come to its spot
  is_new : IfSome c.args.stands.made (λ _. IsNew s c.args.stands.node)
  is_new = new_where_made s numbering still_formed still_kept e still_follows c.args.stands.made still_follows.enters

  comes : MayEnter c.add_made-slot.new.self (e.parent, e.name) e.node
  comes =
      entry_may_enter s numbering still_formed still_kept e still_follows c.add_made-slot.new.self e.made still_follows.enters
      (c.add_made-slot.ensures.kept c.in_ok-reserve_node.ensures.node_room still_kept is_new)
      (rows_by c.add_made-slot.new.self s c.add_made-slot.ensures.rows)
      (c.add_made-slot.ensures.nodes c.in_ok-reserve_node.ensures.node_room still_kept is_new)

  -- its directory is in the same slot
  still_above : c.args.above ≡ slot_of c.add_made-slot.new.self e.parent
  still_above = above ∙ sym (c.reserve_node.ensures.slots e.parent)
      ∙ sym (c.add_made-slot.ensures.others c.in_ok-reserve_node.ensures.node_room still_kept is_new e.parent
      (has_slot s numbering still_formed still_kept e still_follows))

  -- and its node is in the slot that was found or made
  in_slot : c.add_made-slot.result ≡ slot_of c.add_made-slot.new.self e.node
  in_slot = c.add_made-slot.ensures.slot c.in_ok-reserve_node.ensures.node_room still_kept is_new
      (λ none. there none ∙ sym (c.reserve_node.ensures.slots e.node))

  kept_after : AreConsistent c.put_row_under.new.self
  kept_after = c.put_row_under.ensures.kept still_above in_slot row_room comes

  grown_after : held_in_slots c.put_row_under.new.self (with_next numbering (e.number + 1)) ≡ tree_with (held_in_slots c.args.self.now numbering) e
  grown_after =
      let rows : held_rows c.put_row_under.new.self ≡ put spot_cmp (e.parent, e.name) e.node (held_rows s) =
      c.put_row_under.ensures.rows row_room ∙
      ap (put spot_cmp (e.parent, e.name) e.node) (rows_by c.add_made-slot.new.self s c.add_made-slot.ensures.rows) in
      grown_held s numbering still_formed still_kept e still_follows c.put_row_under.new.self e.made still_follows.enters rows
      (c.put_row_under.ensures.nodes still_above in_slot comes ∙
      c.add_made-slot.ensures.nodes c.in_ok-reserve_node.ensures.node_room still_kept is_new)
      ∙ ap (λ (t : tree.Tree). tree_with t e) (c.reserve_node.ensures.same numbering)

pub returns-clause-grown : goal.returns-clause-grown
returns-clause-grown c above there kept numbering formed follows =
    (kept_after c above there kept numbering formed follows, grown_after c above there kept numbering formed follows)
