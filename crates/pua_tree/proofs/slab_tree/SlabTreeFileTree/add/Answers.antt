use Rattle.pua_tree.proofs.Common.{◌≡◌, ◌<◌, ◌+◌, ◌∙◌, false, refl, rules, arith, sym, subst, Ok, Some, option_map, WellFormed, AreConsistent, Follows}
use Rattle.pua_tree.proofs.Common.{Entry, true≢false, tree_with, held_in_slots}
use Rattle.pua_tree.specs.Numbering.{with_next}
use Rattle.pua_tree.specs.Tree as tree
use Rattle.pua_tree.specs.Edits.{add, with_new}
use Rattle.pua_tree.proofs.Common.{is_dir, look}
use Rattle.pua_tree.proofs.SlabTrees.{looked_up, slot_of_dir}
use Rattle.pua_tree.proofs.Raised.{grown_keeps}
use Rattle.pua_tree.proofs.slab_tree.SlabTreeFileTree.add.Goals as goal

pub invariant_of-self : goal.invariant_of-self
invariant_of-self c = (
  subst WellFormed (sym (c.in_err-put_entry.ensures.unchanged c.self.inside.numbering)) c.self.invariant.0,
  c.in_err-put_entry.ensures.kept c.self.invariant.1,
)

pub returns-in_err-put_entry-clause-unchanged : goal.returns-in_err-put_entry-clause-unchanged
returns-in_err-put_entry-clause-unchanged c = let same = c.in_err-put_entry.ensures.unchanged c.self.inside.numbering ∙ c.self.view_is in
    search (rules, same)

-- the new node follows
module _ (c : goal.After-self-1) where
  abbrev t : tree.Tree
  t = held_in_slots c.self.inside.slots c.self.inside.numbering

  abbrev node : tree.Node
  node = record { kind = c.args.kind; target = option_map (λ bytes. bytes.items) c.in_ok-target.target; mount = false }

  abbrev e : Entry
  e = record { number = c.self.inside.numbering.next; parent = c.args.dir; name = c.args.name; node = c.new-node.result; made = Some node }

  lives : c.is_some.result ≡ is_dir c.args.self.now c.args.dir
  lives = c.is_some.ensures ∙ sym (slot_of_dir c.self.inside.slots c.self.inside.numbering c.args.self.now c.args.dir c.dir_slot-above.result
      c.self.view_is c.dir_slot-above.ensures.dir)

  there : c.row_at_place-there.result ≡ look c.args.self.now c.args.dir c.args.name
  there = looked_up c.self.inside.slots c.self.inside.numbering c.args.self.now c.args.dir c.args.name c.bytes.result.now
      c.row_at_place-there.result c.self.view_is c.bytes.ensures.bytes (c.row_at_place-there.ensures c.bytes.result.now c.place-place.ensures)

  added : add t c.args.dir c.args.name node ≡ Ok (c.self.inside.numbering.next, with_new t c.args.dir c.args.name node)
  added = subst (λ (u : tree.Tree). add u c.args.dir c.args.name node ≡ Ok (u.next, with_new u c.args.dir c.args.name node))
      (sym c.self.view_is) (c.in_ok-may_add.ensures.exact lives there node)

  follows : Follows t e
  follows = record {
    number = omega arith;
    not_last = subst (λ (u : tree.Tree). u.next < 4294967295) (sym c.self.view_is) c.in_ok-may_add.ensures.number;
    named = c.may_add.ensures.name;
    enters = (c.new-node.ensures, rw c.in_ok-target.ensures c.requires, refl, added);
  }

  grown : AreConsistent c.put_entry.new.self × (held_in_slots c.put_entry.new.self (with_next c.self.inside.numbering (c.self.inside.numbering.next + 1)) ≡ tree_with t e)
  grown =
      c.in_ok-put_entry.ensures.grown (c.dir_slot-above.ensures.slot (sym c.is_some.ensures ∙ c.in_ok-may_add.ensures.lives)) (λ none. absurd (true≢false (sym none))) c.self.invariant.1
      c.self.inside.numbering c.self.invariant.0 follows

pub invariant_of-self-2 : goal.invariant_of-self-2
invariant_of-self-2 c = (subst WellFormed (sym (grown c).1) (grown_keeps (t c) (e c) c.self.invariant.0 (follows c)), (grown c).0)

pub returns-clause-exact : goal.returns-clause-exact
returns-clause-exact c =
    let target = sym c.in_ok-target.ensures in
    (λ i. add (sym c.self.view_is i) c.args.dir c.args.name (record { kind = c.args.kind; target = target i; mount = false }))
    ∙ added c ∙ (λ i. Ok (sym c.new-node.ensures i, sym (grown c).1 i))

-- what was looked up decides each fault
pub returns-in_err-may_add-clause-exact : goal.returns-in_err-may_add-clause-exact
returns-in_err-may_add-clause-exact c =
    let inside = c.self.inside in
    let lives = c.is_some.ensures ∙ sym (slot_of_dir inside.slots inside.numbering c.args.self.now c.args.dir c.dir_slot-above.result
    c.self.view_is c.dir_slot-above.ensures.dir) in
    let there = looked_up inside.slots inside.numbering c.args.self.now c.args.dir c.args.name c.bytes.result.now
    c.row_at_place-there.result c.self.view_is c.bytes.ensures.bytes (c.row_at_place-there.ensures c.bytes.result.now c.place-place.ensures) in
    let refused = c.in_err-may_add.ensures.exact lives there in
    search (rules, refused)

-- memory is refused only where the node may be added
pub returns-in_err-target-clause-exact : goal.returns-in_err-target-clause-exact
returns-in_err-target-clause-exact c =
    let inside = c.self.inside in
    let lives = c.is_some.ensures ∙ sym (slot_of_dir inside.slots inside.numbering c.args.self.now c.args.dir c.dir_slot-above.result
    c.self.view_is c.dir_slot-above.ensures.dir) in
    let there = looked_up inside.slots inside.numbering c.args.self.now c.args.dir c.args.name c.bytes.result.now
    c.row_at_place-there.result c.self.view_is c.bytes.ensures.bytes (c.row_at_place-there.ensures c.bytes.result.now c.place-place.ensures) in
    let added = c.in_ok-may_add.ensures.exact lives there in
    search (rules, added)

-- memory is refused only where the node may be added
pub returns-in_err-put_entry-clause-exact : goal.returns-in_err-put_entry-clause-exact
returns-in_err-put_entry-clause-exact c =
    let inside = c.self.inside in
    let lives = c.is_some.ensures ∙ sym (slot_of_dir inside.slots inside.numbering c.args.self.now c.args.dir c.dir_slot-above.result
    c.self.view_is c.dir_slot-above.ensures.dir) in
    let there = looked_up inside.slots inside.numbering c.args.self.now c.args.dir c.args.name c.bytes.result.now
    c.row_at_place-there.result c.self.view_is c.bytes.ensures.bytes (c.row_at_place-there.ensures c.bytes.result.now c.place-place.ensures) in
    let added = c.in_ok-may_add.ensures.exact lives there in
    search (rules, added)
