use Rattle.pua_tree.proofs.Common.{◌≡◌, ◌+◌, ◌∙◌, ◌&&◌, ℕ, Option, true, is_some, sym, ap, subst, and_from, not, WellFormed}
use Rattle.pua_tree.proofs.Common.{AreConsistent, Follows, entry_at, tree_with, held_in_slots, is_dir, is_dir_kind, option_map, node_in}
use Rattle.pua_tree.proofs.Common.{Slots, SlotNode, Tree, Entry, Some, None, Bool, refl, cond, ◌==◌, is_living, made_of, slot_of, not-true}
use Rattle.pua_tree.specs.Numbering.{with_next}
use Rattle.pua_tree.specs.declared.numbering.Numbering.{Numbering}
use Rattle.pua_tree.specs.Reading as reading
use Rattle.pua_tree.specs.Reading.{node_follows, row_follows, said_node}
use Rattle.pua_tree.specs.declared.gathered.MadeNode.{MadeNode}
use Rattle.std.specs.Prelude.{is_none}
use Rattle.pua_tree.proofs.SlotsHold.{nodes_found}
use Rattle.pua_tree.proofs.Follows.{follows_from}
use Rattle.pua_tree.proofs.Raised.{grown_keeps}
use Rattle.pua_tree.proofs.SlabTrees.{kind_known, looked_up, slot_of_dir}
use Rattle.pua_tree.proofs.slab_tree.SlabTreeGathered.put.Goals as goal
use Rattle.pua_tree.proofs.slab_tree.SlabTreeGathered.put.Goals.{then-is_none-via-then-is_none}
use Rattle.pua_tree.proofs.slab_tree.SlabTreeGathered.put.Goals.{then-is_none-via-else-is_none+then-not-may_stand}
use Rattle.pua_tree.proofs.slab_tree.SlabTreeGathered.put.Goals.{then-is_none-via-else-is_none+else-not-may_stand+then-not-may_put_row}

-- and its node may come to a row where it is made, or was found
stands_by : (s : Slots) (numbering : Numbering) (t : Tree) (number x : ℕ) (made : Option MadeNode) (slot : Option ℕ) → held_in_slots s numbering ≡ t →
    is_some slot ≡ (is_none made && (is_some (node_in s x) && not (is_dir_kind (option_map (λ (n : SlotNode). n.kind) (node_in s x))))) →
    node_follows t number x (option_map said_node made) ≡ cond (is_some made) (x == number) (is_some slot)
stands_by s numbering t number x (Some made) slot same found = refl
stands_by s numbering t number x None slot same found =
    ap (λ (u : Tree). is_living u x && not (is_dir u x)) (sym same)
    ∙ (λ i. lives i && not (is_dir_kind (sym (kind_known s numbering x) i))) ∙ sym found
  where
    fused : (o : Option SlotNode) → is_some (option_map made_of o) ≡ is_some o
    fused None = refl
    fused (Some n) = refl

    lives : is_living (held_in_slots s numbering) x ≡ is_some (node_in s x)
    lives = ap is_some (nodes_found s x) ∙ fused (node_in s x)

pub invariant_of-self : goal.invariant_of-self
invariant_of-self c = (
  subst WellFormed (sym (c.in_err-put_entry.ensures.unchanged c.self.inside.numbering)) c.self.invariant.0,
  c.in_err-put_entry.ensures.kept c.self.invariant.1,
)

pub returns-in_err-put_entry-clause-unchanged : goal.returns-in_err-put_entry-clause-unchanged
returns-in_err-put_entry-clause-unchanged c = λ _. c.in_err-put_entry.ensures.unchanged c.self.inside.numbering ∙ c.self.view_is

-- three tests, of which two are known
both : {a b x y : Bool} → a ≡ x → b ≡ y → (c : Bool) → (a && (b && c)) ≡ (x && (y && c))
both p q c = λ i. p i && (q i && c)

pub returns-then-is_none-clause-follows : goal.returns-then-is_none-clause-follows
returns-then-is_none-clause-follows c =
    let t = c.args.self.now in
    let e = entry_at c.args.spot.now.dir c.args.spot.now.name c.args.stands in
    let found : is_dir t e.parent ≡ is_some c.dir_slot-above.result =
    slot_of_dir c.self.inside.slots c.self.inside.numbering t e.parent c.dir_slot-above.result c.self.view_is c.dir_slot-above.ensures.dir in
    let stands : node_follows t e.number e.node e.made
    ≡ cond (is_some c.args.stands.made) (e.node == e.number) (is_some c.other_slot-other.result) =
    stands_by c.self.inside.slots c.self.inside.numbering t e.number e.node c.args.stands.made c.other_slot-other.result c.self.view_is
    c.other_slot-other.ensures.other in
    let row = row_follows t e.number e.parent e.name in
    let there = looked_up c.self.inside.slots c.self.inside.numbering t e.parent e.name c.bytes.result.now c.row_at_place-there.result
    c.self.view_is c.bytes.ensures.bytes (c.row_at_place-there.ensures c.bytes.result.now c.place-place.ensures) in
    sym (elim c.then-is_none.branch [
      | then-is_none-via-then-is_none w ↦ ap (λ b. b && (node_follows t e.number e.node e.made && row))
          (found ∙ c.is_none.ensures ∙ ap not w.if-is_none.true)
      | then-is_none-via-else-is_none+then-not-may_stand w ↦ both
          (found ∙ c.is_none.ensures ∙ ap not w.if-is_none.false) (stands ∙ sym w.may_stand.ensures ∙ w.if-not-may_stand.true) row
      | then-is_none-via-else-is_none+else-not-may_stand+then-not-may_put_row w ↦ both
          (found ∙ c.is_none.ensures ∙ ap not w.if-is_none.false) (stands ∙ sym w.may_stand.ensures ∙ w.if-not-may_stand.false) row
          ∙ sym (w.may_put_row.ensures.follows there) ∙ w.if-not-may_put_row.true
    ])

-- the entry passed the test
module _ (c : goal.After-self-1) where
  abbrev t : Tree
  t = held_in_slots c.self.inside.slots c.self.inside.numbering

  abbrev e : Entry
  e = entry_at c.args.spot.now.dir c.args.spot.now.name c.args.stands

  has_slot : is_some c.dir_slot-above.result ≡ true
  has_slot = c.is_none.ensures ∙ ap not c.if-is_none.false

  stands : cond (is_some c.args.stands.made) (e.node == e.number) (is_some c.other_slot-other.result) ≡ true
  stands = sym c.may_stand.ensures ∙ c.if-not-may_stand.false

  passed : reading.follows c.args.self.now e ≡ true
  passed = and_from _ _ (slot_of_dir c.self.inside.slots c.self.inside.numbering c.args.self.now e.parent c.dir_slot-above.result c.self.view_is
      c.dir_slot-above.ensures.dir ∙ has_slot)
      (and_from _ _ (stands_by c.self.inside.slots c.self.inside.numbering c.args.self.now e.number e.node c.args.stands.made
      c.other_slot-other.result c.self.view_is c.other_slot-other.ensures.other ∙ stands)
      (sym (c.may_put_row.ensures.follows (looked_up c.self.inside.slots c.self.inside.numbering c.args.self.now e.parent e.name
      c.bytes.result.now c.row_at_place-there.result c.self.view_is c.bytes.ensures.bytes
      (c.row_at_place-there.ensures c.bytes.result.now c.place-place.ensures))) ∙ c.if-not-may_put_row.false))

  -- where no node is made, its slot was found
  node_slot : is_none c.args.stands.made ≡ true → c.other_slot-other.result ≡ slot_of c.self.inside.slots c.args.stands.node
  node_slot none = c.other_slot-other.ensures.slot (sym (ap (λ b. cond b (e.node == e.number) (is_some c.other_slot-other.result))
      (not-true _ none)) ∙ stands)

  follows : Follows t e
  follows = subst (λ (u : Tree). Follows u e) (sym c.self.view_is)
      (follows_from c.args.self.now e.parent e.name c.args.stands c.may_put_row.ensures.name passed)

  grown : AreConsistent c.put_entry.new.self × (held_in_slots c.put_entry.new.self (with_next c.self.inside.numbering (e.number + 1)) ≡ tree_with t e)
  grown = c.in_ok-put_entry.ensures.grown (c.dir_slot-above.ensures.slot has_slot) node_slot c.self.invariant.1 c.self.inside.numbering
      c.self.invariant.0 follows

pub invariant_of-self-2 : goal.invariant_of-self-2
invariant_of-self-2 c = (subst WellFormed (sym (grown c).1) (grown_keeps (t c) _ c.self.invariant.0 (follows c)), (grown c).0)

pub returns-clause-follows : goal.returns-clause-follows
returns-clause-follows c = sym (passed c)

pub returns-clause-grown : goal.returns-clause-grown
returns-clause-grown c = λ _. (grown c).1 ∙ ap (λ (u : Tree). tree_with u (e c)) c.self.view_is
