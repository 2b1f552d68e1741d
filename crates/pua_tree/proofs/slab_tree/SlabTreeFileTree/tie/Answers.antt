use Rattle.pua_tree.proofs.Common.{rules, ◌≡◌, ◌∙◌, Ok, sym, ap, subst, WellFormed, with_row, held_in_slots}
use Rattle.pua_tree.specs.Tree as tree
use Rattle.pua_tree.specs.Slots.{MayEnter}
use Rattle.pua_tree.proofs.EditsKeep.{edits_keep_trees}
use Rattle.pua_tree.proofs.SlabEdits.{tied_may_enter}
use Rattle.pua_tree.proofs.slab_tree.SlabTreeFileTree.tie.Goals as goal

pub invariant_of-self : goal.invariant_of-self
invariant_of-self c = (
  subst WellFormed (sym (c.reserve_row.ensures.same c.self.inside.numbering)) c.self.invariant.0,
  c.reserve_row.ensures.kept c.self.invariant.1,
)

pub returns-in_err-reserve_row-clause-unchanged : goal.returns-in_err-reserve_row-clause-unchanged
returns-in_err-reserve_row-clause-unchanged c = search (rules, c.reserve_row.ensures.same c.self.inside.numbering ∙ c.self.view_is)

-- the row may come to its spot
enters : (c : goal.After-put_row) → MayEnter c.reserve_row.new.self (c.args.dir, c.args.name) c.args.node
enters c =
    let numbering = c.self.inside.numbering in
    tied_may_enter c.reserve_row.new.self numbering c.args.self.now c.args.dir c.args.name c.args.node
    (subst WellFormed c.self.view_is c.self.invariant.0) (c.reserve_row.ensures.kept c.self.invariant.1)
    (c.reserve_row.ensures.same numbering ∙ c.self.view_is) c.in_ok-may_tie.ensures.free c.in_ok-may_tie.ensures.no_dir

pub returns-clause-exact : goal.returns-clause-exact
returns-clause-exact c =
    let numbering = c.self.inside.numbering in
    let same : held_in_slots c.reserve_row.new.self numbering ≡ c.args.self.now = c.reserve_row.ensures.same numbering ∙ c.self.view_is in
    let rows = c.put_row.ensures.rows c.in_ok-reserve_row.ensures.room in
    let came : held_in_slots c.put_row.new.self numbering ≡ with_row c.args.self.now c.args.dir c.args.name c.args.node =
    (λ i. record { rows = rows i; nodes = c.put_row.ensures.nodes (enters c) i; next = numbering.next; room = numbering.room }) ∙
    ap (λ (t : tree.Tree). with_row t c.args.dir c.args.name c.args.node) same in
    c.in_ok-may_tie.ensures.exact ∙ ap (λ (t : tree.Tree). Ok t) (sym came)

pub invariant_of-self-2 : goal.invariant_of-self-2
invariant_of-self-2 c = (
  (edits_keep_trees.tying c.args.self.now _ c.args.dir c.args.node c.args.name (subst WellFormed c.self.view_is c.self.invariant.0)
      c.may_tie.ensures.name (returns-clause-exact c)).0,
  c.put_row.ensures.kept c.in_ok-reserve_row.ensures.room (enters c),
)
