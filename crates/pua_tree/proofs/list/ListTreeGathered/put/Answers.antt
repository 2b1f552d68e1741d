use Rattle.pua_tree.proofs.Common.{◌≡◌, ◌∙◌, ◌++◌, [], option_map, sym, ap, subst, map, cons_option, put, WellFormed, spot_cmp, row_entry}
use Rattle.pua_tree.proofs.Common.{◌+◌, node_entry, held_tree, Follows, tree_with, entry_at}
use Rattle.pua_tree.specs.Numbering.{with_next}
use Rattle.pua_tree.specs.Tree as tree
use Rattle.pua_tree.proofs.Follows.{follows_from}
use Rattle.pua_tree.proofs.ListEdits.{entry_came}
use Rattle.pua_tree.proofs.Raised.{grown_keeps}
use Rattle.pua_tree.proofs.list.ListTreeGathered.put.Goals as goal

-- the entry passed the test
follows : (c : goal.After-self-1) → Follows c.args.self.now (entry_at c.args.spot.now.dir c.args.spot.now.name c.args.stands)
follows c =
    follows_from c.args.self.now c.args.spot.now.dir c.args.spot.now.name c.args.stands c.may_put.ensures.name
    (sym c.may_put.ensures.follows ∙ c.if-not-may_put.false)

grown : (c : goal.After-self-1) →
    held_tree c.put_row.new.rows.items c.push_made.new.nodes.items (with_next c.self.inside.numbering (c.args.stands.number + 1))
    ≡ tree_with c.args.self.now (entry_at c.args.spot.now.dir c.args.spot.now.name c.args.stands)
grown c =
    let inside = c.self.inside in
    let e = entry_at c.args.spot.now.dir c.args.spot.now.name c.args.stands in
    let still : Follows _ e = subst (λ (t : tree.Tree). Follows t e) (sym c.self.view_is) (follows c) in
    let row : map row_entry c.put_row.new.rows.items ≡ put spot_cmp (e.parent, e.name) e.node (map row_entry inside.rows.items) =
    rw c.reserve_one.ensures.rows at c.put_row.ensures in
    let node : map node_entry c.push_made.new.nodes.items ≡ map node_entry inside.nodes.items
    ++ cons_option (option_map (λ (m : tree.Node). (e.node, m)) e.made) [] = rw c.reserve_one.ensures.nodes at c.push_made.ensures in
    entry_came inside.rows.items c.put_row.new.rows.items inside.nodes.items c.push_made.new.nodes.items inside.numbering e e.made
    c.self.invariant still.number still.enters row node
    ∙ ap (λ (t : tree.Tree). tree_with t e) c.self.view_is

pub returns-clause-grown : goal.returns-clause-grown
returns-clause-grown c = λ _. grown c

pub invariant_of-self-2 : goal.invariant_of-self-2
invariant_of-self-2 c =
    let formed : WellFormed c.args.self.now = subst WellFormed c.self.view_is c.self.invariant in
    subst WellFormed (sym (grown c)) (grown_keeps c.args.self.now _ formed (follows c))
