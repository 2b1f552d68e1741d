use Rattle.pua_tree.proofs.Common.{sym, nat_cmp_total, node_entry, passes}
use Rattle.pua_tree.proofs.Places.{removed_at, absent_removed}
use Rattle.pua_tree.proofs.list_edits.take_node.Goals as goal

pub returns-in-Ok : goal.returns-in-Ok
returns-in-Ok c =
    let nodes = c.args.nodes.now.items in
    let found = rw c.deref.ensures.value at c.in-Ok.ensures.found in
    let here = rw c.deref.ensures.value at c.in-Ok.ensures.number in
    rw c.remove.ensures.items (removed_at nat_cmp_total node_entry nodes c.args.id c.in-Ok.place (passes _ c.requires) found.0 here)

pub returns-in_default : goal.returns-in_default
returns-in_default c =
    let missing = rw c.deref.ensures.value at c.in_default.ensures.missing in
    sym (absent_removed nat_cmp_total node_entry c.args.id _ missing.1)
