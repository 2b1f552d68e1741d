use Rattle.pua_tree.proofs.Common.{rules, always_returns_same, nat_cmp_total, nat_cmp-IsAntisymmetric, node_entry}
use Rattle.pua_tree.specs.declared.list.ListNode.{ListNode}
use Rattle.pua_tree.proofs.Places.{found_place, missing_place, key_place}
use Rattle.pua_tree.proofs.list.node_place.Goals as goal

pub returns : goal.returns
returns c =
    let bound = c.binary_search_by_key.ensures.bound in
    let searched = c.binary_search_by_key.ensures.position (λ (node : ListNode). node.id)
    (always_returns_same _ _ _ (λ a r f g. search rules)) in
    record {
      found = found_place nat_cmp_total node_entry _ c.args.id _ c.requires bound searched;
      missing = missing_place nat_cmp_total node_entry _ c.args.id _ c.requires bound searched;
      number = key_place nat_cmp_total node_entry nat_cmp-IsAntisymmetric _ c.args.id _ searched;
    }
