use Rattle.pua_objects.proofs.Common.{◌+◌, ◌-◌, length, map, reverse, items, spot_now}
use Rattle.pua_objects.specs.Listing.{IsListing}
use Rattle.pua_objects.proofs.list.list_items.Given as goal

abbrev pub invariant-loop-inner : goal.invariant-loop-inner
invariant-loop-inner g l = record {
  listing : IsListing (g.T.FileTree.content l.tree) l.process (map spot_now l.spots.items) (reverse l.entered.items)
      l.items.items;
}

abbrev pub decreases-loop-inner : goal.decreases-loop-inner
decreases-loop-inner g l =
    let left = length (items (g.T.FileTree.content l.tree) l.process.veils) - length l.items.items in
    left + left + length l.entered.items
