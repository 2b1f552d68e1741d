use Rattle.pua_listing.proofs.Common.{◌≡◌, ◌∙◌, ◌-◌, ap, subst, arith, map, length, List, true, false}
use Rattle.std.proofs.Common.{rules, ltb, leb, take, drop}
use Rattle.std.specs.Bool.{passes}
use Rattle.std.proofs.lemmas.List.{take_all, length-drop}
use Rattle.std.proofs.lemmas.List.Sorted.{IsPartitionPoint-from_clause}
use Rattle.std.specs.List.Sorted.{IsPartitionPoint, IsPartitionedBy}
use Rattle.pua_tree.specs.LentRows.{lent_entry}
use Rattle.pua_tree.specs.declared.tree.LentRow.{LentRow}
use Rattle.pua_listing.proofs.Under.{found_under}
use Rattle.pua_listing.proofs.order.under.Goals as goal

pub returns : goal.returns
returns c = λ sorted.
    let rows : List LentRow = c.args.rows.now in
    let start = c.partition_point-start.result in
    let count = c.partition_point-count.result in
    let rest : take (length rows - start) (drop start rows) ≡ drop start rows = take_all (length rows - start) (drop start rows)
    (omega (arith, length-drop start rows)) in
    ap (λ (xs : List LentRow). map lent_entry (take count xs)) rest
    ∙ found_under c.args.dir start count rows (passes _ sorted)
    (λ parted. IsPartitionPoint-from_clause (λ (y : LentRow). ltb y.dir c.args.dir) _ _ c.partition_point-start.ensures.partitioned parted
    (λ a r q k. search rules))
    (subst (λ (xs : List LentRow). IsPartitionedBy (λ (y : LentRow). leb y.dir c.args.dir) xs →
    IsPartitionPoint (λ (y : LentRow). leb y.dir c.args.dir ≡ true) (λ y. leb y.dir c.args.dir ≡ false) xs count) rest
    (λ parted. IsPartitionPoint-from_clause (λ (y : LentRow). leb y.dir c.args.dir) _ _ c.partition_point-count.ensures.partitioned parted
    (λ a r q k. search rules)))
