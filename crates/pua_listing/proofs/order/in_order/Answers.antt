use Rattle.pua_listing.proofs.Common.{◌≡◌, ◌∙◌, ◌++◌, ◌-◌, ◌+◌, ◌≤◌, suc, ap, sym, map, length, arith, rows_from}
use Rattle.std.proofs.Common.{reverse}
use Rattle.pua_tree.specs.LentRows.{lent_entry}
use Rattle.pua_listing.specs.Lent.{rows_held}
use Rattle.pua_listing.proofs.Ordering.{walked_through}
use Rattle.pua_listing.proofs.order.in_order.Goals as goal

pub loop-preserved : goal.loop-preserved
loop-preserved c = λ sorted.
    let left : length c.args.rows.now - c.loop.counter ≡ suc (length c.args.rows.now - (c.loop.counter + 1)) = omega arith in
    c.in_ok-take_next.ensures sorted (length c.args.rows.now - (c.loop.counter + 1))
    ∙ ap (λ m. rows_held c.loop.order.items ++ rows_from m (map lent_entry c.args.rows.now) (reverse (rows_held c.loop.waiting.items))) (sym left)
    ∙ c.loop.invariant sorted

pub returns : goal.returns
returns c = λ sorted.
    let all : length c.args.rows.now ≤ c.loop.counter = omega arith in
    walked_through (length c.args.rows.now) c.loop.counter (map lent_entry c.args.rows.now) (rows_held c.loop.order.items)
    (rows_held c.loop.waiting.items) _ (c.loop.invariant sorted) all
