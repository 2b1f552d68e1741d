use Rattle.pua_listing.proofs.Common.{◌∙◌, ◌++◌, ap, map, List}
use Rattle.std.proofs.Common.{reverse}
use Rattle.std.proofs.lemmas.Iterator.Adapters.{YieldsList-from_rev_slice}
use Rattle.std.proofs.lemmas.Iterator.Consumers.{YieldsList-end}
use Rattle.pua_tree.specs.LentRows.{lent_entry}
use Rattle.pua_tree.specs.declared.tree.LentRow.{LentRow}
use Rattle.pua_tree.proofs.ForCallers.{map-reverse}
use Rattle.pua_listing.specs.Lent.{rows_held}
use Rattle.pua_listing.proofs.order.push_under.Goals as goal

pub returns : goal.returns
returns c = λ sorted.
    let ended = YieldsList-end (YieldsList-from_rev_slice c.under.result.now cc) c.loop-row.yielded _ c.loop-row.yielded_by _ _ c.in-None.is
    c.next.ensures.steps in
    c.loop-row.invariant
    ∙ ap (λ (rows : List LentRow). rows_held c.args.waiting.now.items ++ map lent_entry rows) ended.0
    ∙ ap (λ rows. rows_held c.args.waiting.now.items ++ rows) (map-reverse lent_entry c.under.result.now)
    ∙ ap (λ rows. rows_held c.args.waiting.now.items ++ reverse rows) (c.under.ensures sorted)
