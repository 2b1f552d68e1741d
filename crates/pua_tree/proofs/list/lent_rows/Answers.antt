use Rattle.pua_tree.proofs.Common.{rules, tests, lent_entry, row_entry}
use Rattle.std.proofs.lemmas.Iterator.{YieldsList-from_slice, YieldsList-from_map_by}
use Rattle.std.proofs.lemmas.Iterator.Consumers.{map_from_collect}
use Rattle.pua_tree.proofs.list.lent_rows.Goals as goal

pub returns : goal.returns
returns c = map_from_collect _ c.collect.ensures.ran
    (YieldsList-from_map_by _ lent_entry row_entry (YieldsList-from_slice c.args.rows.now cc) c.map.ensures.closure
    (λ x r q k. search (rules, tests)))
