use Rattle.pua_calls.proofs.Common.{rules, Stat}
use Rattle.pua_calls.specs.Calls.{standard_pair, standard_rule}
use Rattle.pua_calls.specs.declared.rules.Rules.TheVariants.{Standard}
use Rattle.pua_calls.proofs.Rows.{rows_by, with_rows}
use Rattle.pua_calls.proofs.table.CallTable.standard.Goals as goal

pub returns : goal.returns
returns c =
    let rows = rows_by standard_rule c.map.result c.map.ensures.items.long (λ i e below. let called = c.map.ensures.items.at i Stat e below in
    search (rules, called)) in
    rw (c.standard.ensures, c.standard-2.ensures) (with_rows standard_pair standard_pair Standard c.map.result _ rows)
