use Rattle.pua_calls.proofs.Common.{rules, Stat}
use Rattle.pua_calls.specs.Calls.{openbsd_link, openbsd_rename, openbsd_rule}
use Rattle.pua_calls.specs.declared.rules.Rules.TheVariants.{Openbsd}
use Rattle.pua_calls.proofs.Rows.{rows_by, with_rows}
use Rattle.pua_calls.proofs.table.CallTable.openbsd.Goals as goal

pub returns : goal.returns
returns c =
    let rows = rows_by openbsd_rule c.map.result c.map.ensures.items.long (λ i e below. let called = c.map.ensures.items.at i Stat e below in
    search (rules, called)) in
    rw (c.openbsd_rename.ensures, c.openbsd_link.ensures) (with_rows openbsd_rename openbsd_link Openbsd c.map.result _ rows)
