use Rattle.pua_calls.proofs.Common.{◌≡◌, rules_with}
use Rattle.toml.specs.View.{members_view}
use Rattle.pua_calls.specs.Tables.{HasPairsOf}
use Rattle.pua_calls.proofs.table.read.with_rows.Given as goal

abbrev pub invariant-loop-key : goal.invariant-loop-key
invariant-loop-key l = record {
  rows : rules_with l.table (members_view l.key-iterator) ≡ rules_with l.fn.base (members_view l.fn.document.entries);
  pairs : HasPairsOf l.fn.base l.table;
}
