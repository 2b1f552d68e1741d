use Rattle.pua_tool.proofs.Common.{Ok, ap, refl, rules, sym, ◌∙◌, CallTable}
use Rattle.pua_calls.specs.Calls.{table_by_rules}
use Rattle.pua_tool.specs.Texts.{given_bytes, with_rows}
use Rattle.pua_tool.proofs.script.read_table.Goals as goal

pub returns-in_default-clause-read : goal.returns-in_default-clause-read
returns-in_default-clause-read c =
    ap (λ rows. with_rows (table_by_rules c.args.choice.rules) (given_bytes rows)) c.in_default.is
    ∙ ap (λ (base : CallTable). Ok base) (sym c.of-base.ensures)

pub returns-in-Ok-clause-read : goal.returns-in-Ok-clause-read
returns-in-Ok-clause-read c = search rules

pub returns-in-Err-OutOfMemory-clause-refused : goal.returns-in-Err-OutOfMemory-clause-refused
returns-in-Err-OutOfMemory-clause-refused c = λ other. absurd (other refl)

pub returns-in-Err-clause-refused : goal.returns-in-Err-clause-refused
returns-in-Err-clause-refused c = search rules
