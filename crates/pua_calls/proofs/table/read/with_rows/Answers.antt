use Rattle.pua_calls.proofs.Common.{rules}
use Rattle.pua_calls.proofs.TableTexts.{keys_in_order}
use Rattle.pua_calls.proofs.table.read.with_rows.Goals as goal

pub returns-in_default-clause-in_order : goal.returns-in_default-clause-in_order
returns-in_default-clause-in_order c = keys_in_order c.args.document.now.entries (search rules)

pub returns-in_err-row-clause-in_order : goal.returns-in_err-row-clause-in_order
returns-in_err-row-clause-in_order c = keys_in_order c.args.document.now.entries (search rules)

pub returns-clause-in_order : goal.returns-clause-in_order
returns-clause-in_order c = keys_in_order c.args.document.now.entries (search rules)
