use Rattle.pua_calls.proofs.Common.{rules}
use Rattle.pua_calls.proofs.TableTexts.{no_error_in}
use Rattle.pua_calls.proofs.table.read.alternative.Goals as goal

pub returns-in-Ok-clause-no_error : goal.returns-in-Ok-clause-no_error
returns-in-Ok-clause-no_error c =
    let apart = no_error_in c.in-Ok.set (search rules) in
    (search rules, apart)
