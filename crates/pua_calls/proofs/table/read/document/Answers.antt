use Rattle.pua_calls.proofs.Common.{◌∙◌, rules}
use Rattle.pua_calls.proofs.TableTexts.{no_document, text_of}
use Rattle.pua_calls.proofs.table.read.document.Goals as goal

pub returns-in-Ok-clause-read : goal.returns-in-Ok-clause-read
returns-in-Ok-clause-read c =
    let parsed = c.in-Ok.ensures.ok in
    text_of c.args.text.now parsed.0 ∙ parsed.1

pub returns-in-Err-2-clause-bad : goal.returns-in-Err-2-clause-bad
returns-in-Err-2-clause-bad c = λ bad. no_document c.args.text.now (c.in-Err.ensures.refused (search rules))
