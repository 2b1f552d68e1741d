use Rattle.pua_since.proofs.Common.{◌∙◌, ap, sym, ◌++◌, string_bytes, Asked, world_of, date_of, reason}
use Rattle.std.proofs.lemmas.Result.{on_ok_weaker}
use Rattle.pua_since.proofs.Answered.{okay_told, undone_told}
use Rattle.pua_since.proofs.reason_line.push_answer.Goals as goal

pub returns-in-Okay : goal.returns-in-Okay
returns-in-Okay g c =
    let ask : Asked = record { process = c.args.process; action = c.args.action.now } in
    on_ok_weaker c.push_okay.result (λ pushed told.
    pushed ∙ ap (λ text. string_bytes c.args.text.now ++ text)
    (sym (okay_told c.args.world.now.table (world_of c.args.world.now) ask c.args.line (sym c.in-Okay.is ∙ told)))) c.push_okay.ensures

pub returns-in_default : goal.returns-in_default
returns-in_default g c =
    let ask : Asked = record { process = c.args.process; action = c.args.action.now } in
    let table = c.args.world.now.table in
    let w = world_of c.args.world.now in
    on_ok_weaker c.push_undone.result (λ pushed told.
    pushed told ∙ ap (λ text. string_bytes c.args.text.now ++ text)
    (undone_told table w ask (date_of (reason table w ask) c.args.line) c.args.answer c.in_default.not-Okay told)) c.push_undone.ensures
