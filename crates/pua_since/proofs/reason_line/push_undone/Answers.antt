use Rattle.pua_since.proofs.Common.{◌≡◌, ◌∙◌, ap, ◌++◌, string_bytes, Asked, world_of}
use Rattle.std.proofs.lemmas.Result.{on_ok_weaker}
use Rattle.pua_script.specs.AnswerTexts.{answer_text}
use Rattle.pua_why.specs.Seen.{reason_seen}
use Rattle.pua_why.specs.Texts.{reason_text, since_text, spaced_words}
use Rattle.pua_since.proofs.Answered.{told_in_parts}
use Rattle.pua_since.proofs.reason_line.push_undone.Goals as goal

pub returns : goal.returns
returns g c =
    let ask : Asked = record { process = c.args.process; action = c.args.action.now } in
    let answered : string_bytes c.write.new.self ≡ string_bytes c.args.text.now ++ answer_text c.args.answer =
    c.in_ok-write.ensures.bytes in
    let worded : string_bytes c.push_words.new.text ≡ string_bytes c.write.new.self
    ++ spaced_words (reason_text c.args.world.now.tree (reason_seen c.in-Ok.reason)) = c.in_ok-push_words.ensures in
    on_ok_weaker c.push_since.result (λ dated told.
    told_in_parts c.args.world.now.table (world_of c.args.world.now) ask c.args.line c.args.answer (reason_seen c.in-Ok.reason)
    (string_bytes c.args.text.now) (string_bytes c.write.new.self) (string_bytes c.push_words.new.text) (string_bytes c.push_since.new.text)
    told (c.in-Ok.ensures told) answered worded
    (dated ∙ ap (λ line. string_bytes c.push_words.new.text ++ since_text line) c.date_of.ensures)) c.push_since.ensures
