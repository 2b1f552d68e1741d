use Rattle.pua_tool.proofs.Common.{◌≢◌, Ok, Err, err_from_is_err_and, if_err, if_ok, choice_of, as_replayed, OutOfMemory}
use Rattle.std.specs.Prelude.{string_bytes}
use Rattle.pua_tool.specs.HowTexts.{IsHowText, way_wanted}
use Rattle.pua_tool.proofs.HowTexts.{after_done, after_refused}
use Rattle.pua_tool.proofs.how.how_text.Goals as goal

pub returns-in_err-replay-clause-refused : goal.returns-in_err-replay-clause-refused
returns-in_err-replay-clause-refused c =
    let fault = c.in_err-replay.field-0.0 in
    let wanted = way_wanted c.args.words.now in
    let refuses : fault ≢ OutOfMemory → IsHowText (choice_of c.args.table) c.args.tree_bytes.now c.args.script_bytes.now wanted (Err fault) =
    λ other.
    after_refused (choice_of c.args.table) c.args.tree_bytes.now c.args.script_bytes.now wanted fault (c.in_err-replay.ensures.refused other) in
    let p = err_from_is_err_and c.from_residual.result c.from_residual.ensures.1 in
    rw (p.1, p.2) refuses

pub returns-clause-done : goal.returns-clause-done
returns-clause-done c =
    if_ok c.text_behind-text.result (λ text asked.
    after_done (choice_of c.args.table) c.args.tree_bytes.now c.args.script_bytes.now (way_wanted c.args.words.now) (as_replayed c.in_ok-replay.replay)
    (Ok (string_bytes text)) c.in_ok-replay.ensures.done asked) c.text_behind-text.ensures.done

pub returns-clause-refused : goal.returns-clause-refused
returns-clause-refused c =
    if_err c.text_behind-text.result (λ fault refused other.
    after_done (choice_of c.args.table) c.args.tree_bytes.now c.args.script_bytes.now (way_wanted c.args.words.now) (as_replayed c.in_ok-replay.replay)
    (Err fault) c.in_ok-replay.ensures.done (refused other)) c.text_behind-text.ensures.refused
