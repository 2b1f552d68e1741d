use Rattle.pua_texts.proofs.Common.{◌++◌, err_from_is_err_and, refl, string_bytes}
use Rattle.pua_texts.specs.Members.{beside_of}
use Rattle.pua_texts.specs.States.{exec_line, openings_told, receives_told, unveiled_line}
use Rattle.pua_texts.specs.declared.state.Time.TheVariants.{Ever}
use Rattle.pua_texts.proofs.Outcomes.{ok_text}
use Rattle.pua_texts.proofs.States.{text_more}
use Rattle.pua_texts.proofs.beside_list.push_bounds.Goals as goal

pub returns-in_err-push_execs : goal.returns-in_err-push_execs
returns-in_err-push_execs c = rw (err_from_is_err_and c.from_residual.result c.from_residual.ensures.1).1 tt

pub returns-in_err-push_receives : goal.returns-in_err-push_receives
returns-in_err-push_receives c =
    rw (err_from_is_err_and c.from_residual-in_err-push_receives.result c.from_residual-in_err-push_receives.ensures.1).1 tt

pub returns-in_err-push_str : goal.returns-in_err-push_str
returns-in_err-push_str c = rw (err_from_is_err_and c.from_residual-in_err-push_str.result c.from_residual-in_err-push_str.ensures.1).1 tt

pub returns-in_err-push_opened : goal.returns-in_err-push_opened
returns-in_err-push_opened c = rw (err_from_is_err_and c.from_residual-in_err-push_opened.result c.from_residual-in_err-push_opened.ensures.1).1 tt

pub returns : goal.returns
returns c =
    let b = beside_of c.args.helped.now in
    let old = string_bytes c.args.text.now in
    let execs = string_bytes c.push_execs.new.text in
    let received = string_bytes c.push_receives.new.text in
    let rooted = string_bytes c.push_str.new.self in
    let root = c.args.root.now in
    let opened = string_bytes c.push_opened.new.text in
    let told = exec_line b.execs in
    let receives = receives_told c.args.rules (Ever b.own) b.process in
    let opening = openings_told c.args.rules (Ever b.own) b.process in
    ok_text c.push_unveiled.result (string_bytes c.push_unveiled.new.text)
    (text_more old (told ++ receives ++ root ++ opening) (unveiled_line b.process) opened _
    (text_more old (told ++ receives ++ root) opening rooted opened
    (text_more old (told ++ receives) root received rooted
    (text_more old told receives execs received c.in_ok-push_execs.ensures c.in_ok-push_receives.ensures)
    c.in_ok-push_str.ensures.bytes) c.in_ok-push_opened.ensures) refl)
    c.push_unveiled.ensures
