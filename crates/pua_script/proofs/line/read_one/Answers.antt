use Rattle.pua_script.proofs.Common.{and_from, not, subst, sym, ◌∙◌}
use Rattle.pua_tree.proofs.ForCallers.{only_if_read}
use Rattle.pua_calls.specs.Neighbours.{call_asked_by}
use Rattle.pua_script.specs.Added.{IsActionAdded}
use Rattle.pua_script.specs.Requests.{has_no_nul, is_symlink}
use Rattle.pua_script.proofs.Reading.{about_file, path_plain}
use Rattle.pua_script.proofs.line.read_one.Goals as goal

pub add-requires-in-Some-call_on_path : goal.add-requires-in-Some-call_on_path
add-requires-in-Some-call_on_path c =
    let call = c.in-Some-call_on_path.call in
    let path = c.in_ok-path-in-Some-call_on_path.path in
    and_from (not (is_symlink call)) (has_no_nul path)
    (only_if_read (λ call. not (is_symlink call)) (call_asked_by c.args.rules c.args.word.now) call
    (sym c.call_on_path.ensures ∙ c.in-Some-call_on_path.is)).1
    (path_plain c.args.a.now path _ c.in_ok-path-in-Some-call_on_path.ensures)

pub returns-in-None-call_on_path : goal.returns-in-None-call_on_path
returns-in-None-call_on_path c =
    subst (λ rule. IsActionAdded rule c.args.origin.process c.args.requests.now.items c.read_one_file.new.requests.items c.read_one_file.result)
    (sym (about_file c.args.rules c.args.origin.line c.args.word.now c.args.a.now (sym c.is_fork.ensures ∙ c.if-is_fork.false)
    (sym c.asks_promises.ensures ∙ c.if-asks_promises.false) (sym c.call_on_path.ensures ∙ c.in-None-call_on_path.is)))
    c.read_one_file.ensures
