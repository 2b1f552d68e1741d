use Rattle.pua_texts.proofs.Common.{ℕ, ◌+◌, List, ◌++◌, [], ap, ◌∙◌, length, take, spelling, call_name, err_from_is_err_and}
use Rattle.pua_texts.specs.PathLines.{path_line}
use Rattle.pua_texts.proofs.Pairs.{line_ends}
use Rattle.pua_texts.proofs.Passing.{passes_room, passes_unput}
use Rattle.pua_texts.proofs.line.add_line.Goals as goal

pub returns-in_err-make_room : goal.returns-in_err-make_room
returns-in_err-make_room g c =
    let p = err_from_is_err_and c.from_residual.result c.from_residual.ensures.1 in
    rw p.1 (passes_unput (path_line c.args.path.now c.args.call) _ p.0 [] _ _ _ _ c.in_err-make_room.ensures.front
    c.in_err-make_room.ensures.failed)

pub returns : goal.returns
returns g c =
    let path = c.args.path.now in
    let name = call_name c.args.call in
    let end = ap (λ (n : List ℕ). take (length n + 2) c.line.result.now) c.name.ensures ∙ c.line.ensures.line in
    passes_room (path_line path c.args.call) c.args.block.now c.make_room.new.self c.push.new.self (g.S.Sink.written c.args.sink.now)
    (g.S.Sink.written c.make_room.new.sink) (g.S.Sink.failed c.args.sink.now) (g.S.Sink.failed c.make_room.new.sink)
    c.in_ok-make_room.ensures.handed c.in_ok-make_room.ensures.unfailed
    (c.push.ensures ∙ (λ k. c.spell.ensures.spelled k ++ end k) ∙ line_ends c.make_room.new.self (spelling path) name)
