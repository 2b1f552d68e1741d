use Rattle.pua_texts.proofs.Common.{List, ℕ, ◌∷◌, ◌++◌, [], Err, map, codes, err_from_is_err_and, perm_letters, or_equals, path_or_hyphen}
use Rattle.pua_texts.proofs.Passing.{passes_then, passes_front}
use Rattle.pua_texts.proofs.veil_line.add_veil.Goals as goal

pub returns-in_err-add : goal.returns-in_err-add
returns-in_err-add g c =
    let path = path_or_hyphen c.args.stands (map (λ name. name.now) c.args.names.now) in
    let letters = or_equals (perm_letters c.args.perms) in
    let b : List ℕ = c.args.block.now in
    let p = err_from_is_err_and c.from_residual.result c.from_residual.ensures.1 in
    rw p.1 (passes_front (codes "veil ") ((path ++ 32 ∷ []) ++ (letters ++ 10 ∷ [])) b [] [] p.0 (g.S.Sink.written c.args.sink.now)
    (g.S.Sink.written c.add.new.sink) (g.S.Sink.failed c.args.sink.now) (g.S.Sink.failed c.add.new.sink) c.in_err-add.ensures)

pub returns-in_err-add_place : goal.returns-in_err-add_place
returns-in_err-add_place g c =
    let path = path_or_hyphen c.args.stands (map (λ name. name.now) c.args.names.now) in
    let letters = or_equals (perm_letters c.args.perms) in
    let b : List ℕ = c.args.block.now in
    let p = err_from_is_err_and c.from_residual-in_err-add_place.result c.from_residual-in_err-add_place.ensures.1 in
    rw p.1 (passes_then (codes "veil ") ((path ++ 32 ∷ []) ++ (letters ++ 10 ∷ [])) b c.add.new.self [] (Err p.0)
    (g.S.Sink.written c.args.sink.now) (g.S.Sink.written c.add.new.sink) (g.S.Sink.written c.add_place.new.sink)
    (g.S.Sink.failed c.args.sink.now) (g.S.Sink.failed c.add.new.sink) (g.S.Sink.failed c.add_place.new.sink) c.in_ok-add.ensures
    (passes_front (path ++ 32 ∷ []) (letters ++ 10 ∷ []) c.add.new.self [] [] p.0 (g.S.Sink.written c.add.new.sink)
    (g.S.Sink.written c.add_place.new.sink) (g.S.Sink.failed c.add.new.sink) (g.S.Sink.failed c.add_place.new.sink)
    c.in_err-add_place.ensures))

pub returns : goal.returns
returns g c =
    let path = path_or_hyphen c.args.stands (map (λ name. name.now) c.args.names.now) in
    let letters = or_equals (perm_letters c.args.perms) in
    let b : List ℕ = c.args.block.now in
    passes_then (codes "veil ") ((path ++ 32 ∷ []) ++ (letters ++ 10 ∷ [])) b c.add.new.self c.add_letters.new.block c.add_letters.result
    (g.S.Sink.written c.args.sink.now) (g.S.Sink.written c.add.new.sink) (g.S.Sink.written c.add_letters.new.sink)
    (g.S.Sink.failed c.args.sink.now) (g.S.Sink.failed c.add.new.sink) (g.S.Sink.failed c.add_letters.new.sink) c.in_ok-add.ensures
    (passes_then (path ++ 32 ∷ []) (letters ++ 10 ∷ []) c.add.new.self c.add_place.new.block c.add_letters.new.block c.add_letters.result
    (g.S.Sink.written c.add.new.sink) (g.S.Sink.written c.add_place.new.sink) (g.S.Sink.written c.add_letters.new.sink)
    (g.S.Sink.failed c.add.new.sink) (g.S.Sink.failed c.add_place.new.sink) (g.S.Sink.failed c.add_letters.new.sink)
    c.in_ok-add_place.ensures c.add_letters.ensures)
