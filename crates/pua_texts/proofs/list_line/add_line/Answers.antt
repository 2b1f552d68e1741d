use Rattle.pua_texts.proofs.Common.{List, ℕ, ◌∷◌, ◌++◌, [], Ok, Err, ap, subst, ◌∙◌, map, err_from_is_err_and, call_name, calls_in, kind_word}
use Rattle.pua_texts.proofs.Common.{with_commas, Passes}
use Rattle.pua_texts.specs.EndingsState.{columns_of}
use Rattle.pua_texts.specs.EverLines.{kind_of, path_or_new}
use Rattle.pua_texts.proofs.Passing.{passes_then, passes_front}
use Rattle.pua_texts.proofs.list_line.add_line.Goals as goal

pub returns-in_err-add : goal.returns-in_err-add
returns-in_err-add g c =
    let line = c.args.line.now in
    let k = kind_word (kind_of line.thing) ++ 32 ∷ [] in
    let w = path_or_new line.thing c.args.lines.now.word ++ 32 ∷ [] in
    let names = with_commas (map call_name (calls_in line.calls)) in
    let end = columns_of c.args.columns.now line.resting line.veil in
    let p = err_from_is_err_and c.from_residual.result c.from_residual.ensures.1 in
    let kind = c.kind_bytes.ensures.bytes ∙ ap (λ kind. kind_word kind ++ 32 ∷ []) c.kind_in-kind.ensures in
    rw p.1 (passes_front k (w ++ (names ++ end)) _ [] [] p.0 _ _ _ _
    (subst (λ (t : List ℕ). Passes t (Err p.0) c.args.block.now [] (g.S.Sink.written c.args.sink.now) (g.S.Sink.written c.add.new.sink)
    (g.S.Sink.failed c.args.sink.now) (g.S.Sink.failed c.add.new.sink)) kind c.in_err-add.ensures))

pub returns-in_err-add_place : goal.returns-in_err-add_place
returns-in_err-add_place g c =
    let line = c.args.line.now in
    let k = kind_word (kind_of line.thing) ++ 32 ∷ [] in
    let w = path_or_new line.thing c.args.lines.now.word ++ 32 ∷ [] in
    let names = with_commas (map call_name (calls_in line.calls)) in
    let end = columns_of c.args.columns.now line.resting line.veil in
    let p = err_from_is_err_and c.from_residual-in_err-add_place.result c.from_residual-in_err-add_place.ensures.1 in
    let kind = c.kind_bytes.ensures.bytes ∙ ap (λ kind. kind_word kind ++ 32 ∷ []) c.kind_in-kind.ensures in
    rw p.1 (passes_then k (w ++ (names ++ end)) _ c.add.new.self [] (Err p.0) _ _ _ _ _ _
    (subst (λ (t : List ℕ). Passes t (Ok tt) c.args.block.now c.add.new.self (g.S.Sink.written c.args.sink.now)
    (g.S.Sink.written c.add.new.sink) (g.S.Sink.failed c.args.sink.now) (g.S.Sink.failed c.add.new.sink)) kind c.in_ok-add.ensures)
    (passes_front w (names ++ end) _ [] [] p.0 _ _ _ _ c.in_err-add_place.ensures))

pub returns-in_err-add_calls : goal.returns-in_err-add_calls
returns-in_err-add_calls g c =
    let line = c.args.line.now in
    let k = kind_word (kind_of line.thing) ++ 32 ∷ [] in
    let w = path_or_new line.thing c.args.lines.now.word ++ 32 ∷ [] in
    let names = with_commas (map call_name (calls_in line.calls)) in
    let end = columns_of c.args.columns.now line.resting line.veil in
    let p = err_from_is_err_and c.from_residual-in_err-add_calls.result c.from_residual-in_err-add_calls.ensures.1 in
    let kind = c.kind_bytes.ensures.bytes ∙ ap (λ kind. kind_word kind ++ 32 ∷ []) c.kind_in-kind.ensures in
    rw p.1 (passes_then k (w ++ (names ++ end)) _ c.add.new.self [] (Err p.0) _ _ _ _ _ _
    (subst (λ (t : List ℕ). Passes t (Ok tt) c.args.block.now c.add.new.self (g.S.Sink.written c.args.sink.now)
    (g.S.Sink.written c.add.new.sink) (g.S.Sink.failed c.args.sink.now) (g.S.Sink.failed c.add.new.sink)) kind c.in_ok-add.ensures)
    (passes_then w (names ++ end) _ c.add_place.new.block [] (Err p.0) _ _ _ _ _ _ c.in_ok-add_place.ensures
    (passes_front names end _ [] [] p.0 _ _ _ _ c.in_err-add_calls.ensures)))

pub returns : goal.returns
returns g c =
    let line = c.args.line.now in
    let k = kind_word (kind_of line.thing) ++ 32 ∷ [] in
    let w = path_or_new line.thing c.args.lines.now.word ++ 32 ∷ [] in
    let names = with_commas (map call_name (calls_in line.calls)) in
    let end = columns_of c.args.columns.now line.resting line.veil in
    let kind = c.kind_bytes.ensures.bytes ∙ ap (λ kind. kind_word kind ++ 32 ∷ []) c.kind_in-kind.ensures in
    passes_then k (w ++ (names ++ end)) _ c.add.new.self _ _ _ _ _ _ _ _
    (subst (λ (t : List ℕ). Passes t (Ok tt) c.args.block.now c.add.new.self (g.S.Sink.written c.args.sink.now)
    (g.S.Sink.written c.add.new.sink) (g.S.Sink.failed c.args.sink.now) (g.S.Sink.failed c.add.new.sink)) kind c.in_ok-add.ensures)
    (passes_then w (names ++ end) _ c.add_place.new.block _ _ _ _ _ _ _ _ c.in_ok-add_place.ensures
    (passes_then names end _ c.add_calls.new.block _ _ _ _ _ _ _ _ c.in_ok-add_calls.ensures c.add_to.ensures))
