use Rattle.pua_texts.proofs.Common.{◌≡◌, List, ℕ, ◌∷◌, ◌++◌, [], Err, map, subst, sym, ap, ◌∙◌, append_assoc, err_from_is_err_and}
use Rattle.pua_texts.proofs.Common.{spelling, from_root, printed_path, Passes}
use Rattle.pua_audit.specs.declared.base.Base.TheVariants as base
use Rattle.pua_texts.proofs.Passing.{passes_then, passes_front}
use Rattle.pua_texts.proofs.ObjectLines.{word_printed}
use Rattle.pua_texts.proofs.list_line.add_kept_path.Goals as goal

pub returns-in_err-add_all : goal.returns-in_err-add_all
returns-in_err-add_all g c =
    let word = c.args.lines.now.word in
    let first = c.path.result.0.now in
    let rest = spelling (from_root (map (λ name. name.now) c.path.result.1.now)) in
    let p = err_from_is_err_and c.from_residual.result c.from_residual.ensures.1 in
    let whole : first ++ (rest ++ 32 ∷ []) ≡ printed_path base.Root word ++ 32 ∷ [] =
    sym (append_assoc first rest (32 ∷ [])) ∙ ap (λ t. t ++ 32 ∷ []) c.path.ensures.path
    ∙ word_printed word (sym c.are_at_root.ensures ∙ c.if-are_at_root.false) in
    rw p.1 (subst (λ (t : List ℕ). Passes t (Err p.0) c.args.block.now [] (g.S.Sink.written c.args.sink.now)
    (g.S.Sink.written c.add_all.new.sink) (g.S.Sink.failed c.args.sink.now) (g.S.Sink.failed c.add_all.new.sink)) whole
    (passes_front first (rest ++ 32 ∷ []) c.args.block.now [] [] p.0 (g.S.Sink.written c.args.sink.now)
    (g.S.Sink.written c.add_all.new.sink) (g.S.Sink.failed c.args.sink.now) (g.S.Sink.failed c.add_all.new.sink)
    c.in_err-add_all.ensures))

pub returns : goal.returns
returns g c =
    let word = c.args.lines.now.word in
    let first = c.path.result.0.now in
    let rest = spelling (from_root (map (λ name. name.now) c.path.result.1.now)) in
    let whole : first ++ (rest ++ 32 ∷ []) ≡ printed_path base.Root word ++ 32 ∷ [] =
    sym (append_assoc first rest (32 ∷ [])) ∙ ap (λ t. t ++ 32 ∷ []) c.path.ensures.path
    ∙ word_printed word (sym c.are_at_root.ensures ∙ c.if-are_at_root.false) in
    subst (λ (t : List ℕ). Passes t c.add_rest.result c.args.block.now c.add_rest.new.block (g.S.Sink.written c.args.sink.now)
    (g.S.Sink.written c.add_rest.new.sink) (g.S.Sink.failed c.args.sink.now) (g.S.Sink.failed c.add_rest.new.sink)) whole
    (passes_then first (rest ++ 32 ∷ []) c.args.block.now c.add_all.new.self c.add_rest.new.block c.add_rest.result
    (g.S.Sink.written c.args.sink.now) (g.S.Sink.written c.add_all.new.sink) (g.S.Sink.written c.add_rest.new.sink)
    (g.S.Sink.failed c.args.sink.now) (g.S.Sink.failed c.add_all.new.sink) (g.S.Sink.failed c.add_rest.new.sink)
    c.in_ok-add_all.ensures c.add_rest.ensures)
