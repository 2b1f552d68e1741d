use Rattle.pua_texts.proofs.Common.{[], List, ℕ, Ok, Err, get_or, subst, ◌∙◌, err_from_is_err_and, Passes}
use Rattle.pua_texts.specs.EndingsState.{veil_column}
use Rattle.pua_texts.proofs.Passing.{passes_then, passes_front}
use Rattle.pua_texts.proofs.endings.Endings.add_to.Goals as goal

pub returns-in_err-add_any : goal.returns-in_err-add_any
returns-in_err-add_any g c =
    let own = c.args.self.now in
    let p = err_from_is_err_and c.from_residual.result c.from_residual.ensures.1 in
    rw p.1 (passes_front (get_or own.resting c.args.number []) (veil_column own.veils own.unveiled c.args.veil) _ [] [] p.0 _ _ _ _
    (subst (λ (t : List ℕ). Passes t (Err p.0) c.args.block.now [] (g.S.Sink.written c.args.sink.now) (g.S.Sink.written c.add_any.new.sink)
    (g.S.Sink.failed c.args.sink.now) (g.S.Sink.failed c.add_any.new.sink)) (c.as_bytes.ensures.value ∙ c.resting_at.ensures)
    c.in_err-add_any.ensures))

pub returns : goal.returns
returns g c =
    let own = c.args.self.now in
    passes_then (get_or own.resting c.args.number []) (veil_column own.veils own.unveiled c.args.veil) _ c.add_any.new.block _ _ _ _ _ _ _ _
    (subst (λ (t : List ℕ). Passes t (Ok tt) c.args.block.now c.add_any.new.block (g.S.Sink.written c.args.sink.now)
    (g.S.Sink.written c.add_any.new.sink) (g.S.Sink.failed c.args.sink.now) (g.S.Sink.failed c.add_any.new.sink))
    (c.as_bytes.ensures.value ∙ c.resting_at.ensures) c.in_ok-add_any.ensures)
    (subst (λ (t : List ℕ). Passes t c.add_any-2.result c.add_any.new.block c.add_any-2.new.block (g.S.Sink.written c.add_any.new.sink)
    (g.S.Sink.written c.add_any-2.new.sink) (g.S.Sink.failed c.add_any.new.sink) (g.S.Sink.failed c.add_any-2.new.sink))
    (c.as_bytes-2.ensures.value ∙ c.veil_at.ensures) c.add_any-2.ensures)
