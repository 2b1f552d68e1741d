use Rattle.pua_texts.proofs.Common.{List, ℕ, [], ◌++◌, Ok, Err, map, ap, subst, ◌∙◌, err_from_is_err_and, Passes, veil_lines}
use Rattle.pua_texts.specs.Lists.{HeadState}
use Rattle.pua_texts.proofs.Passing.{passes_then, passes_front}
use Rattle.pua_texts.proofs.States.{shown}
use Rattle.pua_texts.proofs.process_head.ProcessHead.add_to.Goals as goal

pub returns-in_err-add_text-clause-head : goal.returns-in_err-add_text-clause-head
returns-in_err-add_text-clause-head g c =
    let t = c.args.places.now.tree in
    let own = c.args.self.now in
    let p = err_from_is_err_and c.from_residual.result c.from_residual.ensures.1 in
    rw p.1 (passes_front own.text (veil_lines t own.veils ++ own.files) _ [] [] p.0 _ _ _ _
    (subst (λ (text : List ℕ). Passes text (Err p.0) c.args.block.now [] (g.S.Sink.written c.args.sink.now)
    (g.S.Sink.written c.add_text.new.sink) (g.S.Sink.failed c.args.sink.now) (g.S.Sink.failed c.add_text.new.sink))
    (c.as_bytes.ensures.value ∙ ap (λ (s : HeadState). s.text) c.self.view_is) c.in_err-add_text.ensures))

pub returns-in_err-add_veils-clause-head : goal.returns-in_err-add_veils-clause-head
returns-in_err-add_veils-clause-head g c =
    let t = c.args.places.now.tree in
    let own = c.args.self.now in
    let p = err_from_is_err_and c.from_residual-in_err-add_veils.result c.from_residual-in_err-add_veils.ensures.1 in
    let veiled = ap (λ vs. veil_lines t (map shown vs)) c.as_slice.ensures.value ∙ ap (λ (s : HeadState). veil_lines t s.veils)
    c.self.view_is in
    rw p.1 (passes_then own.text (veil_lines t own.veils ++ own.files) _ c.add_text.new.self [] (Err p.0) _ _ _ _ _ _
    (subst (λ (text : List ℕ). Passes text (Ok tt) c.args.block.now c.add_text.new.self (g.S.Sink.written c.args.sink.now)
    (g.S.Sink.written c.add_text.new.sink) (g.S.Sink.failed c.args.sink.now) (g.S.Sink.failed c.add_text.new.sink))
    (c.as_bytes.ensures.value ∙ ap (λ (s : HeadState). s.text) c.self.view_is) c.in_ok-add_text.ensures)
    (passes_front (veil_lines t own.veils) own.files c.add_text.new.self [] [] p.0 _ _ _ _
    (subst (λ (text : List ℕ). Passes text (Err p.0) c.add_text.new.self [] (g.S.Sink.written c.add_text.new.sink)
    (g.S.Sink.written c.add_veils.new.sink) (g.S.Sink.failed c.add_text.new.sink) (g.S.Sink.failed c.add_veils.new.sink)) veiled
    c.in_err-add_veils.ensures.lines)))

pub returns-clause-head : goal.returns-clause-head
returns-clause-head g c =
    let t = c.args.places.now.tree in
    let own = c.args.self.now in
    let veiled = ap (λ vs. veil_lines t (map shown vs)) c.as_slice.ensures.value ∙ ap (λ (s : HeadState). veil_lines t s.veils)
    c.self.view_is in
    passes_then own.text (veil_lines t own.veils ++ own.files) _ c.add_text.new.self _ _ _ _ _ _ _ _
    (subst (λ (text : List ℕ). Passes text (Ok tt) c.args.block.now c.add_text.new.self (g.S.Sink.written c.args.sink.now)
    (g.S.Sink.written c.add_text.new.sink) (g.S.Sink.failed c.args.sink.now) (g.S.Sink.failed c.add_text.new.sink))
    (c.as_bytes.ensures.value ∙ ap (λ (s : HeadState). s.text) c.self.view_is) c.in_ok-add_text.ensures)
    (passes_then (veil_lines t own.veils) own.files _ c.add_veils.new.block _ _ _ _ _ _ _ _
    (subst (λ (text : List ℕ). Passes text (Ok tt) c.add_text.new.self c.add_veils.new.block (g.S.Sink.written c.add_text.new.sink)
    (g.S.Sink.written c.add_veils.new.sink) (g.S.Sink.failed c.add_text.new.sink) (g.S.Sink.failed c.add_veils.new.sink)) veiled
    c.in_ok-add_veils.ensures.lines)
    (subst (λ (text : List ℕ). Passes text c.add_files.result c.add_veils.new.block c.add_files.new.block
    (g.S.Sink.written c.add_veils.new.sink) (g.S.Sink.written c.add_files.new.sink) (g.S.Sink.failed c.add_veils.new.sink)
    (g.S.Sink.failed c.add_files.new.sink)) (c.as_bytes-2.ensures.value ∙ ap (λ (s : HeadState). s.files) c.self.view_is)
    c.add_files.ensures))
