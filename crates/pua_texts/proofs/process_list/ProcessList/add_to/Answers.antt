use Rattle.pua_texts.proofs.Common.{[], List, ℕ, Ok, Err, ap, subst, ◌∙◌, err_from_is_err_and, Passes}
use Rattle.pua_texts.specs.ListLines.{ListState, NamedState, head_text, lines_text}
use Rattle.pua_texts.proofs.Passing.{passes_front, passes_then}
use Rattle.pua_texts.proofs.process_list.ProcessList.add_to.Goals as goal

pub returns-in_err-add_to-clause-list : goal.returns-in_err-add_to-clause-list
returns-in_err-add_to-clause-list g c =
    let t = c.args.places.now.tree in
    let own : ListState = c.args.self in
    let p = err_from_is_err_and c.from_residual.result c.from_residual.ensures.1 in
    rw p.1 (passes_front (head_text t own.head) (lines_text own.columns [] own.lines) _ [] [] p.0 _ _ _ _
    (subst (λ (text : List ℕ). Passes text (Err p.0) c.args.block.now [] (g.S.Sink.written c.args.sink.now) (g.S.Sink.written c.add_to.new.sink)
    (g.S.Sink.failed c.args.sink.now) (g.S.Sink.failed c.add_to.new.sink))
    (ap (λ (s : ListState). head_text t s.head) c.self.view_is) c.in_err-add_to.ensures.head))

pub returns-clause-list : goal.returns-clause-list
returns-clause-list g c =
    let t = c.args.places.now.tree in
    let own : ListState = c.args.self in
    passes_then (head_text t own.head) (lines_text own.columns [] own.lines) _ c.add_to.new.block _ _ _ _ _ _ _ _
    (subst (λ (text : List ℕ). Passes text (Ok tt) c.args.block.now c.add_to.new.block (g.S.Sink.written c.args.sink.now)
    (g.S.Sink.written c.add_to.new.sink) (g.S.Sink.failed c.args.sink.now) (g.S.Sink.failed c.add_to.new.sink))
    (ap (λ (s : ListState). head_text t s.head) c.self.view_is) c.in_ok-add_to.ensures.head)
    (subst (λ (text : List ℕ). Passes text c.add_lines.result c.add_to.new.block c.add_lines.new.block (g.S.Sink.written c.add_to.new.sink)
    (g.S.Sink.written c.add_lines.new.sink) (g.S.Sink.failed c.add_to.new.sink) (g.S.Sink.failed c.add_lines.new.sink))
    (ap (λ (s : NamedState). lines_text c.self.inside.columns s.word s.left) c.begin.ensures ∙
    ap (λ (s : ListState). lines_text s.columns [] s.lines) c.self.view_is) c.add_lines.ensures)
