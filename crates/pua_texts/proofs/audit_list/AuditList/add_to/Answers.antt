use Rattle.pua_texts.proofs.Common.{List, ℕ, [], Ok, Err, subst, err_from_is_err_and, Passes, pair_lines}
use Rattle.pua_audit.specs.AuditState.{AuditState}
use Rattle.pua_texts.proofs.Passing.{passes_then, passes_front}
use Rattle.pua_texts.proofs.audit_list.AuditList.add_to.Goals as goal

pub returns-in_err-add_text : goal.returns-in_err-add_text
returns-in_err-add_text g c =
    let p = err_from_is_err_and c.from_residual.result c.from_residual.ensures.1 in
    rw p.1 (
    passes_front c.args.front.now (pair_lines c.args.self.now.base c.args.self.now.left) c.args.block.now [] [] p.0
    (g.S.Sink.written c.args.sink.now) (g.S.Sink.written c.add_text.new.sink) (g.S.Sink.failed c.args.sink.now)
    (g.S.Sink.failed c.add_text.new.sink)
    (subst (λ (t : List ℕ). Passes t (Err p.0) c.args.block.now [] (g.S.Sink.written c.args.sink.now) (g.S.Sink.written c.add_text.new.sink)
    (g.S.Sink.failed c.args.sink.now) (g.S.Sink.failed c.add_text.new.sink)) c.as_bytes.ensures.value c.in_err-add_text.ensures))

pub returns : goal.returns
returns g c =
    passes_then c.args.front.now (pair_lines c.args.self.now.base c.args.self.now.left) c.args.block.now c.add_text.new.self
    c.add_pairs.new.block c.add_pairs.result
    (g.S.Sink.written c.args.sink.now) (g.S.Sink.written c.add_text.new.sink) (g.S.Sink.written c.add_pairs.new.sink)
    (g.S.Sink.failed c.args.sink.now) (g.S.Sink.failed c.add_text.new.sink) (g.S.Sink.failed c.add_pairs.new.sink)
    (subst (λ (t : List ℕ). Passes t (Ok tt) c.args.block.now c.add_text.new.self (g.S.Sink.written c.args.sink.now)
    (g.S.Sink.written c.add_text.new.sink) (g.S.Sink.failed c.args.sink.now) (g.S.Sink.failed c.add_text.new.sink))
    c.as_bytes.ensures.value c.in_ok-add_text.ensures)
    (subst (λ (s : AuditState). Passes (pair_lines s.base s.left) c.add_pairs.result c.add_text.new.self c.add_pairs.new.block
    (g.S.Sink.written c.add_text.new.sink) (g.S.Sink.written c.add_pairs.new.sink) (g.S.Sink.failed c.add_text.new.sink)
    (g.S.Sink.failed c.add_pairs.new.sink)) c.self.view_is c.add_pairs.ensures.lines)
