use Rattle.pua_texts.proofs.Common.{List, ℕ, ◌++◌, subst, Passes, pair_lines}
use Rattle.pua_texts.proofs.audit_list.write_audit.Goals as goal

pub returns : goal.returns
returns g c =
    let text : List ℕ = c.args.front.now ++ pair_lines c.args.list.now.base c.args.list.now.left in
    c.finish.ensures text (g.S.Sink.written c.args.sink.now) (g.S.Sink.failed c.args.sink.now)
    (subst (λ (b : List ℕ). Passes text c.add_to-added.result b c.add_to-added.new.block (g.S.Sink.written c.args.sink.now)
    (g.S.Sink.written c.add_to-added.new.sink) (g.S.Sink.failed c.args.sink.now) (g.S.Sink.failed c.add_to-added.new.sink))
    c.in_ok-block.ensures c.add_to-added.ensures)
