use Rattle.pua_texts.proofs.Common.{List, ℕ, sym, subst, ◌∙◌, Passes}
use Rattle.pua_texts.proofs.ObjectLines.{path_printed}
use Rattle.pua_texts.proofs.list_line.add_path.Goals as goal

pub returns : goal.returns
returns g c =
    let printed = path_printed c.args.word.now (sym c.is_empty.ensures ∙ c.if-is_empty.false) in
    subst (λ (t : List ℕ). Passes t c.add_rest.result c.args.block.now c.add_rest.new.block (g.S.Sink.written c.args.sink.now)
    (g.S.Sink.written c.add_rest.new.sink) (g.S.Sink.failed c.args.sink.now) (g.S.Sink.failed c.add_rest.new.sink)) printed
    c.add_rest.ensures
