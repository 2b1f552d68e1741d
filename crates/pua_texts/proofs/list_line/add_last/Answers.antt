use Rattle.pua_texts.proofs.Common.{◌≡◌, [], List, ℕ, Ok, ap, subst, ◌∙◌, calls_in, Passes}
use Rattle.std.proofs.Common.{◌≢◌}
use Rattle.std.proofs.lemmas.Bool.Decides.{not_from_Decides}
use Rattle.pua_texts.specs.ListLines.{NamedState, whole_line}
use Rattle.pua_texts.proofs.ListLines.{is_line, no_line}
use Rattle.pua_texts.proofs.Passing.{passes_none}
use Rattle.pua_texts.proofs.list_line.add_last.Goals as goal

pub returns-then-is_empty-clause-line : goal.returns-then-is_empty-clause-line
returns-then-is_empty-clause-line g c =
    let block = c.args.block.now in
    let written = g.S.Sink.written c.args.sink.now in
    let failed = g.S.Sink.failed c.args.sink.now in
    let none : calls_in c.args.line.now.calls ≡ [] = c.is_empty.ensures.0 c.if-is_empty.true in
    subst (λ (text : List ℕ). Passes text (Ok tt) block block written written failed failed) (no_line (calls_in c.args.line.now.calls) _ none)
    (passes_none block written failed)

pub returns-clause-line : goal.returns-clause-line
returns-clause-line g c =
    let line = c.args.line.now in
    let some : calls_in line.calls ≢ [] = not_from_Decides c.is_empty.result c.is_empty.ensures c.if-is_empty.false in
    subst (λ (text : List ℕ). Passes text c.add_line.result c.args.block.now c.add_line.new.block (g.S.Sink.written c.args.sink.now)
    (g.S.Sink.written c.add_line.new.sink) (g.S.Sink.failed c.args.sink.now) (g.S.Sink.failed c.add_line.new.sink))
    (ap (λ (s : NamedState). whole_line c.args.columns.now s.word line) c.keep_path.ensures ∙ is_line (calls_in line.calls) _ some)
    c.add_line.ensures
