use Rattle.pua_texts.proofs.Common.{◌≡◌, [], List, ℕ, Ok, sym, subst, ◌∙◌, Passes}
use Rattle.std.proofs.lemmas.List.{nil_from_length}
use Rattle.std.proofs.lemmas.Bool.{eqb-true}
use Rattle.std.proofs.Common.{length}
use Rattle.pua_texts.proofs.Passing.{passes_none}
use Rattle.pua_texts.proofs.process_head.add_files.Goals as goal

pub returns-then-is_empty : goal.returns-then-is_empty
returns-then-is_empty g c =
    let block = c.args.block.now in
    let written = g.S.Sink.written c.args.sink.now in
    let failed = g.S.Sink.failed c.args.sink.now in
    let none : c.args.lines.now ≡ [] =
    nil_from_length c.args.lines.now (eqb-true (length c.args.lines.now) 0 (sym c.is_empty.ensures ∙ c.if-is_empty.true)) in
    subst (λ (text : List ℕ). Passes text (Ok tt) block block written written failed failed) (sym none) (passes_none block written failed)
