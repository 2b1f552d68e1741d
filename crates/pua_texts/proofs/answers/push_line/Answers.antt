use Rattle.pua_texts.proofs.Common.{◌++◌, ◌∙◌, ap, sym, string_bytes}
use Rattle.std.proofs.lemmas.List.{append-nil}
use Rattle.pua_why.specs.Seen.{line_seen}
use Rattle.pua_texts.specs.Lines.{answer_line}
use Rattle.pua_texts.proofs.answers.push_line.Goals as goal

pub returns-in-None : goal.returns-in-None
returns-in-None c =
    sym (append-nil (string_bytes c.args.text.now))
    ∙ ap (λ told. string_bytes c.args.text.now ++ answer_line c.args.digits.now (line_seen told)) (sym c.in-None.is)
