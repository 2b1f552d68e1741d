use Rattle.pua_audit.proofs.Common.{◌≡◌, ◌∙◌, codes, Some, [], true, cond, sym, ap, same_bytes, word_within, word_of_path, Base}
use Rattle.pua_audit.specs.Begin.{word_of_pieces_between}
use Rattle.pua_audit.proofs.ResumeTexts.{empty_read}
use Rattle.pua_audit.proofs.resume_text.read_path.Goals as goal

pub returns-then-eq : goal.returns-then-eq
returns-then-eq c =
    let letters = c.args.letters.now in
    let path = c.args.path.now in
    let dot : same_bytes path (codes ".") ≡ true = ap (same_bytes path) (sym c.as_slice.ensures) ∙ sym c.eq.ensures ∙ c.if-eq.true in
    let empty = empty_read letters c.args.limit c.args.word.now.items c.requires.empty in
    let read = ap (λ (b : Base). word_of_path b letters path) c.in-Cwd.is ∙
    ap (λ v. cond v (Some []) (word_of_pieces_between letters path)) dot in
    (ap (word_within c.args.limit) read ∙ empty.0, empty.1)
