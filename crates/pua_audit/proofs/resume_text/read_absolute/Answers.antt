use Rattle.pua_audit.proofs.Common.{◌≡◌, ◌∙◌, length, get_or, ap, arith, common_steps, word_within}
use Rattle.pua_audit.proofs.ResumeTexts.{empty_read, slash_alone}
use Rattle.pua_audit.proofs.resume_text.read_absolute.Goals as goal

pub returns-then-is_empty : goal.returns-then-is_empty
returns-then-is_empty c =
    let letters = c.args.letters.now in
    let one : length c.args.path.now ≡ 1 = grind (arith, common_steps) in
    let first : get_or c.args.path.now 0 0 ≡ 47 = grind (arith, common_steps) in
    let empty = empty_read letters c.args.limit c.args.word.now.items c.requires.empty in
    (ap (word_within c.args.limit) (slash_alone letters c.args.path.now one first) ∙ empty.0, empty.1)
