use Rattle.pua_why.proofs.Common.{◌≡◌, ℕ, List, ◌++◌, ap, sym, ◌∙◌, append_assoc, codes, decimal, string_bytes, on_ok_weaker}
use Rattle.pua_why.specs.Seen.{file_fault_seen}
use Rattle.pua_why.specs.Texts.{file_fault_text}
use Rattle.pua_why.proofs.texts.push_file_fault.Goals as goal

four_pieces : (a b c d : List ℕ) → a ++ (b ++ (c ++ d)) ≡ ((a ++ b) ++ c) ++ d
four_pieces a b c d = simp append_assoc

five_pieces : (a b c d e : List ℕ) → a ++ (b ++ (c ++ (d ++ e))) ≡ (((a ++ b) ++ c) ++ d) ++ e
five_pieces a b c d e = simp append_assoc

pub returns-in-NotSent : goal.returns-in-NotSent
returns-in-NotSent c =
    on_ok_weaker c.write-in-NotSent.result (λ so. so
    ∙ ap (λ words. string_bytes c.args.text.now ++ words)
    (four_pieces (codes "process ") (decimal c.in-NotSent.from) (codes " has no descriptor ") (decimal c.in-NotSent.theirs))
    ∙ ap (λ fault. string_bytes c.args.text.now ++ file_fault_text (file_fault_seen fault)) (sym c.in-NotSent.is)) c.write-in-NotSent.ensures.bytes

pub returns-in-SendsDirectory : goal.returns-in-SendsDirectory
returns-in-SendsDirectory c =
    on_ok_weaker c.write-in-SendsDirectory.result (λ so. so
    ∙ ap (λ words. string_bytes c.args.text.now ++ words)
    (five_pieces (codes "descriptor ") (decimal c.in-SendsDirectory.theirs) (codes " of process ") (decimal c.in-SendsDirectory.from)
    (codes " is a directory"))
    ∙ ap (λ fault. string_bytes c.args.text.now ++ file_fault_text (file_fault_seen fault)) (sym c.in-SendsDirectory.is))
    c.write-in-SendsDirectory.ensures.bytes
