use Rattle.pua_audit.proofs.Common.{◌≡◌, ◌∙◌, get_or, [], codes, sym, ap, subst, true, false, IsTrue, list_all, bytes_eq-Decides}
use Rattle.pua_audit.proofs.Common.{same_bytes, spelling, is_byte}
use Rattle.std.specs.Prelude.{option_map}
use Rattle.pua_tree.proofs.ForCallers.{name_is_bytes, name_read}
use Rattle.pua_audit.proofs.ResumeTexts.{spelled_placed, none_spelled, two_dots, two_dots_bytes}
use Rattle.pua_audit.proofs.resume_text.spelled_letter.Goals as goal

pub returns-then-eq-clause-letter : goal.returns-then-eq-clause-letter
returns-then-eq-clause-letter c =
    let ms = c.args.letters.now in
    let dots : same_bytes c.args.piece.now (codes "..") ≡ true = ap (same_bytes c.args.piece.now) (sym c.as_slice.ensures) ∙
    sym c.eq.ensures ∙ c.if-eq.true in
    let is = (bytes_eq-Decides c.args.piece.now (codes "..")).0 dots in
    ap (option_map (λ i. get_or ms i [])) c.ok.ensures.value ∙
    spelled_placed ms c.known.ensures.letters c.args.piece.now c.args.piece.now c.place_of.result (two_dots c.args.piece.now is)
    (two_dots_bytes c.args.piece.now is) c.place_of.ensures

pub returns-in_default-clause-letter : goal.returns-in_default-clause-letter
returns-in_default-clause-letter c =
    let other : same_bytes c.args.piece.now (codes "..") ≡ false = ap (same_bytes c.args.piece.now) (sym c.as_slice.ensures) ∙
    sym c.eq.ensures ∙ c.if-eq.false in
    sym (none_spelled c.args.letters.now c.known.ensures.letters c.args.piece.now c.in_default.field-0
    (sym c.in_default.ensures) other)

pub returns-clause-letter : goal.returns-clause-letter
returns-clause-letter c =
    let ms = c.args.letters.now in
    let read = name_read c.args.piece.now c.in-Ok.name (sym c.in-Ok.ensures) in
    ap (option_map (λ i. get_or ms i [])) c.ok-2.ensures.value ∙
    spelled_placed ms c.known.ensures.letters c.bytes.result.now c.args.piece.now c.place_of-2.result (read.0 ∙
    ap spelling (sym c.bytes.ensures.bytes)) (subst (λ n. IsTrue (list_all is_byte n)) (sym c.bytes.ensures.bytes)
    (name_is_bytes c.in-Ok.name read.1)) c.place_of-2.ensures
