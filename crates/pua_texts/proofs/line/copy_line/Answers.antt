use Rattle.std.proofs.Common.{◌≡◌, ◌≤◌, ◌+◌, ◌-◌, ◌∷◌, ◌++◌, [], ℕ, List, length, take, ap, sym, subst, refl, ◌∙◌, arith, append_assoc}
use Rattle.std.proofs.Common.{length-take-le, take_all}
use borrow.Rule.Slice.PartMut.{put_mid}
use Rattle.pua_calls.specs.Calls.{call_name}
use Rattle.pua_texts.specs.Copied.{Copied}
use Rattle.pua_texts.proofs.Copying.{length_part, copied_part, copied_whole, copied_less, copied_then}
use Rattle.pua_texts.proofs.line.copy_line.Goals as goal

pub returns-clause-copied : goal.returns-clause-copied
returns-clause-copied c = λ fits.
    let at = c.args.at in
    let path = c.args.path.now in
    let buffer = c.args.buffer.now in
    let padded = c.line-padded.result.now in
    let name = call_name c.args.call in
    let end = at + length path in
    let fit : at + (length path + 16) ≤ length buffer = fits in
    let with_path = put_mid at (end - at) buffer c.overwrite.new.place in
    let first : Copied buffer with_path at path end = copied_part at (length path) buffer c.overwrite.new.place path
    (c.overwrite.ensures (sym (length_part at (length path) buffer (omega (arith, fit))))) refl (omega (arith, fit)) in
    let room : end + 16 ≤ length with_path = omega (arith, fit, first.len) in
    let many = length_part end 16 with_path room in
    let width = c.line-padded.ensures.width in
    let wide : 16 ≤ length padded = omega (arith, width) in
    let written : c.copy_front.new.buffer ≡ padded =
    copied_whole {text = take 16 padded} (omega (arith, length-take-le 16 padded wide, many))
    (c.copy_front.ensures (omega (arith, many)) wide) ∙ take_all 16 padded (omega (arith, width)) in
    let second = copied_less (length name + 2) (omega (arith, room)) (omega (arith, width, c.line-padded.ensures.short))
    (copied_part end 16 with_path c.copy_front.new.buffer padded written width room) in
    let both = copied_then first second in
    let text = ap (λ (l : List ℕ). path ++ l) c.line-padded.ensures.line ∙ sym (append_assoc path (32 ∷ name) (10 ∷ [])) in
    let ends : end + (length name + 2) ≡ end + (length c.name.result.now + 2) = omega (arith, ap length c.name.ensures) in
    let lines = put_mid end (end + 16 - end) with_path c.copy_front.new.buffer in
    subst (λ (l : List ℕ). Copied buffer lines at l (end + (length c.name.result.now + 2))) text
    (subst (Copied buffer lines at (path ++ take (length name + 2) padded)) ends both)
