use Rattle.pua_tree.proofs.Common.{◌≡◌, ℕ, ◌-◌, ◌<◌, true, false, List, [], ◌∷◌, length, get_or, take, drop, Some, refl, sym, ◌∙◌, arith}
use Rattle.pua_tree.proofs.Common.{is_plain, bytes_spelled, with_front}
use Rattle.std.proofs.Common.{ne_eqb}
use Rattle.std.proofs.Common.{take_all}
use Rattle.std.specs.Prelude.{◌==◌}
use Rattle.pua_tree.proofs.spelling.first_spelled.Goals as goal

-- a byte that stands for itself, and what the text behind it spells
first_is_plain : (text : List ℕ) → 0 < length text → (get_or text 0 0 == 92) ≡ false → is_plain (get_or text 0 0) ≡ true →
    bytes_spelled text ≡ with_front (Some (get_or text 0 0)) (bytes_spelled (take (length text - 1) (drop 1 text)))
first_is_plain [] full other plain = absurd (omega (arith, full))
first_is_plain (x ∷ xs) full other plain =
    let behind : take (length (x ∷ xs) - 1) (drop 1 (x ∷ xs)) ≡ xs = take_all (length (x ∷ xs) - 1) xs (omega arith) in
    rw (plain, other, behind) refl

pub returns-then-is_plain-clause-first : goal.returns-then-is_plain-clause-first
returns-then-is_plain-clause-first c =
    first_is_plain c.args.text.now c.requires (ne_eqb (get_or c.args.text.now 0 0) 92 c.if-first-eq92.false) (sym c.is_plain.ensures ∙
    c.if-is_plain.true)
