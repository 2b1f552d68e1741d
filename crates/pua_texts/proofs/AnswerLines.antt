-- The lines of answers, one after another.
use Rattle.pua_texts.proofs.Common.{◌≡◌, ℕ, suc, ◌+◌, ◌<◌, List, ◌++◌, drop, get_or, length, map, sym, ap, ◌∙◌, arith, drop_more}
use Rattle.std.specs.Prelude.{Option, decimal}
use Rattle.std.proofs.lemmas.List.{append_assoc}
use Rattle.pua_why.specs.Seen.{line_seen}
use Rattle.pua_why.specs.declared.opened.ToldAnswer.{ToldAnswer}
use Rattle.pua_texts.specs.Lines.{answer_line, answer_lines}

-- the line of the next answer, with its number, is added behind those before it
pub answer_added : (told : List (Option ToldAnswer)) (i : ℕ) (d : Option ToldAnswer) (text digits new : List ℕ) → i < length told →
    digits ≡ decimal (i + 1) → new ≡ text ++ answer_line digits (line_seen (get_or told i d))
    → answer_lines 1 (map line_seen told) ≡ text ++ answer_lines (suc i) (map line_seen (drop i told)) →
    answer_lines 1 (map line_seen told) ≡ new ++ answer_lines (suc (i + 1)) (map line_seen (drop (i + 1) told))
answer_added told i d text digits new within shown added so =
    let answer = line_seen (get_or told i d) in
    let next : suc i ≡ i + 1 = omega (arith) in
    let line : text ++ answer_line (decimal (suc i)) answer ≡ new = ap (λ ds. text ++ answer_line ds answer) (ap decimal next ∙
    sym shown) ∙ sym added in
    so
    ∙ ap (λ left. text ++ answer_lines (suc i) (map line_seen left)) (drop_more told i d within)
    ∙ sym (append_assoc text (answer_line (decimal (suc i)) answer) (answer_lines (suc (suc i)) (map line_seen (drop (i + 1) told))))
    ∙ (λ j. line j ++ answer_lines (suc (next j)) (map line_seen (drop (i + 1) told)))
