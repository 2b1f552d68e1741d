-- The lines of openings, one after another.
use Rattle.pua_texts.proofs.Common.{◌≡◌, ℕ, ◌+◌, ◌<◌, ◌≤◌, List, ◌++◌, map, flat_map, drop, length, sym, ap, ◌∙◌, append_assoc, append-nil}
use Rattle.pua_texts.proofs.Common.{get_or, drop_more, drop_of_length-le, Bor, ◌∷◌, [], Call, call_name, with_end}
use Rattle.std.specs.Prelude.{codes}
use Rattle.pua_script.specs.Openings.{opening_seen}
use Rattle.pua_script.specs.declared.opening.Opening.{Opening}
use Rattle.pua_texts.specs.Openings.{line_if, opened_by, opening_lines}
use Rattle.pua_texts.proofs.ObjectLines.{joined}

-- the lines of the rows that are still to come
abbrev pub still_of : List ℕ → List Opening → ℕ → List ℕ
still_of keyword rows i = flat_map (line_if keyword) (map opening_seen (drop i rows))

-- the next row comes
pub row_next : (keyword text : List ℕ) (rows : List Opening) (i : ℕ) (d : Opening) → i < length rows →
    text ++ still_of keyword rows i ≡ (text ++ line_if keyword (opening_seen (get_or rows i d))) ++ still_of keyword rows (i + 1)
row_next keyword text rows i d within =
    ap (λ left. text ++ flat_map (line_if keyword) (map opening_seen left)) (drop_more rows i d within)
    ∙ sym (append_assoc text (line_if keyword (opening_seen (get_or rows i d))) (still_of keyword rows (i + 1)))

pub rows_done : (keyword text : List ℕ) (rows : List Opening) (i : ℕ) → length rows ≤ i → text ++ still_of keyword rows i ≡ text
rows_done keyword text rows i past =
    ap (λ left. text ++ flat_map (line_if keyword) (map opening_seen left)) (drop_of_length-le rows past) ∙ append-nil text

-- those of the promises that are still to come
abbrev pub still_open : List (Bor (List ℕ)) → ℕ → List ℕ
still_open keywords i = opening_lines (map (λ keyword. keyword.now) (drop i keywords))

-- the next promise comes
pub keyword_next : (text : List ℕ) (keywords : List (Bor (List ℕ))) (i : ℕ) (d : Bor (List ℕ)) → i < length keywords →
    text ++ still_open keywords i ≡ (text ++ opened_by (get_or keywords i d).now) ++ still_open keywords (i + 1)
keyword_next text keywords i d within =
    ap (λ left. text ++ opening_lines (map (λ keyword. keyword.now) left)) (drop_more keywords i d within)
    ∙ sym (append_assoc text (opened_by (get_or keywords i d).now) (still_open keywords (i + 1)))

pub keywords_done : (text : List ℕ) (keywords : List (Bor (List ℕ))) (i : ℕ) → length keywords ≤ i → text ++ still_open keywords i ≡ text
keywords_done text keywords i past =
    ap (λ left. text ++ opening_lines (map (λ keyword. keyword.now) left)) (drop_of_length-le keywords past) ∙ append-nil text

-- the names of calls that are still to come, with this before the first of them
abbrev pub calls_left : List ℕ → List Call → ℕ → List ℕ
calls_left before calls i = joined before (map call_name (drop i calls))

-- the next call comes
pub call_next : (before text : List ℕ) (calls : List Call) (i : ℕ) (d : Call) → i < length calls →
    text ++ calls_left before calls i ≡ (text ++ (before ++ call_name (get_or calls i d))) ++ calls_left (44 ∷ []) calls (i + 1)
call_next before text calls i d within =
    ap (λ left. text ++ joined before (map call_name left)) (drop_more calls i d within)
    ∙ sym (append_assoc text (before ++ call_name (get_or calls i d)) (calls_left (44 ∷ []) calls (i + 1)))

pub calls_done : (before text : List ℕ) (calls : List Call) (i : ℕ) → length calls ≤ i → text ++ calls_left before calls i ≡ text
calls_done before text calls i past =
    ap (λ left. text ++ joined before (map call_name left)) (drop_of_length-le calls past) ∙ append-nil text

-- the pieces of a line
pub row_parts : (old path calls veils : List ℕ) → ((old ++ (codes "opening " ++ path ++ codes " ")) ++ calls) ++ (veils ++ 10 ∷ [])
    ≡ old ++ with_end (codes "opening " ++ (path ++ 32 ∷ calls ++ veils))
row_parts old path calls veils = simp append_assoc
