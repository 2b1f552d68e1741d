-- The calls without a path of promises, one after another.
use Rattle.pua_tool.proofs.Common.{◌≡◌, ◌∙◌, ◌++◌, ℕ, List, ap, sym, flat_map, map}
use Rattle.std.proofs.Common.{◌+◌, ◌<◌, ◌≤◌, get_or, drop, length, append-nil, append_assoc}
use Rattle.std.proofs.lemmas.List.{drop_more}
use Rattle.std.proofs.Math.ListN.{drop_of_length-le}
use Rattle.std.specs.Borrow.{Bor}
use Rattle.pua_tool.specs.Pathless.{pathless_told}

-- those of the promises that are still to come
abbrev pub still_told : List (Bor (List ℕ)) → ℕ → List ℕ
still_told keywords i = flat_map pathless_told (map (λ keyword. keyword.now) (drop i keywords))

pub next_told : (text : List ℕ) (keywords : List (Bor (List ℕ))) (i : ℕ) (d : Bor (List ℕ)) → i < length keywords →
    text ++ still_told keywords i ≡ (text ++ pathless_told (get_or keywords i d).now) ++ still_told keywords (i + 1)
next_told text keywords i d within =
    ap (λ left. text ++ flat_map pathless_told (map (λ keyword. keyword.now) left)) (drop_more keywords i d within)
    ∙ sym (append_assoc text (pathless_told (get_or keywords i d).now) (still_told keywords (i + 1)))

pub all_told : (text : List ℕ) (keywords : List (Bor (List ℕ))) (i : ℕ) → length keywords ≤ i → text ++ still_told keywords i ≡ text
all_told text keywords i past =
    ap (λ left. text ++ flat_map pathless_told (map (λ keyword. keyword.now) left)) (drop_of_length-le keywords past) ∙ append-nil text
