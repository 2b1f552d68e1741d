-- Fields are taken off a line one by one, and the first six kept.
use Rattle.pua_tree.proofs.Common.{◌≡◌, ◌≤◌, ◌&&◌, ℕ, Bool, true, false, List, [], ◌∷◌, ◌++◌, length, Option, Some, None, sym, ap, ◌∙◌}
use Rattle.pua_tree.proofs.Common.{cond, take, list_all, take_all, is_field}
use Rattle.std.proofs.lemmas.List.{append-nil, take-append-le}

-- what becomes of fields that were kept, and those that are still to be read
abbrev pub filled : List (List ℕ) → List (List ℕ) → Option (List (List ℕ))
filled kept rest = cond (list_all is_field rest) (Some (take 6 (kept ++ rest))) None

passed : (test other : Bool) (x : Option (List (List ℕ))) → test ≡ true → cond (test && other) x None ≡ cond other x None
passed test other x e = ap (λ t. cond (t && other) x None) e

-- one more field, and no room for it
pub filled-full : (kept : List (List ℕ)) (field : List ℕ) (rest : List (List ℕ)) → is_field field ≡ true → 6 ≤ length kept →
    filled kept (field ∷ rest) ≡ filled kept rest
filled-full kept field rest good full =
    passed (is_field field) (list_all is_field rest) (Some (take 6 (kept ++ field ∷ rest))) good
    ∙ ap (λ fs. cond (list_all is_field rest) (Some fs) None) (take-append-le 6 kept (field ∷ rest) full ∙
    sym (take-append-le 6 kept rest full))

-- no field is left
pub filled-end : (kept : List (List ℕ)) → length kept ≤ 6 → filled kept [] ≡ Some kept
filled-end kept short = ap Some (ap (take 6) (append-nil kept) ∙ take_all 6 kept short)

-- what is left has a part that is no field
pub filled-badly : (kept rest : List (List ℕ)) → list_all is_field rest ≡ false → filled kept rest ≡ None
filled-badly kept rest bad = ap (λ t. cond t (Some (take 6 (kept ++ rest))) None) bad
