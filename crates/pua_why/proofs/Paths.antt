-- The names that lead to a directory, row by row.
use Rattle.pua_why.proofs.Common.{◌≡◌, ℕ, suc, List, [], ◌∷◌, ◌++◌, map, refl, sym, ap, ◌∙◌, append_assoc, append-nil, Tree}
use Rattle.pua_why.proofs.Common.{names_to, slashed_names, dir_names}
use Rattle.std.proofs.Common.{zero}
use Rattle.std.specs.Prelude.{Some, None, reverse}
use Rattle.std.proofs.lemmas.List.{map-append, reverse-append}
use Rattle.std.specs.Borrow.{Bor}
use Rattle.pua_tree.specs.Tree.{dir_spot}
use Rattle.pua_tree.specs.Spelling.{spelling}
use Rattle.pua_tree.specs.LentRows.{lent_spot}
use Rattle.pua_tree.specs.declared.tree.LentSpot.{LentSpot}
use Rattle.pua_why.specs.Texts.{names_to_spot, path_text, spot_text}
use Rattle.pua_tree.proofs.ForCallers.{map-reverse}

-- a name more, of a directory that has a spot
pub path_more : (t : Tree) (dir n k : ℕ) (spot : LentSpot) (names : List (Bor (List ℕ))) → Some (lent_spot spot) ≡ dir_spot t dir →
    k ≡ suc n
    → names_to n t spot.dir ++ reverse (map (λ name. name.now) (names ++ spot.name ∷ [])) ≡ names_to k t dir
    ++ reverse (map (λ name. name.now) names)
path_more t dir n k spot names stands more =
    let above = reverse (map (λ name. name.now) names) in
    ap (λ ns. names_to n t spot.dir ++ reverse ns) (map-append (λ name. name.now) names (spot.name ∷ []))
    ∙ ap (λ ns. names_to n t spot.dir ++ ns) (reverse-append (map (λ name. name.now) names) (spot.name.now ∷ []))
    ∙ sym (append_assoc (names_to n t spot.dir) (spot.name.now ∷ []) above)
    ∙ ap (λ s. names_to_spot s (names_to n t) ++ above) stands
    ∙ ap (λ m. names_to m t dir ++ above) (sym more)

-- none, of one that has none
pub path_none : (t : Tree) (dir k : ℕ) (names : List (List ℕ)) → None ≡ dir_spot t dir → names_to k t dir ++ names ≡ names
path_none t dir zero names none = refl
path_none t dir (suc n) names none = ap (λ spot. names_to_spot spot (names_to n t) ++ names) (sym none)

pub path_done : (t : Tree) (dir k : ℕ) (names : List (List ℕ)) → k ≡ 0 → names_to k t dir ++ names ≡ names
path_done t dir k names none = ap (λ m. names_to m t dir ++ names) none

-- the names that were found and turned are those that lead there
pub found_names : (over new : List (Bor (List ℕ))) (to : List (List ℕ)) → reverse (map (λ name. name.now) over) ≡ to → new ≡ reverse over →
    map (λ name. name.now) new ≡ to
found_names over new to climbed turned = ap (map (λ name. name.now)) turned ∙ map-reverse (λ name. name.now) over ∙ climbed

-- the path of a spot: the names of its directory, and then its own
pub spot_is : (t : Tree) (dir : ℕ) (name : List ℕ) → spot_text t (dir, name) ≡ slashed_names (dir_names t dir) ++ (47 ∷ spelling name)
spot_is t dir name = by (dir_names t dir)
  where
    one : (ns : List (List ℕ)) → slashed_names (ns ++ name ∷ []) ≡ slashed_names ns ++ (47 ∷ spelling name)
    one [] = append-nil (47 ∷ spelling name)
    one (n ∷ ns) = ap (λ more. (47 ∷ spelling n) ++ more) (one ns) ∙
        sym (append_assoc (47 ∷ spelling n) (slashed_names ns) (47 ∷ spelling name))

    by : (ns : List (List ℕ)) → path_text (ns ++ name ∷ []) ≡ slashed_names ns ++ (47 ∷ spelling name)
    by [] = append-nil (47 ∷ spelling name)
    by (n ∷ ns) = one (n ∷ ns)
