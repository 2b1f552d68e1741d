-- A set of names that are lent.
use Rattle.pua_tree.proofs.Common.{◌≡◌, ℕ, List, [], ◌∷◌, ◌++◌, map, reverse, refl, sym, ap, ◌∙◌, Less, Equal, Greater}
use Rattle.pua_tree.proofs.Common.{map-append, reverse-append, name_cmp, distinct_names, lent_entry}
use Rattle.std.proofs.Common.{Bor}
use Rattle.std.specs.Ordering.{match_ordering}
use Rattle.std.specs.BTreeSet.{insert_key}
use Rattle.pua_tree.specs.Tree.{with_name}
use Rattle.pua_tree.specs.declared.tree.LentRow.{LentRow}
use Rattle.pua_tree.proofs.Rows.{with_name_is}

-- the names of rows that are lent
pub lent_names : (rows : List LentRow) → map (λ row. row.0.1) (map lent_entry rows) ≡ map (λ row. row.name.now) rows
lent_names [] = refl
lent_names (r ∷ rows) = ap (λ names. r.name.now ∷ names) (lent_names rows)

-- a set of lent names, with one name more
lent_with : (name : Bor (List ℕ)) (names : List (Bor (List ℕ))) →
    map (λ n. n.now) (insert_key (λ n m. name_cmp n.now m.now) names name) ≡ insert_key name_cmp (map (λ n. n.now) names) name.now
lent_with name [] = refl
lent_with name (n ∷ ns) =
    elim (name_cmp name.now n.now)
    as (λ o. map (λ (n : Bor (List ℕ)). n.now)
    (match_ordering o (name ∷ n ∷ ns) (n ∷ ns) (n ∷ insert_key (λ n m. name_cmp n.now m.now) ns name))
    ≡ match_ordering o (name.now ∷ n.now ∷ map (λ n. n.now) ns) (n.now ∷ map (λ n. n.now) ns)
    (n.now ∷ insert_key name_cmp (map (λ n. n.now) ns) name.now)) [
      | Less ↦ refl
      | Equal ↦ refl
      | Greater ↦ ap (λ ns. n.now ∷ ns) (lent_with name ns)
    ]

-- the names in a list from the last one on, with the name in one element more
pub one_name_more : {A : Type 0} (name_in : A → List ℕ) (xs : List (Bor A)) (x : Bor A) (names more : List (Bor (List ℕ)))
    (name : Bor (List ℕ)) → name.now ≡ name_in x.now
    → map (λ n. n.now) names ≡ distinct_names (map name_in (reverse (map (λ y. y.now) xs))) →
    more ≡ insert_key (λ n m. name_cmp n.now m.now) names name
    → map (λ n. n.now) more ≡ distinct_names (map name_in (reverse (map (λ y. y.now) (xs ++ x ∷ []))))
one_name_more {A} name_in xs x names more name its so_far new =
    ap (λ (ns : List (Bor (List ℕ))). map (λ n. n.now) ns) new ∙ lent_with name names ∙
    ap (insert_key name_cmp (map (λ n. n.now) names)) its
    ∙ with_name_is (name_in x.now) (map (λ n. n.now) names) ∙ ap (with_name (name_in x.now)) so_far
    ∙ sym (ap (λ (ys : List A). distinct_names (map name_in (reverse ys))) (map-append (λ y. y.now) xs (x ∷ [])) ∙
    ap (λ (ys : List A). distinct_names (map name_in ys)) (reverse-append (map (λ y. y.now) xs) (x.now ∷ [])))
