-- Entries put in the order of their keys: what is found in them, and how many there are of some kind.
use Rattle.pua_tree.proofs.Common.{◌≡◌, ℕ, ◌+◌, Bool, not, cond, T, List, [], ◌∷◌, Option, Some, None, count_by, refl, sym, ap, subst, ◌∙◌}
use Rattle.pua_tree.proofs.Common.{arith, inl, inr, Ordering, Less, Equal, Greater, is_eq, IsTotalOrder, find, put, is_sorted, by_order}
use Rattle.pua_tree.proofs.Common.{is_sorted-put, is_sorted-where_key, in_order, with_entry}
use Rattle.std.proofs.lemmas.List.Recursion.{is_sum_by}
use Rattle.pua_tree.proofs.Base.{Some≢None}
use Rattle.pua_tree.proofs.Tallies.{one, same_or_other, without, absent, sorted_head, sorted_tail}

-- how many entries pass, by recursion
abbrev tallied : {K X : Type 0} → (K × X → Bool) → List (K × X) → ℕ
tallied p [] = 0
tallied p (e ∷ es) = one p e + tallied p es

tallied_counts : {K X : Type 0} (p : K × X → Bool) (es : List (K × X)) → tallied p es ≡ count_by p es
tallied_counts p es = is_sum_by (tallied p) (one p) refl (λ _ _. refl) es

-- 1 where an entry is there that passes
abbrev found_one : {K X : Type 0} → (K × X → Bool) → K → Option X → ℕ
found_one p k None = 0
found_one p k (Some v) = one p (k, v)

module _ {K : Type 0} (R : K → K → Ordering) (o : IsTotalOrder R) {X : Type 0} where
  pub sorted_in_order : (es : List (K × Option X)) → T (is_sorted R (in_order R es))
  sorted_in_order [] = tt
  sorted_in_order (e ∷ es) =
      elim e.1 as (λ v. T (is_sorted R (with_entry R e.0 v (in_order R es)))) [
        | None ↦ is_sorted-where_key R _ (in_order R es) (sorted_in_order es)
        | Some v ↦ is_sorted-put R o e.0 v (in_order R es) (sorted_in_order es)
      ]

module _ {K : Type 0} (R : K → K → Ordering) (o : IsTotalOrder R) (exact : (x y : K) → R x y ≡ Equal → x ≡ y) {X : Type 0} (p : K × X →
    Bool) where
  tallied-put : (k : K) (v : X) (es : List (K × X)) → find R k es ≡ None → tallied p (put R k v es) ≡ tallied p es + one p (k, v)
  tallied-put k v [] none = omega arith
  tallied-put k v (e ∷ es) none =
      elim (R k e.0) as (λ r. cond (is_eq r) (Some e.1) (find R k es) ≡ None →
      tallied p (by_order r ((k, v) ∷ e ∷ es) ((e.0, v) ∷ es) (e ∷ put R k v es)) ≡ (one p e + tallied p es) + one p (k, v)) [
        | Less ↦ λ n. omega arith
        | Equal ↦ λ n. absurd (Some≢None e.1 n)
        | Greater ↦ λ n. (let rest = tallied-put k v es n in omega arith)
      ] none

  tallied-without : (k : K) (es : List (K × X)) → T (is_sorted R es) →
      tallied p (without R o exact k es) + found_one p k (find R k es) ≡ tallied p es
  tallied-without k [] h = refl
  tallied-without k (e ∷ es) h =
      let rest = tallied-without k es (sorted_tail R o exact e es h) in
      elim (same_or_other R o exact k e.0) [
        | inl s ↦ (let none : found_one p k (find R k es) ≡ 0 = ap (λ x. found_one p k (find R x es)) s.0 ∙
            ap (found_one p k) (absent R o exact e.0 es (sorted_head R o exact e es h)) in
            let here : one p (k, e.1) ≡ one p e = ap (λ x. one p (x, e.1)) s.0 in
            subst (λ b. tallied p (cond (not b) (e ∷ without R o exact k es) (without R o exact k es))
            + found_one p k (cond b (Some e.1) (find R k es)) ≡ one p e + tallied p es) (sym s.1) (omega arith))
        | inr s ↦ subst (λ b. tallied p (cond (not b) (e ∷ without R o exact k es) (without R o exact k es))
            + found_one p k (cond b (Some e.1) (find R k es)) ≡ one p e + tallied p es) (sym s.1) (omega arith)
      ]

  -- an entry more
  pub counted-put : (k : K) (v : X) (es : List (K × X)) → find R k es ≡ None → count_by p (put R k v es) ≡ count_by p es + one p (k, v)
  counted-put k v es none = omega (arith, tallied-put k v es none, tallied_counts p (put R k v es), tallied_counts p es)

  -- and one fewer
  pub counted-without : (k : K) (v : X) (es : List (K × X)) → T (is_sorted R es) → find R k es ≡ Some v →
      count_by p (without R o exact k es) + one p (k, v) ≡ count_by p es
  counted-without k v es h there =
      let here : found_one p k (find R k es) ≡ one p (k, v) = ap (found_one p k) there in
      omega (arith, tallied-without k es h, tallied_counts p (without R o exact k es), tallied_counts p es)
