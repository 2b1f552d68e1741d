-- Lists of entries in the order of their keys: what is found in them, and how many entries have a value of some kind.
use Rattle.pua_tree.proofs.Common.{◌≡◌, ◌≢◌, ◌⊎◌, ℕ, ◌+◌, ◌≤◌, Bool, true, false, not, ◌&&◌, cond, T, List, [], ◌∷◌, Option, Some, None}
use Rattle.pua_tree.proofs.Common.{option_map, count_by, refl, sym, ap, subst, ◌∙◌, arith, inl, inr, list_all, list_any, Ordering, Less}
use Rattle.pua_tree.proofs.Common.{Equal, Greater, is_eq, is_lt, IsTotalOrder, tied_itself, Equal-is, find, put, is_sorted, by_order}
use Rattle.pua_tree.proofs.Common.{where_key, below_all, find-put, and_parts, and_from, false≢true}
use Rattle.std.proofs.Common.{find as find_where}
use Rattle.std.specs.FinMap.Entries.{find-where_key}
use Rattle.std.proofs.lemmas.Bool.{or_parts}
use Rattle.std.proofs.lemmas.List.Recursion.{is_sum_by}
use Rattle.pua_tree.proofs.Base.{same_Some, Some≢None}

-- 1 for a value that passes
abbrev pub one : {X : Type 0} → (X → Bool) → X → ℕ
one p v = cond (p v) 1 0

abbrev pub one_at : {X : Type 0} → (X → Bool) → Option X → ℕ
one_at p None = 0
one_at p (Some v) = one p v

-- how many entries have a value that passes
abbrev pub tally : {K X : Type 0} → (X → Bool) → List (K × X) → ℕ
tally p [] = 0
tally p (e ∷ es) = one p e.1 + tally p es

pub tally_counts : {K X : Type 0} (p : X → Bool) (es : List (K × X)) → tally p es ≡ count_by (λ e. p e.1) es
tally_counts p es = is_sum_by (tally p) (λ e. one p e.1) refl (λ _ _. refl) es

module _ {K : Type 0} (R : K → K → Ordering) (o : IsTotalOrder R) (exact : (x y : K) → R x y ≡ Equal → x ≡ y) where
  -- two keys are one or tie not
  pub same_or_other : (q k : K) → ((q ≡ k) × (is_eq (R q k) ≡ true)) ⊎ ((q ≢ k) × (is_eq (R q k) ≡ false))
  same_or_other q k =
      elim (is_eq (R q k)) as (λ b. is_eq (R q k) ≡ b → ((q ≡ k) × (b ≡ true)) ⊎ ((q ≢ k) × (b ≡ false))) [
        | true ↦ λ t. inl (exact q k ((Equal-is (R q k)).0 t), refl)
        | false ↦ λ t. inr (λ s. false≢true (sym t ∙ ap (λ x. is_eq (R q x)) (sym s) ∙ (Equal-is (R q q)).1 (tied_itself o q)), refl)
      ] refl

  pub ties : (k : K) → is_eq (R k k) ≡ true
  ties k = (Equal-is (R k k)).1 (tied_itself o k)

  pub differ : (q k : K) → q ≢ k → is_eq (R q k) ≡ false
  differ q k n = elim (same_or_other q k) [ inl s ↦ absurd (n s.0) | inr s ↦ s.1 ]

  module _ {X : Type 0} where
    -- the entries but that of a key
    abbrev pub without : K → List (K × X) → List (K × X)
    without k es = where_key R (λ x. not (is_eq (R k x))) es

    pub absent : (q : K) (es : List (K × X)) → T (below_all R q es) → find R q es ≡ None
    absent q [] h = refl
    absent q (e ∷ es) h =
        elim (R q e.0) as (λ r. T (is_lt r && below_all R q es) → cond (is_eq r) (Some e.1) (find R q es) ≡ None) [
          | Less ↦ λ b. absent q es b
          | Equal ↦ λ b. absurd b
          | Greater ↦ λ b. absurd b
        ] h

    below_less : (x y : K) (es : List (K × X)) → R x y ≡ Less → T (below_all R y es) → T (below_all R x es)
    below_less x y [] p h = tt
    below_less x y (e ∷ es) p h =
        elim (R y e.0) as (λ r. R y e.0 ≡ r → T (is_lt r && below_all R y es) → T (below_all R x (e ∷ es))) [
          | Less ↦ λ q b. subst (λ r. T (is_lt r && below_all R x es)) (sym (o.trans x y e.0 p q)) (below_less x y es p b)
          | Equal ↦ λ q b. absurd b
          | Greater ↦ λ q b. absurd b
        ] refl h

    pub sorted_head : (e : K × X) (es : List (K × X)) → T (is_sorted R (e ∷ es)) → T (below_all R e.0 es)
    sorted_head e es h = elim (below_all R e.0 es) as (λ b. T (b && is_sorted R es) → T b) [ true ↦ λ _. tt | false ↦ λ b. b ] h

    pub sorted_tail : (e : K × X) (es : List (K × X)) → T (is_sorted R (e ∷ es)) → T (is_sorted R es)
    sorted_tail e es h = elim (below_all R e.0 es) as (λ b. T (b && is_sorted R es) → T (is_sorted R es)) [
      | true ↦ λ b. b
      | false ↦ λ b. absurd b
    ] h

    pub put_here : (k : K) (v : X) (es : List (K × X)) → find R k (put R k v es) ≡ Some v
    put_here k v es = find-put R o k k v es ∙ ap (λ b. cond b (Some v) (find R k es)) (ties k)

    pub put_elsewhere : (q k : K) (v : X) (es : List (K × X)) → q ≢ k → find R q (put R k v es) ≡ find R q es
    put_elsewhere q k v es n = find-put R o q k v es ∙ ap (λ b. cond b (Some v) (find R q es)) (differ q k n)

    pub without_at : (q k : K) (es : List (K × X)) → find R q (without k es) ≡ cond (not (is_eq (R k q))) (find R q es) None
    without_at q k es = find-where_key R (λ x. not (is_eq (R k x))) q (λ x t. ap (λ y. not (is_eq (R k y))) (sym (exact q x t))) es

    pub without_here : (k : K) (es : List (K × X)) → find R k (without k es) ≡ None
    without_here k es = without_at k k es ∙ ap (λ b. cond (not b) (find R k es) None) (ties k)

    pub without_elsewhere : (q k : K) (es : List (K × X)) → q ≢ k → find R q (without k es) ≡ find R q es
    without_elsewhere q k es n = without_at q k es ∙ ap (λ b. cond (not b) (find R q es) None) (differ k q (λ s. n (sym s)))

    -- what is found past the first entry is not found at it
    found_later : (k : K) (v : X) (e : K × X) (es : List (K × X)) → T (is_sorted R (e ∷ es)) → find R k es ≡ Some v →
        is_eq (R k e.0) ≡ false
    found_later k v e es h f =
        elim (same_or_other k e.0) [
          | inl s ↦ absurd (Some≢None v (sym f ∙ ap (λ x. find R x es) s.0 ∙ absent e.0 es (sorted_head e es h)))
          | inr s ↦ s.1
        ]

    -- a test of all entries is one of what is found
    pub all_found : (q : (K × X) → Bool) (es : List (K × X)) → list_all q es ≡ true → (k : K) (v : X) → find R k es ≡ Some v →
        q (k, v) ≡ true
    all_found q [] h k v f = absurd (Some≢None v (sym f))
    all_found q (e ∷ es) h k v f =
        let parts = and_parts (q e) (list_all q es) h in
        elim (same_or_other k e.0) [
          | inl s ↦ (let values : e.1 ≡ v = same_Some e.1 v (sym (ap (λ b. cond b (Some e.1) (find R k es)) s.1) ∙ f) in
              (λ i. q (s.0 i, sym values i)) ∙ parts.0)
          | inr s ↦ all_found q es parts.1 k v (sym (ap (λ b. cond b (Some e.1) (find R k es)) s.1) ∙ f)
        ]

    pub all_from_found : (q : (K × X) → Bool) (es : List (K × X)) → T (is_sorted R es) →
        ((k : K) (v : X) → find R k es ≡ Some v → q (k, v) ≡ true) → list_all q es ≡ true
    all_from_found q [] h each = refl
    all_from_found q (e ∷ es) h each =
        and_from (q e) (list_all q es)
        (each e.0 e.1 (ap (λ b. cond b (Some e.1) (find R e.0 es)) (ties e.0)))
        (all_from_found q es (sorted_tail e es h) (λ k v f. each k v (ap (λ b. cond b (Some e.1) (find R k es)) (found_later k v e es h f) ∙
        f)))

    pub none_found : (q : (K × X) → Bool) (es : List (K × X)) → list_any q es ≡ false → (k : K) (v : X) → find R k es ≡ Some v →
        q (k, v) ≡ false
    none_found q [] h k v f = absurd (Some≢None v (sym f))
    none_found q (e ∷ es) h k v f =
        let parts = or_parts (q e) (list_any q es) h in
        elim (same_or_other k e.0) [
          | inl s ↦ (let values : e.1 ≡ v = same_Some e.1 v (sym (ap (λ b. cond b (Some e.1) (find R k es)) s.1) ∙ f) in
              (λ i. q (s.0 i, sym values i)) ∙ parts.0)
          | inr s ↦ none_found q es parts.1 k v (sym (ap (λ b. cond b (Some e.1) (find R k es)) s.1) ∙ f)
        ]

    -- how a tally changes
    pub tally-put : (p : X → Bool) (k : K) (v : X) (es : List (K × X)) → T (is_sorted R es) →
        tally p (put R k v es) + one_at p (find R k es) ≡ tally p es + one p v
    tally-put p k v [] h = omega arith
    tally-put p k v (e ∷ es) h =
        let below = sorted_head e es h in
        let rest = tally-put p k v es (sorted_tail e es h) in
        elim (R k e.0) as (λ r. R k e.0 ≡ r →
        tally p (by_order r ((k, v) ∷ e ∷ es) ((e.0, v) ∷ es) (e ∷ put R k v es)) + one_at p (cond (is_eq r) (Some e.1) (find R k es))
        ≡ (one p e.1 + tally p es) + one p v) [
          | Less ↦ λ r. let none : one_at p (find R k es) ≡ 0 = ap (one_at p) (absent k es (below_less k e.0 es r below)) in omega arith
          | Equal ↦ λ r. omega arith
          | Greater ↦ λ r. omega arith
        ] refl

    pub tally-without : (p : X → Bool) (k : K) (es : List (K × X)) → T (is_sorted R es) →
        tally p (without k es) + one_at p (find R k es) ≡ tally p es
    tally-without p k [] h = refl
    tally-without p k (e ∷ es) h =
        let rest = tally-without p k es (sorted_tail e es h) in
        elim (same_or_other k e.0) [
          | inl s ↦ (let none : one_at p (find R k es) ≡ 0 = ap (λ x. one_at p (find R x es)) s.0 ∙
              ap (one_at p) (absent e.0 es (sorted_head e es h)) in
              subst (λ b. tally p (cond (not b) (e ∷ without k es) (without k es)) + one_at p (cond b (Some e.1) (find R k es)) ≡ one p e.1
              + tally p es) (sym s.1) (omega arith))
          | inr s ↦ subst (λ b. tally p (cond (not b) (e ∷ without k es) (without k es)) + one_at p (cond b (Some e.1) (find R k es))
              ≡ one p e.1 + tally p es) (sym s.1) (omega arith)
        ]

    pub tally_found : (p : X → Bool) (k : K) (v : X) (es : List (K × X)) → find R k es ≡ Some v → p v ≡ true → 1 ≤ tally p es
    tally_found p k v [] f h = absurd (Some≢None v (sym f))
    tally_found p k v (e ∷ es) f h =
        elim (same_or_other k e.0) [
          | inl s ↦ (let values : e.1 ≡ v = same_Some e.1 v (sym (ap (λ b. cond b (Some e.1) (find R k es)) s.1) ∙ f) in
              let here : one p e.1 ≡ 1 = ap (one p) values ∙ ap (λ b. cond b 1 0) h in omega arith)
          | inr s ↦ (let later = tally_found p k v es (sym (ap (λ b. cond b (Some e.1) (find R k es)) s.1) ∙ f) h in omega arith)
        ]

    pub found_from_tally : (p : X → Bool) (es : List (K × X)) → T (is_sorted R es) → 1 ≤ tally p es →
        (k : K) × (v : X) × (find R k es ≡ Some v) × (p v ≡ true)
    found_from_tally p [] h l = absurd (omega arith)
    found_from_tally p (e ∷ es) h l =
        elim (p e.1) as (λ b. p e.1 ≡ b → 1 ≤ cond b 1 0 + tally p es → (k : K) × (v : X) × (find R k (e ∷ es) ≡ Some v) × (p v ≡ true)) [
          | true ↦ λ t _. (e.0, e.1, ap (λ b. cond b (Some e.1) (find R e.0 es)) (ties e.0), t)
          | false ↦ λ t more. (let f = found_from_tally p es (sorted_tail e es h) (omega arith) in
              (f.0, f.1, ap (λ b. cond b (Some e.1) (find R f.0 es)) (found_later f.0 f.1 e es h f.2) ∙ f.2, f.3))
        ] refl l

    -- the one entry that passes is the first that does
    pub only_key : (p : X → Bool) (k : K) (v : X) (es : List (K × X)) → tally p es ≡ 1 → find R k es ≡ Some v → p v ≡ true →
        option_map (λ e. e.0) (find_where (λ e. p e.1) es) ≡ Some k
    only_key p k v [] l f h = absurd (Some≢None v (sym f))
    only_key p k v (e ∷ es) l f h =
        elim (same_or_other k e.0) [
          | inl s ↦ (let values : e.1 ≡ v = same_Some e.1 v (sym (ap (λ b. cond b (Some e.1) (find R k es)) s.1) ∙ f) in
              ap (λ b. option_map (λ d. d.0) (cond b (Some e) (find_where (λ d. p d.1) es))) (ap p values ∙ h) ∙ ap Some (sym s.0))
          | inr s ↦ (let later = sym (ap (λ b. cond b (Some e.1) (find R k es)) s.1) ∙ f in
              let some = tally_found p k v es later h in
              elim (p e.1) as (λ b. cond b 1 0 + tally p es ≡ 1 →
              option_map (λ d. d.0) (cond b (Some e) (find_where (λ d. p d.1) es)) ≡ Some k) [
                | true ↦ λ m. absurd (omega arith)
                | false ↦ λ m. (let less : tally p es ≡ 1 = omega arith in only_key p k v es less later h)
              ] l)
        ]
