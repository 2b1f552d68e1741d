-- Spots sorted, each kept once.
use Rattle.pua_objects.proofs.Common.{◌≡◌, ℕ, List, [], ◌∷◌, Bool, true, false, cond, map, refl, ap, ◌∙◌, Bor, ◌==◌, ◌++◌, append-nil, AllByRecursion, and_parts, arith, length, subst, sym, Ordering, Less, Equal}
use Rattle.pua_objects.proofs.Common.{Greater, nat_cmp, Spot, spot_cmp, exact_spots, Rises, spot_now, AreInOrder}
use Rattle.std.proofs.Common.{IsPermutation, ◌&&◌}
use Rattle.std.specs.List.{dedup, dedup_from}
use Rattle.std.specs.List.Sorted.{IsSorted, IsStrictlySortedBy}
use Rattle.std.specs.Cmp.{eq_by_cmp_equiv, on_total, both_tied, unsigned_ties}
use Rattle.std.specs.Cmp.Lexicographic.{slice_cmp, pointwise, texts_ties}
use Rattle.std.specs.Ordering.{eq_by_cmp, is_eq}
use Rattle.std.specs.List.Retain.{IsFiltered, DiffersFromLast}
use Rattle.std.proofs.lemmas.List.Filters.{dedup_is}
use Rattle.std.proofs.lemmas.List.Kept.{Contains-dedup, Contains-from_dedup, IsStrictlySortedBy-dedup}
use Rattle.std.proofs.lemmas.List.Sorted.{Contains-permutation, IsPermutation-map, IsPermutation-sym}
use Rattle.std.specs.FinMap.Entries.{below_all, is_sorted}
use Rattle.std.specs.List.{Contains}
use Rattle.std.specs.Ordering.{is_lt}
use Rattle.std.proofs.lemmas.List.{length-append, nil_from_length}
use Rattle.pua_tree.proofs.ForCallers.{spots_total}
use Rattle.pua_audit.proofs.ForCallers.{rises_mapped}

abbrev Lent : Type 0
Lent = ℕ × Bor (List ℕ)

abbrev lent_cmp : Lent → Lent → Ordering
lent_cmp a b = spot_cmp (spot_now a) (spot_now b)

abbrev same_spot : Spot → Spot → Bool
same_spot = eq_by_cmp spot_cmp

is_exact : (a b : Spot) (o : Ordering) → spot_cmp a b ≡ o → is_eq o ≡ true → a ≡ b
is_exact a b Less e h = cc
is_exact a b Equal e h = exact_spots a b e
is_exact a b Greater e h = cc

-- a directory and a name are the same where the spot is
pub spots_tie : (a b : ℕ) (xs ys : List ℕ) → ((a == b) && pointwise ◌==◌ xs ys) ≡ eq_by_cmp spot_cmp (a, xs) (b, ys)
spots_tie a b xs ys = both_tied (a == b) (pointwise ◌==◌ xs ys) (nat_cmp a b) (slice_cmp nat_cmp xs ys) (unsigned_ties a b)
    (texts_ties xs ys)

rises_from : (xs : List Lent) → IsStrictlySortedBy lent_cmp xs → Rises lent_cmp xs
unfolding IsStrictlySortedBy
rises_from [] h = tt
rises_from (x ∷ xs) h = (h.0, rises_from xs h.1)

module _ (E : Lent → Lent → Bool) (ties : (x y : Lent) → E x y ≡ eq_by_cmp lent_cmp x y) where
  now-cond : (b : Bool) (us vs : List Lent) → map spot_now (cond b us vs) ≡ cond b (map spot_now us) (map spot_now vs)
  now-cond true us vs = refl
  now-cond false us vs = refl

  now-dedup_from : (xs : List Lent) (k : Lent) → map spot_now (dedup_from E k xs) ≡ dedup_from same_spot (spot_now k) (map spot_now xs)
  now-dedup_from [] k = refl
  now-dedup_from (x ∷ xs) k = rw (
    now-cond (E x k) (dedup_from E k xs) (k ∷ dedup_from E x xs),
    now-dedup_from xs k,
    now-dedup_from xs x,
    ties x k,
  ) refl

  now-dedup : (xs : List Lent) → map spot_now (dedup E xs) ≡ dedup same_spot (map spot_now xs)
  now-dedup [] = refl
  now-dedup (x ∷ xs) = now-dedup_from xs x

  -- what is left of sorted spots
  pub distinct : (given : List Spot) (lent sorted kept : List Lent) → map spot_now lent ≡ given → IsPermutation lent sorted →
      IsSorted lent_cmp sorted → IsFiltered (DiffersFromLast E) [] sorted kept
      → AreInOrder given (map spot_now kept)
  distinct given lent sorted kept is moved order filtered =
      let left : kept ≡ dedup E sorted = dedup_is E sorted kept filtered in
      let spots : map spot_now kept ≡ dedup same_spot (map spot_now sorted) = ap (map spot_now) left ∙ now-dedup sorted in
      let strict : IsStrictlySortedBy lent_cmp kept = rw left (IsStrictlySortedBy-dedup (on_total spot_now spots_total) ties sorted order)
      in
      let over : IsPermutation given (map spot_now sorted) = rw is at (IsPermutation-map spot_now lent sorted moved) in
      let back : IsPermutation (map spot_now sorted) given = IsPermutation-sym _ _ over in
      record {
        rise = rises_mapped lent_cmp spot_cmp spot_now (λ x y less. less) kept (rises_from kept strict);
        all = λ s there. rw spots (Contains-dedup (eq_by_cmp_equiv spots_total) (λ x y e. is_exact x y (spot_cmp x y) refl e)
            (map spot_now sorted) s (Contains-permutation given (map spot_now sorted) s over there));
        no_other = λ s there. Contains-permutation (map spot_now sorted) given s back (Contains-from_dedup same_spot (map spot_now sorted) s
            (rw spots at there));
      }

-- rows of a tree rise by their spots
is_less : (o : Ordering) → is_lt o ≡ true → o ≡ Less
is_less Less e = refl
is_less Equal e = cc
is_less Greater e = cc

all_above : (s : Spot) (rows : List (Spot × ℕ)) → below_all spot_cmp s rows ≡ true →
    AllByRecursion (λ y. spot_cmp s y ≡ Less) (map (λ row. row.0) rows)
all_above s [] low = tt
all_above s (row ∷ rows) low =
    let both = and_parts (is_lt (spot_cmp s row.0)) (below_all spot_cmp s rows) low in
    (is_less (spot_cmp s row.0) both.0, all_above s rows both.1)

pub rows_rise : (rows : List (Spot × ℕ)) → is_sorted spot_cmp rows ≡ true → Rises spot_cmp (map (λ row. row.0) rows)
rows_rise [] sorted = tt
rows_rise (row ∷ rows) sorted =
    let both = and_parts (below_all spot_cmp row.0 rows) (is_sorted spot_cmp rows) sorted in
    (all_above row.0 rows both.0, rows_rise rows both.1)

-- spots that rise, with no other beside them
pub alone : (rows veiled spots : List Spot) → Rises spot_cmp rows → spots ≡ rows ++ veiled → length spots ≡ length rows →
    AreInOrder (rows ++ veiled) spots
alone rows veiled spots rises is many =
    let none : veiled ≡ [] = nil_from_length veiled (omega (arith, many, ap length is, length-append rows veiled)) in
    let same : spots ≡ rows = is ∙ ap (λ more. rows ++ more) none ∙ append-nil rows in
    record {
      rise = subst (Rises spot_cmp) (sym same) rises;
      all = λ s there. subst (λ xs. Contains xs s) (sym is) there;
      no_other = λ s there. subst (λ xs. Contains xs s) is there;
    }
