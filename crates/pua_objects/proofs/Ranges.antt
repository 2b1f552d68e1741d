-- The spots of a directory among spots in order.
use Rattle.pua_objects.proofs.Common.{◌≡◌, ◌≢◌, ◌<◌, ◌≤◌, ◌==◌, ◌+◌, ℕ, zero, suc, List, [], ◌∷◌, true, false, map, length, drop, refl, sym}
use Rattle.pua_objects.proofs.Common.{ap, ◌∙◌, arith, Bor, cond, subst, filter, AllByRecursion, Less, eq-eqb, length-map, Spot, spot_cmp}
use Rattle.pua_objects.proofs.Common.{Rises, spot_now, names_at}
use Rattle.std.proofs.Common.{get_or}
use Rattle.std.proofs.Common.{drop_of_length-le, ltb}
use Rattle.std.specs.List.{slice_index_or}
use Rattle.std.specs.List.Sorted.{IsPartitionPoint, IsPartitionedBy}
use Rattle.std.proofs.lemmas.List.Sorted.{IsPartitionedBy-ltb}
use Rattle.std.proofs.lemmas.Bool.{ne_eqb, ltb-true, ltb-false}
use Rattle.std.proofs.lemmas.List.{get_or-map, drop_more}
use Rattle.pua_tree.proofs.ForCallers.{not_lower}

all_from : (x : Spot) (spots : List Spot) → AllByRecursion (λ y. spot_cmp x y ≡ Less) spots → AllByRecursion (λ y. x.0 ≤ y.0) spots
all_from x [] all = tt
all_from x (y ∷ spots) all = (not_lower x y all.0, all_from x spots all.1)

rises_dropped : (n : ℕ) (spots : List Spot) → Rises spot_cmp spots → Rises spot_cmp (drop n spots)
rises_dropped zero spots rises = rises
rises_dropped (suc n) [] rises = tt
rises_dropped (suc n) (s ∷ spots) rises = rises_dropped n spots rises.1

pub lent_within : (lent : List (ℕ × Bor (List ℕ))) (n : ℕ) → n < length lent → n < length (map spot_now lent)
lent_within lent n within = omega (arith, within, length-map lent spot_now)

pub lent_at : (lent : List (ℕ × Bor (List ℕ))) (n : ℕ) (x : ℕ × Bor (List ℕ)) → n < length lent → x ≡ slice_index_or lent n x →
    get_or (map spot_now lent) n (spot_now x) ≡ spot_now x
lent_at lent n x within at = get_or-map spot_now lent n x (spot_now x) within ∙ ap spot_now (sym at)

module _ (dir : ℕ) where
  other_first : (s : Spot) (spots : List Spot) → s.0 ≢ dir → names_at dir (s ∷ spots) ≡ names_at dir spots
  other_first s spots other =
      ap (λ b. map (λ (spot : Spot). spot.1) (cond b (s ∷ filter (λ spot. spot.0 == dir) spots) (filter (λ spot. spot.0 == dir) spots)))
      (ne_eqb s.0 dir other)

  own_first : (s : Spot) (spots : List Spot) → s.0 ≡ dir → names_at dir (s ∷ spots) ≡ s.1 ∷ names_at dir spots
  own_first s spots own =
      ap (λ b. map (λ (spot : Spot). spot.1) (cond b (s ∷ filter (λ spot. spot.0 == dir) spots) (filter (λ spot. spot.0 == dir) spots)))
      (eq-eqb s.0 dir own)

  none_after : (low : ℕ) (spots : List Spot) → dir < low → AllByRecursion (λ y. low ≤ y.0) spots → names_at dir spots ≡ []
  none_after low [] less all = refl
  none_after low (s ∷ spots) less all = other_first s spots (λ e. omega (arith, e, all.0)) ∙ none_after low spots less all.1

  -- no spot of the directory is left
  pub none_left : (spots : List Spot) (n : ℕ) → length spots ≤ n → names_at dir (drop n spots) ≡ []
  none_left spots n end = ap (names_at dir) (drop_of_length-le spots end)

  -- the first spot that is left
  module _ (spots : List Spot) (n : ℕ) (s : Spot) (within : n < length spots) (at : get_or spots n s ≡ s) where
    first_left : drop n spots ≡ s ∷ drop (n + 1) spots
    first_left = drop_more spots n s within ∙ ap (λ x. x ∷ drop (n + 1) spots) at

    pub own_left : s.0 ≡ dir → names_at dir (drop n spots) ≡ s.1 ∷ names_at dir (drop (n + 1) spots)
    own_left own = ap (names_at dir) first_left ∙ own_first s (drop (n + 1) spots) own

    pub other_left : Rises spot_cmp spots → AllByRecursion (λ y. dir ≤ y.0) (drop n spots) → s.0 ≢ dir → names_at dir (drop n spots) ≡ []
    other_left rises passed other =
        let order : Rises spot_cmp (s ∷ drop (n + 1) spots) = subst (Rises spot_cmp) first_left (rises_dropped n spots rises) in
        let low : AllByRecursion (λ y. dir ≤ y.0) (s ∷ drop (n + 1) spots) = subst (AllByRecursion (λ y. dir ≤ y.0)) first_left passed in
        ap (names_at dir) first_left ∙ other_first s (drop (n + 1) spots) other ∙
        none_after s.0 (drop (n + 1) spots) (omega (arith, low.0, other)) (all_from s (drop (n + 1) spots) order.0)

  -- the spots after the first that is left
  pub passed_more : (spots : List Spot) (n : ℕ) → n < length spots → AllByRecursion (λ (y : Spot). dir ≤ y.0) (drop n spots) →
      AllByRecursion (λ (y : Spot). dir ≤ y.0) (drop (n + 1) spots)
  passed_more spots n within all = (subst (AllByRecursion (λ (y : Spot). dir ≤ y.0)) (drop_more spots n (0, []) within) all).1

  -- ---- where the spots of the directory start

  abbrev Lent : Type 0
  Lent = ℕ × Bor (List ℕ)

  pub start_names : (lent : List Lent) (n : ℕ) → n ≤ length lent → ((k : ℕ) (d : Lent) → k < n → (get_or lent k d).0 < dir) →
      names_at dir (drop n (map spot_now lent)) ≡ names_at dir (map spot_now lent)
  start_names lent zero end below = refl
  start_names [] (suc n) end below = refl
  start_names (x ∷ lent) (suc n) end below =
      start_names lent n (omega (arith, end)) (λ k d less. below (suc k) d (omega (arith, less)))
      ∙ sym (other_first (spot_now x) (map spot_now lent) (λ e. (let less : x.0 < dir = below 0 x (omega arith) in omega (arith, less, e))))

  pub start_passed : (lent : List Lent) (n : ℕ) → ((k : ℕ) (d : Lent) → n ≤ k → k < length lent → dir ≤ (get_or lent k d).0) →
      AllByRecursion (λ (y : Spot). dir ≤ y.0) (drop n (map spot_now lent))
  start_passed [] zero above = tt
  start_passed [] (suc n) above = tt
  start_passed (x ∷ lent) zero above =
      (above 0 x (omega arith) (omega arith), start_passed lent zero (λ k d low less. above (suc k) d (omega arith) (omega (arith, less))))
  start_passed (x ∷ lent) (suc n) above = start_passed lent n (λ k d low less. above (suc k) d (omega (arith, low)) (omega (arith, less)))

member_from : (low : ℕ) (lent : List (ℕ × Bor (List ℕ))) → AllByRecursion (λ y. low ≤ y.0) (map spot_now lent) →
    (k : ℕ) (d : ℕ × Bor (List ℕ)) → k < length lent → low ≤ (get_or lent k d).0
member_from low [] all k d less = absurd (omega (arith, less))
member_from low (x ∷ lent) all zero d less = all.0
member_from low (x ∷ lent) all (suc k) d less = member_from low lent all.1 k d (omega (arith, less))

-- spots in order are in the order of their directories
pub dirs_rise : (lent : List (ℕ × Bor (List ℕ))) → Rises spot_cmp (map spot_now lent) → (i j : ℕ) (d : ℕ × Bor (List ℕ)) → i ≤ j →
    j < length lent → (get_or lent i d).0 ≤ (get_or lent j d).0
dirs_rise [] rises i j d le less = absurd (omega (arith, less))
dirs_rise (x ∷ lent) rises zero zero d le less = omega arith
dirs_rise (x ∷ lent) rises zero (suc j) d le less =
    member_from x.0 lent (all_from (spot_now x) (map spot_now lent) rises.0) j d (omega (arith, less))
dirs_rise (x ∷ lent) rises (suc i) zero d le less = absurd (omega (arith, le))
dirs_rise (x ∷ lent) rises (suc i) (suc j) d le less = dirs_rise lent rises.1 i j d (omega (arith, le)) (omega (arith, less))

-- where a directory's names start, by a binary search
pub starts : (dir n : ℕ) (lent : List (ℕ × Bor (List ℕ))) → n ≤ length lent →
    (IsPartitionedBy (λ (y : ℕ × Bor (List ℕ)). ltb y.0 dir) lent →
    IsPartitionPoint (λ (y : ℕ × Bor (List ℕ)). ltb y.0 dir ≡ true) (λ y. ltb y.0 dir ≡ false) lent n)
    → Rises spot_cmp (map spot_now lent) → AllByRecursion (λ (y : Spot). dir ≤ y.0) (drop n (map spot_now lent)) ×
    (names_at dir (drop n (map spot_now lent)) ≡ names_at dir (map spot_now lent))
starts dir n lent within parted rises =
    let point = parted (IsPartitionedBy-ltb (λ (y : ℕ × Bor (List ℕ)). y.0) lent dir (λ i j d le less. dirs_rise lent rises i j d le less))
    in (
      start_passed dir lent n (λ k d low less. ltb-false (get_or lent k d).0 dir (point.1 k d low less)),
      start_names dir lent n within (λ k d less. ltb-true (get_or lent k d).0 dir (point.0 k d (omega arith) less)),
    )
