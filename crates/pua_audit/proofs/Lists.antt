-- Lists of which some elements are gone through.
use Rattle.pua_audit.proofs.Common.{ℕ, zero, suc, ◌<◌, ◌≤◌, ◌≡◌, List, [], ◌∷◌, take, drop, map, arith, sym, length, get_or, subst, inl}
use Rattle.pua_audit.proofs.Common.{inr, AllByRecursion, cases_eq}
use Rattle.std.specs.List.{AllWithin, Contains}
use Rattle.std.specs.List.Sorted.{IsStrictlyIncreasing}
use Rattle.std.proofs.lemmas.List.Elements.{Contains-get_or}
use Rattle.std.proofs.lemmas.List.Kept.{AllPairs-from_increasing}
use Rattle.pua_audit.proofs.Moves.{all_at_index}

-- what is true at each place, of each element that is in another list, of a front, of a back, and of what a function makes of each element

pub all_by_index : {X : Type 0} (P : X → Type 0) (xs : List X) → ((i : ℕ) (d : X) → i < length xs → P (get_or xs i d)) → AllByRecursion P xs
all_by_index P [] each = tt
all_by_index P (x ∷ xs) each = (each 0 x (omega arith), all_by_index P xs (λ i d low. each (suc i) d (omega (arith, low))))

pub all_by_place : (P : ℕ → Type 0) (ns : List ℕ) → ((i : ℕ) → i < length ns → P (get_or ns i 0)) → AllByRecursion P ns
all_by_place P [] each = tt
all_by_place P (n ∷ ns) each = (each 0 (omega arith), all_by_place P ns (λ i low. each (suc i) (omega (arith, low))))

pub all_among : {X : Type 0} (P : X → Type 0) (xs ys : List X) → ((x : X) → Contains ys x → Contains xs x) → AllByRecursion P xs →
    AllByRecursion P ys
all_among P xs ys among all =
    all_by_index P ys (λ k d low.
    let there = among (get_or ys k d) (Contains-get_or ys k d low) in
    subst P there.2 (all_at_index P xs (get_or ys k d) all there.0 there.1))

pub all_before : {X : Type 0} (P Q : X → Type 0) → ((x : X) → P x → Q x) → (n : ℕ) (xs : List X) → AllWithin P xs 0 n →
    AllByRecursion Q (take n xs)
all_before P Q by zero xs within = tt
all_before P Q by (suc n) [] within = tt
all_before P Q by (suc n) (x ∷ xs) within = (
  by x (within 0 x (omega arith) (omega arith)),
  all_before P Q by n xs (λ k d _ low. within (suc k) d (omega arith) (omega (arith, low))),
)

pub all_after : {X : Type 0} (P Q : X → Type 0) → ((x : X) → P x → Q x) → (n : ℕ) (xs : List X) → AllWithin P xs n (length xs) →
    AllByRecursion Q (drop n xs)
all_after P Q by zero [] within = tt
all_after P Q by zero (x ∷ xs) within = (
  by x (within 0 x (omega arith) (omega arith)),
  all_after P Q by zero xs (λ k d _ low. within (suc k) d (omega arith) (omega (arith, low))),
)
all_after P Q by (suc n) [] within = tt
all_after P Q by (suc n) (x ∷ xs) within =
    all_after P Q by n xs (λ k d high low. within (suc k) d (omega (arith, high)) (omega (arith, low)))

pub all_mapped : {X Y : Type 0} (P : Y → Type 0) (f : X → Y) (xs : List X) → AllByRecursion (λ x. P (f x)) xs → AllByRecursion P (map f xs)
all_mapped P f [] all = tt
all_mapped P f (x ∷ xs) all = (all.0, all_mapped P f xs all.1)

pub all_unmapped : {X Y : Type 0} (P : Y → Type 0) (f : X → Y) (xs : List X) → AllByRecursion P (map f xs) →
    AllByRecursion (λ x. P (f x)) xs
all_unmapped P f [] all = tt
all_unmapped P f (x ∷ xs) all = (all.0, all_unmapped P f xs all.1)

-- numbers that rise: each is at least its place, so that there are at most as many as the numbers below a bound

rank_low : (ns : List ℕ) → IsStrictlyIncreasing ns → (k : ℕ) → k < length ns → k ≤ get_or ns k 0
rank_low ns rise zero low = omega arith
rank_low ns rise (suc k) low = let before = rank_low ns rise k (omega (arith, low)) in let next =
    AllPairs-from_increasing ns rise k (suc k) 0 (omega arith) low in omega (arith, before, next)

pub places_few : (ns : List ℕ) (count : ℕ) → IsStrictlyIncreasing ns → AllByRecursion (λ n. n < count) ns → (k : ℕ) → k ≤ length ns →
    k ≤ count
places_few ns count rise all zero low = omega arith
places_few ns count rise all (suc k) low =
    let inside : k < length ns = omega (arith, low) in
    let here = rank_low ns rise k inside in
    let there = all_at_index (λ n. n < count) ns 0 all k inside in
    omega (arith, here, there)

-- the first k of some letters are those below n
pub record IsReached (letters : List ℕ) (k n : ℕ) : Type 0 where
  pub below : (i : ℕ) → i < k → get_or letters i 0 < n
  pub above : (i : ℕ) → k ≤ i → i < length letters → n ≤ get_or letters i 0

pub reached_at : (ns : List ℕ) → IsStrictlyIncreasing ns → (k : ℕ) → k < length ns → IsReached ns k (get_or ns k 0)
reached_at ns rise k inside = record {
  below = λ i low. AllPairs-from_increasing ns rise i k 0 low inside;
  above = λ i low within. elim (cases_eq i k) [
    | inl same ↦ subst (λ j. get_or ns k 0 ≤ get_or ns j 0) (sym same) (omega arith)
    | inr away ↦ (let more = AllPairs-from_increasing ns rise k i 0 (omega (arith, low, away)) within in omega (arith, more))
  ];
}

pub reached_all : (ns : List ℕ) (count k : ℕ) → AllByRecursion (λ n. n < count) ns → k ≡ length ns → IsReached ns k count
reached_all ns count k all whole = record {
  below = λ i low. all_at_index (λ n. n < count) ns 0 all i (omega (arith, low, whole));
  above = λ i low within. absurd (omega (arith, low, within, whole));
}
