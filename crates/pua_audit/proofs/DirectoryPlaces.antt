-- Places of directories.
use Rattle.pua_audit.proofs.Common.{ℕ, ◌<◌, ◌≤◌, ◌≡◌, List, [], ◌∷◌, ◌++◌, Some, true, false, ◌||◌, refl, sym, ◌∙◌, length, get_or, nat_eq}
use Rattle.pua_audit.proofs.Common.{subst, if◌then◌else◌, AllByRecursion, list_any, eqb-true, insert_key, AreNumbers, all_joined}
use Rattle.std.specs.Prelude.{slice_get}
use Rattle.std.proofs.lemmas.Map.Steps.{length-le_from_distinct_below}
use Rattle.std.proofs.lemmas.Option.{get_or_from_slice_get}

-- numbers below 2^32, none of them twice, are at most so many

below : (ns : List ℕ) (q : ℕ) → AllByRecursion (λ n. n < 4294967296) ns → list_any (nat_eq q) ns ≡ true → q < 4294967296
below [] q all e = absurd cc
below (n ∷ ns) q all e =
    elim (nat_eq q n) as (λ b. nat_eq q n ≡ b → (b || list_any (nat_eq q) ns) ≡ true → q < 4294967296) [
      | true ↦ λ same _. subst (λ m. m < 4294967296) (sym (eqb-true q n same)) all.0
      | false ↦ λ _ rest. below ns q all.1 rest
    ] refl e

pub few_numbers : (ns : List ℕ) → AreNumbers ns → length ns ≤ 4294967296
few_numbers ns is = length-le_from_distinct_below ns 4294967296 is.apart (λ q. below ns q is.fit)

-- one more at the end, or none

pub all_inserted : (P : ℕ → Type 0) (ns : List ℕ) (n : ℕ) → P n → AllByRecursion P ns → AllByRecursion P (insert_key nat_eq ns n)
all_inserted P ns n here all = elim (list_any (nat_eq n) ns) as (λ b. AllByRecursion P (if b then ns else ns ++ n ∷ [])) [
  | true ↦ all
  | false ↦ all_joined P ns (n ∷ []) all (here, tt)
]

pub placed : (ns : List ℕ) (place n : ℕ) → (k : ℕ) × (slice_get ns place ≡ Some k) × (nat_eq n k ≡ true) → get_or ns place 0 ≡ n
placed ns place n found = get_or_from_slice_get ns place found.0 0 found.1 ∙ sym (eqb-true n found.0 found.2)
