-- The keys of a world's processes, sorted, are its numbers.
use Rattle.pua_script.proofs.Common.{◌∙◌, ℕ, List, eqb, nat_cmp, WorldState}
use Rattle.std.proofs.Common.{IsPermutation}
use Rattle.std.specs.Map.{keys_of}
use Rattle.std.specs.List.{IsDistinct}
use Rattle.std.specs.List.Sorted.{IsSorted}
use Rattle.std.proofs.lemmas.List.Sorted.{IsNonDecreasingBy-from_sort, length_permutation}
use Rattle.std.proofs.lemmas.Map.Keys.{IsDistinct-IsPermutation, IsStrictlyIncreasing-from_distinct, sorted_from_strictly_increasing}
use Rattle.std.proofs.lemmas.Map.Entries.{length-keys_of}
use Rattle.pua_script.specs.Worlds.{AreNumbersOf}
use Rattle.pua_script.proofs.Entries.{nat_turned}

-- keys in order, each once
pub record AreSorted (keys sorted : List ℕ) : Type 0 where
  pub moved : IsPermutation keys sorted
  pub order : IsSorted nat_cmp sorted
  pub distinct : IsDistinct eqb keys

pub numbers_are : (s : WorldState) (sorted : List ℕ) → AreSorted (keys_of s.processes) sorted → AreNumbersOf s sorted
numbers_are s sorted are = record {
  all = are.moved;
  rising = sorted_from_strictly_increasing sorted
      (IsStrictlyIncreasing-from_distinct sorted (IsNonDecreasingBy-from_sort (λ n. n) sorted are.order)
      (IsDistinct-IsPermutation eqb nat_turned (keys_of s.processes) sorted are.moved are.distinct));
  count = length_permutation (keys_of s.processes) sorted are.moved ∙ length-keys_of s.processes;
}
