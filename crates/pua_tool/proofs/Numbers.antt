-- The numbers of processes, in ascending order.
use Rattle.pua_tool.proofs.Common.{◌≡◌, ◌∙◌, ℕ, List, [], ◌∷◌, refl, sym, ap, Some, world_of}
use Rattle.std.proofs.Common.{T, Bool, true, false, ◌&&◌, ◌||◌, is_some, cond}
use Rattle.std.specs.FinMap.{is_sorted, find}
use Rattle.std.specs.FinMap.Entries.{below_all, is_some-find, is_sorted-put, find-put}
use Rattle.std.specs.List.{AllByRecursion, list_any}
use Rattle.std.specs.List.Sorted.{IsStrictlySortedBy}
use Rattle.std.specs.Map.{keys_of}
use Rattle.std.specs.Ordering.{eq_by_cmp, is_lt, nat_cmp}
use Rattle.std.specs.declared.cmp.Ordering.{Ordering}
use Rattle.std.specs.declared.cmp.Ordering.TheVariants.{Less, Equal, Greater}
use Rattle.std.specs.declared.option.Option.{Option}
use Rattle.std.proofs.lemmas.Cmp.{nat_cmp_total}
use Rattle.std.proofs.lemmas.List.Sorted.{list_any-IsPermutation}
use Rattle.std.proofs.lemmas.Map.Lookups.{btree_set_from_contains, exact_unsigned}
use Rattle.pua_script.specs.Worlds.{WorldState, AreNumbersOf}
use Rattle.pua_tool.specs.ObjectTexts.{in_order, numbers_of}

module _ {X : Type 0} where
  -- keys in order strictly rise
  below : (n : ℕ) (es : List (ℕ × X)) → T (below_all nat_cmp n es) → AllByRecursion (λ m. nat_cmp n m ≡ Less) (keys_of es)
  below n [] b = tt
  below n (e ∷ es) b = by (nat_cmp n e.0) (below n es) b
    where
      by : (o : Ordering) → (T (below_all nat_cmp n es) → AllByRecursion (λ m. nat_cmp n m ≡ Less) (keys_of es)) →
          T (is_lt o && below_all nat_cmp n es) → (o ≡ Less) × AllByRecursion (λ m. nat_cmp n m ≡ Less) (keys_of es)
      by Less more b = (refl, more b)
      by Equal more b = absurd b
      by Greater more b = absurd b

  rising : (es : List (ℕ × X)) → T (is_sorted nat_cmp es) → IsStrictlySortedBy nat_cmp (keys_of es)
  unfolding IsStrictlySortedBy
  rising [] s = tt
  rising (e ∷ es) s = by (below_all nat_cmp e.0 es) (below e.0 es) (rising es) s
    where
      by : (b : Bool) → (T b → AllByRecursion (λ m. nat_cmp e.0 m ≡ Less) (keys_of es)) →
          (T (is_sorted nat_cmp es) → IsStrictlySortedBy nat_cmp (keys_of es)) → T (b && is_sorted nat_cmp es) →
          AllByRecursion (λ m. nat_cmp e.0 m ≡ Less) (keys_of es) × IsStrictlySortedBy nat_cmp (keys_of es)
      by true first more s = (first tt, more s)
      by false first more s = absurd s

  ordered : (es : List (ℕ × X)) → T (is_sorted nat_cmp (in_order es))
  ordered [] = tt
  ordered (e ∷ es) = is_sorted-put nat_cmp nat_cmp_total e.0 e.1 (in_order es) (ordered es)

  -- and are the same
  found : (q : ℕ) (es : List (ℕ × X)) → list_any (eq_by_cmp nat_cmp q) (keys_of (in_order es)) ≡ list_any (eq_by_cmp nat_cmp q) (keys_of es)
  found q [] = refl
  found q (e ∷ es) =
      sym (is_some-find nat_cmp q (in_order (e ∷ es)))
      ∙ ap is_some (find-put nat_cmp nat_cmp_total q e.0 e.1 (in_order es))
      ∙ either (eq_by_cmp nat_cmp q e.0) (find nat_cmp q (in_order es))
      ∙ ap (λ b. eq_by_cmp nat_cmp q e.0 || b) (is_some-find nat_cmp q (in_order es) ∙ found q es)
    where
      either : (b : Bool) (o : Option X) → is_some (cond b (Some e.1) o) ≡ (b || is_some o)
      either true o = refl
      either false o = refl

pub numbers_are : (s : WorldState) (numbers : List ℕ) → AreNumbersOf s numbers → numbers_of (world_of s) ≡ numbers
numbers_are s numbers are =
    btree_set_from_contains nat_cmp_total (record { keys = keys_of (in_order s.processes) }) (record { keys = numbers })
    (rising (in_order s.processes) (ordered s.processes)) are.rising
    (λ q. found q s.processes ∙ list_any-IsPermutation (eq_by_cmp nat_cmp q) (keys_of s.processes) numbers are.all)
    exact_unsigned
