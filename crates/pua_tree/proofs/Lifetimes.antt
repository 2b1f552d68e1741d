-- What is among the lifetimes of several references is in the one that each of them has.
use Rattle.pua_tree.proofs.Common.{ℕ, List, [], ◌++◌}
use mathlib.Core.List.{Mem, Mem-prop, mem-append, not-mem-nil}
use mathlib.Core.Logic.Or

in_either : (xs ys zs : List ℕ) → ((a : ℕ) → Mem a xs → Mem a zs) → ((a : ℕ) → Mem a ys → Mem a zs) → (a : ℕ) → Mem a (xs ++ ys) → Mem a zs
in_either xs ys zs left right a m = Or.elim (Mem-prop {a = a} {l = zs}) (mem-append.0 m) (left a) (right a)

in_none : (zs : List ℕ) (a : ℕ) → Mem a [] → Mem a zs
in_none zs a m = absurd (not-mem-nil m)

in_one_more : (xs ys : List ℕ) → ((a : ℕ) → Mem a ys → Mem a xs) → (a : ℕ) → Mem a ((xs ++ []) ++ ys) → Mem a xs
in_one_more xs ys further = in_either (xs ++ []) ys xs (in_either xs [] xs (λ a m. m) (in_none xs)) further

pub in_four : (xs : List ℕ) (a : ℕ) → Mem a ((xs ++ []) ++ ((xs ++ []) ++ ((xs ++ []) ++ ((xs ++ []) ++ [])))) → Mem a xs
in_four xs = in_one_more xs _ (in_one_more xs _ (in_one_more xs _ (in_one_more xs [] (in_none xs))))
