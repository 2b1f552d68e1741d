-- Fewer pairs that are allowed make a reach that lies within another.
use Rattle.pua_audit.proofs.Common.{◌≡◌, List, [], ◌∷◌, Bool, true, false, cond, refl, sym, subst, filter, false≢true, is_reached, pairs}
use Rattle.pua_audit.proofs.Common.{reach}
use Rattle.pua_audit.specs.SubLists.{SubList, nothing, both, more, FewerReachLess}

module _ {A : Type 0} (p q : A → Bool) (within : (x : A) → p x ≡ true → q x ≡ true) where
  one_more : (x : A) (b c : Bool) → (b ≡ true → c ≡ true) → (xs ys : List A) → SubList xs ys →
      SubList (cond b (x ∷ xs) xs) (cond c (x ∷ ys) ys)
  one_more x true true w xs ys s = both s
  one_more x true false w xs ys s = absurd (false≢true (w refl))
  one_more x false true w xs ys s = more s
  one_more x false false w xs ys s = s

  filters_within : (xs : List A) → SubList (filter p xs) (filter q xs)
  filters_within [] = nothing
  filters_within (x ∷ xs) = one_more x (p x) (q x) (within x) (filter p xs) (filter q xs) (filters_within xs)

pub fewer_reach_less : FewerReachLess
fewer_reach_less few many letters limits within =
    let same : pairs few.alphabet few.limit ≡ pairs many.alphabet many.limit = λ i. pairs (letters i) (limits i) in
    subst (λ ps. SubList (filter (is_reached few) ps) (reach many)) (sym same) (filters_within (is_reached few) (is_reached many) within
    (pairs many.alphabet many.limit))
