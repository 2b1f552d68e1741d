-- The path of a word in a buffer, letter by letter.
use Rattle.pua_audit.proofs.Common.{ℕ, zero, suc, ◌+◌, ◌<◌, ◌≤◌, ◌≡◌, List, [], ◌∷◌, ◌++◌, refl, ap, arith, sym, ◌∙◌, length, get_or, take}
use Rattle.pua_audit.proofs.Common.{min, inl, inr, cases_lt, Word, from_root}
use Rattle.std.proofs.Common.{length-append}
use Rattle.std.proofs.lemmas.List.{length-take, take-take}
use Rattle.pua_audit.specs.WordPaths.{starts_of}

pub length-starts : (n : ℕ) (word : Word) → length (starts_of n word) ≡ length word
length-starts n [] = refl
length-starts n (a ∷ word) = ap suc (length-starts (suc (n + length a)) word)

pub starts-take : (k n : ℕ) (word : Word) → take k (starts_of n word) ≡ starts_of n (take k word)
starts-take zero n [] = refl
starts-take zero n (a ∷ word) = refl
starts-take (suc k) n [] = refl
starts-take (suc k) n (a ∷ word) = ap (λ ns. n ∷ ns) (starts-take k (suc (n + length a)) word)

longer_root : (a : List ℕ) (more : Word) → length (from_root (a ∷ more)) ≡ suc (length a + length (from_root more))
longer_root a more = ap suc (length-append a (from_root more))

-- a letter starts where the path of the letters before it ends
pub start_at : (k n d : ℕ) (word : Word) → k < length word → get_or (starts_of n word) k d ≡ n + length (from_root (take k word))
start_at k n d [] h = absurd (omega (arith, h))
start_at zero n d (a ∷ word) h = omega arith
start_at (suc k) n d (a ∷ word) h = omega (arith, start_at k (suc (n + length a)) d word (omega (arith, h)), longer_root a (take k word))

pub starts-push : (n : ℕ) (word : Word) (a : List ℕ) → starts_of n (word ++ a ∷ []) ≡ starts_of n word ++ (n + length (from_root word)) ∷ []
starts-push n [] a = ap (λ m. m ∷ []) (omega arith)
starts-push n (b ∷ word) a =
    let same : suc (n + length b) + length (from_root word) ≡ n + length (from_root (b ∷ word)) = omega (arith, longer_root b word) in
    ap (λ ns. n ∷ ns) (starts-push (suc (n + length b)) word a ∙ ap (λ m. starts_of (suc (n + length b)) word ++ m ∷ []) same)

-- the path of the first letters is the front of the path
pub root-take : (k : ℕ) (word : Word) → take (length (from_root (take k word))) (from_root word) ≡ from_root (take k word)
root-take zero [] = refl
root-take zero (a ∷ word) = refl
root-take (suc k) [] = refl
root-take (suc k) (a ∷ word) = ap (λ bs. 47 ∷ bs) (taken a (from_root word) (from_root (take k word)) (root-take k word))
  where
    taken : (xs ys zs : List ℕ) → take (length zs) ys ≡ zs → take (length (xs ++ zs)) (xs ++ ys) ≡ xs ++ zs
    taken [] ys zs e = e
    taken (x ∷ xs) ys zs e = ap (λ bs. x ∷ bs) (taken xs ys zs e)

-- a list taken by more than it has is itself
pub take_whole : {A : Type 0} (k : ℕ) (xs : List A) → length xs ≤ k → take k xs ≡ xs
take_whole zero [] h = refl
take_whole zero (x ∷ xs) h = absurd (omega (arith, h))
take_whole (suc k) [] h = refl
take_whole (suc k) (x ∷ xs) h = ap (λ ys. x ∷ ys) (take_whole k xs (omega (arith, h)))

-- the letters of a front that stay are those at the front of the new word
pub front_stays : (old new : List ℕ) (k n m : ℕ) → take n new ≡ take n old → m ≡ min n k → take n (take k old) ≡ take m new
front_stays old new k n m same few =
    elim (cases_lt n k) [
      | inl h ↦ take-take n k old (omega (arith, h)) ∙ sym same ∙ ap (λ l. take l new) (omega (arith, h, few))
      | inr h ↦ take_whole n (take k old) (omega (arith, h, length-take k old)) ∙ sym (take-take k n old h) ∙ ap (take k) (sym same) ∙
          take-take k n new h ∙ ap (λ l. take l new) (omega (arith, h, few))
    ]
