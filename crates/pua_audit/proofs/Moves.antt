-- Words as places of the alphabet.
use Rattle.pua_audit.proofs.Common.{ℕ, ◌<◌, ◌≡◌, List, [], ◌∷◌, ◌++◌, length, get_or, map-append, length-map}
use Rattle.pua_audit.proofs.Common.{word_of, get_or_read, subst, sym, ap, ◌∙◌}
pub use Rattle.pua_steps.proofs.ForCallers.{all_at_index}

-- a letter that is read where the letters are lent
pub letter_read : (letters lent : List (List ℕ)) (i : ℕ) (a : List ℕ) → lent ≡ letters → i < length letters → a ≡ get_or lent i a
    → a ≡ get_or letters i []
letter_read letters lent i a same low is =
    get_or_read lent i a (subst (λ (ls : List (List ℕ)). i < length ls) (sym same) low) is [] ∙ ap (λ ls. get_or ls i []) same

module _ (letters : List (List ℕ)) where
  pub word_of-push : (word : List ℕ) (i : ℕ) → word_of letters (word ++ i ∷ []) ≡ word_of letters word ++ get_or letters i [] ∷ []
  unfolding word_of
  word_of-push word i = map-append (λ i. get_or letters i []) word (i ∷ [])

  pub length-word_of : (word : List ℕ) → length (word_of letters word) ≡ length word
  unfolding word_of
  length-word_of word = length-map word (λ i. get_or letters i [])
