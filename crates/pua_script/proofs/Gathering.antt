-- Keywords of which a call asks for one, word after word.
use Rattle.pua_script.proofs.Common.{◌≡◌, ℕ, ◌<◌, ◌≤◌, ◌+◌, List, [], ◌∷◌, ◌++◌, length, sym, ap, ◌∙◌, Some, None, Ok, Err, ◌>>=◌}
use Rattle.std.proofs.Common.{drop, get_or}
use Rattle.std.proofs.lemmas.List.{at_drop_more, at_drop_all}
use Rattle.std.specs.Prelude.{ok_or}
use Rattle.pua_script.specs.Scripts.{further_set, sets_of}
use Rattle.pua_script.specs.declared.fault.ScriptFault.TheVariants.{BadList}

module _ (n : ℕ) (words : List (List ℕ)) (before : List ℕ) (at : ℕ) (word : List ℕ) (here : (at < length words) × (word ≡ get_or words at word)) where
  -- the rest begins with this word
  opens : sets_of n before (drop at words) ≡ (ok_or (further_set before word) (BadList n) >>= λ set. sets_of n (before ++ set ∷ []) (drop (at + 1) words))
  opens = at_drop_more (λ rest. sets_of n before rest) words at word here.0
      ∙ ap (λ x. sets_of n before (x ∷ drop (at + 1) words)) (sym here.1)

  pub takes_in : (set : ℕ) → further_set before word ≡ Some set →
      sets_of n before (drop at words) ≡ sets_of n (before ++ set ∷ []) (drop (at + 1) words)
  takes_in set e = opens ∙ ap (λ o. ok_or o (BadList n) >>= λ set. sets_of n (before ++ set ∷ []) (drop (at + 1) words)) e

  pub refuses : further_set before word ≡ None → sets_of n before (drop at words) ≡ Err (BadList n)
  refuses e = opens ∙ ap (λ o. ok_or o (BadList n) >>= λ set. sets_of n (before ++ set ∷ []) (drop (at + 1) words)) e

-- behind the last word there is nothing more
pub all_in : (n : ℕ) (words : List (List ℕ)) (before : List ℕ) (at : ℕ) → length words ≤ at → sets_of n before (drop at words) ≡ Ok before
all_in n words before at e = at_drop_all (λ rest. sets_of n before rest) words at e
