-- What is said of keywords, word after word.
use Rattle.std.proofs.Common.{◌≡◌, ℕ, ◌<◌, ◌≤◌, ◌+◌, List, [], ◌∷◌, ◌++◌, length, sym, ap, ◌∙◌, Option, Some, None, drop, get_or}
use Rattle.std.proofs.lemmas.List.{at_drop_more, at_drop_all}
use Rattle.pua_script.specs.Scripts.{further_set}
use Rattle.pua_advice.specs.Advice.{Advised, keyword_advice, keywords_advice, unless_set}

module _ (call : List ℕ) (words : List (List ℕ)) (before : List ℕ) (at : ℕ) (word : List ℕ)
    (here : (at < length words) × (word ≡ get_or words at word)) where
  -- the rest begins with this word
  opens : keywords_advice call before (drop at words)
      ≡ unless_set (further_set before word) (keyword_advice call word) (λ set. keywords_advice call (before ++ set ∷ []) (drop (at + 1) words))
  opens = at_drop_more (λ rest. keywords_advice call before rest) words at word here.0
      ∙ ap (λ x. keywords_advice call before (x ∷ drop (at + 1) words)) (sym here.1)

  abbrev by_set : Option ℕ → Option Advised
  by_set o = unless_set o (keyword_advice call word) (λ set. keywords_advice call (before ++ set ∷ []) (drop (at + 1) words))

  pub takes_in : (set : ℕ) → further_set before word ≡ Some set →
      keywords_advice call before (drop at words) ≡ keywords_advice call (before ++ set ∷ []) (drop (at + 1) words)
  takes_in set e = opens ∙ ap by_set e

  pub stops : further_set before word ≡ None → keywords_advice call before (drop at words) ≡ Some (keyword_advice call word)
  stops e = opens ∙ ap by_set e

-- behind the last word there is nothing more
pub all_in : (call : List ℕ) (words : List (List ℕ)) (before : List ℕ) (at : ℕ) → length words ≤ at →
    keywords_advice call before (drop at words) ≡ None
all_in call words before at e = at_drop_all (λ rest. keywords_advice call before rest) words at e
