-- Lists that were begun, one after another.
use Rattle.pua_texts.proofs.Common.{◌≡◌, ℕ, ◌+◌, List, [], ◌∷◌, ◌++◌, ◌<◌, sym, ap, ◌∙◌, take, length, get_or, take_more}
use Rattle.pua_texts.proofs.Common.{Option, Some, flat_map, option_map_or, Tree, ProcessState}
use Rattle.std.proofs.lemmas.Grind.{flat_map-append}
use Rattle.pua_texts.specs.ListLines.{ListState, list_text, lists_text}

-- lists, one after another, of those of some numbers whose process was made
module _ (made : ℕ → Option ProcessState) (text : ℕ → ProcessState → List ℕ) (t : Tree) where
  abbrev pub texts : List ℕ → List ℕ
  texts numbers = flat_map (λ process. option_map_or (text process) (made process) []) numbers

  -- the list of one more process
  pub one_more : (numbers : List ℕ) (i d : ℕ) → i < length numbers → (lists : List ListState) (new : List ListState) (list : ListState)
      (h : ProcessState) → lists_text t lists ≡ texts (take i numbers) → made (get_or numbers i d) ≡ Some h → new ≡ lists ++ list ∷ [] →
      list_text t list ≡ text (get_or numbers i d) h → lists_text t new ≡ texts (take (i + 1) numbers)
  one_more numbers i d within lists new list h so_far is added told =
      ap (lists_text t) added ∙ flat_map-append (list_text t) lists (list ∷ [])
      ∙ (λ j. so_far j ++ ((told ∙ ap (λ o. option_map_or (text (get_or numbers i d)) o []) (sym is)) j ++ []))
      ∙ sym (flat_map-append (λ process. option_map_or (text process) (made process) []) (take i numbers) (get_or numbers i d ∷ []))
      ∙ ap texts (sym (take_more numbers i d within))
