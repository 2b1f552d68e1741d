-- What each turn of the code does to what is still to be done.
use Rattle.pua_steps.proofs.Common.{ℕ, suc, ◌+◌, ◌-◌, ◌<◌, ◌≡◌, List, [], ◌∷◌, ◌++◌, Option, Some, None, true, refl, ap, arith, sym, ◌∙◌}
use Rattle.pua_steps.proofs.Common.{length, length-append, append-nil, option_to_list, Graph, Word, TrailEvent, Live, under_all, with_calls}
use Rattle.pua_steps.proofs.Common.{deeper, pending, ahead, pairs_of, on_word, State, Visit}
use Rattle.pua_steps.proofs.Moves.{under_all-nil, under_all-line, deeper_live, pending_push, pending_back}

module _ (g : Graph) (live : Live) (limit : ℕ) where
  -- the word loses its last letter
  pub shortened : (word front : Word) (last : Option ℕ) (rests : List (List Visit)) → length rests ≡ length word →
      word ≡ front ++ option_to_list last
      → pending g live limit 0 word rests ≡ pending g live limit 0 front rests
  shortened word front None rests even split = ap (λ v. pending g live limit 0 v rests) (split ∙ append-nil front)
  shortened word front (Some b) rests even split =
      let long : length rests ≡ suc (length front) = omega (arith, even, ap length split, length-append front (b ∷ [])) in
      ap (λ v. pending g live limit 0 v rests) split ∙ pending_back g live limit 0 front b rests long

  pub nothing_pending : (word : Word) → pending g live limit 0 word [] ≡ []
  unfolding pending
  nothing_pending [] = refl
  nothing_pending (a ∷ word) = refl

  -- a word's calls are all given
  module _ (word : Word) (rests : List (List Visit)) where
    pub closed : (o : Option State) → deeper g live (limit - length word) o ≡ [] →
        ahead g live limit word [] o rests ≡ pending g live limit 0 word rests
    unfolding ahead with_calls
    closed o dead = ap (λ es. under_all word es ++ pending g live limit 0 word rests) dead ∙
        ap (λ es. es ++ pending g live limit 0 word rests) (under_all-nil word)

    pub opened : (s : State) → length rests ≡ length word → length word < limit → live (limit - length word) s ≡ true
        → ahead g live limit word [] (Some s) rests ≡ pending g live limit 0 word (rests ++ g (limit - suc (0 + length word)) s ∷ [])
    unfolding ahead with_calls
    opened s even h lives =
        let same : limit - length word ≡ suc (limit - suc (0 + length word)) = omega (arith, h) in
        ap (λ es. under_all word es ++ pending g live limit 0 word rests)
        (deeper_live g live (limit - length word) (limit - suc (0 + length word)) s same lives)
        ∙ sym (pending_push g live limit 0 word rests (g (limit - suc (0 + length word)) s) even)

    -- a call is given
    pub given : (o : Option State) (c : ℕ) (left : List ℕ) → ahead g live limit word (c ∷ left) o rests ≡ Some (
      word,
      c,
    ) ∷ ahead g live limit word left o rests
    unfolding ahead with_calls
    given o c left =
        let more : List TrailEvent = with_calls left ++ deeper g live (limit - length word) o in
        let rest : List TrailEvent = pending g live limit 0 word rests in
        ap (λ es. es ++ rest) (under_all-line word [] c more ∙ ap (λ v. Some (v, c) ∷ under_all word more) (append-nil word))

    -- all calls that a word has left are given
    pub given_all : (o : Option State) (left : List ℕ) →
        pairs_of (ahead g live limit word left o rests) ≡ on_word word left ++ pairs_of (ahead g live limit word [] o rests)
    given_all o [] = refl
    given_all o (c ∷ left) = ap pairs_of (given o c left) ∙ ap (λ ps. (word, c) ∷ ps) (given_all o left)

    -- what comes after a word counts by what it leads to
    pub alike : (left : List ℕ) (o p : Option State) → deeper g live (limit - length word) o ≡ deeper g live (limit - length word) p →
        ahead g live limit word left o rests ≡ ahead g live limit word left p rests
    unfolding ahead
    alike left o p same = ap (λ es. under_all word (with_calls left ++ es) ++ pending g live limit 0 word rests) same
