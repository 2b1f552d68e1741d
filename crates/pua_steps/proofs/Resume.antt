-- What comes after a pair, step by step along its word.
use Rattle.pua_steps.proofs.Common.{ℕ, zero, suc, ◌+◌, ◌-◌, ◌<◌, ◌≤◌, ◌≡◌, List, [], ◌∷◌, ◌++◌, Option, Some, None, Bool, true, false, cond}
use Rattle.pua_steps.proofs.Common.{nat_lt, ◌==◌, refl, ap, arith, sym, ◌∙◌, length, filter, append_assoc, append-nil, length-append}
use Rattle.pua_steps.proofs.Common.{map-append, flat_map, IfSome, AllByRecursion, calls_of, Graph, Word, Pair, cons, alone, below}
use Rattle.pua_steps.proofs.Common.{rows, pairs_after, IsSplit, to_give, TrailEvent, Live, pairs_of, under_all, with_calls, deeper}
use Rattle.pua_steps.proofs.Common.{branches, pending, ahead, State, Visit}
use Rattle.std.proofs.lemmas.List.Elements.{filter-append, filter_agree}
use Rattle.std.proofs.lemmas.Grind.{flat_map-append}
use Rattle.std.proofs.lemmas.Cmp.{tied_itself, nat_cmp_total}
use Rattle.std.specs.Cmp.{nat_cmp_is}
use Rattle.std.specs.Ordering.{nat_cmp, ordering_then, is_lt}
use Rattle.std.specs.Cmp.Lexicographic.{slice_cmp}
use Rattle.std.specs.declared.cmp.Ordering.TheVariants.{Less, Equal, Greater}
use Rattle.pua_steps.specs.Graph.{longer}
use Rattle.pua_steps.specs.Order.{comes_after}
use Rattle.pua_steps.specs.Resuming.{cons_all}
use Rattle.pua_steps.proofs.Moves.{pending_push, pending_back}
use Rattle.pua_steps.proofs.Turns.{nothing_pending}
use Rattle.pua_steps.proofs.Sets.{no_calls}
use Rattle.pua_steps.proofs.Filling.{below_none, below_some}
use Rattle.pua_steps.proofs.TrailPairs.{Prunes, pairs-append, pairs-under, pairs-with_calls, pairs-deeper, pairs-branches}
use Rattle.pua_steps.proofs.Base.{filter-map, filter-none}

-- lists

filter-all : {A : Type 0} (xs : List A) → filter (λ _. true) xs ≡ xs
filter-all [] = refl
filter-all (x ∷ xs) = ap (λ ys. x ∷ ys) (filter-all xs)

filter-cons : (test : Pair → Bool) (a : ℕ) (ps : List Pair) → filter test (cons a ps) ≡ cons a (filter (λ p. test (longer a p)) ps)
unfolding cons
filter-cons test a ps = filter-map test (longer a) ps

filter-alone : (test : Pair → Bool) (cs : List ℕ) → filter test (alone cs) ≡ alone (filter (λ c. test ([], c)) cs)
unfolding alone
filter-alone test cs = filter-map test (λ c. ([], c)) cs

cons-nil : (a : ℕ) → cons a [] ≡ []
unfolding cons
cons-nil a = refl

cons-append : (a : ℕ) (ps qs : List Pair) → cons a (ps ++ qs) ≡ cons a ps ++ cons a qs
unfolding cons
cons-append a ps qs = map-append (longer a) ps qs

-- the order

module _ (v : Word) (c : ℕ) where
  after_same : (a : ℕ) (p : Pair) → comes_after (a ∷ v, c) (longer a p) ≡ comes_after (v, c) p
  after_same a p = ap (λ o. is_lt (ordering_then (ordering_then o (slice_cmp nat_cmp v p.0)) (nat_cmp c p.1))) (tied_itself nat_cmp_total a)

  after_less : (a b : ℕ) (p : Pair) → a < b → comes_after (a ∷ v, c) (longer b p) ≡ true
  after_less a b p h = ap (λ o. is_lt (ordering_then (ordering_then o (slice_cmp nat_cmp v p.0)) (nat_cmp c p.1)))
      (sym (nat_cmp_is a b Less h))

  after_greater : (a b : ℕ) (p : Pair) → b < a → comes_after (a ∷ v, c) (longer b p) ≡ false
  after_greater a b p h =
      ap (λ o. is_lt (ordering_then (ordering_then o (slice_cmp nat_cmp v p.0)) (nat_cmp c p.1))) (sym (nat_cmp_is a b Greater h))

  cons_same : (a : ℕ) (ps : List Pair) → pairs_after (a ∷ v, c) (cons a ps) ≡ cons a (pairs_after (v, c) ps)
  cons_same a ps = filter-cons (comes_after (a ∷ v, c)) a ps ∙
      ap (cons a) (filter_agree (λ p. comes_after (a ∷ v, c) (longer a p)) (comes_after (v, c)) (after_same a) ps)

  cons_less : (a b : ℕ) (ps : List Pair) → a < b → pairs_after (a ∷ v, c) (cons b ps) ≡ cons b ps
  cons_less a b ps h = filter-cons (comes_after (a ∷ v, c)) b ps ∙
      ap (cons b) (filter_agree (λ p. comes_after (a ∷ v, c) (longer b p)) (λ _. true) (λ p. after_less a b p h) ps ∙ filter-all ps)

  cons_greater : (a b : ℕ) (ps : List Pair) → b < a → pairs_after (a ∷ v, c) (cons b ps) ≡ []
  cons_greater a b ps h = filter-cons (comes_after (a ∷ v, c)) b ps ∙
      ap (cons b) (filter_agree (λ p. comes_after (a ∷ v, c) (longer b p)) (λ _. false) (λ p. after_greater a b p h) ps ∙ filter-none ps) ∙
      cons-nil b

  -- the letters of a state, when those before one are gone and those after it are whole
  module _ (F : Visit → List Pair) (a : ℕ) where
    abbrev on : List Visit → List Pair
    on vs = flat_map (λ (x : Visit). cons x.letter (F x)) vs

    on_high : (vs : List Visit) → AllByRecursion (λ (y : Visit). a < y.letter) vs → pairs_after (a ∷ v, c) (on vs) ≡ on vs
    on_high [] all = refl
    on_high (y ∷ vs) all =
        filter-append (comes_after (a ∷ v, c)) (cons y.letter (F y)) (on vs)
        ∙ ap (λ ps. ps ++ pairs_after (a ∷ v, c) (on vs)) (cons_less a y.letter (F y) all.0)
        ∙ ap (λ ps. cons y.letter (F y) ++ ps) (on_high vs all.1)

    on_low : (vs : List Visit) → AllByRecursion (λ (y : Visit). y.letter < a) vs → pairs_after (a ∷ v, c) (on vs) ≡ []
    on_low [] all = refl
    on_low (y ∷ vs) all =
        filter-append (comes_after (a ∷ v, c)) (cons y.letter (F y)) (on vs)
        ∙ ap (λ ps. ps ++ pairs_after (a ∷ v, c) (on vs)) (cons_greater a y.letter (F y) all.0)
        ∙ on_low vs all.1

    on_here : (b : Bool) (x : Visit) (after : List Visit) → AllByRecursion (λ (y : Visit). a < y.letter) after → x.letter ≡ a →
        (b ≡ false → F x ≡ [])
        → pairs_after (a ∷ v, c) (on (cond b (x ∷ after) after)) ≡ cons a (pairs_after (v, c) (F x)) ++ on after
    on_here true x after high here empty =
        filter-append (comes_after (a ∷ v, c)) (cons x.letter (F x)) (on after)
        ∙ ap (λ ps. ps ++ pairs_after (a ∷ v, c) (on after)) (ap (λ b. pairs_after (a ∷ v, c) (cons b (F x))) here ∙ cons_same a (F x))
        ∙ ap (λ ps. cons a (pairs_after (v, c) (F x)) ++ ps) (on_high after high)
    on_here false x after high here empty =
        on_high after high
        ∙ ap (λ ps. ps ++ on after) (sym (ap (λ ps. cons a (pairs_after (v, c) ps)) (empty refl) ∙ cons-nil a))

    pub on_split : (vs : List Visit) (x : Visit) (after : List Visit) → IsSplit a vs x after →
        ((x.calls ≡ 0) × (x.behind ≡ None) → F x ≡ []) → pairs_after (a ∷ v, c) (on vs) ≡ cons a (pairs_after (v, c) (F x)) ++ on after
    on_split vs x after split empty =
        let rest : List Visit = cond split.present (x ∷ after) after in
        ap (λ ws. pairs_after (a ∷ v, c) (on ws)) split.parts
        ∙ ap (pairs_after (a ∷ v, c)) (flat_map-append (λ (x : Visit). cons x.letter (F x)) split.front rest)
        ∙ filter-append (comes_after (a ∷ v, c)) (on split.front) (on rest)
        ∙ ap (λ ps. ps ++ pairs_after (a ∷ v, c) (on rest)) (on_low split.front split.low)
        ∙ on_here split.present x after split.high split.letter (λ h. empty (split.absent h))

  nothing_here : (a : ℕ) (cs : List ℕ) → pairs_after (a ∷ v, c) (alone cs) ≡ []
  unfolding alone
  nothing_here a cs = filter-alone (comes_after (a ∷ v, c)) cs ∙ ap alone (filter-none cs)

lt_is : (m n : ℕ) → is_lt (nat_cmp m n) ≡ nat_lt m n
lt_is m n =
    elim (nat_lt m n) as (λ b. is_lt (cond b Less (cond (m == n) Equal Greater)) ≡ b) [
      | true ↦ refl
      | false ↦ elim (m == n) as (λ e. is_lt (cond e Equal Greater) ≡ false) [ true ↦ refl | false ↦ refl ]
    ]

module _ (c : ℕ) where
  on_longer : (F : Visit → List Pair) (vs : List Visit) →
      pairs_after ([], c) (flat_map (λ (x : Visit). cons x.letter (F x)) vs) ≡ flat_map (λ (x : Visit). cons x.letter (F x)) vs
  on_longer F [] = refl
  on_longer F (y ∷ vs) =
      filter-append (comes_after ([], c)) (cons y.letter (F y)) (flat_map (λ (x : Visit). cons x.letter (F x)) vs)
      ∙ ap (λ ps. ps ++ pairs_after ([], c) (flat_map (λ (x : Visit). cons x.letter (F x)) vs))
      (filter-cons (comes_after ([], c)) y.letter (F y) ∙ ap (cons y.letter) (filter-all (F y)))
      ∙ ap (λ ps. cons y.letter (F y) ++ ps) (on_longer F vs)

  below_longer : (g : Graph) (l : ℕ) (o : Option State) → pairs_after ([], c) (below g l o) ≡ below g l o
  unfolding below
  below_longer g zero o = refl
  below_longer g (suc l) None = refl
  below_longer g (suc l) (Some s) = on_longer (λ x. alone (calls_of x.calls) ++ below g l x.behind) (g l s)

  calls_longer : (cs : List ℕ) → pairs_after ([], c) (alone cs) ≡ alone (filter (λ other. nat_lt c other) cs)
  calls_longer cs = filter-alone (comes_after ([], c)) cs ∙
      ap alone (filter_agree (λ other. is_lt (nat_cmp c other)) (λ other. nat_lt c other) (lt_is c) cs)

  here_longer : (g : Graph) (l : ℕ) (o : Option State) (cs : List ℕ) →
      pairs_after ([], c) (alone cs ++ below g l o) ≡ alone (filter (λ other. nat_lt c other) cs) ++ below g l o
  here_longer g l o cs =
      filter-append (comes_after ([], c)) (alone cs) (below g l o)
      ∙ ap (λ ps. ps ++ pairs_after ([], c) (below g l o)) (calls_longer cs)
      ∙ ap (λ ps. alone (filter (λ other. nat_lt c other) cs) ++ ps) (below_longer g l o)

-- pairs after the letters of a word

cons_all-append : (word : Word) (ps qs : List Pair) → cons_all word (ps ++ qs) ≡ cons_all word ps ++ cons_all word qs
unfolding cons_all
cons_all-append [] ps qs = refl
cons_all-append (a ∷ word) ps qs = ap (cons a) (cons_all-append word ps qs) ∙ cons-append a (cons_all word ps) (cons_all word qs)

cons_all_more : (word : Word) (a : ℕ) (ps : List Pair) → cons_all (word ++ a ∷ []) ps ≡ cons_all word (cons a ps)
unfolding cons_all
cons_all_more [] a ps = refl
cons_all_more (b ∷ word) a ps = ap (cons b) (cons_all_more word a ps)

pairs-under_all : (word : Word) (es : List TrailEvent) → pairs_of (under_all word es) ≡ cons_all word (pairs_of es)
unfolding under_all cons_all
pairs-under_all [] es = refl
pairs-under_all (a ∷ word) es = pairs-under a (under_all word es) ∙ ap (cons a) (pairs-under_all word es)

module _ (g : Graph) (live : Live) (limit : ℕ) (P : State → Type 0) (prunes : Prunes g live limit P) where
  pairs-ahead : (word : Word) (left : List ℕ) (o : Option State) (rests : List (List Visit)) → IfSome o P
      → pairs_of (ahead g live limit word left o rests) ≡ cons_all word (alone left ++ below g (limit - length word) o)
      ++ pairs_of (pending g live limit 0 word rests)
  unfolding ahead
  pairs-ahead word left o rests is =
      let first : List TrailEvent = with_calls left ++ deeper g live (limit - length word) o in
      let rest : List TrailEvent = pending g live limit 0 word rests in
      let short : limit - length word ≤ limit = omega arith in
      pairs-append (under_all word first) rest
      ∙ ap (λ ps. ps ++ pairs_of rest) (pairs-under_all word first
      ∙ ap (cons_all word) (pairs-append (with_calls left) (deeper g live (limit - length word) o)
      ∙ ap (λ ps. ps ++ pairs_of (deeper g live (limit - length word) o)) (pairs-with_calls left)
      ∙ ap (λ ps. alone left ++ ps) (pairs-deeper g live limit P prunes (limit - length word) short o is)))

  -- before the first letter of the pair's word
  pub give_start : (calls : ℕ) (o : Option State) (way : Word) (c : ℕ) → IfSome o P
      → to_give g live limit [] calls o [] way c ≡ pairs_after (way, c) (pairs_of (ahead g live limit [] (calls_of calls) o []))
  unfolding to_give cons_all
  give_start calls o way c is =
      let all : List Pair = alone (calls_of calls) ++ below g (limit - 0) o in
      let none : pairs_of (pending g live limit 0 [] []) ≡ [] = ap pairs_of (nothing_pending g live limit []) in
      ap (λ ps. pairs_after (way, c) all ++ ps) none ∙ append-nil (pairs_after (way, c) all)
      ∙ ap (pairs_after (way, c)) (sym (pairs-ahead [] (calls_of calls) o [] is ∙ ap (λ ps. all ++ ps) none ∙ append-nil all))

  module _ (word : Word) (calls : ℕ) (rests : List (List Visit)) (c : ℕ) where
    -- the pair's word is reached
    pub give_here : (o : Option State) (left : ℕ) → IfSome o P → calls_of left ≡ filter (λ other. nat_lt c other) (calls_of calls)
        → to_give g live limit word calls o rests [] c ≡ pairs_of (ahead g live limit word (calls_of left) o rests)
    unfolding to_give
    give_here o left is kept =
        ap (λ ps. cons_all word ps ++ pairs_of (pending g live limit 0 word rests))
        (here_longer c g (limit - length word) o (calls_of calls) ∙ ap (λ cs. alone cs ++ below g (limit - length word) o) (sym kept))
        ∙ sym (pairs-ahead word (calls_of left) o rests is)

    -- no pair goes on from the word before the pair's word is reached
    pub give_dead : (a : ℕ) (v : Word) →
        to_give g live limit word calls None rests (a ∷ v) c ≡ pairs_of (ahead g live limit word (calls_of 0) None rests)
    unfolding to_give alone
    give_dead a v =
        let l : ℕ = limit - length word in
        let gone : pairs_after (a ∷ v, c) (alone (calls_of calls) ++ below g l None) ≡ alone (calls_of 0) ++ below g l None =
        filter-append (comes_after (a ∷ v, c)) (alone (calls_of calls)) (below g l None)
        ∙ ap (λ ps. ps ++ pairs_after (a ∷ v, c) (below g l None)) (nothing_here v c a (calls_of calls))
        ∙ ap (pairs_after (a ∷ v, c)) (below_none g l) ∙ sym (ap (λ cs. alone cs ++ below g l None) no_calls ∙ below_none g l) in
        ap (λ ps. cons_all word ps ++ pairs_of (pending g live limit 0 word rests)) gone ∙ sym (pairs-ahead word (calls_of 0) None rests tt)

    nothing_on : (n : ℕ) (x : Visit) → (x.calls ≡ 0) × (x.behind ≡ None) → alone (calls_of x.calls) ++ below g n x.behind ≡ []
    unfolding alone
    nothing_on n x none =
        ap (λ k. alone (calls_of k) ++ below g n x.behind) none.0 ∙ ap (λ cs. alone cs ++ below g n x.behind) no_calls
        ∙ ap (below g n) none.1 ∙ below_none g n

    rows_split : (n a : ℕ) (v : Word) (x : Visit) (after vs : List Visit) → IsSplit a vs x after
        → pairs_after (a ∷ v, c) (rows g n vs) ≡ cons a (pairs_after (v, c) (alone (calls_of x.calls) ++ below g n x.behind))
        ++ rows g n after
    unfolding rows
    rows_split n a v x after vs split =
        on_split v c (λ y. alone (calls_of y.calls) ++ below g n y.behind) a vs x after split (nothing_on n x)

    -- one letter more of the pair's word
    pub give_on : (s : State) (a : ℕ) (v : Word) (x : Visit) (after : List Visit) (o : Option State) → length rests ≡ length word →
        length word < limit
        → IsSplit a (g (limit - suc (length word)) s) x after → AllByRecursion (λ v. IfSome v.behind P) after
        → below g (limit - suc (length word)) o ≡ below g (limit - suc (length word)) x.behind
        → to_give g live limit word calls (Some s) rests (a ∷ v) c ≡ to_give g live limit (word ++ a ∷ []) x.calls o (rests ++ after ∷ []) v
        c
    unfolding to_give
    give_on s a v x after o even short split stays same =
        let n : ℕ = limit - suc (length word) in
        let F : Visit → List Pair = λ y. alone (calls_of y.calls) ++ below g n y.behind in
        let inner : List Pair = pairs_after (v, c) (F x) in
        let others : List Pair = rows g n after in
        let rest : List TrailEvent = pending g live limit 0 word rests in
        let more : limit - length word ≡ suc n = omega (arith, short) in
        let zero_plus : limit - suc (0 + length word) ≡ n = omega arith in
        let few : n ≤ limit = omega arith in
        let long : limit - length (word ++ a ∷ []) ≡ n = omega (arith, length-append word (a ∷ [])) in
        let framed : length (rests ++ after ∷ []) ≡ suc (length word) = omega (arith, even, length-append rests (after ∷ [])) in
        let first : pairs_after (a ∷ v, c) (alone (calls_of calls) ++ below g (limit - length word) (Some s)) ≡ cons a inner ++ others =
        filter-append (comes_after (a ∷ v, c)) (alone (calls_of calls)) (below g (limit - length word) (Some s))
        ∙ ap (λ ps. ps ++ pairs_after (a ∷ v, c) (below g (limit - length word) (Some s))) (nothing_here v c a (calls_of calls))
        ∙ ap (λ l. pairs_after (a ∷ v, c) (below g l (Some s))) more
        ∙ ap (pairs_after (a ∷ v, c)) (below_some g n s)
        ∙ rows_split n a v x after (g n s) split in
        let left : pairs_of (pending g live limit 0 (word ++ a ∷ []) (rests ++ after ∷ [])) ≡ cons_all word others ++ pairs_of rest =
        ap pairs_of (pending_back g live limit 0 word a (rests ++ after ∷ []) framed ∙ pending_push g live limit 0 word rests after even)
        ∙ pairs-append (under_all word (branches g live (limit - suc (0 + length word)) after)) rest
        ∙ ap (λ ps. ps ++ pairs_of rest) (pairs-under_all word (branches g live (limit - suc (0 + length word)) after)
        ∙ ap (λ m. cons_all word (pairs_of (branches g live m after))) zero_plus
        ∙ ap (cons_all word) (pairs-branches g live limit P prunes n few after stays)) in
        let shown : pairs_after (v, c) (alone (calls_of x.calls) ++ below g (limit - length (word ++ a ∷ [])) o) ≡ inner =
        ap (λ l. pairs_after (v, c) (alone (calls_of x.calls) ++ below g l o)) long ∙
        ap (λ ps. pairs_after (v, c) (alone (calls_of x.calls) ++ ps)) same in
        ap (λ ps. cons_all word ps ++ pairs_of rest) first
        ∙ ap (λ ps. ps ++ pairs_of rest) (cons_all-append word (cons a inner) others)
        ∙ append_assoc (cons_all word (cons a inner)) (cons_all word others) (pairs_of rest)
        ∙ ap (λ ps. cons_all word (cons a inner) ++ ps) (sym left)
        ∙ ap (λ ps. ps ++ pairs_of (pending g live limit 0 (word ++ a ∷ []) (rests ++ after ∷ []))) (sym (cons_all_more word a inner))
        ∙ ap (λ ps. cons_all (word ++ a ∷ []) ps ++ pairs_of (pending g live limit 0 (word ++ a ∷ []) (rests ++ after ∷ []))) (sym shown)
