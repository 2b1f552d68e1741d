-- How many visits may stand before the first pair.
use Rattle.pua_steps.proofs.Common.{ℕ, zero, suc, ◌+◌, ◌-◌, ◌*◌, ◌≤◌, ◌≡◌, List, [], ◌∷◌, ◌++◌, Option, Some, None, Bool, true, false, cond}
use Rattle.pua_steps.proofs.Common.{refl, ap, arith, sym, ◌∙◌, length, suc-mul, mul-le-mul_right, flat_map, IfSome, AllByRecursion}
use Rattle.pua_steps.proofs.Common.{calls_of, Graph, Word, below, some_pair, TrailEvent, Live, pairs_of, under, under_all, with_calls}
use Rattle.pua_steps.proofs.Common.{deeper, branches, pending, ahead, looks, State, Visit}
use Rattle.pua_steps.proofs.TrailPairs.{Prunes, pairs-deeper}

-- the visits before the first pair, or all of them
abbrev pub lead : List TrailEvent → ℕ
lead [] = 0
lead (None ∷ es) = suc (lead es)
lead (Some p ∷ es) = 0

abbrev pub has_pair : List TrailEvent → Bool
has_pair [] = false
has_pair (None ∷ es) = has_pair es
has_pair (Some p ∷ es) = true

-- without a pair there are at most r visits, and before the first one at most r and f
pub record Gap (es : List TrailEvent) (r : ℕ) (f : ℕ) : Type 0 where
  pub dry : has_pair es ≡ false → lead es ≤ r
  pub wet : lead es ≤ r + f

has_pair-append : (xs ys : List TrailEvent) → has_pair xs ≡ false → has_pair (xs ++ ys) ≡ has_pair ys
has_pair-append [] ys h = refl
has_pair-append (None ∷ xs) ys h = has_pair-append xs ys h
has_pair-append (Some p ∷ xs) ys h = absurd cc

has_pair-first : (xs ys : List TrailEvent) → has_pair (xs ++ ys) ≡ false → has_pair xs ≡ false
has_pair-first [] ys h = refl
has_pair-first (None ∷ xs) ys h = has_pair-first xs ys h
has_pair-first (Some p ∷ xs) ys h = h

lead-dry : (xs ys : List TrailEvent) → has_pair xs ≡ false → lead (xs ++ ys) ≡ lead xs + lead ys
lead-dry [] ys h = omega arith
lead-dry (None ∷ xs) ys h = omega (arith, lead-dry xs ys h)
lead-dry (Some p ∷ xs) ys h = absurd cc

lead-wet : (xs ys : List TrailEvent) → has_pair xs ≡ true → lead (xs ++ ys) ≡ lead xs
lead-wet [] ys h = absurd cc
lead-wet (None ∷ xs) ys h = ap suc (lead-wet xs ys h)
lead-wet (Some p ∷ xs) ys h = refl

gap-append : (xs ys : List TrailEvent) (r s f : ℕ) → Gap xs r f → Gap ys s f → Gap (xs ++ ys) (r + s) f
gap-append xs ys r s f first second = record {
  dry = λ none.
      let left : has_pair xs ≡ false = has_pair-first xs ys none in
      let right : has_pair ys ≡ false = sym (has_pair-append xs ys left) ∙ none in
      omega (arith, lead-dry xs ys left, first.dry left, second.dry right);
  wet = elim (has_pair xs) as (λ b. has_pair xs ≡ b → lead (xs ++ ys) ≤ (r + s) + f) [
    | true ↦ λ e. omega (arith, lead-wet xs ys e, first.wet)
    | false ↦ λ e. omega (arith, lead-dry xs ys e, first.dry e, second.wet)
  ] refl;
}

gap-nil : (r f : ℕ) → Gap [] r f
gap-nil r f = record { dry = λ _. omega arith; wet = omega arith }

gap-look : (es : List TrailEvent) (r f : ℕ) → Gap es r f → Gap (None ∷ es) (suc r) f
gap-look es r f gap = record { dry = λ none. omega (arith, gap.dry none); wet = omega (arith, gap.wet) }

gap-more : (es : List TrailEvent) (r s f g : ℕ) → r ≤ s → f ≤ g → Gap es r f → Gap es s g
gap-more es r s f g low high gap = record { dry = λ none. omega (arith, gap.dry none, low); wet = omega (arith, gap.wet, low, high) }

lead-under : (a : ℕ) (es : List TrailEvent) → lead (under a es) ≡ lead es
unfolding under
lead-under a [] = refl
lead-under a (None ∷ es) = ap suc (lead-under a es)
lead-under a (Some p ∷ es) = refl

has_pair-under : (a : ℕ) (es : List TrailEvent) → has_pair (under a es) ≡ has_pair es
unfolding under
has_pair-under a [] = refl
has_pair-under a (None ∷ es) = has_pair-under a es
has_pair-under a (Some p ∷ es) = refl

gap-under : (a : ℕ) (es : List TrailEvent) (r f : ℕ) → Gap es r f → Gap (under a es) r f
gap-under a es r f gap =
    record {
      dry = λ none. omega (arith, lead-under a es, gap.dry (sym (has_pair-under a es) ∙ none));
      wet = omega (arith, lead-under a es, gap.wet);
    }

gap-under_all : (word : Word) (es : List TrailEvent) (r f : ℕ) → Gap es r f → Gap (under_all word es) r f
unfolding under_all
gap-under_all [] es r f gap = gap
gap-under_all (a ∷ word) es r f gap = gap-under a (under_all word es) r f (gap-under_all word es r f gap)

gap-with_calls : (cs : List ℕ) (f : ℕ) → Gap (with_calls cs) 0 f
unfolding with_calls
gap-with_calls [] f = gap-nil 0 f
gap-with_calls (c ∷ cs) f = record { dry = λ _. omega arith; wet = omega arith }

no_pairs : (es : List TrailEvent) → has_pair es ≡ false → pairs_of es ≡ []
no_pairs [] h = refl
no_pairs (None ∷ es) h = no_pairs es h
no_pairs (Some p ∷ es) h = absurd cc

-- where a state is live, some pair comes after it; and no state has more letters than so many
pub record Fits (g : Graph) (live : Live) (limit most : ℕ) (P : State → Type 0) : Type 0 where
  pub prunes : Prunes g live limit P
  pub lives : (l : ℕ) (s : State) → suc l ≤ limit → P s → live (suc l) s ≡ true → some_pair (below g (suc l) (Some s)) ≡ true
  pub few : (l : ℕ) (s : State) → P s → length (g l s) ≤ most

module _ (g : Graph) (live : Live) (limit most : ℕ) (P : State → Type 0) (fits : Fits g live limit most P) where
  gap-flat : (l f : ℕ) → ((o : Option State) → IfSome o P → Gap (deeper g live l o) 0 f) → (vs : List Visit) →
      AllByRecursion (λ v. IfSome v.behind P) vs
      → Gap (flat_map (λ v. None ∷ under v.letter (with_calls (calls_of v.calls) ++ deeper g live l v.behind)) vs) (length vs) f
  gap-flat l f each [] all = gap-nil 0 f
  gap-flat l f each (v ∷ vs) all =
      let word : List TrailEvent = with_calls (calls_of v.calls) ++ deeper g live l v.behind in
      let rest : List TrailEvent = flat_map (λ v. None ∷ under v.letter (with_calls (calls_of v.calls) ++ deeper g live l v.behind)) vs in
      let one : Gap word (0 + 0) f =
      gap-append (with_calls (calls_of v.calls)) (deeper g live l v.behind) 0 0 f (gap-with_calls (calls_of v.calls) f)
      (each v.behind all.0) in
      let both = gap-append (None ∷ under v.letter word) rest (suc (0 + 0)) (length vs) f
      (gap-look (under v.letter word) (0 + 0) f (gap-under v.letter word (0 + 0) f one)) (gap-flat l f each vs all.1) in
      gap-more (None ∷ (under v.letter word ++ rest)) (suc (0 + 0) + length vs) (length (v ∷ vs)) f f (omega arith) (omega arith) both

  live_has : (l : ℕ) (s : State) → suc l ≤ limit → P s → live (suc l) s ≡ true → has_pair (deeper g live (suc l) (Some s)) ≡ false → ⊥
  live_has l s short is lives none =
      let some : some_pair (below g (suc l) (Some s)) ≡ true = fits.lives l s short is lives in
      let empty : below g (suc l) (Some s) ≡ [] = sym (pairs-deeper g live limit P fits.prunes (suc l) short (Some s) is) ∙
      no_pairs (deeper g live (suc l) (Some s)) none in
      let bad : true ≡ false = sym some ∙ ap some_pair empty in cc

  gap-deeper : (l : ℕ) → l ≤ limit → (o : Option State) → IfSome o P → Gap (deeper g live l o) 0 (l * most)
  unfolding deeper
  gap-deeper zero short o is = gap-nil 0 (0 * most)
  gap-deeper (suc l) short None is = gap-nil 0 (suc l * most)
  gap-deeper (suc l) short (Some s) is =
      let all : List TrailEvent = flat_map (λ v. None ∷ under v.letter (with_calls (calls_of v.calls) ++ deeper g live l v.behind)) (g l s)
      in
      let gap = gap-flat l (l * most) (gap-deeper l (omega (arith, short))) (g l s) (fits.prunes.closed l s is) in
      elim (live (suc l) s) as (λ b. live (suc l) s ≡ b → Gap (cond b all []) 0 (suc l * most)) [
        | true ↦ λ e. record {
          dry = λ none. absurd (live_has l s short is e (ap (λ b. has_pair (cond b all [])) e ∙ none));
          wet = omega (arith, gap.wet, fits.few l s is, suc-mul l most);
        }
        | false ↦ λ _. gap-nil 0 (suc l * most)
      ] refl

  gap-branches : (l : ℕ) → l ≤ limit → (vs : List Visit) → AllByRecursion (λ v. IfSome v.behind P) vs →
      Gap (branches g live l vs) (length vs) (l * most)
  unfolding branches
  gap-branches l short vs all = gap-flat l (l * most) (gap-deeper l short) vs all

  -- what an open state has left
  pub record IsRest (vs : List Visit) : Type 0 where
    pub few : length vs ≤ most
    pub stays : AllByRecursion (λ v. IfSome v.behind P) vs

  gap-pending : (depth : ℕ) (word : Word) (rests : List (List Visit)) → AllByRecursion IsRest rests →
      Gap (pending g live limit depth word rests) (length rests * most) (limit * most)
  unfolding pending
  gap-pending depth word [] all = gap-nil (0 * most) (limit * most)
  gap-pending depth [] (vs ∷ rests) all =
      gap-more (branches g live (limit - suc depth) vs) (length vs) (suc (length rests) * most) ((limit - suc depth) * most) (limit * most)
      (omega (arith, suc-mul (length rests) most, all.0.few)) (mul-le-mul_right most (omega arith))
      (gap-branches (limit - suc depth) (omega arith) vs all.0.stays)
  gap-pending depth (a ∷ word) (vs ∷ rests) all =
      let top = gap-more (branches g live (limit - suc depth) vs) (length vs) most ((limit - suc depth) * most) (limit * most) all.0.few
      (mul-le-mul_right most (omega arith)) (gap-branches (limit - suc depth) (omega arith) vs all.0.stays) in
      let low = gap-under a (pending g live limit (suc depth) word rests) (length rests * most) (limit * most)
      (gap-pending (suc depth) word rests all.1) in
      gap-more _ (length rests * most + most) (suc (length rests) * most) (limit * most) (limit * most) (omega (
        arith,
        suc-mul (length rests) most,
      )) (omega arith)
      (gap-append (under a (pending g live limit (suc depth) word rests)) (branches g live (limit - suc depth) vs) (length rests * most)
      most (limit * most) low top)

  gap-ahead : (word : Word) (left : List ℕ) (o : Option State) (rests : List (List Visit)) → IfSome o P → AllByRecursion IsRest rests →
      Gap (ahead g live limit word left o rests) (length rests * most) (limit * most)
  unfolding ahead
  gap-ahead word left o rests is all =
      let here : List TrailEvent = with_calls left ++ deeper g live (limit - length word) o in
      let deep = gap-more (deeper g live (limit - length word) o) 0 0 ((limit - length word) * most) (limit * most) (omega arith)
      (mul-le-mul_right most (omega arith)) (gap-deeper (limit - length word) (omega arith) o is) in
      let first = gap-under_all word here (0 + 0) (limit * most) (gap-append (with_calls left) (deeper g live (limit - length word) o) 0 0
      (limit * most) (gap-with_calls left (limit * most)) deep) in
      gap-more _ ((0 + 0) + length rests * most) (length rests * most) (limit * most) (limit * most) (omega arith) (omega arith)
      (gap-append (under_all word here) (pending g live limit 0 word rests) (0 + 0) (length rests * most) (limit * most) first
      (gap-pending 0 word rests all))

  -- visits before a pair, or before the end
  lead-looks : (n : ℕ) (es : List TrailEvent) → lead (looks n es) ≡ n + lead es
  unfolding looks
  lead-looks zero es = zero_plus (lead es)
    where
      zero_plus : (m : ℕ) → m ≡ 0 + m
      zero_plus m = omega arith
  lead-looks (suc n) es = ap suc (lead-looks n es) ∙ moved n (lead es)
    where
      moved : (n m : ℕ) → suc (n + m) ≡ suc n + m
      moved n m = omega arith

  pub few_visits : (word : Word) (left : List ℕ) (o : Option State) (rests : List (List Visit)) (n : ℕ) (es : List TrailEvent) →
      IfSome o P → AllByRecursion IsRest rests → length rests ≤ limit
      → ahead g live limit word left o rests ≡ looks n es → n ≤ 2 * (limit * most)
  few_visits word left o rests n es is all short e =
      omega (arith, (gap-ahead word left o rests is all).wet, ap lead e, lead-looks n es, mul-le-mul_right most short)
