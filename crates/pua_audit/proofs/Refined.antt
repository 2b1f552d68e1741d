-- The pairs of a graph are those of the world that it stands for.
use Rattle.pua_audit.proofs.Common.{ℕ, zero, suc, ◌+◌, ◌<◌, ◌≤◌, ◌≡◌, List, [], ◌∷◌, ◌++◌, Option, Some, None, true, false, cond, refl, ap}
use Rattle.pua_audit.proofs.Common.{arith, sym, ◌∙◌, map, length, get_or, option_map, append_assoc, inl, inr, subst, map-append, cases_eq}
use Rattle.pua_audit.proofs.Common.{ne_eqb, flat_map, IfSome, range_with_len, AllByRecursion, bit_of, Call, Word, Pair, Judge, WordEnd}
use Rattle.pua_audit.proofs.Common.{Start, Below, allowed_at, calls_of, State, Visit, named_in, IsRight, HasJudgedVisits, IsKnown}
use Rattle.pua_audit.proofs.Common.{pair_in_numbers, pair_in_letters}
use Rattle.pua_audit.proofs.CutReach as lines
use Rattle.pua_steps.specs.Graph as graph
use Rattle.pua_audit.specs.Graphs.{is_visited, RisingVisits, IsMissing}
use Rattle.pua_audit.specs.Graphs.{GraphsReach}

pub map-flat_map : {A B C : Type 0} (f : B → C) (g : A → List B) (xs : List A) → map f (flat_map g xs) ≡ flat_map (λ x. map f (g x)) xs
map-flat_map f g [] = refl
map-flat_map f g (x ∷ xs) = map-append f (g x) (flat_map g xs) ∙ ap (λ ys. map f (g x) ++ ys) (map-flat_map f g xs)

-- a list by its places
pub by_places : {B : Type 0} (f : List ℕ → List B) (xs front : List (List ℕ)) (k : ℕ) → k ≡ length front →
    flat_map f xs ≡ flat_map (λ i. f (get_or (front ++ xs) i [])) (range_with_len k (length xs))
by_places f [] front k e = refl
by_places f (x ∷ xs) front k e =
    let here : get_or (front ++ x ∷ xs) k [] ≡ x = at_front front k e in
    let next : k + 1 ≡ length (front ++ x ∷ []) = omega (arith, e, length_more front) in
    ap (λ y. f y ++ flat_map f xs) (sym here)
    ∙ ap (λ ys. f (get_or (front ++ x ∷ xs) k []) ++ ys) (by_places f xs (front ++ x ∷ []) (k + 1) next
    ∙ ap (λ zs. flat_map (λ i. f (get_or zs i [])) (range_with_len (k + 1) (length xs))) (append_assoc front (x ∷ []) xs))
  where
    at_front : (front : List (List ℕ)) (k : ℕ) → k ≡ length front → get_or (front ++ x ∷ xs) k [] ≡ x
    at_front [] zero e = refl
    at_front [] (suc k) e = absurd (omega (arith, e))
    at_front (y ∷ front) zero e = absurd (omega (arith, e))
    at_front (y ∷ front) (suc k) e = at_front front k (omega (arith, e))

    length_more : (ys : List (List ℕ)) → length (ys ++ x ∷ []) ≡ length ys + 1
    length_more [] = omega arith
    length_more (y ∷ ys) = omega (arith, length_more ys)

-- what is empty but at some letters, letter by letter
module _ {B : Type 0} (f : ℕ → List B) (h : Visit → List B) where
  not_above : (i next letters : ℕ) (vs : List Visit) → i < next → RisingVisits next letters vs → is_visited vs i ≡ false
  not_above i next letters [] low rises = refl
  not_above i next letters (v ∷ vs) low rises =
      ap (λ b. cond b true (is_visited vs i)) (ne_eqb v.letter i (λ e. omega (arith, e, low, rises.0))) ∙
      not_above i (suc v.letter) letters vs (omega (arith, low, rises.0)) rises.2

  pub from_letters : (n next letters : ℕ) (vs : List Visit) → next + n ≡ letters → RisingVisits next letters vs →
      AllByRecursion (λ v. f v.letter ≡ h v) vs → ((i : ℕ) → next ≤ i → i < letters → is_visited vs i ≡ false → f i ≡ [])
      → flat_map f (range_with_len next n) ≡ flat_map h vs
  from_letters zero next letters [] sum rises all none = refl
  from_letters zero next letters (v ∷ vs) sum rises all none = absurd (omega (arith, sum, rises.0, rises.1))
  from_letters (suc n) next letters [] sum rises all none =
      ap (λ xs. xs ++ flat_map f (range_with_len (next + 1) n)) (none next (omega arith) (omega (arith, sum)) refl)
      ∙ from_letters n (next + 1) letters [] (omega (arith, sum)) tt tt (λ i low high gone. none i (omega (arith, low)) high gone)
  from_letters (suc n) next letters (v ∷ vs) sum rises all none =
      elim (cases_eq v.letter next) [
        | inl e ↦
            let more : suc v.letter ≡ next + 1 = omega (arith, e) in
            ap (λ i. f i ++ flat_map f (range_with_len (next + 1) n)) (sym e)
            ∙ ap (λ xs. xs ++ flat_map f (range_with_len (next + 1) n)) all.0
            ∙ ap (λ xs. h v ++ xs) (from_letters n (next + 1) letters vs (omega (arith, sum))
            (subst (λ m. RisingVisits m letters vs) more rises.2) all.1
            (λ i low high gone. none i (omega (arith, low)) high
            (ap (λ b. cond b true (is_visited vs i)) (ne_eqb v.letter i (λ same. omega (arith, same, e, low))) ∙ gone)))
        | inr apart ↦
            let above : next < v.letter = omega (arith, apart, rises.0) in
            let gone : is_visited (v ∷ vs) next ≡ false = not_above next (next + 1) letters (v ∷ vs) (omega arith) (
              omega (arith, above),
              rises.1,
              rises.2,
            ) in
            ap (λ xs. xs ++ flat_map f (range_with_len (next + 1) n)) (none next (omega arith) (omega (arith, sum)) gone)
            ∙ from_letters n (next + 1) letters (v ∷ vs) (omega (arith, sum)) (
              omega (arith, above),
              rises.1,
              rises.2,
            ) all (λ i low high gone. none i (omega (arith, low)) high gone)
      ]

-- pairs behind a letter, on both sides
numbered_cons : (a : List ℕ) (ps : List Pair) →
    map pair_in_numbers (lines.cons a ps) ≡ map (λ (p : Word × ℕ). (a ∷ p.0, p.1)) (map pair_in_numbers ps)
unfolding lines.cons
numbered_cons a [] = refl
numbered_cons a (p ∷ ps) = ap (λ qs. (a ∷ p.0, bit_of p.1) ∷ qs) (numbered_cons a ps)

spelled_cons : (letters : List (List ℕ)) (i : ℕ) (ps : List graph.Pair) →
    map (pair_in_letters letters) (graph.cons i ps) ≡ map (λ (p : Word × ℕ). (get_or letters i [] ∷ p.0, p.1))
    (map (pair_in_letters letters) ps)
unfolding graph.cons
spelled_cons letters i [] = refl
spelled_cons letters i (p ∷ ps) =
    ap (λ qs. (get_or letters i [] ∷ map (λ i. get_or letters i []) p.0, p.1) ∷ qs) (spelled_cons letters i ps)

numbered_alone : (letters : List (List ℕ)) (cs : List Call) (ns : List ℕ) → map bit_of cs ≡ ns →
    map pair_in_numbers (lines.alone cs) ≡ map (pair_in_letters letters) (graph.alone ns)
unfolding lines.alone graph.alone
numbered_alone letters cs ns e = both cs ∙ ap (λ ms. map (pair_in_letters letters) (map (λ (c : ℕ). ([], c)) ms)) e
  where
    both : (cs : List Call) →
        map pair_in_numbers (map (λ (c : Call). ([], c)) cs) ≡ map (pair_in_letters letters) (map (λ (c : ℕ). ([], c)) (map bit_of cs))
    both [] = refl
    both (c ∷ cs) = ap (λ ps. ([], bit_of c) ∷ ps) (both cs)

pub all_pairs : {A : Type 0} (P Q R : A → Type 0) → ((x : A) → P x → Q x → R x) → (xs : List A) → AllByRecursion P xs →
    AllByRecursion Q xs → AllByRecursion R xs
all_pairs P Q R leads [] p q = tt
all_pairs P Q R leads (x ∷ xs) p q = (leads x p.0 q.0, all_pairs P Q R leads xs p.1 q.1)

module _ (w : Judge) (letters : List (List ℕ)) (names : List ℕ) (g : State → List Visit) (In : State → Type 0) (stands : (s : State) →
    In s → HasJudgedVisits w letters names g In s) where
  abbrev Same : ℕ → WordEnd → Option State → Type 0
  Same l x o = map pair_in_numbers (lines.below w letters l x) ≡ map (pair_in_letters letters) (graph.below (λ _. g) l o)

  graph_none : (l : ℕ) → graph.below (λ _. g) l None ≡ []
  unfolding graph.below
  graph_none zero = refl
  graph_none (suc l) = refl

  graph_some : (l : ℕ) (s : State) → graph.below (λ _. g) (suc l) (Some s) ≡ graph.rows (λ _. g) l (g s)
  unfolding graph.below graph.rows
  graph_some l s = refl

  graph_end : (o : Option State) → graph.below (λ _. g) zero o ≡ []
  unfolding graph.below
  graph_end o = refl

  -- the pairs on a letter and behind it
  abbrev on_world : ℕ → State → ℕ → List (Word × ℕ)
  on_world l s i = map pair_in_numbers (lines.cons (get_or letters i []) (lines.here w (Below (named_in names s) (get_or letters i []))
      ++ lines.below w letters l (Below (named_in names s) (get_or letters i []))))

  abbrev on_graph : ℕ → Visit → List (Word × ℕ)
  on_graph l v = map (pair_in_letters letters) (graph.cons v.letter (graph.alone (calls_of v.calls) ++ graph.below (λ _. g) l v.behind))

  on_letter : (l : ℕ) → ((x : WordEnd) (o : Option State) → w.step x ≡ option_map (named_in names) o → IfSome o In → Same l x o) →
      (s : State) (v : Visit) → IsRight w letters names s v → IfSome v.behind In → on_world l s v.letter ≡ on_graph l v
  on_letter l each s v is inside =
      let a : List ℕ = get_or letters v.letter [] in
      let x : WordEnd = Below (named_in names s) a in
      numbered_cons a (lines.here w x ++ lines.below w letters l x)
      ∙ ap (map (λ (p : Word × ℕ). (a ∷ p.0, p.1))) (map-append pair_in_numbers (lines.here w x) (lines.below w letters l x)
      ∙ ap (λ ps. ps ++ map pair_in_numbers (lines.below w letters l x)) (numbered_alone letters (allowed_at w x) (calls_of v.calls)
      is.calls)
      ∙ ap (λ ps. map (pair_in_letters letters) (graph.alone (calls_of v.calls)) ++ ps) (each x v.behind is.behind inside)
      ∙ sym (map-append (pair_in_letters letters) (graph.alone (calls_of v.calls)) (graph.below (λ _. g) l v.behind)))
      ∙ sym (spelled_cons letters v.letter (graph.alone (calls_of v.calls) ++ graph.below (λ _. g) l v.behind))

  off_letter : (l : ℕ) (s : State) (i : ℕ) → IsMissing w letters names s i → on_world l s i ≡ []
  unfolding lines.alone lines.cons
  off_letter l s i is =
      let x : WordEnd = Below (named_in names s) (get_or letters i []) in
      ap (λ (cs : List Call). map pair_in_numbers (lines.cons (get_or letters i []) (lines.alone cs ++ lines.below w letters l x))) is.calls
      ∙ ap (λ ps. map pair_in_numbers (lines.cons (get_or letters i []) ps)) (lines.below_none w letters l x is.behind)

  rows_same : (l : ℕ) → ((x : WordEnd) (o : Option State) → w.step x ≡ option_map (named_in names) o → IfSome o In → Same l x o) →
      (s : State) → In s → map pair_in_numbers (lines.rows w letters l (named_in names s) letters) ≡ map (pair_in_letters letters)
      (graph.rows (λ _. g) l (g s))
  unfolding lines.rows graph.rows
  rows_same l each s is =
      let right = stands s is in
      map-flat_map pair_in_numbers
      (λ a. lines.cons a (lines.here w (Below (named_in names s) a) ++ lines.below w letters l (Below (named_in names s) a))) letters
      ∙ by_places (λ a. map pair_in_numbers
      (lines.cons a (lines.here w (Below (named_in names s) a) ++ lines.below w letters l (Below (named_in names s) a)))) letters [] 0
      refl
      ∙ from_letters (on_world l s) (on_graph l) (length letters) 0 (length letters) (g s) (omega arith) right.rises
      (all_pairs (λ v. IsRight w letters names s v) (λ v. IfSome v.behind In) (λ v. on_world l s v.letter ≡ on_graph l v)
      (λ v a b. on_letter l each s v a b) (g s) right.right right.closed)
      (λ i low high gone. off_letter l s i (right.missing i high gone))
      ∙ sym (map-flat_map (pair_in_letters letters)
      (λ v. graph.cons v.letter (graph.alone (calls_of v.calls) ++ graph.below (λ _. g) l v.behind)) (g s))

  below_same : (l : ℕ) (x : WordEnd) (o : Option State) → w.step x ≡ option_map (named_in names) o → IfSome o In → Same l x o
  below_same zero x o step is = ap (map pair_in_numbers) (lines.below_end w letters x) ∙
      sym (ap (map (pair_in_letters letters)) (graph_end o))
  below_same (suc l) x None step is = ap (map pair_in_numbers) (lines.below_none w letters (suc l) x step) ∙
      sym (ap (map (pair_in_letters letters)) (graph_none (suc l)))
  below_same (suc l) x (Some s) step is =
      ap (map pair_in_numbers) (lines.below_some w letters l (named_in names s) x step) ∙ rows_same l (below_same l) s is ∙
      sym (ap (map (pair_in_letters letters)) (graph_some l s))

pub graphs_reach : GraphsReach
graphs_reach w letters names g calls base limit is =
    ap (map pair_in_numbers) (lines.reach_is w letters limit)
    ∙ map-append pair_in_numbers (lines.here w Start) (lines.below w letters limit Start)
    ∙ ap (λ ps. ps ++ map pair_in_numbers (lines.below w letters limit Start)) (numbered_alone letters (allowed_at w Start) (calls_of calls)
    is.calls)
    ∙ ap (λ ps. map (pair_in_letters letters) (graph.alone (calls_of calls)) ++ ps) (below_same w letters names g (IsKnown names) is.states
    limit Start base is.base is.begins)
    ∙ sym (map-append (pair_in_letters letters) (graph.alone (calls_of calls)) (graph.below (λ _. g) limit base))

-- the pairs that go on from a state
pub rows_alike : (w : Judge) (letters : List (List ℕ)) (names : List ℕ) (g : State → List Visit) (In : State → Type 0) →
    ((s : State) → In s → HasJudgedVisits w letters names g In s) → (l : ℕ) (s : State) → In s
    → map pair_in_numbers (lines.rows w letters l (named_in names s) letters) ≡ map (pair_in_letters letters)
    (graph.below (λ _. g) (suc l) (Some s))
rows_alike w letters names g In stands l s is = rows_same w letters names g In stands l (below_same w letters names g In stands l) s is ∙
    sym (ap (map (pair_in_letters letters)) (graph_some w letters names g In stands l s))
