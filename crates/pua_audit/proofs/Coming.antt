-- What a call of the walk leaves of the pairs that are still to come, and of the path of its word.
use Rattle.pua_audit.proofs.Common.{ℕ, suc, ◌+◌, ◌*◌, ◌<◌, ◌≤◌, ◌≡◌, List, [], ◌∷◌, ◌++◌, refl, ap, arith, sym, ◌∙◌, subst, length, get_or}
use Rattle.pua_audit.proofs.Common.{map, take, min, zero, vec_capacity, mul-le, AllByRecursion, Word, word_of, Call}
use Rattle.pua_audit.proofs.Common.{pairs_at, IsPair, Steps, Result, Ok, Err}
use Rattle.std.specs.Result.{IsOk, OnErr}
use Rattle.std.proofs.lemmas.List.{take_more, length-take}
use Rattle.pua_audit.specs.WordPaths.{IsPathAlong, IsPathOf}
use Rattle.pua_audit.specs.declared.path.WordPath.{WordPath}
use Rattle.pua_audit.proofs.Moves.{all_at_index, word_of-push}
use Rattle.pua_audit.proofs.Spelled.{IsSpelled, room_for}
use Rattle.pua_audit.proofs.WordPaths.{front_stays, take_whole}
use Rattle.pua_audit.specs.Coming.{AreReady, IsLine, call_at, walk_word, with_word, to_come}
use Rattle.pua_audit.specs.declared.pairs.Pairs.{Pairs}
use Rattle.pua_steps.specs.Graph as graph
use Rattle.pua_steps.specs.Ready as steps
use Rattle.pua_steps.specs.Ready.{IsSameWalk, IsUnchanged}
use Rattle.pua_steps.specs.Trail.{on_word, pairs_of}
use Rattle.pua_steps.specs.declared.walk.Walk.{Walk}

all_taken : (P : ℕ → Type 0) (k : ℕ) (xs : List ℕ) → AllByRecursion P xs → AllByRecursion P (take k xs)
all_taken P zero [] all = tt
all_taken P zero (x ∷ xs) all = tt
all_taken P (suc k) [] all = tt
all_taken P (suc k) (x ∷ xs) all = (all.0, all_taken P k xs all.1)

word_of-take : (letters : List (List ℕ)) (k : ℕ) (word : List ℕ) → take k (word_of letters word) ≡ word_of letters (take k word)
unfolding word_of
word_of-take letters zero [] = refl
word_of-take letters zero (i ∷ word) = refl
word_of-take letters (suc k) [] = refl
word_of-take letters (suc k) (i ∷ word) = ap (λ w. get_or letters i [] ∷ w) (word_of-take letters k word)

-- the path of no letter is that of the front of any word
pub along_none : (letters : List (List ℕ)) (word : List ℕ) (p : WordPath) → IsPathOf [] p → IsPathAlong letters word p
unfolding word_of
along_none letters word p is =
    let none : 0 ≡ length p.starts.items = sym (ap length is.starts) in
    record {
      few = omega (arith, none);
      path =
          subst (λ n. IsPathOf (word_of letters (take n word)) p) none (subst (λ (w : List ℕ). IsPathOf (word_of letters w) p)
          (sym (take_none word)) is);
    }
  where
    take_none : (word : List ℕ) → take 0 word ≡ []
    take_none [] = refl
    take_none (i ∷ word) = refl

-- one letter more is in the path
pub along_push : (letters : List (List ℕ)) (word : List ℕ) (p q : WordPath) (a : List ℕ) → IsPathAlong letters word p →
    length p.starts.items < length word → get_or letters (get_or word (length p.starts.items) 0) [] ≡ a
    → ((w : Word) → IsPathOf w p → IsPathOf (w ++ a ∷ []) q) → length q.starts.items ≡ length p.starts.items + 1 →
    IsPathAlong letters word q
along_push letters word p q a is low letter add more =
    let k : ℕ = length p.starts.items in
    let same : word_of letters (take (length q.starts.items) word) ≡ word_of letters (take k word) ++ a ∷ [] =
    ap (λ n. word_of letters (take n word)) more ∙ ap (word_of letters) (take_more word k 0 low) ∙
    word_of-push letters (take k word) (get_or word k 0) ∙ ap (λ b. word_of letters (take k word) ++ b ∷ []) letter in
    record {
      few = omega (arith, more, low);
      path = subst (λ (w : Word). IsPathOf w q) (sym same) (add (word_of letters (take k word)) is.path);
    }

-- the places of a word are of the alphabet
pub at_place : (letters : List (List ℕ)) (word seen : List ℕ) (k : ℕ) → AllByRecursion (λ i. i < length letters) word → seen ≡ word
    → k < length word → get_or seen k 0 < length letters
at_place letters word seen k known is low =
    subst (λ (v : List ℕ). get_or v k 0 < length letters) (sym is) (all_at_index (λ i. i < length letters) word 0 known k low)

-- what has no reason to fail is done
pub unfailed : {T E P : Type 0} (r : Result T E) → OnErr r P → (P → ⊥) → IsOk r
unfailed (Ok x) full none = refl
unfailed (Err y) full none = absurd (none full)

-- there is room for one letter more
pub along_room : (a : Pairs) → AreReady a → (i : ℕ) → AllByRecursion (λ i. i < length a.terms.letters) a.walk.word.items
    → length a.path.starts.items < length a.walk.word.items → i < length a.terms.letters
    → length a.path.bytes.items + suc (length (get_or a.terms.letters i [])) ≤ vec_capacity a.path.bytes
along_room a ready i known low here =
    let k : ℕ = length a.path.starts.items in
    let word : List ℕ = a.walk.word.items in
    let front : IsSpelled a.terms (take k word) a.path.bytes.items =
    record { known = all_taken (λ i. i < length a.terms.letters) k word known; path = ready.path.path.bytes } in
    room_for a.terms (take k word) a.path.bytes.items i (vec_capacity a.path.bytes) front here
    (omega (arith, length-take k word, low, ready.walk.within, ready.limit)) ready.bytes

-- the path has the whole word
pub along_whole : (letters : List (List ℕ)) (word : List ℕ) (p : WordPath) → IsPathAlong letters word p →
    length word ≤ length p.starts.items → IsPathOf (word_of letters word) p
along_whole letters word p is all = subst (λ (w : List ℕ). IsPathOf (word_of letters w) p) (take_whole (length p.starts.items) word all)
    is.path

-- the letters that are unchanged stay
pub along_kept : (letters : List (List ℕ)) (old new : List ℕ) (n : ℕ) (p q : WordPath) → IsPathAlong letters old p → IsUnchanged old n new
    → ((w : Word) → IsPathOf w p → IsPathOf (take n w) q) → length q.starts.items ≡ min n (length p.starts.items) →
    IsPathAlong letters new q
along_kept letters old new n p q is same keep few =
    let k : ℕ = length p.starts.items in
    let front : take n (word_of letters (take k old)) ≡ word_of letters (take (length q.starts.items) new) =
    word_of-take letters n (take k old) ∙ ap (word_of letters) (front_stays old new k n (length q.starts.items) same.same few) in
    record {
      few = omega (arith, few, same.after);
      path = subst (λ (w : Word). IsPathOf w q) front (keep (word_of letters (take k old)) is.path);
    }

module _ (a : Pairs) (ready : AreReady a) (w : Walk) (of : IsSameWalk a.walk w) (walk : steps.IsReady w)
    (stays : IsUnchanged a.walk.word.items w.unchanged w.word.items) where
  -- the walk goes on, and the path keeps what is unchanged
  pub kept_ready : (q : WordPath) (n : ℕ) → n ≡ w.unchanged →
      AllByRecursion (λ p. IsPair (length a.terms.letters) p) (pairs_of (steps.trail w)) →
      ((v : Word) → IsPathOf v a.path → IsPathOf (take n v) q) → length q.starts.items ≡ min n (length a.path.starts.items)
      → vec_capacity q.bytes ≡ vec_capacity a.path.bytes → vec_capacity q.starts ≡ vec_capacity a.path.starts →
      AreReady (record { terms = a.terms; walk = w; live = a.live; path = q })
  kept_ready q n at pairs keep few bytes starts = record {
    sound = ready.sound;
    walk = walk;
    limit = of.limit ∙ ready.limit;
    letters = ap (λ (t : Steps). t.letters) of.steps ∙ ready.letters;
    pairs = pairs;
    path = along_kept a.terms.letters a.walk.word.items w.word.items n a.path q ready.path
        (subst (λ m. IsUnchanged a.walk.word.items m w.word.items) (sym at) stays) keep few;
    bytes = omega (arith, ready.bytes, bytes);
    starts = omega (arith, ready.starts, starts);
  }

  pub pairs_none : pairs_of (steps.trail w) ≡ [] → AllByRecursion (λ p. IsPair (length a.terms.letters) p) (pairs_of (steps.trail w))
  pairs_none none = subst (λ (ps : List graph.Pair). AllByRecursion (λ p. IsPair (length a.terms.letters) p) ps) (sym none) tt

  module _ (call : ℕ) (line : pairs_of (steps.trail a.walk) ≡ (w.word.items, call) ∷ pairs_of (steps.trail w)) where
    pub pairs_more : IsPair (length a.terms.letters) (w.word.items, call) ×
        AllByRecursion (λ p. IsPair (length a.terms.letters) p) (pairs_of (steps.trail w))
    pairs_more = subst (λ (ps : List graph.Pair). AllByRecursion (λ p. IsPair (length a.terms.letters) p) ps) line ready.pairs

    -- once the path has the whole word
    pub is_line : (b : Pairs) → b.terms ≡ a.terms → b.walk ≡ w → AreReady b →
        AllByRecursion (λ i. i < length b.terms.letters) b.walk.word.items
        → length b.walk.word.items ≤ length b.path.starts.items → (named : Call) → named ≡ call_at call → IsLine a named b
    is_line b terms same now known all named is = record {
      next = ap (pairs_at a.terms.letters) line
          ∙ sym (λ i. (
            word_of (terms i).letters (same i).word.items,
            is i,
          ) ∷ pairs_at (terms i).letters (pairs_of (steps.trail (same i))));
      path = along_whole b.terms.letters b.walk.word.items b.path now.path all;
      within = omega (arith, now.walk.within, now.limit);
      known = known;
    }

all_behind : {A : Type 0} (P : A → Type 0) (xs ys : List A) → AllByRecursion P (xs ++ ys) → AllByRecursion P ys
all_behind P [] ys all = all
all_behind P (x ∷ xs) ys all = all_behind P xs ys all.1

-- the pairs of a word's calls
taken : (letters : List (List ℕ)) (word rest : List ℕ) (more : List graph.Pair) →
    pairs_at letters (on_word word rest ++ more) ≡ with_word (word_of letters word) (map call_at rest) ++ pairs_at letters more
taken letters word [] more = refl
taken letters word (n ∷ rest) more = ap (λ ps. (word_of letters word, call_at n) ∷ ps) (taken letters word rest more)

-- the walk gives all calls of its word
module _ (a : Pairs) (ready : AreReady a) (w : Walk) (of : IsSameWalk a.walk w) (walk : steps.IsReady w)
    (stays : w.word.items ≡ a.walk.word.items) (calls : List ℕ)
    (gives : pairs_of (steps.trail a.walk) ≡ on_word a.walk.word.items calls ++ pairs_of (steps.trail w)) where
  pub taken_ready : AreReady (record { terms = a.terms; walk = w; live = a.live; path = a.path })
  taken_ready = record {
    sound = ready.sound;
    walk = walk;
    limit = of.limit ∙ ready.limit;
    letters = ap (λ (t : Steps). t.letters) of.steps ∙ ready.letters;
    pairs = all_behind (λ p. IsPair (length a.terms.letters) p) (on_word a.walk.word.items calls) (pairs_of (steps.trail w))
        (subst (λ (ps : List graph.Pair). AllByRecursion (λ p. IsPair (length a.terms.letters) p) ps) gives ready.pairs);
    path = subst (λ (v : List ℕ). IsPathAlong a.terms.letters v a.path) (sym stays) ready.path;
    bytes = ready.bytes;
    starts = ready.starts;
  }

  pub taken_left : to_come a ≡ with_word (walk_word a) (map call_at calls) ++ pairs_at a.terms.letters (pairs_of (steps.trail w))
  taken_left = ap (pairs_at a.terms.letters) gives ∙ taken a.terms.letters a.walk.word.items calls (pairs_of (steps.trail w))

-- letters that are read for a call, as contracts see them
pub read_within : (new old limit letters : ℕ) → new ≤ old + 2 * (limit * letters) → new ≤ old + 2 * (suc limit * suc letters)
read_within new old limit letters few = let more : limit * letters ≤ suc limit * suc letters =
    mul-le limit letters (suc limit) (suc letters) (omega arith) (omega arith) in omega (arith, few, more)
