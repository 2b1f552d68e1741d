-- One step of each definition, as the code meets it.
use Rattle.pua_steps.proofs.Common.{ℕ, zero, suc, ◌+◌, ◌-◌, ◌≡◌, List, [], ◌∷◌, ◌++◌, Some, None, true, false, refl, ap, arith, sym, ◌∙◌}
use Rattle.pua_steps.proofs.Common.{length, append_assoc, append-nil, map-append, calls_of, Graph, Word, TrailEvent, Live, under, under_all}
use Rattle.pua_steps.proofs.Common.{with_calls, deeper, branches, pending, State, Visit}
use Rattle.pua_steps.specs.Trail.{behind}

-- letters in front

pub under-append : (a : ℕ) (xs ys : List TrailEvent) → under a (xs ++ ys) ≡ under a xs ++ under a ys
unfolding under
under-append a xs ys = map-append (behind a) xs ys

pub under_all-append : (word : Word) (xs ys : List TrailEvent) → under_all word (xs ++ ys) ≡ under_all word xs ++ under_all word ys
unfolding under_all
under_all-append [] xs ys = refl
under_all-append (a ∷ word) xs ys = ap (under a) (under_all-append word xs ys) ∙ under-append a (under_all word xs) (under_all word ys)

pub under_all_more : (word : Word) (a : ℕ) (es : List TrailEvent) → under_all (word ++ a ∷ []) es ≡ under_all word (under a es)
unfolding under_all
under_all_more [] a es = refl
under_all_more (b ∷ word) a es = ap (under b) (under_all_more word a es)

pub under-nil : (a : ℕ) → under a [] ≡ []
unfolding under
under-nil a = refl

pub under_all-nil : (word : Word) → under_all word [] ≡ []
unfolding under_all
under_all-nil [] = refl
under_all-nil (a ∷ word) = ap (under a) (under_all-nil word) ∙ under-nil a

pub under_all-look : (word : Word) (es : List TrailEvent) → under_all word (None ∷ es) ≡ None ∷ under_all word es
unfolding under_all under
under_all-look [] es = refl
under_all-look (a ∷ word) es = ap (under a) (under_all-look word es)

pub under_all-line : (word rest : Word) (call : ℕ) (es : List TrailEvent) → under_all word (Some (rest, call) ∷ es) ≡ Some (
  word ++ rest,
  call,
) ∷ under_all word es
unfolding under_all under
under_all-line [] rest call es = refl
under_all-line (a ∷ word) rest call es = ap (under a) (under_all-line word rest call es)

module _ (g : Graph) (live : Live) where
  -- what a letter leads to
  abbrev pub visited : ℕ → Visit → List TrailEvent
  visited l v = with_calls (calls_of v.calls) ++ deeper g live l v.behind

  pub deeper_none : (l : ℕ) → deeper g live l None ≡ []
  unfolding deeper
  deeper_none zero = refl
  deeper_none (suc l) = refl

  pub deeper_dead : (l : ℕ) (s : State) → live l s ≡ false → deeper g live l (Some s) ≡ []
  unfolding deeper
  deeper_dead zero s dead = refl
  deeper_dead (suc l) s dead = rw dead refl

  pub deeper_live : (l k : ℕ) (s : State) → l ≡ suc k → live l s ≡ true → deeper g live l (Some s) ≡ branches g live k (g k s)
  unfolding deeper branches
  deeper_live l k s e lives = ap (λ n. deeper g live n (Some s)) e ∙ rw (ap (λ n. live n s) (sym e) ∙ lives) refl

  pub branches_more : (l : ℕ) (v : Visit) (vs : List Visit) →
      branches g live l (v ∷ vs) ≡ None ∷ (under v.letter (visited l v) ++ branches g live l vs)
  unfolding branches
  branches_more l v vs = refl

  pub branches_none : (l : ℕ) → branches g live l [] ≡ []
  unfolding branches
  branches_none l = refl

  module _ (limit : ℕ) where
    pub pending_push : (depth : ℕ) (word : Word) (rests : List (List Visit)) (vs : List Visit) → length rests ≡ length word
        → pending g live limit depth word (rests ++ vs ∷ [])
        ≡ under_all word (branches g live (limit - suc (depth + length word)) vs) ++ pending g live limit depth word rests
    unfolding pending under_all
    pending_push depth [] [] vs h = rw (plus_zero depth) (sym (append-nil _))
      where
        plus_zero : (m : ℕ) → m + 0 ≡ m
        plus_zero m = omega arith
    pending_push depth [] (ws ∷ rests) vs h = absurd (omega (arith, h))
    pending_push depth (a ∷ word) [] vs h = absurd (omega (arith, h))
    pending_push depth (a ∷ word) (ws ∷ rests) vs h =
        let rest : List TrailEvent = branches g live (limit - suc depth) ws in
        let inner = pending_push (suc depth) word rests vs (omega (arith, h)) in
        let top : List TrailEvent = branches g live (limit - suc (suc depth + length word)) vs in
        let same : suc depth + length word ≡ depth + suc (length word) = omega arith in
        ap (λ es. under a es ++ rest) inner ∙
        ap (λ es. es ++ rest) (under-append a (under_all word top) (pending g live limit (suc depth) word rests))
        ∙ append_assoc (under a (under_all word top)) (under a (pending g live limit (suc depth) word rests)) rest ∙
        ap (λ n. under a (under_all word (branches g live (limit - suc n) vs)) ++ (under a (pending g live limit (suc depth) word rests)
        ++ rest)) same

    pub pending_back : (depth : ℕ) (word : Word) (b : ℕ) (rests : List (List Visit)) → length rests ≡ suc (length word)
        → pending g live limit depth (word ++ b ∷ []) rests ≡ pending g live limit depth word rests
    unfolding pending under
    pending_back depth word b [] h = absurd (omega (arith, h))
    pending_back depth [] b (vs ∷ []) h = refl
    pending_back depth [] b (vs ∷ ws ∷ rests) h = absurd (omega (arith, h))
    pending_back depth (a ∷ word) b (vs ∷ rests) h =
        ap (λ es. under a es ++ branches g live (limit - suc depth) vs) (pending_back (suc depth) word b rests (omega (arith, h)))
