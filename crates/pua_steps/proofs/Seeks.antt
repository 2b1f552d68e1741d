-- Visits before the next letter on which something is allowed.
use Rattle.pua_steps.proofs.Common.{min, ℕ, zero, suc, ◌+◌, ◌≡◌, List, [], ◌∷◌, ◌++◌, Option, Some, None, true, false, cond, ◌==◌, refl, ap}
use Rattle.pua_steps.proofs.Common.{arith, sym, ◌∙◌, length, and_parts, eqb-true, calls_of, Graph, TrailEvent, Live, under, with_calls}
use Rattle.pua_steps.proofs.Common.{deeper, branches, entrance, looks, IsCounted, State, Visit}
use Rattle.std.proofs.Common.{is_none}
use Rattle.pua_steps.specs.Ready.{is_idle, after_visit}
use Rattle.pua_steps.proofs.Moves.{under-nil, deeper_none, deeper_dead, branches_more, branches_none}
use Rattle.pua_steps.proofs.Sets.{no_calls}

-- counting

pub counted_none : (s : ℕ) → IsCounted s 0 s
counted_none s = (omega arith, omega arith)

pub counted_one : (s m a b : ℕ) → IsCounted s m a → b ≡ min (a + 1) 18446744073709551615 → IsCounted s (m + 1) b
counted_one s m a b far one = (omega (arith, far.0, one), omega (arith, far.1, one))

pub counted_more : (s m n a b : ℕ) → IsCounted s m a → IsCounted a n b → IsCounted s (m + n) b
counted_more s m n a b far more = (omega (arith, far.0, more.0), omega (arith, far.1, more.1))

pub looks_one : (n : ℕ) (es : List TrailEvent) → looks n (None ∷ es) ≡ looks (n + 1) es
unfolding looks
looks_one zero es = refl
looks_one (suc n) es = ap (λ fs. None ∷ fs) (looks_one n es) ∙ ap (λ k. looks k es) moved
  where
    moved : suc (n + 1) ≡ suc n + 1
    moved = omega arith

pub looks-append : (n : ℕ) (es fs : List TrailEvent) → looks n es ++ fs ≡ looks n (es ++ fs)
unfolding looks
looks-append zero es fs = refl
looks-append (suc n) es fs = ap (λ hs. None ∷ hs) (looks-append n es fs)

pub looks_zero : (es : List TrailEvent) → es ≡ looks 0 es
unfolding looks
looks_zero es = refl

pub looks-looks : (m n : ℕ) (es : List TrailEvent) → looks m (looks n es) ≡ looks (m + n) es
unfolding looks
looks-looks zero n es = ap (λ k. looks k es) (sym (zero-plus n))
  where
    zero-plus : (m : ℕ) → 0 + m ≡ m
    zero-plus m = omega arith
looks-looks (suc m) n es = ap (λ fs. None ∷ fs) (looks-looks m n es) ∙ ap (λ k. looks k es) moved
  where
    moved : suc (m + n) ≡ suc m + n
    moved = omega arith

pub looks-length : (n : ℕ) (es : List TrailEvent) → length (looks n es) ≡ n + length es
unfolding looks
looks-length zero es = sym (zero-plus (length es))
  where
    zero-plus : (m : ℕ) → 0 + m ≡ m
    zero-plus m = omega arith
looks-length (suc n) es = ap suc (looks-length n es) ∙ moved
  where
    moved : suc (n + length es) ≡ suc n + length es
    moved = omega arith

module _ (g : Graph) (live : Live) (l : ℕ) where
  pub deeper_entrance : (o : Option State) → deeper g live l (entrance live l o) ≡ deeper g live l o
  deeper_entrance None = refl
  deeper_entrance (Some s) =
      elim (live l s) as (λ b. live l s ≡ b → deeper g live l (cond b (Some s) None) ≡ deeper g live l (Some s)) [
        | true ↦ λ _. refl
        | false ↦ λ e. deeper_none g live l ∙ sym (deeper_dead g live l s e)
      ] refl

  -- a letter is looked at, and its state tested
  step_over : (v x : Visit) (vs : List Visit) → x ≡ record { letter = v.letter; calls = v.calls; behind = entrance live l v.behind }
      → branches g live l (v ∷ vs) ≡ None ∷ (after_visit g live l x ++ branches g live l vs)
  step_over v x vs e =
      branches_more g live l v vs
      ∙ ap (λ es. None ∷ (under v.letter (with_calls (calls_of v.calls) ++ es) ++ branches g live l vs)) (sym (deeper_entrance v.behind))
      ∙ ap (λ y. None ∷ (after_visit g live l y ++ branches g live l vs)) (sym e)

  none_is : (o : Option State) → is_none o ≡ true → o ≡ None
  none_is None h = refl
  none_is (Some s) h = absurd cc

  nothing_under : (a : ℕ) → under a (with_calls [] ++ []) ≡ []
  unfolding with_calls
  nothing_under a = under-nil a

  idle_gives : (x : Visit) → is_idle x ≡ true → after_visit g live l x ≡ []
  idle_gives x idle =
      let both = and_parts (x.calls == 0) (is_none x.behind) idle in
      ap (λ k. under x.letter (with_calls (calls_of k) ++ deeper g live l x.behind)) (eqb-true x.calls 0 both.0)
      ∙ ap (λ o. under x.letter (with_calls (calls_of 0) ++ deeper g live l o)) (none_is x.behind both.1)
      ∙ ap (λ es. under x.letter (with_calls (calls_of 0) ++ es)) (deeper_none g live l)
      ∙ ap (λ cs. under x.letter (with_calls cs ++ [])) no_calls ∙ nothing_under x.letter

  module _ (all : List TrailEvent) (n : ℕ) (rest rest-after : List Visit) (v x : Visit) (so_far : all ≡ looks n (branches g live l rest))
      (split : rest ≡ v ∷ rest-after)
      (tested : x ≡ record { letter = v.letter; calls = v.calls; behind = entrance live l v.behind }) where
    pub found : all ≡ looks (n + 1) (after_visit g live l x ++ branches g live l rest-after)
    found = so_far ∙ ap (λ vs. looks n (branches g live l vs)) split ∙ ap (looks n) (step_over v x rest-after tested) ∙ looks_one n _

    pub passed : is_idle x ≡ true → all ≡ looks (n + 1) (branches g live l rest-after)
    passed idle = found ∙ ap (λ es. looks (n + 1) (es ++ branches g live l rest-after)) (idle_gives x idle)

  pub none_found : (all : List TrailEvent) (n : ℕ) (rest : List Visit) → all ≡ looks n (branches g live l rest) → rest ≡ [] →
      all ≡ looks n []
  none_found all n rest so_far none = so_far ∙ ap (λ vs. looks n (branches g live l vs)) none ∙ ap (looks n) (branches_none g live l)
