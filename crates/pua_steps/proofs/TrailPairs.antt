-- What the pairs of a trail are.
use Rattle.pua_steps.proofs.Common.{ℕ, zero, suc, ◌-◌, ◌≤◌, ◌≡◌, List, [], ◌∷◌, ◌++◌, Option, Some, None, true, false, cond, refl, ap}
use Rattle.pua_steps.proofs.Common.{arith, sym, ◌∙◌, append-nil, flat_map, IfSome, AllByRecursion, calls_of, Graph, cons, alone, below}
use Rattle.pua_steps.proofs.Common.{rows, TrailEvent, Live, pairs_of, under, under_all, with_calls, deeper, branches, pending, ahead, State}
use Rattle.pua_steps.proofs.Common.{Visit}
use Rattle.std.proofs.lemmas.List.Elements.{filter_map-append}
use Rattle.pua_steps.specs.Graph.{longer, from_state, graph_reach}
use Rattle.pua_steps.specs.Trail.{if_live}

pub pairs-append : (xs ys : List TrailEvent) → pairs_of (xs ++ ys) ≡ pairs_of xs ++ pairs_of ys
pairs-append xs ys = filter_map-append (λ e. e) xs ys

pub pairs-under : (a : ℕ) (es : List TrailEvent) → pairs_of (under a es) ≡ cons a (pairs_of es)
unfolding under cons
pairs-under a [] = refl
pairs-under a (None ∷ es) = pairs-under a es
pairs-under a (Some p ∷ es) = ap (λ ps. longer a p ∷ ps) (pairs-under a es)

pub pairs-with_calls : (cs : List ℕ) → pairs_of (with_calls cs) ≡ alone cs
unfolding with_calls alone
pairs-with_calls [] = refl
pairs-with_calls (c ∷ cs) = ap (λ ps. ([], c) ∷ ps) (pairs-with_calls cs)

-- a test of states that drops only what has no pair, among states that steps do not leave
pub record Prunes (g : Graph) (live : Live) (limit : ℕ) (P : State → Type 0) : Type 0 where
  pub closed : (l : ℕ) (s : State) → P s → AllByRecursion (λ v. IfSome v.behind P) (g l s)
  pub nothing : (l : ℕ) (s : State) → suc l ≤ limit → P s → live (suc l) s ≡ false → rows g l (g l s) ≡ []

module _ (g : Graph) (live : Live) (limit : ℕ) (P : State → Type 0) (prunes : Prunes g live limit P) where
  pairs-flat : (l : ℕ) → ((o : Option State) → IfSome o P → pairs_of (deeper g live l o) ≡ below g l o) → (vs : List Visit) →
      AllByRecursion (λ v. IfSome v.behind P) vs
      → pairs_of (flat_map (λ v. None ∷ under v.letter (with_calls (calls_of v.calls) ++ deeper g live l v.behind)) vs) ≡ rows g l vs
  unfolding rows
  pairs-flat l each [] all = refl
  pairs-flat l each (v ∷ vs) all =
      let here : List TrailEvent = with_calls (calls_of v.calls) ++ deeper g live l v.behind in
      let others : List TrailEvent = flat_map (λ v. None ∷ under v.letter (with_calls (calls_of v.calls) ++ deeper g live l v.behind)) vs in
      pairs-append (under v.letter here) others
      ∙ ap (λ ps. ps ++ pairs_of others)
      (pairs-under v.letter here
      ∙ ap (cons v.letter) (pairs-append (with_calls (calls_of v.calls)) (deeper g live l v.behind) ∙
      ap (λ ps. ps ++ pairs_of (deeper g live l v.behind)) (pairs-with_calls (calls_of v.calls)) ∙
      ap (λ ps. alone (calls_of v.calls) ++ ps) (each v.behind all.0)))
      ∙ ap (λ ps. cons v.letter (alone (calls_of v.calls) ++ below g l v.behind) ++ ps) (pairs-flat l each vs all.1)

  pairs-entered : (l : ℕ) → suc l ≤ limit → ((o : Option State) → IfSome o P → pairs_of (deeper g live l o) ≡ below g l o) →
      (o : Option State) → IfSome o P
      → pairs_of (if_live o (live (suc l))
      (λ s. flat_map (λ v. None ∷ under v.letter (with_calls (calls_of v.calls) ++ deeper g live l v.behind)) (g l s)))
      ≡ from_state o (λ s. flat_map (λ v. cons v.letter (alone (calls_of v.calls) ++ below g l v.behind)) (g l s))
  unfolding rows
  pairs-entered l short each None is = refl
  pairs-entered l short each (Some s) is =
      let all : List TrailEvent = flat_map (λ v. None ∷ under v.letter (with_calls (calls_of v.calls) ++ deeper g live l v.behind)) (g l s)
      in
      elim (live (suc l) s) as (λ b. live (suc l) s ≡ b → pairs_of (cond b all []) ≡ rows g l (g l s)) [
        | true ↦ λ e. pairs-flat l each (g l s) (prunes.closed l s is)
        | false ↦ λ e. sym (prunes.nothing l s short is e)
      ] refl

  pub pairs-deeper : (l : ℕ) → l ≤ limit → (o : Option State) → IfSome o P → pairs_of (deeper g live l o) ≡ below g l o
  unfolding deeper below
  pairs-deeper zero short o is = refl
  pairs-deeper (suc l) short o is = pairs-entered l short (pairs-deeper l (omega (arith, short))) o is

  pub pairs-branches : (l : ℕ) → l ≤ limit → (vs : List Visit) → AllByRecursion (λ v. IfSome v.behind P) vs →
      pairs_of (branches g live l vs) ≡ rows g l vs
  unfolding branches rows
  pairs-branches l short vs all = pairs-flat l (pairs-deeper l short) vs all

  -- before its first visit a walk has the reach before it
  pub pairs-fresh : (calls : ℕ) (o : Option State) → IfSome o P →
      pairs_of (ahead g live limit [] (calls_of calls) o []) ≡ graph_reach g limit calls o
  unfolding ahead under_all pending
  pairs-fresh calls o is =
      let first : List TrailEvent = with_calls (calls_of calls) ++ deeper g live (limit - 0) o in
      pairs-append first [] ∙ ap (λ ps. ps ++ []) (pairs-append (with_calls (calls_of calls)) (deeper g live (limit - 0) o)) ∙
      append-nil (pairs_of (with_calls (calls_of calls)) ++ pairs_of (deeper g live (limit - 0) o))
      ∙ ap (λ ps. ps ++ pairs_of (deeper g live (limit - 0) o)) (pairs-with_calls (calls_of calls))
      ∙ ap (λ n. alone (calls_of calls) ++ pairs_of (deeper g live n o)) all
      ∙ ap (λ ps. alone (calls_of calls) ++ ps) (pairs-deeper limit (omega arith) o is)
    where
      all : limit - 0 ≡ limit
      all = omega arith
