-- The list of the live states has just those to which a word leads that the word of some pair extends, and each of them once.
use Rattle.pua_audit.proofs.Common.{◌≡◌, List, [], ◌∷◌, Bool, true, false, cond, ◌&&◌, ◌||◌, ◌==◌, Option, Some, None}
use Rattle.pua_audit.proofs.Common.{refl, sym, ap, ◌∙◌, cons_option, flat_map, filter_map, list_any, AllByRecursion, IsDistinct}
use Rattle.pua_audit.proofs.Common.{and_parts, eq-eqb, eqb-true, Scope, Pair, reach, Stage, stage_after}
use Rattle.pua_audit.proofs.Common.{same_stage, shorter, passed_states, live_states, unique_keys}
use Rattle.std.specs.Prelude.{Contains}
use Rattle.std.proofs.lemmas.Map.Made.{is_member-Decides}
use Rattle.std.specs.Bool.{Decides}
use Rattle.pua_audit.specs.Laws.{LiveStatesLive}
use Rattle.pua_audit.specs.Live.{IsLive}
use Rattle.pua_audit.proofs.Stages.{is_staged}
use Rattle.pua_steps.proofs.ForCallers.{any_flat, passes, passing}

pub one_stage : (a b : Stage) → same_stage a b ≡ true → a ≡ b
one_stage a b e =
    let first = and_parts (a.dir == b.dir) ((a.links == b.links) && (a.left == b.left)) e in
    let rest = and_parts (a.links == b.links) (a.left == b.left) first.1 in
    λ i. record { dir = eqb-true a.dir b.dir first.0 i; links = eqb-true a.links b.links rest.0 i; left = eqb-true a.left b.left rest.1 i }

pub staged_itself : (y : Stage) → same_stage y y ≡ true
staged_itself y = ap (λ b. b && ((y.links == y.links) && (y.left == y.left))) (eq-eqb y.dir y.dir refl) ∙
    ap (λ b. b && (y.left == y.left)) (eq-eqb y.links y.links refl) ∙ eq-eqb y.left y.left refl

stage_decides : (a b : Stage) → Decides (same_stage a b) (a ≡ b)
stage_decides a b = (one_stage a b, λ e. ap (same_stage a) (sym e) ∙ staged_itself a)

-- each once

-- what is there already adds nothing
pub staged_more : (y x : Stage) (xs : List Stage) → is_staged x xs ≡ true → (same_stage y x || is_staged y xs) ≡ is_staged y xs
staged_more y x xs there = elim (same_stage y x) as (λ b. same_stage y x ≡ b → (b || is_staged y xs) ≡ is_staged y xs) [
  | true ↦ λ e. sym (ap (λ z. is_staged z xs) (one_stage y x e) ∙ there)
  | false ↦ λ _. refl
] refl

unique_has : (y : Stage) (xs : List Stage) → is_staged y (unique_keys same_stage xs) ≡ is_staged y xs
unique_has y [] = refl
unique_has y (x ∷ xs) =
    elim (is_staged x xs) as (λ b. is_staged x xs ≡ b →
    is_staged y (cond b (unique_keys same_stage xs) (x ∷ unique_keys same_stage xs)) ≡ (same_stage y x || is_staged y xs)) [
      | true ↦ λ there. unique_has y xs ∙ sym (staged_more y x xs there)
      | false ↦ λ _. ap (λ b. same_stage y x || b) (unique_has y xs)
    ] refl

all_apart : (x : Stage) (xs : List Stage) → is_staged x xs ≡ false → AllByRecursion (λ y. same_stage x y ≡ false) xs
all_apart x [] off = tt
all_apart x (y ∷ ys) off = by (same_stage x y) off (all_apart x ys)
  where
    by : (b : Bool) → (b || is_staged x ys) ≡ false → (is_staged x ys ≡ false → AllByRecursion (λ y. same_stage x y ≡ false) ys) →
        (b ≡ false) × AllByRecursion (λ y. same_stage x y ≡ false) ys
    by true off rest = absurd cc
    by false off rest = (refl, rest off)

unique_distinct : (xs : List Stage) → IsDistinct same_stage (unique_keys same_stage xs)
unfolding IsDistinct
unique_distinct [] = tt
unique_distinct (x ∷ xs) =
    elim (is_staged x xs) as (λ b. is_staged x xs ≡ b →
    IsDistinct same_stage (cond b (unique_keys same_stage xs) (x ∷ unique_keys same_stage xs))) [
      | true ↦ λ _. unique_distinct xs
      | false ↦ λ off. (all_apart x (unique_keys same_stage xs) (unique_has x xs ∙ off), unique_distinct xs)
    ] refl

-- a word before some pair leads there

-- whether something is one stage
abbrev pub leads_to : Stage → Option Stage → Bool
leads_to y None = false
leads_to y (Some x) = same_stage y x

pub any_kept : {A : Type 0} (y : Stage) (f : A → Option Stage) (xs : List A) →
    is_staged y (filter_map f xs) ≡ list_any (λ x. leads_to y (f x)) xs
any_kept y f [] = refl
any_kept y f (x ∷ xs) = elim (f x) as (λ o. f x ≡ o →
    is_staged y (filter_map f (x ∷ xs)) ≡ (leads_to y (f x) || list_any (λ x. leads_to y (f x)) xs)) [
      | None ↦ λ e. (λ i. is_staged y (cons_option (e i) (filter_map f xs))) ∙ any_kept y f xs ∙ (λ i. leads_to y (sym e i) || list_any (λ x. leads_to y (f x)) xs)
      | Some s ↦ λ e. (λ i. is_staged y (cons_option (e i) (filter_map f xs))) ∙ (λ i. leads_to y (sym e i) || any_kept y f xs i)
    ] refl

module _ (s : Scope) (y : Stage) where
  -- whether a word that the pair's word extends leads to the stage
  abbrev is_before : Pair → Bool
  is_before p = list_any (λ word. leads_to y (stage_after s word)) (shorter p.0)

  passed_by : is_staged y (passed_states s) ≡ list_any is_before (reach s)
  passed_by = any_kept y (stage_after s) (flat_map (λ (p : Pair). shorter p.0) (reach s)) ∙
      any_flat (λ word. leads_to y (stage_after s word)) (λ (p : Pair). shorter p.0) (reach s)

  leads_there : (o : Option Stage) → leads_to y o ≡ true → o ≡ Some y
  leads_there None e = absurd cc
  leads_there (Some x) e = ap Some (sym (one_stage y x e))

  pub live_if_passed : is_staged y (passed_states s) ≡ true → IsLive s y
  live_if_passed there =
      let pair = passing is_before (reach s) (sym passed_by ∙ there) in
      let word = passing (λ word. leads_to y (stage_after s word)) (shorter pair.0.0) pair.2 in
      (pair.0, word.0, pair.1, word.1, leads_there (stage_after s word.0) word.2)

  passed_if_live : IsLive s y → is_staged y (passed_states s) ≡ true
  passed_if_live (pair, word, there, front, leads) =
      passed_by ∙ passes is_before (reach s) pair there
      (passes (λ word. leads_to y (stage_after s word)) (shorter pair.0) word front (ap (leads_to y) leads ∙ staged_itself y))

  listed : Decides (is_staged y (live_states s)) (Contains (live_states s) y)
  listed = is_member-Decides stage_decides (live_states s) y

pub live_states_live : LiveStatesLive
live_states_live = record {
  all = λ s y live. (listed s y).0 (unique_has y (passed_states s) ∙ passed_if_live s y live);
  none_else = λ s y there. live_if_passed s y (sym (unique_has y (passed_states s)) ∙ (listed s y).1 there);
  once = λ s. unique_distinct (passed_states s);
}
