-- The live states by the reach are those by the number of letters that lead to them.
use Rattle.pua_audit.proofs.Common.{ℕ, zero, suc, ◌+◌, ◌-◌, ◌<◌, ◌≡◌, List, [], ◌∷◌, ◌++◌, Some, None, Bool, true, false, ◌||◌, ◌&&◌, ◌==◌}
use Rattle.pua_audit.proofs.Common.{nat_lt, nat_le, refl, ap, arith, sym, ◌∙◌, map, length, option_map, inl, inr, flat_map, option_to_list}
use Rattle.pua_audit.proofs.Common.{cases_lt, eq-eqb, ne_eqb, le-leb, lt-leb, Call, Word, Pair, Judge, WordEnd, Start, Below, allowed_at}
use Rattle.pua_audit.proofs.Common.{JudgeState, Stage, shorter, and-false, list_any, same_stage}
use Rattle.std.proofs.lemmas.Bool.{lt-ltb, le-ltb}
use Rattle.std.proofs.lemmas.List.Folds.{list_any-append}
use Rattle.std.proofs.Math.Bool.{and-true, or-false}
use Rattle.pua_audit.proofs.CutReach as lines
use Rattle.pua_audit.proofs.Stages.{on_state, leads, staged, stage_after, stages_of, is_staged, reached_from, reached_none, is_state}
use Rattle.pua_audit.proofs.Stages.{is_among, one_state, state_of, StagesLive}
use Rattle.pua_audit.proofs.Tests.{any-and, any-both, any_mapped, any-none, any-or, any-same, some}
use Rattle.pua_audit.proofs.Unique.{any_kept, leads_to}
use Rattle.pua_steps.proofs.ForCallers.{any_flat}

module _ (w : Judge) (letters : List (List ℕ)) (y : Stage) where
  -- whether a word that the pair's word properly extends leads to the stage
  abbrev before : ℕ → WordEnd → Pair → Bool
  before l x p = list_any (λ u. leads_to y (stage_after w l x u)) (shorter p.0)

  -- the same of some pair behind a place, letter by letter
  met : ℕ → WordEnd → Bool
  met zero x = false
  met (suc l) x = on_state (w.step x) false (λ s. (same_stage y (staged (suc l) s) && some (lines.rows w letters l s letters))
      || list_any (λ a. met l (Below s a)) letters)

  none_alone : (l : ℕ) (x : WordEnd) (cs : List Call) → list_any (before l x) (lines.alone cs) ≡ false
  unfolding lines.alone
  none_alone l x cs = any_mapped (λ (c : Call). ([], c)) (before l x) (λ _. false) (λ _. refl) cs ∙ any-none cs

  -- a word is before one with a letter more if it is empty, or goes on by that letter
  one_letter : (l : ℕ) (s : JudgeState) (x : WordEnd) (a : List ℕ) → w.step x ≡ Some s → (p : Pair) →
      before (suc l) x (lines.longer a p) ≡ (same_stage y (staged (suc l) s) || before l (Below s a) p)
  one_letter l s x a step p =
      let whole : suc l - 0 ≡ suc l = omega arith in
      (λ i. leads_to y (option_map (staged (whole i)) (step i)) || any_mapped (λ u. a ∷ u) (λ u. leads_to y (stage_after w (suc l) x u))
      (λ u. leads_to y (stage_after w l (Below s a) u)) behind (shorter p.0) i)
    where
      behind : (u : Word) → leads_to y (stage_after w (suc l) x (a ∷ u)) ≡ leads_to y (stage_after w l (Below s a) u)
      behind u = let fewer : suc l - suc (length u) ≡ l - length u = omega arith in
          (λ i. leads_to y (option_map (staged (fewer i)) (on_state (step i) None (λ s. leads w (Below s a) u))))

  abbrev behind_letter : ℕ → JudgeState → List ℕ → List Pair
  behind_letter l s a = lines.here w (Below s a) ++ lines.below w letters l (Below s a)

  letter_met : (l : ℕ) → ((x : WordEnd) → list_any (before l x) (lines.below w letters l x) ≡ met l x) → (s : JudgeState) (x : WordEnd)
      (a : List ℕ) → w.step x ≡ Some s → list_any (before (suc l) x) (lines.cons a (behind_letter l s a))
      ≡ ((same_stage y (staged (suc l) s) && some (lines.cons a (behind_letter l s a))) || met l (Below s a))
  unfolding lines.cons
  letter_met l each s x a step =
      let b : Bool = same_stage y (staged (suc l) s) in
      let more : List Pair = lines.below w letters l (Below s a) in
      any_mapped (lines.longer a) (before (suc l) x) (λ p. b || before l (Below s a) p) (one_letter l s x a step) (behind_letter l s a)
      ∙ any-or b (before l (Below s a)) (behind_letter l s a)
      ∙ ap (λ c. (b && c) || list_any (before l (Below s a)) (behind_letter l s a))
      (sym (any_mapped (lines.longer a) (λ _. true) (λ _. true) (λ _. refl) (behind_letter l s a)))
      ∙ ap (λ c. (b && some (map (lines.longer a) (behind_letter l s a))) || c)
      (list_any-append (before l (Below s a)) (lines.here w (Below s a)) more
      ∙ ap (λ c. c || list_any (before l (Below s a)) more) (none_alone l (Below s a) (allowed_at w (Below s a))) ∙ each (Below s a))

  rows_met : (l : ℕ) → ((x : WordEnd) → list_any (before l x) (lines.below w letters l x) ≡ met l x) → (s : JudgeState) (x : WordEnd) →
      w.step x ≡ Some s → list_any (before (suc l) x) (lines.rows w letters l s letters)
      ≡ ((same_stage y (staged (suc l) s) && some (lines.rows w letters l s letters)) || list_any (λ a. met l (Below s a)) letters)
  unfolding lines.rows
  rows_met l each s x step =
      let b : Bool = same_stage y (staged (suc l) s) in
      any_flat (before (suc l) x) (λ a. lines.cons a (behind_letter l s a)) letters
      ∙ any-same (λ a. list_any (before (suc l) x) (lines.cons a (behind_letter l s a)))
      (λ a. (b && some (lines.cons a (behind_letter l s a))) || met l (Below s a)) (λ a. letter_met l each s x a step) letters
      ∙ any-both b (λ a. some (lines.cons a (behind_letter l s a))) (λ a. met l (Below s a)) letters
      ∙ ap (λ c. (b && c) || list_any (λ a. met l (Below s a)) letters)
      (sym (any_flat (λ _. true) (λ a. lines.cons a (behind_letter l s a)) letters))

  below_met : (l : ℕ) (x : WordEnd) → list_any (before l x) (lines.below w letters l x) ≡ met l x
  unfolding met
  below_met zero x = ap (list_any (before zero x)) (lines.below_end w letters x)
  below_met (suc l) x =
      elim (w.step x) as (λ o. w.step x ≡ o → list_any (before (suc l) x) (lines.below w letters (suc l) x)
      ≡ on_state o false (λ s. (same_stage y (staged (suc l) s) && some (lines.rows w letters l s letters))
      || list_any (λ a. met l (Below s a)) letters)) [
        | None ↦ λ e. ap (list_any (before (suc l) x)) (lines.below_none w letters (suc l) x e)
        | Some s ↦ λ e. ap (list_any (before (suc l) x)) (lines.below_some w letters l s x e) ∙ rows_met l (below_met l) s x e
      ] refl

  reached_zero : (x : WordEnd) (s : JudgeState) → w.step x ≡ Some s → reached_from w letters 0 x ≡ s ∷ []
  unfolding reached_from
  reached_zero x s e = ap option_to_list e

  reached_suc : (n : ℕ) (x : WordEnd) (s : JudgeState) → w.step x ≡ Some s →
      reached_from w letters (suc n) x ≡ flat_map (λ a. reached_from w letters n (Below s a)) letters
  unfolding reached_from
  reached_suc n x s e = ap (λ o. on_state o [] (λ s. flat_map (λ a. reached_from w letters n (Below s a)) letters)) e

  abbrev lives : Bool
  lives = some (lines.rows w letters (y.left - 1) (state_of y) letters)

  abbrev is_reached : ℕ → WordEnd → Bool
  is_reached n x = is_among (state_of y) (reached_from w letters n x)

  -- the stage of the state itself
  here : (l : ℕ) (s : JudgeState) → y.left ≡ suc l →
      (same_stage y (staged (suc l) s) && some (lines.rows w letters l s letters)) ≡ (lives && (is_state (state_of y) s || false))
  here l s e =
      ap (λ b. ((y.dir == s.dir) && ((y.links == s.used) && b)) && some (lines.rows w letters l s letters)) (eq-eqb y.left (suc l) e)
      ∙ drop_true (y.dir == s.dir) (y.links == s.used) (some (lines.rows w letters l s letters))
      ∙ elim (is_state (state_of y) s) as (λ b. is_state (state_of y) s ≡ b →
      (b && some (lines.rows w letters l s letters)) ≡ (lives && (b || false))) [
        | true ↦ λ same.
            let less : l ≡ y.left - 1 = omega (arith, e) in
            (λ i. some (lines.rows w letters (less i) (sym (one_state (state_of y) s same) i) letters)) ∙ sym (and-true lives)
        | false ↦ λ _. sym (and-false lives)
      ] refl
    where
      drop_true : (a b c : Bool) → ((a && (b && true)) && c) ≡ ((a && b) && c)
      drop_true true true c = refl
      drop_true true false c = refl
      drop_true false b c = refl

  not_here : (l : ℕ) (s : JudgeState) → (y.left ≡ suc l → ⊥) → same_stage y (staged (suc l) s) ≡ false
  not_here l s apart = ap (λ b. (y.dir == s.dir) && ((y.links == s.used) && b)) (ne_eqb y.left (suc l) apart) ∙
      none (y.dir == s.dir) (y.links == s.used)
    where
      none : (a b : Bool) → (a && (b && false)) ≡ false
      none true true = refl
      none true false = refl
      none false b = refl

  -- a stage with no letter left, or with more than may come, is not met
  met_none : (l : ℕ) → ((i : ℕ) → i < l → y.left ≡ suc i → ⊥) → (x : WordEnd) → met l x ≡ false
  unfolding met
  met_none zero none x = refl
  met_none (suc l) none x =
      elim (w.step x) as (λ o. on_state o false (λ s. (same_stage y (staged (suc l) s) && some (lines.rows w letters l s letters))
      || list_any (λ a. met l (Below s a)) letters) ≡ false) [
        | None ↦ refl
        | Some s ↦ ap (λ b. (b && some (lines.rows w letters l s letters)) || list_any (λ a. met l (Below s a)) letters)
            (not_here l s (none l (omega arith))) ∙ none_behind l (met_none l (λ i h. none i (omega (arith, h)))) s
      ]
    where
      none_behind : (l : ℕ) → ((x : WordEnd) → met l x ≡ false) → (s : JudgeState) → list_any (λ a. met l (Below s a)) letters ≡ false
      none_behind l each s = any-same (λ a. met l (Below s a)) (λ _. false) (λ a. each (Below s a)) letters ∙ any-none letters

  -- with so many letters before it
  met_after : (n l : ℕ) → l ≡ n + y.left → 0 < y.left → (x : WordEnd) → met l x ≡ (lives && is_reached n x)
  unfolding met
  met_after n zero e more x = absurd (omega (arith, e, more))
  met_after zero (suc l) e more x =
      elim (w.step x) as (λ o. w.step x ≡ o →
      on_state o false (λ s. (same_stage y (staged (suc l) s) && some (lines.rows w letters l s letters))
      || list_any (λ a. met l (Below s a)) letters) ≡ (lives && is_reached zero x)) [
        | None ↦ λ step. sym (ap (λ ss. lives && is_among (state_of y) ss) (reached_none w letters zero x step) ∙ and-false lives)
        | Some s ↦ λ step.
            ap (λ b. (same_stage y (staged (suc l) s) && some (lines.rows w letters l s letters)) || b)
            (any-same (λ a. met l (Below s a)) (λ _. false) (λ a. met_none l (λ i h is. omega (arith, e, h, is)) (Below s a)) letters ∙
            any-none letters)
            ∙ or-false (same_stage y (staged (suc l) s) && some (lines.rows w letters l s letters))
            ∙ here l s (omega (arith, e)) ∙ sym (ap (λ ss. lives && is_among (state_of y) ss) (reached_zero x s step))
      ] refl
  met_after (suc n) (suc l) e more x =
      elim (w.step x) as (λ o. w.step x ≡ o →
      on_state o false (λ s. (same_stage y (staged (suc l) s) && some (lines.rows w letters l s letters))
      || list_any (λ a. met l (Below s a)) letters) ≡ (lives && is_reached (suc n) x)) [
        | None ↦ λ step. sym (ap (λ ss. lives && is_among (state_of y) ss) (reached_none w letters (suc n) x step) ∙ and-false lives)
        | Some s ↦ λ step.
            ap (λ b. (b && some (lines.rows w letters l s letters)) || list_any (λ a. met l (Below s a)) letters)
            (not_here l s (λ is. omega (arith, e, is)))
            ∙ any-same (λ a. met l (Below s a)) (λ a. lives && is_reached n (Below s a))
            (λ a. met_after n l (omega (arith, e)) more (Below s a)) letters
            ∙ any-and lives (λ a. is_reached n (Below s a)) letters
            ∙ ap (λ b. lives && b) (sym (any_flat (is_state (state_of y)) (λ a. reached_from w letters n (Below s a)) letters) ∙
            ap (is_among (state_of y)) (sym (reached_suc n x s step)))
      ] refl

  met_told : (l : ℕ) (x : WordEnd) → met l x ≡ ((nat_lt 0 y.left && nat_le y.left l) && (lives && is_reached (l - y.left) x))
  met_told l x = elim (cases_lt 0 y.left) [
    | inl more ↦ elim (cases_lt l y.left) [
      | inl over ↦ met_none l (λ i h is. omega (arith, h, is, over)) x ∙
          (λ i. (sym (lt-ltb 0 y.left more) i && sym (lt-leb y.left l over) i) && (lives && is_reached (l - y.left) x))
      | inr under ↦ met_after (l - y.left) l (omega (arith, under)) more x ∙
          (λ i. (sym (lt-ltb 0 y.left more) i && sym (le-leb y.left l under) i) && (lives && is_reached (l - y.left) x))
    ]
    | inr none ↦ met_none l (λ i h is. omega (arith, is, none)) x ∙
        (λ i. (sym (le-ltb 0 y.left none) i && nat_le y.left l) && (lives && is_reached (l - y.left) x))
  ]

  passed_met : (l : ℕ) (x : WordEnd) (ps : List Pair) → is_staged y (stages_of w l x ps) ≡ list_any (before l x) ps
  passed_met l x ps = any_kept y (stage_after w l x) (flat_map (λ (p : Pair). shorter p.0) ps) ∙
      any_flat (λ u. leads_to y (stage_after w l x u)) (λ (p : Pair). shorter p.0) ps

pub stages_live : StagesLive
stages_live w letters limit y =
    ap (λ ps. is_staged y (stages_of w limit Start ps)) (lines.reach_is w letters limit)
    ∙ passed_met w letters y limit Start (lines.here w Start ++ lines.below w letters limit Start)
    ∙ list_any-append (before w letters y limit Start) (lines.here w Start) (lines.below w letters limit Start)
    ∙ ap (λ b. b || list_any (before w letters y limit Start) (lines.below w letters limit Start))
    (none_alone w letters y limit Start (allowed_at w Start))
    ∙ below_met w letters y limit Start ∙ met_told w letters y limit Start
