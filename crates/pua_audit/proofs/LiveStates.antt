-- How many states are live, by the reach and by a graph of steps.
use Rattle.pua_audit.proofs.Common.{ℕ, ◌-◌, ◌≡◌, List, [], ◌∷◌, Option, None, refl, ap, sym, ◌∙◌, map, length, option_map, flat_map}
use Rattle.pua_audit.proofs.Common.{filter_map, IsTrue, result_ok, is_dir, ◌>>=◌, part_of, steps, Errno, Word, Pair, Scope}
use Rattle.pua_audit.proofs.Common.{Start, Below, base_dir, judge_for, reach_along, state_of, IsAudited, Stage, shorter, stage_after}
use Rattle.pua_audit.proofs.Common.{live_states, passed_states, same_stage, unique_keys, IsKnown, AnswersAsJudge, AreApart, live_count, State, Visit}
use Rattle.pua_audit.proofs.Common.{RootedTree, seen_by}
use Rattle.std.proofs.Common.{Result, Ok, Err, arith}
use Rattle.pua_path.specs.Resolution.{step}
use Rattle.pua_steps.specs.Reached.{is_live}
use Rattle.pua_audit.specs.Graphs.{LiveStatesCount}
use Rattle.pua_audit.specs.Judge as named
use Rattle.pua_audit.proofs.Audited.{reaches_along, closed_reaches}
use Rattle.pua_audit.proofs.Cells.{all_staged, by_cells, cell, counted, IsCell}
use Rattle.pua_audit.proofs.LiveCells.{told, told_at, told_by_cells}
use Rattle.pua_audit.proofs.Stages as along
use Rattle.pua_audit.proofs.Stages.{is_staged}
use Rattle.pua_audit.proofs.Staged.{stages_live}

then_ok : {A : Type 0} (r : Result A Errno) → (r >>= λ at. Ok at) ≡ r
then_ok (Ok at) = refl
then_ok (Err errno) = refl

module _ (s : Scope) where
  abbrev t : RootedTree
  t = seen_by s.tree s.process

  -- where a word leads, by the steps along its parts
  leads_by_steps : (at : named.JudgeState) (a : List ℕ) (word : Word) →
      along.leads (judge_for s) (Below at a) word ≡ state_of (steps t (part_of a ∷ map part_of word) (at.dir, at.used))
  leads_by_steps at a [] = ap state_of (sym (then_ok (step t at.dir at.used (part_of a))))
  leads_by_steps at a (b ∷ word) =
      ap (along.on_state (state_of (step t at.dir at.used (part_of a))) None) (λ i next. leads_by_steps next b word i) ∙
      by (step t at.dir at.used (part_of a))
    where
      by : (r : Result (ℕ × ℕ) Errno) →
          along.on_state (state_of r) None (λ next. state_of (steps t (part_of b ∷ map part_of word) (next.dir, next.used)))
          ≡ state_of (r >>= steps t (part_of b ∷ map part_of word))
      by (Ok next) = refl
      by (Err errno) = refl

  start_by_steps : (word : Word) → along.leads (judge_for s) Start word ≡ state_of (steps t (map part_of word) (
    base_dir s.base s.process,
    0,
  ))
  start_by_steps [] = refl
  start_by_steps (a ∷ word) = leads_by_steps (record { dir = base_dir s.base s.process; used = 0 }) a word

  stage_alike : (word : Word) → stage_after s word ≡ along.stage_after (judge_for s) s.limit Start word
  stage_alike word = by (steps t (map part_of word) (base_dir s.base s.process, 0)) ∙
      ap (option_map (along.staged (s.limit - length word))) (sym (start_by_steps word))
    where
      by : (r : Result (ℕ × ℕ) Errno) →
          option_map (λ (at : ℕ × ℕ). record { dir = at.0; links = at.1; left = s.limit - length word }) (result_ok r)
          ≡ option_map (along.staged (s.limit - length word)) (state_of r)
      by (Ok at) = refl
      by (Err errno) = refl

  passed_along : IsAudited s → IsTrue (is_dir s.tree (base_dir s.base s.process)) →
      passed_states s ≡ along.stages_of (judge_for s) s.limit Start (reach_along (judge_for s) s.alphabet s.limit)
  passed_along is lives =
      ap (λ ps. filter_map (stage_after s) (flat_map (λ (p : Pair). shorter p.0) ps)) (reaches_along s is lives)
      ∙ ap (λ f. filter_map f (flat_map (λ (p : Pair). shorter p.0) (reach_along (judge_for s) s.alphabet s.limit)))
      (λ i word. stage_alike word i)

  module _ (names : List ℕ) (g : State → List Visit) (set : ℕ) (base : Option State) (is : IsAudited s)
      (lives : IsTrue (is_dir s.tree (base_dir s.base s.process)))
      (stands : AnswersAsJudge (judge_for s) s.alphabet names g set base (IsKnown names)) where
    told_live : (y : Stage) → is_staged y (passed_states s) ≡ told (judge_for s) s.alphabet names g set base stands s.limit y
    told_live y = ap (is_staged y) (passed_along is lives) ∙ stages_live (judge_for s) s.alphabet s.limit y

    all_counted : AreApart names → length (live_states s) ≡ live_count (λ _. g) (length names) s.limit base s.limit
    all_counted apart =
        counted names s.limit s.limit 33 (omega arith) apart (passed_states s)
        (all_staged (IsCell names s.limit s.limit 33) (passed_states s)
        (λ y there. told_at (judge_for s) s.alphabet names g set base stands s.limit y (sym (told_live y) ∙ there)))
        ∙ by_cells names s.limit s.limit 33 (λ y. is_staged y (passed_states s))
        (λ n d u. is_live (λ _. g) s.limit base n (record { dir = d; used = u }))
        (λ n d u low there few. told_live (cell names s.limit s.limit 33 n d u) ∙
        told_by_cells (judge_for s) s.alphabet names g set base stands apart s.limit n d u low there few)

pub live_states_count : LiveStatesCount
live_states_count = record {
  counted = λ s names g set base is lives apart stands. all_counted s names g set base is lives stands apart;
  none = λ s is none. ap (λ ps. length (unique_keys same_stage (filter_map (stage_after s) (flat_map (λ (p : Pair). shorter p.0) ps))))
      (closed_reaches s is none);
}
