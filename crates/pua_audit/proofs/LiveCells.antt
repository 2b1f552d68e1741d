-- The live states of a graph are those of the judge for which it stands, cell by cell.
use Rattle.pua_audit.proofs.Common.{ℕ, suc, ◌-◌, ◌<◌, ◌≤◌, ◌≡◌, List, [], ◌∷◌, Option, Some, Bool, true, ◌||◌, ◌&&◌}
use Rattle.pua_audit.proofs.Common.{◌==◌, nat_lt, nat_le, refl, ap, arith, sym, ◌∙◌, map, length, get_or, inl, inr}
use Rattle.pua_audit.proofs.Common.{AllByRecursion, cases_eq, and_parts, eq-eqb, ne_eqb, le-leb, Pair, Judge, Start}
use Rattle.pua_audit.proofs.Common.{Stage, named_in, AreApart, IsKnown, AnswersAsJudge, pair_in_numbers, pair_in_letters, State, Visit}
use Rattle.std.proofs.Common.{ltb-true}
use Rattle.std.proofs.lemmas.Bool.{leb-true, lt-ltb}
use Rattle.pua_audit.specs.Judge as named
use Rattle.pua_audit.proofs.CutReach as lines
use Rattle.pua_audit.proofs.Stages.{is_state, is_among, one_state, state_of, reached_from}
use Rattle.pua_audit.proofs.Cells.{cell, IsCell}
use Rattle.pua_audit.proofs.Leading.{graphs_lead}
use Rattle.pua_audit.proofs.Refined.{rows_alike}
use Rattle.std.proofs.lemmas.List.Elements.{All-contains, All-from_recursion}
use Rattle.pua_steps.proofs.ForCallers.{all_reached, passing}
use Rattle.pua_audit.proofs.Tests.{any_mapped, some}
use Rattle.pua_steps.specs.Graph as graph
use Rattle.pua_steps.specs.Reached as steps
use Rattle.std.proofs.Math.Bool.{and_comm}

-- tests

graph_some_is : (ps : List graph.Pair) → graph.some_pair ps ≡ some ps
graph_some_is [] = refl
graph_some_is (p ∷ ps) = refl

module _ (names : List ℕ) where
  abbrev name : State → named.JudgeState
  name s = named_in names s

  -- what is among names is the name of a state
  named_one : (y : named.JudgeState) (ss : List State) → AllByRecursion (IsKnown names) ss → is_among y (map name ss) ≡ true →
      (s : State) × (IsKnown names s × (y ≡ name s))
  named_one y ss all there =
      let s = passing (λ s. is_state y (name s)) ss (sym (any_mapped name (is_state y) (λ s. is_state y (name s)) (λ _. refl) ss) ∙ there) in
      (s.0, (All-contains (IsKnown names) ss s.0 (All-from_recursion (IsKnown names) ss all) s.1, one_state y (name s.0) s.2))

  module _ (apart : AreApart names) where
    one_dir : (d e : ℕ) → d < length names → e < length names → (get_or names d 0 == get_or names e 0) ≡ (d == e)
    one_dir d e low high = elim (cases_eq d e) [
      | inl same ↦ eq-eqb (get_or names d 0) (get_or names e 0) (ap (λ n. get_or names n 0) same) ∙ sym (eq-eqb d e same)
      | inr away ↦ ne_eqb (get_or names d 0) (get_or names e 0) (λ same. away (apart d e low high same)) ∙ sym (ne_eqb d e away)
    ]

    -- no two states have one name
    among_named : (s : State) (ss : List State) → s.dir < length names → AllByRecursion (IsKnown names) ss →
        is_among (name s) (map name ss) ≡ steps.is_among s ss
    among_named s [] low all = refl
    among_named s (x ∷ xs) low all = (λ i. (one_dir s.dir x.dir low all.0.dir i && (s.used == x.used)) || among_named s xs low all.1 i)

module _ (w : Judge) (letters : List (List ℕ)) (names : List ℕ) (g : State →
    List Visit) (set : ℕ) (base : Option State) (stands : AnswersAsJudge w letters names g set base (IsKnown names)) where
  -- all states to which words lead are of the graph
  reached : (n : ℕ) → AllByRecursion (IsKnown names) (steps.states_after g n base)
  reached n = all_reached g (IsKnown names) (λ s is. (stands.states s is).closed) n base stands.begins

  abbrev goes_on : ℕ → named.JudgeState → Bool
  goes_on left s = some (lines.rows w letters (left - 1) s letters)

  goes_on_alike : (left : ℕ) (s : State) → 0 < left → IsKnown names s →
      graph.some_pair (graph.below (λ _. g) left (Some s)) ≡ goes_on left (named_in names s)
  goes_on_alike left s some_left is =
      let more : left ≡ suc (left - 1) = omega (arith, some_left) in
      let ps : List Pair = lines.rows w letters (left - 1) (named_in names s) letters in
      let qs : List graph.Pair = graph.below (λ _. g) (suc (left - 1)) (Some s) in
      ap (λ n. graph.some_pair (graph.below (λ _. g) n (Some s))) more
      ∙ graph_some_is qs ∙ sym (any_mapped (pair_in_letters letters) (λ _. true) (λ _. true) (λ _. refl) qs) ∙
      sym (ap some (rows_alike w letters names g (IsKnown names) stands.states (left - 1) s is)) ∙
      any_mapped pair_in_numbers (λ _. true) (λ _. true) (λ _. refl) ps

  -- what `StagesLive` says of a stage
  abbrev pub told : ℕ → Stage → Bool
  told limit y = (nat_lt 0 y.left && nat_le y.left limit)
      && (goes_on y.left (state_of y) && is_among (state_of y) (reached_from w letters (limit - y.left) Start))

  -- such a stage is at a cell
  pub told_at : (limit : ℕ) (y : Stage) → told limit y ≡ true → IsCell names limit limit 33 y
  told_at limit y e =
      let among = is_among (state_of y) (reached_from w letters (limit - y.left) Start) in
      let both = and_parts (nat_lt 0 y.left && nat_le y.left limit) (goes_on y.left (state_of y) && among) e in
      let range = and_parts (nat_lt 0 y.left) (nat_le y.left limit) both.0 in
      let more : 0 < y.left = ltb-true 0 y.left range.0 in
      let low : y.left ≤ limit = leb-true y.left limit range.1 in
      let s = named_one names (state_of y) (steps.states_after g (limit - y.left) base) (reached (limit - y.left))
      (ap (is_among (state_of y)) (graphs_lead w letters names g set base (limit - y.left) stands) ∙
      (and_parts (goes_on y.left (state_of y)) among both.1).1) in
      record {
        before = limit - y.left;
        place = s.0.dir;
        low = omega (arith, more, low);
        there = s.1.0.dir;
        few = omega (arith, s.1.0.used, ap (λ (z : named.JudgeState). z.used) s.1.1);
        dir = ap (λ (z : named.JudgeState). z.dir) s.1.1;
        left = omega (arith, low);
      }

  -- at a cell it is whether the state of the graph is live
  pub told_by_cells : AreApart names → (limit n d u : ℕ) → n < limit → d < length names → u < 33 →
      told limit (cell names limit limit 33 n d u) ≡ steps.is_live (λ _. g) limit base n (record { dir = d; used = u })
  told_by_cells apart limit n d u low there few =
      let s : State = record { dir = d; used = u } in
      let back : limit - (limit - n) ≡ n = omega (arith, low) in
      (λ i. (lt-ltb 0 (limit - n) (omega (arith, low)) i && le-leb (limit - n) limit (omega arith) i)
      && (goes_on (limit - n) (named_in names s) && is_among (named_in names s) (reached_from w letters (back i) Start)))
      ∙ and_comm (goes_on (limit - n) (named_in names s)) (is_among (named_in names s) (reached_from w letters n Start))
      ∙ (λ i. (ap (is_among (named_in names s)) (sym (graphs_lead w letters names g set base n stands)) ∙
      among_named names apart s (steps.states_after g n base) there (reached n)) i
      && sym (goes_on_alike (limit - n) s (omega (arith, low)) (record { dir = there; used = omega (arith, few) })) i)
