-- There are few live states: each is a living directory, a number of links followed, and a number of letters that may still come.
use Rattle.pua_audit.proofs.Common.{ℕ, suc, ◌*◌, ◌-◌, ◌<◌, ◌≤◌, ◌≡◌, List, [], ◌∷◌, Option, Some, None, true, false, AllByRecursion}
use Rattle.pua_audit.proofs.Common.{◌&&◌, not, cond, refl, ap, arith, sym, subst, ◌∙◌, map, length, length-map, option_map, inl, inr, get_or}
use Rattle.pua_audit.proofs.Common.{and_parts, false≢true, is_lt, nat_cmp-IsAntisymmetric, nat_cmp, nat_eq, ne_eqb, tied_itself, IsTrue, IsDistinct}
use Rattle.pua_audit.proofs.Common.{result_ok, Tree, is_dir, ◌>>=◌, same_Some, steps, part_of, Errno, Part, is_ended, Scope}
use Rattle.pua_audit.proofs.Common.{base_dir, IsAudited, Stage, passed_states, and-false, RootedTree, seen_by}
use Rattle.std.proofs.Common.{Result, Ok, Err}
use Rattle.std.proofs.lemmas.Bool.{cases_Bool}
use Rattle.std.proofs.Math.Nat.{mul_assoc, mul_comm}
use Rattle.std.specs.Cmp.{Equal-is, nat_cmp_total}
use Rattle.std.specs.FinMap.{find as find_key, is_sorted}
use Rattle.std.specs.FinMap.Entries.{below_all}
use Rattle.std.specs.Ordering.{is_eq}
use Rattle.std.specs.Prelude.{is_some}
use Rattle.pua_tree.specs.Tree.{Node, is_dir_kind, node_at}
use Rattle.pua_tree.proofs.ForCallers.{same_Ok}
use Rattle.pua_path.specs.Laws.{ResolutionFits}
use Rattle.pua_path.specs.Resolution.{step}
use Rattle.pua_path.proofs.ForCallers.{resolutions_fit, seen_root_lives}
use Rattle.pua_audit.specs.Laws.{LiveStatesFew}
use Rattle.pua_audit.specs.Live.{IsLive}
use Rattle.pua_audit.proofs.Cells.{all_staged, counted, IsCell, summed, summed-le}
use Rattle.pua_audit.proofs.LiveStates.{live_states_count}
use Rattle.pua_audit.proofs.Made.{distinct_apart}
use Rattle.pua_audit.proofs.Stages.{is_staged}
use Rattle.pua_audit.proofs.Unique.{live_if_passed}

-- the numbers of nodes

abbrev numbers : List (ℕ × Node) → List ℕ
numbers ns = map (λ (n : ℕ × Node). n.0) ns

place_of : (d : ℕ) (ns : List (ℕ × Node)) → is_some (find_key nat_cmp d ns) ≡ true → (k : ℕ) × (k < length ns) × (d ≡ get_or (numbers ns) k 0)
place_of d [] found = absurd cc
place_of d (n ∷ ns) found =
    elim (is_eq (nat_cmp d n.0)) as (λ b. is_eq (nat_cmp d n.0) ≡ b → is_some (cond b (Some n.1) (find_key nat_cmp d ns)) ≡ true →
    (k : ℕ) × (k < suc (length ns)) × (d ≡ get_or (numbers (n ∷ ns)) k 0)) [
      | true ↦ λ same _. (0, omega arith, nat_cmp-IsAntisymmetric d n.0 ((Equal-is (nat_cmp d n.0)).0 same))
      | false ↦ λ _ there. let at = place_of d ns there in (suc at.0, omega (arith, at.1), at.2)
    ] refl found

keys_after : (d : ℕ) (ns : List (ℕ × Node)) → below_all nat_cmp d ns ≡ true → AllByRecursion (λ e. nat_eq d e ≡ false) (numbers ns)
keys_after d [] less = tt
keys_after d (n ∷ ns) less =
    let both = and_parts (is_lt (nat_cmp d n.0)) (below_all nat_cmp d ns) less in
    (ne_eqb d n.0 (λ same. false≢true (sym (ap is_lt (tied_itself nat_cmp_total d)) ∙ ap (λ k. is_lt (nat_cmp d k)) same ∙ both.0)), keys_after d ns both.1)

keys_distinct : (ns : List (ℕ × Node)) → is_sorted nat_cmp ns ≡ true → IsDistinct nat_eq (numbers ns)
unfolding IsDistinct
keys_distinct [] sorted = tt
keys_distinct (n ∷ ns) sorted =
    let both = and_parts (below_all nat_cmp n.0 ns) (is_sorted nat_cmp ns) sorted in (keys_after n.0 ns both.0, keys_distinct ns both.1)

-- what is live is at one of them

place_found : (t : Tree) (d : ℕ) → IsTrue (is_dir t d) → (k : ℕ) × (k < length t.nodes) × (d ≡ get_or (numbers t.nodes) k 0)
place_found t d lives = by (node_at t d) refl lives
  where
    by : (o : Option Node) → node_at t d ≡ o → IsTrue (is_dir_kind (option_map (λ n. n.kind) o)) →
        (k : ℕ) × (k < length t.nodes) × (d ≡ get_or (numbers t.nodes) k 0)
    by None e h = absurd cc
    by (Some n) e h = place_of d t.nodes (ap is_some e)

steps_fit : (t : RootedTree) → ResolutionFits t → (parts : List Part) (at end : ℕ × ℕ) → IsTrue (is_dir t.tree at.0) → at.1 ≤ 32 →
    steps t parts at ≡ Ok end → IsTrue (is_dir t.tree end.0) × (end.1 ≤ 32)
steps_fit t fits [] at end lives few is = subst (λ (x : ℕ × ℕ). IsTrue (is_dir t.tree x.0) × (x.1 ≤ 32)) (same_Ok at end is) (lives, few)
steps_fit t fits (part ∷ parts) at end lives few is = by (step t at.0 at.1 part) refl is (λ next. steps_fit t fits parts next end)
  where
    by : (r : Result (ℕ × ℕ) Errno) → step t at.0 at.1 part ≡ r → (r >>= steps t parts) ≡ Ok end
        → ((next : ℕ × ℕ) → IsTrue (is_dir t.tree next.0) → next.1 ≤ 32 → steps t parts next ≡ Ok end →
        IsTrue (is_dir t.tree end.0) × (end.1 ≤ 32)) →
        IsTrue (is_dir t.tree end.0) × (end.1 ≤ 32)
    by (Ok next) there is more = more next (fits.step at.0 at.1 part next lives there) (fits.used at.0 at.1 part next there) is
    by (Err errno) there is more = absurd cc

abbrev IsAmong : Scope → Stage → Type 0
IsAmong s y = IsTrue (is_dir s.tree y.dir) × ((y.links < 33) × (y.left < suc s.limit))

live_fits : (s : Scope) → IsAudited s → IsTrue (is_dir s.tree (base_dir s.base s.process)) → (y : Stage) → IsLive s y → IsAmong s y
live_fits s is lives y (pair, word, there, front, leads) =
    by (steps (seen_by s.tree s.process) (map part_of word) (base_dir s.base s.process, 0)) refl leads
  where
    by : (r : Result (ℕ × ℕ) Errno) → steps (seen_by s.tree s.process) (map part_of word) (base_dir s.base s.process, 0) ≡ r
        → option_map (λ (at : ℕ × ℕ). record { dir = at.0; links = at.1; left = s.limit - length word }) (result_ok r) ≡ Some y →
        IsAmong s y
    by (Ok at) stands e =
        let fit = steps_fit (seen_by s.tree s.process)
        (resolutions_fit (seen_by s.tree s.process) is.tree (seen_root_lives s.tree s.process.start is.tree)) (map part_of word) (
          base_dir s.base s.process,
          0,
        ) at lives (omega arith) stands in
        subst (IsAmong s) (same_Some (record { dir = at.0; links = at.1; left = s.limit - length word }) y e) (
          fit.0,
          (omega (arith, fit.1), omega arith),
        )
    by (Err errno) stands e = absurd cc

at_cell : (s : Scope) (y : Stage) → IsAmong s y → IsCell (numbers s.tree.nodes) (suc s.limit) s.limit 33 y
at_cell s y is =
    let at = place_found s.tree y.dir is.0 in record {
      before = s.limit - y.left;
      place = at.0;
      low = omega arith;
      there = omega (arith, at.1, length-map s.tree.nodes (λ (n : ℕ × Node). n.0));
      few = is.1.0;
      dir = at.2;
      left = omega (arith, is.1.1);
    }

ordered : (layers : ℕ) (ns : List (ℕ × Node)) → layers * (length (numbers ns) * 33) ≡ 33 * (length ns * layers)
ordered layers ns =
    ap (λ n. layers * (n * 33)) (length-map ns (λ (n : ℕ × Node). n.0)) ∙ mul_comm layers (length ns * 33) ∙
    ap (λ m. m * layers) (mul_comm (length ns) 33) ∙ mul_assoc 33 (length ns) layers

pub few_states : LiveStatesFew
few_states s is =
    elim (cases_Bool (is_dir s.tree (base_dir s.base s.process))) [
      | inl lives ↦
          let ns : List ℕ = numbers s.tree.nodes in
          let many = counted ns (suc s.limit) s.limit 33 (omega arith) (distinct_apart ns (keys_distinct s.tree.nodes is.tree.nodes_in_order))
          (passed_states s) (all_staged (IsCell ns (suc s.limit) s.limit 33) (passed_states s)
          (λ y there. at_cell s y (live_fits s is lives y (live_if_passed s y there)))) in
          subst (λ n. n ≤ 33 * (length s.tree.nodes * suc s.limit)) (sym many)
          (subst (λ n. summed ns (suc s.limit) s.limit 33 (λ y. is_staged y (passed_states s)) ≤ n) (ordered (suc s.limit) s.tree.nodes)
          (summed-le ns (suc s.limit) s.limit 33 (λ y. is_staged y (passed_states s))))
      | inr gone ↦
          let none = live_states_count.none s is (ap (λ b. not (is_ended s.process) && b) gone ∙ and-false (not (is_ended s.process))) in
          omega (arith, none)
    ]
