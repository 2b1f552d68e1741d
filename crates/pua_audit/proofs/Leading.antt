-- Words lead to the same states on the graph and in the world.
use Rattle.pua_audit.proofs.Common.{ℕ, zero, suc, ◌≡◌, List, [], ◌∷◌, ◌++◌, Option, Some, None, Bool, true, false, cond, refl, ap, arith}
use Rattle.pua_audit.proofs.Common.{sym, ◌∙◌, map, length, get_or, option_map, flat_map, option_to_list, IfSome, range_with_len}
use Rattle.pua_audit.proofs.Common.{cons_option, calls, bit_of, Call, Judge, WordEnd, Start, Below, has_call, calls_of, call_count, State, Visit}
use Rattle.pua_audit.proofs.Common.{named_in, IsRight, HasJudgedVisits, IsKnown, AnswersAsJudge}
use Rattle.std.proofs.Common.{filter}
use Rattle.pua_audit.specs.Judge as named
use Rattle.pua_steps.specs.Reached.{states_after, states_behind}
use Rattle.pua_audit.specs.Graphs.{MasksList}
use Rattle.pua_audit.proofs.Stages.{on_state, reached_from, reached_none}
use Rattle.pua_audit.proofs.Refined.{map-flat_map, by_places, from_letters, all_pairs}
use Rattle.pua_audit.proofs.CutReach.{flat_map-flat_map, flat_map-cong}

module _ (g : State → List Visit) where
  -- the same with the first letter first
  led : ℕ → Option State → List State
  led zero o = option_to_list o
  led (suc n) None = []
  led (suc n) (Some s) = flat_map (λ v. led n v.behind) (g s)

  behind_flat : (vs : List Visit) → flat_map (λ (v : Visit). option_to_list v.behind) vs ≡ states_behind vs
  behind_flat [] = refl
  behind_flat (v ∷ vs) = one v.behind (flat_map (λ (v : Visit). option_to_list v.behind) vs) ∙ ap (cons_option v.behind) (behind_flat vs)
    where
      one : (o : Option State) (ss : List State) → option_to_list o ++ ss ≡ cons_option o ss
      one None ss = refl
      one (Some s) ss = refl

  led_more : (n : ℕ) (o : Option State) → flat_map (λ s. states_behind (g s)) (led n o) ≡ led (suc n) o
  unfolding led
  led_more zero None = refl
  led_more zero (Some s) = append_none (states_behind (g s)) ∙ sym (behind_flat (g s))
    where
      append_none : (ss : List State) → ss ++ [] ≡ ss
      append_none [] = refl
      append_none (x ∷ ss) = ap (λ ys. x ∷ ys) (append_none ss)
  led_more (suc n) None = refl
  led_more (suc n) (Some s) = flat_map-flat_map (λ s. states_behind (g s)) (λ v. led n v.behind) (g s) ∙
      flat_map-cong (λ v. flat_map (λ s. states_behind (g s)) (led n v.behind)) (λ v. led (suc n) v.behind) (λ v. led_more n v.behind) (g s)

  reached_led : (n : ℕ) (o : Option State) → states_after g n o ≡ led n o
  unfolding states_after led
  reached_led zero o = refl
  reached_led (suc n) o = ap (flat_map (λ s. states_behind (g s))) (reached_led n o) ∙ led_more n o

module _ (w : Judge) (letters : List (List ℕ)) (names : List ℕ) (g : State → List Visit) (stands : (s : State) → IsKnown names s →
    HasJudgedVisits w letters names g (IsKnown names) s) where
  named_led : (n : ℕ) (x : WordEnd) (o : Option State) → w.step x ≡ option_map (named_in names) o → IfSome o (IsKnown names) →
      map (named_in names) (led g n o) ≡ reached_from w letters n x
  unfolding led reached_from
  named_led zero x None step is = sym (ap option_to_list step)
  named_led zero x (Some s) step is = sym (ap option_to_list step)
  named_led (suc n) x None step is = sym (reached_none w letters (suc n) x step)
  named_led (suc n) x (Some s) step is =
      let right = stands s is in
      let t : named.JudgeState = named_in names s in
      map-flat_map (named_in names) (λ v. led g n v.behind) (g s)
      ∙ sym (from_letters (λ i. reached_from w letters n (Below t (get_or letters i []))) (λ v. map (named_in names) (led g n v.behind))
      (length letters) 0 (length letters) (g s) (omega arith) right.rises
      (all_pairs (λ v. IsRight w letters names s v) (λ v. IfSome v.behind (IsKnown names))
      (λ v. reached_from w letters n (Below t (get_or letters v.letter [])) ≡ map (named_in names) (led g n v.behind))
      (λ v a b. sym (named_led n (Below t (get_or letters v.letter [])) v.behind a.behind b)) (g s) right.right right.closed)
      (λ i low high gone. reached_none w letters n (Below t (get_or letters i [])) (right.missing i high gone).behind))
      ∙ sym (by_places (λ a. reached_from w letters n (Below t a)) letters [] 0 refl)
      ∙ sym (ap (λ o. on_state o [] (λ s. flat_map (λ a. reached_from w letters n (Below s a)) letters)) step)

-- the states to which words of so many letters lead are those of the judge, in the same order
pub graphs_lead : (w : Judge) (letters : List (List ℕ)) (names : List ℕ) (g : State → List Visit) (set : ℕ) (base : Option State) (n : ℕ) →
    AnswersAsJudge w letters names g set base (IsKnown names)
    → map (named_in names) (states_after g n base) ≡ reached_from w letters n Start
graphs_lead w letters names g set base n is = ap (map (named_in names)) (reached_led g n base) ∙
    named_led w letters names g is.states n Start base is.base is.begins

map_filter : (f : Call → Bool) (mask : ℕ) → ((c : Call) → has_call mask (bit_of c) ≡ f c) → (cs : List Call) →
    map bit_of (filter f cs) ≡ filter (has_call mask) (map bit_of cs)
map_filter f mask bits [] = refl
map_filter f mask bits (c ∷ cs) =
    elim (f c) as (λ b. f c ≡ b →
    map bit_of (cond b (c ∷ filter f cs) (filter f cs)) ≡ cond (has_call mask (bit_of c))
    (bit_of c ∷ filter (has_call mask) (map bit_of cs)) (filter (has_call mask) (map bit_of cs))) [
      | true ↦ λ e. ap (λ ns. bit_of c ∷ ns) (map_filter f mask bits cs) ∙
          ap (λ b. cond b (bit_of c ∷ filter (has_call mask) (map bit_of cs)) (filter (has_call mask) (map bit_of cs))) (sym (bits c ∙ e))
      | false ↦ λ e. map_filter f mask bits cs ∙
          ap (λ b. cond b (bit_of c ∷ filter (has_call mask) (map bit_of cs)) (filter (has_call mask) (map bit_of cs))) (sym (bits c ∙ e))
    ] refl

-- the table of steps has as many calls as there are
all_places : map bit_of calls ≡ range_with_len 0 call_count
all_places = refl

pub masks_list : MasksList
unfolding calls_of
masks_list f mask bits = map_filter f mask bits calls ∙ ap (filter (has_call mask)) all_places
