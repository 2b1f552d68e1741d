-- What a judge says of the states on the way to pairs, and of the states to which words lead.
use Rattle.pua_audit.proofs.Common.{◌≡◌, ℕ, zero, suc, ◌-◌, Bool, true, ◌&&◌, ◌==◌, nat_lt, nat_le, List, [], ◌∷◌, length, Option}
use Rattle.pua_audit.proofs.Common.{Some, None, ap, option_map, option_to_list, flat_map, filter_map, list_any, and_parts, eqb-true, Word}
use Rattle.pua_audit.proofs.Common.{Pair, Judge, WordEnd, Start, Below, reach_along, Stage, shorter, JudgeState, same_stage}
use Rattle.pua_audit.proofs.CutReach.{rows}
use Rattle.pua_audit.proofs.Tests.{some}

abbrev pub on_state : {B : Type 0} → Option JudgeState → B → (JudgeState → B) → B
on_state None none go = none
on_state (Some s) none go = go s

-- where the letters of a word lead from a place, one step after another
abbrev pub leads : Judge → WordEnd → Word → Option JudgeState
leads w x [] = w.step x
leads w x (a ∷ word) = on_state (w.step x) None (λ s. leads w (Below s a) word)

abbrev pub staged : ℕ → JudgeState → Stage
staged left s = record { dir = s.dir; links = s.used; left = left }

abbrev pub stage_after : Judge → ℕ → WordEnd → Word → Option Stage
stage_after w limit x word = option_map (staged (limit - length word)) (leads w x word)

-- the stages on the way to pairs, with repeats
abbrev pub stages_of : Judge → ℕ → WordEnd → List Pair → List Stage
stages_of w limit x ps = filter_map (stage_after w limit x) (flat_map (λ (p : Pair). shorter p.0) ps)

abbrev pub is_staged : Stage → List Stage → Bool
is_staged y xs = list_any (same_stage y) xs

-- the states to which the words of so many letters lead from a place, one for each word
unfoldable pub reached_from : Judge → List (List ℕ) → ℕ → WordEnd → List JudgeState
reached_from w letters zero x = option_to_list (w.step x)
reached_from w letters (suc n) x = on_state (w.step x) [] (λ s. flat_map (λ a. reached_from w letters n (Below s a)) letters)

-- after a place from which no word goes on there is none
pub reached_none : (w : Judge) (letters : List (List ℕ)) (n : ℕ) (x : WordEnd) → w.step x ≡ None → reached_from w letters n x ≡ []
unfolding reached_from
reached_none w letters zero x e = ap option_to_list e
reached_none w letters (suc n) x e =
    ap (λ o. on_state o [] (λ s. flat_map (λ a. reached_from w letters n (Below s a)) letters)) e

abbrev pub is_state : JudgeState → JudgeState → Bool
is_state a b = (a.dir == b.dir) && (a.used == b.used)

pub one_state : (a b : JudgeState) → is_state a b ≡ true → a ≡ b
one_state a b e = let both = and_parts (a.dir == b.dir) (a.used == b.used) e in
    λ i. record { dir = eqb-true a.dir b.dir both.0 i; used = eqb-true a.used b.used both.1 i }

abbrev pub is_among : JudgeState → List JudgeState → Bool
is_among y xs = list_any (is_state y) xs

abbrev pub state_of : Stage → JudgeState
state_of y = record { dir = y.dir; used = y.links }

-- a stage is on the way to a pair of the reach exactly if a letter may come, words of the other letters lead to it, and
-- some pair goes on from it
abbrev pub StagesLive : Type 0
StagesLive = (w : Judge) (letters : List (List ℕ)) (limit : ℕ) (y : Stage) →
    is_staged y (stages_of w limit Start (reach_along w letters limit))
    ≡ ((nat_lt 0 y.left && nat_le y.left limit) && (some (rows w letters (y.left - 1) (state_of y) letters)
    && is_among (state_of y) (reached_from w letters (limit - y.left) Start)))
