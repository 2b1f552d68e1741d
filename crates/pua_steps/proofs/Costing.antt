-- A walk's tables and frames are within the bound on visits.
use Rattle.pua_steps.proofs.Common.{ℕ, zero, suc, ◌+◌, ◌-◌, ◌*◌, ◌≤◌, ◌≡◌, List, [], ◌∷◌, Option, Some, None, true, false, cond, ◌==◌, refl}
use Rattle.pua_steps.proofs.Common.{ap, arith, sym, ◌∙◌, length, map, length-append, IfSome, range_with_len, AllByRecursion, length-map}
use Rattle.pua_steps.proofs.Common.{calls_of, TrailEvent, pairs_of, IsTable, IsState, IsEntry, Rising, visits_from, gap, missing_visit}
use Rattle.pua_steps.proofs.Common.{visit_of, missing_at, IsOpen, within, narrow_of, rest_of, list_of, live_of, IsSized, looks, trail}
use Rattle.pua_steps.proofs.Common.{IsReady, AreOpen, rests_of, State, Visit, Frame, Entry, Steps, Walk, Lists}
use Rattle.std.specs.Prelude.{MatchOption}
use Rattle.pua_steps.specs.declared.live.Live as table
use Rattle.pua_steps.proofs.Closing.{visits_stay}
use Rattle.pua_steps.proofs.WalkLists.{all_within, list_known, list_rises}
use Rattle.pua_steps.proofs.Narrowing.{prunes, lists_live}
use Rattle.pua_steps.proofs.Gap.{Fits, IsRest, few_visits}

range_length : (k n : ℕ) → length (range_with_len k n) ≡ n
range_length k zero = refl
range_length k (suc n) = ap suc (range_length (k + 1) n)

gap_few : (m next n : ℕ) → length (gap m next n) ≤ n
unfolding gap
gap_few m next n = elim (m == 0) as (λ b. length (cond b [] (map (missing_visit m) (range_with_len next n))) ≤ n) [
  | true ↦ omega arith
  | false ↦ omega (arith, length-map (range_with_len next n) (missing_visit m), range_length next n)
]

-- a state has no more visits than there are letters
visits_few : (t : Steps) (m u next : ℕ) (es : List Entry) → AllByRecursion (λ e. IsEntry t e) es → Rising next es →
    length (visits_from t.letters m u next es) ≤ t.letters - next
unfolding visits_from
visits_few t m u next [] all rises = gap_few m next (t.letters - next)
visits_few t m u next (e ∷ es) all rises =
    omega (
      arith,
      length-append (gap m next (e.letter - next)) (visit_of u e ∷ visits_from t.letters m u (suc e.letter) es),
      gap_few m next (e.letter - next),
      visits_few t m u (suc e.letter) es all.1 rises.1,
      rises.0,
      all.0.letter,
    )

lists_few : (t : Steps) (v : table.Live) → IsTable t → (l : ℕ) (s : State) → IsState t s → length (narrow_of t v l s) ≤ t.letters
unfolding narrow_of
lists_few t v known l s is =
    let few = visits_few t (missing_at t s.dir) s.used 0 (list_of t v l s.dir) (list_known t v l s.dir known is.dir)
    (list_rises t v l s.dir known is.dir) in omega (arith, few)

pub fits : (t : Steps) (v : table.Live) (limit : ℕ) → IsTable t → IsSized t v limit →
    Fits (narrow_of t v) (live_of v) limit t.letters (λ s. IsState t s)
fits t v limit known sized =
    record {
      prunes = prunes t v limit known sized;
      lives = λ l s short is lives. sym (lists_live t v limit known sized (suc l) s short is)
          ∙ lives;
      few = lists_few t v known;
    }

module _ (t : Steps) (v : table.Live) (limit : ℕ) (known : IsTable t) (sized : IsSized t v limit) (ls : Lists)
    (entries : AllByRecursion (λ e. IsEntry t e) ls.entries.items) where
  abbrev Rest : List Visit → Type 0
  Rest vs = IsRest (narrow_of t v) (live_of v) limit t.letters (λ s. IsState t s) (fits t v limit known sized) vs

  pub rest_is : (f : Frame) → IsOpen t ls f → Rest (rest_of t ls f)
  unfolding rest_of
  rest_is f is =
      let es : List Entry = within ls.entries.items f.place f.end in
      let all : AllByRecursion (λ e. IsEntry t e) es = all_within (λ e. IsEntry t e) ls.entries.items f.place f.end entries in
      let few = visits_few t (missing_at t f.state.dir) f.state.used f.next es all is.rises in
      record {
        few = omega (arith, few);
        stays = visits_stay t t.letters (missing_at t f.state.dir) f.state.used f.next es is.state.used all;
      }

  rests_are : (frames : List Frame) → AreOpen t ls frames → AllByRecursion Rest (rests_of t ls frames)
  rests_are [] all = tt
  rests_are (f ∷ frames) all = (rest_is f all.0, rests_are frames all.1)

pub states_of : (P : State → Type 0) (Q : State → Type 0) (o : Option State) → IfSome o (λ s. P s × Q s) → IfSome o P
states_of P Q None h = tt
states_of P Q (Some s) h = h.0

-- how many letters are looked at
pub cost_of : (a : Walk) → IsReady a → (n : ℕ) (es : List TrailEvent) → trail a ≡ looks n es → n ≤ 2 * (a.limit * a.tables.steps.letters)
cost_of a ready n es e =
    let known = ready.sound.table in
    let sized = ready.sound.sized in
    few_visits (narrow_of a.tables.steps a.tables.live) (live_of a.tables.live) a.limit a.tables.steps.letters
    (λ s. IsState a.tables.steps s) (fits a.tables.steps a.tables.live a.limit known sized) a.word.items (calls_of a.calls) a.behind
    (rests_of a.tables.steps a.tables.counted.lists a.frames.items) n es
    (states_of (λ s. IsState a.tables.steps s) (λ s. live_of a.tables.live (a.limit - length a.word.items) s ≡ true) a.behind ready.behind)
    (rests_are a.tables.steps a.tables.live a.limit known sized a.tables.counted.lists ready.sound.listed.known a.frames.items ready.states)
    (omega (arith, length-map a.frames.items (rest_of a.tables.steps a.tables.counted.lists), ready.framed, ready.within)) e

looks-pairs : (n : ℕ) (es : List TrailEvent) → pairs_of (looks n es) ≡ pairs_of es
unfolding looks
looks-pairs zero es = refl
looks-pairs (suc n) es = looks-pairs n es

pub pairs_by : (a b : Walk) (result : Option ℕ) (n : ℕ) →
    MatchOption result ((trail a ≡ looks n []) × (trail b ≡ [])) (λ call. trail a ≡ looks n (Some (b.word.items, call) ∷ trail b))
    → MatchOption result ((pairs_of (trail a) ≡ []) × (pairs_of (trail b) ≡ [])) (λ call. pairs_of (trail a) ≡ (
      b.word.items,
      call,
    ) ∷ pairs_of (trail b))
pairs_by a b None n is = (ap pairs_of is.0 ∙ looks-pairs n [], ap pairs_of is.1)
pairs_by a b (Some call) n is = ap pairs_of is ∙ looks-pairs n (Some (b.word.items, call) ∷ trail b)

pub cost_by : (a b : Walk) → IsReady a → (result : Option ℕ) (n : ℕ) →
    MatchOption result ((trail a ≡ looks n []) × (trail b ≡ [])) (λ call. trail a ≡ looks n (Some (b.word.items, call) ∷ trail b)) →
    n ≤ 2 * (a.limit * a.tables.steps.letters)
cost_by a b ready None n is = cost_of a ready n [] is.0
cost_by a b ready (Some call) n is = cost_of a ready n (Some (b.word.items, call) ∷ trail b) is
