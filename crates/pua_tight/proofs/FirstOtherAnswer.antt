-- Answers of a world, one after another, and the first that is another one than is wanted.
use Rattle.std.proofs.Common.{◌≡◌, ℕ, zero, suc, List, [], ◌∷◌, ◌+◌, ◌<◌, ◌≤◌, ◌∙◌, refl, sym, ap, cond, length, drop, get_or, arith, Bool, true, false}
use Rattle.std.proofs.Common.{◌≢◌}
use Rattle.std.proofs.lemmas.Bool.{eq-eqb, ne_eqb}
use Rattle.std.proofs.lemmas.Option.{none-some, same_Some, slice_get-get_or}
use Rattle.std.specs.Prelude.{Option, Some, None, option_map, slice_get, ◌==◌, ◌&&◌, is_none}
use Rattle.pua_script.specs.Requests.{Asked}
use Rattle.pua_script.specs.Replay.{answers_to}
use Rattle.pua_script.specs.Worlds.{WorldState, world_of, apply_to}
use Rattle.pua_script.specs.declared.answer.Answer.{Answer}
use Rattle.pua_script.specs.declared.answer.Answer.TheVariants.{Okay}
use Rattle.pua_tight.specs.Tight.{answer_number, same_answers}
use Rattle.pua_tight.specs.Starts.{first_from}
use Rattle.pua_tight.specs.Uses.{first_other}
use Rattle.pua_tight.proofs.Tightened.{same_number}

-- answers are the same where there is no first other one
pub same_by_first : (xs ys : List Answer) → same_answers xs ys ≡ is_none (first_other xs ys)
same_by_first [] [] = refl
same_by_first [] (y ∷ ys) = refl
same_by_first (x ∷ xs) [] = refl
same_by_first (x ∷ xs) (y ∷ ys) =
    by (answer_number x == answer_number y) (first_other xs ys) (same_by_first xs ys)
  where
    by : (b : Bool) (o : Option ℕ) → same_answers xs ys ≡ is_none o → (b && same_answers xs ys) ≡ is_none (cond b (option_map suc o) (Some 0))
    by true None e = e
    by true (Some n) e = e
    by false o e = refl

-- nothing is another one than itself
pub first_self : (xs : List Answer) → first_other xs xs ≡ None
first_self [] = refl
first_self (x ∷ xs) =
    ap (λ b. cond b (option_map suc (first_other xs xs)) (Some 0)) (eq-eqb (answer_number x) (answer_number x) refl)
    ∙ ap (option_map suc) (first_self xs)

further : (gone : ℕ) (o : Option ℕ) → option_map (λ n. gone + n) (option_map suc o) ≡ option_map (λ n. (gone + 1) + n) o
further gone None = refl
further gone (Some n) = let e : gone + suc n ≡ (gone + 1) + n = omega arith in ap Some e

-- what is left of a list from an index on
pub dropped : {X : Type 0} (xs : List X) (index : ℕ) (x : X) → slice_get xs index ≡ Some x → drop index xs ≡ x ∷ drop (index + 1) xs
dropped {X = X} xs index x e = let last : suc index ≡ index + 1 = omega arith in by xs index e ∙ ap (λ n. x ∷ drop n xs) last
  where
    by : (xs : List X) (index : ℕ) → slice_get xs index ≡ Some x → drop index xs ≡ x ∷ drop (suc index) xs
    by [] index e = absurd (none-some x e)
    by (y ∷ xs) zero e = ap (λ y. y ∷ xs) (same_Some y x e)
    by (y ∷ xs) (suc index) e = by xs index e

pub gone_by : {X : Type 0} (xs : List X) (index : ℕ) → length xs ≤ index → drop index xs ≡ []
gone_by [] zero past = refl
gone_by [] (suc index) past = refl
gone_by (x ∷ xs) zero past = absurd (omega (arith, past))
gone_by (x ∷ xs) (suc index) past = gone_by xs index (omega (arith, past))

-- the requests from an index on are served in a world, which answers this: the first that is another one
abbrev pub IsServedTo : Option ℕ → List Asked → List Answer → ℕ → WorldState → Type 0
IsServedTo first asks wanted index now =
    first ≡ first_from index (answers_to now.table (world_of now) (drop index asks)) (drop index wanted)

module _ (first : Option ℕ) (now after : WorldState) (asks : List Asked) (wanted : List Answer) (index : ℕ) (ask : Asked) (answer : Answer)
    (there : slice_get asks index ≡ Some ask) (served : (answer, after) ≡ apply_to now ask) (so_far : IsServedTo first asks wanted index now) where
  abbrev more : List Answer
  more = answers_to after.table (world_of after) (drop (index + 1) asks)

  -- one more was answered
  one_more : first ≡ first_from index (answer ∷ more) (drop index wanted)
  one_more = so_far ∙ ap (λ l. first_from index (answers_to now.table (world_of now) l) (drop index wanted)) (dropped asks index ask there)
      ∙ ap (λ done. first_from index (done.0 ∷ answers_to done.1.table (world_of done.1) (drop (index + 1) asks)) (drop index wanted)) (sym served)

  pub goes_on : (b : Answer) → slice_get wanted index ≡ Some b → b ≡ answer → IsServedTo first asks wanted (index + 1) after
  goes_on b wants same =
      let rest : List Answer = drop (index + 1) wanted in
      one_more ∙ ap (first_from index (answer ∷ more)) (dropped wanted index b wants)
      ∙ ap (λ x. option_map (λ n. index + n) (cond x (option_map suc (first_other more rest)) (Some 0)))
      (eq-eqb (answer_number answer) (answer_number b) (ap answer_number (sym same)))
      ∙ further index (first_other more rest)

  here : index + 0 ≡ index
  here = omega arith

  pub stops : (b : Answer) → slice_get wanted index ≡ Some b → b ≢ answer →
      Some index ≡ first
  stops b wants other =
      let rest : List Answer = drop (index + 1) wanted in
      sym (one_more ∙ ap (first_from index (answer ∷ more)) (dropped wanted index b wants)
      ∙ ap (λ x. option_map (λ n. index + n) (cond x (option_map suc (first_other more rest)) (Some 0)))
      (ne_eqb (answer_number answer) (answer_number b) (λ e. other (sym (same_number answer b e))))
      ∙ ap Some here)

  pub stops_beyond : length wanted ≤ index → Some index ≡ first
  stops_beyond past = sym (one_more ∙ ap (first_from index (answer ∷ more)) (gone_by wanted index past) ∙ ap Some here)

-- all were served
module _ (first : Option ℕ) (now : WorldState) (asks : List Asked) (wanted : List Answer) (index : ℕ) (so_far : IsServedTo first asks wanted index now)
    (past : length asks ≤ index) where
  at_end : first ≡ first_from index [] (drop index wanted)
  at_end = so_far ∙ ap (λ l. first_from index (answers_to now.table (world_of now) l) (drop index wanted)) (gone_by asks index past)

  pub all_wanted : length wanted ≤ index → None ≡ first
  all_wanted few = sym (at_end ∙ ap (first_from index []) (gone_by wanted index few))

  pub more_wanted : index < length wanted → Some index ≡ first
  more_wanted less =
      let none : index + 0 ≡ index = omega arith in
      let one : Answer = get_or wanted index Okay in
      sym (at_end ∙ ap (first_from index []) (dropped wanted index one (slice_get-get_or wanted index Okay less)) ∙ ap Some none)

-- and behind one that is as is wanted
pub first_same : (x : Answer) (xs ys : List Answer) → first_other (x ∷ xs) (x ∷ ys) ≡ option_map suc (first_other xs ys)
first_same x xs ys = ap (λ b. cond b (option_map suc (first_other xs ys)) (Some 0)) (eq-eqb (answer_number x) (answer_number x) refl)
