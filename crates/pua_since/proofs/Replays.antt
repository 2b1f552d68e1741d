-- The requests of a replay are served one after another.
use Rattle.pua_since.proofs.Common.{◌≡◌, ℕ, zero, suc, ◌+◌, ◌<◌, ◌≤◌, List, [], ◌∷◌, ◌++◌, length, take, drop, get_or, refl, sym, ap, subst}
use Rattle.pua_since.proofs.Common.{◌∙◌, arith, take_all, CallTable, Asked, World, answers_to, apply, world_after, WorldState}
use Rattle.pua_since.proofs.Common.{apply_to, state_after_all, world_of, Answer, AreWatched, IsKeptThrough, Watches, one_request_more}
use Rattle.std.specs.List.{enumerate_from, zip}
use Rattle.std.proofs.Math.Seq.{drop-cons, take-suc}
use Rattle.std.proofs.lemmas.List.{length-take, drop_all}
use Rattle.std.proofs.lemmas.List.FromFn.{length-enumerate_from, get_or-enumerate_from}
use Rattle.std.proofs.lemmas.Slice.Zip.{length-zip, get_or-zip}
use Rattle.pua_script.specs.Worlds.{with_world}
use Rattle.pua_since.proofs.Keeping.{kept_twice}

-- where this turn's request and answer stand
pub one_turn : (asks : List Asked) (told : List Answer) (n index : ℕ) (ask : Asked) (answer : Answer) →
    n < length (enumerate_from 0 (zip asks told)) →
    (index, (ask, answer)) ≡ get_or (enumerate_from 0 (zip asks told)) n (index, (ask, answer)) →
    (n < length asks) × (n < length told) × (index ≡ n) × (ask ≡ get_or asks n ask) × (answer ≡ get_or told n answer)
one_turn asks told n index ask answer within here =
    let pairs : List (Asked × Answer) = zip asks told in
    let inside : n < length pairs = omega (arith, within, length-enumerate_from 0 pairs) in
    let first : n < length asks = omega (arith, inside, length-zip asks told) in
    let second : n < length told = omega (arith, inside, length-zip asks told) in
    let at = here ∙ get_or-enumerate_from 0 pairs n (index, (ask, answer)) inside in
    let pair = ap (λ (turn : ℕ × (Asked × Answer)). turn.1) at ∙ get_or-zip asks told n (ask, answer) first second in (
      first,
      second,
      omega (arith, ap (λ (turn : ℕ × (Asked × Answer)). turn.0) at),
      ap (λ (two : Asked × Answer). two.0) pair,
      ap (λ (two : Asked × Answer). two.1) pair,
    )

length-answers : (table : CallTable) (w : World) (asks : List Asked) → length (answers_to table w asks) ≡ length asks
length-answers table w [] = refl
length-answers table w (ask ∷ asks) = ap suc (length-answers table (apply table w ask).1 asks)

-- the answers behind some requests are those of the world behind them
answers_behind : (table : CallTable) (w : World) (asks : List Asked) (n : ℕ) →
    drop n (answers_to table w asks) ≡ answers_to table (world_after table w (take n asks)) (drop n asks)
answers_behind table w asks zero = refl
answers_behind table w [] (suc n) = refl
answers_behind table w (ask ∷ asks) (suc n) = answers_behind table (apply table w ask).1 asks n

next_answer : (table : CallTable) (w : World) (asks : List Asked) (told : List Answer) (n : ℕ) (ask : Asked) (answer : Answer) →
    told ≡ answers_to table w asks → n < length asks → n < length told →
    ask ≡ get_or asks n ask → answer ≡ get_or told n answer → answer ≡ (apply table (world_after table w (take n asks)) ask).0
next_answer table w asks told n ask answer is first second asked here =
    let v : World = world_after table w (take n asks) in
    let rest : drop n asks ≡ ask ∷ drop (suc n) asks = drop-cons asks n ask first ∙ ap (λ x. x ∷ drop (suc n) asks) (sym asked) in
    let answered : (answer ∷ drop (suc n) told) ≡ answers_to table v (ask ∷ drop (suc n) asks) =
    sym (drop-cons told n answer second ∙ ap (λ x. x ∷ drop (suc n) told) (sym here)) ∙ ap (drop n) is ∙ answers_behind table w asks n
    ∙ ap (answers_to table v) rest in
    head answer (apply table v ask).0 _ _ answered
  where
    head : (a b : Answer) (more others : List Answer) → (a ∷ more) ≡ (b ∷ others) → a ≡ b
    head a b more others e = cc

-- what serving a request says of the questions
abbrev Asks : WorldState → Watches → Asked → Answer → ℕ → Watches → Type 0
Asks now watches ask answer line later = (s : WorldState) (done left : List Asked) → now ≡ state_after_all s done →
    answer ≡ (apply_to (state_after_all s done) ask).0 → line ≡ length done + 1 →
    AreWatched s.table (world_of s) done (ask ∷ left) watches → AreWatched s.table (world_of s) (done ++ ask ∷ []) left later

-- the world behind one request more
pub state_more : (s : WorldState) (done : List Asked) (ask : Asked) →
    (apply_to (state_after_all s done) ask).1 ≡ state_after_all s (done ++ ask ∷ [])
state_more s done ask = ap (with_world s) (sym (one_request_more s.table (world_of s) done ask))

-- the first n requests were served
pub record AreServedSo (s : WorldState) (start : Watches) (asks : List Asked) (told : List Answer) (n : ℕ) (now : WorldState)
    (watches : Watches) : Type 0 where
  pub kept : IsKeptThrough start.watches.items watches.watches.items
  pub world : now ≡ state_after_all s (take n asks)
  pub watched : told ≡ answers_to s.table (world_of s) asks → AreWatched s.table (world_of s) [] asks start →
      AreWatched s.table (world_of s) (take n asks) (drop n asks) watches

module _ (s : WorldState) (start : Watches) (asks : List Asked) (told : List Answer) (n : ℕ) (now : WorldState) (watches : Watches)
    (so_far : AreServedSo s start asks told n now watches) where
  pub one_served : (index : ℕ) (ask : Asked) (answer : Answer) (after : WorldState) (later : Watches)
      → n < length (enumerate_from 0 (zip asks told)) →
      (index, (ask, answer)) ≡ get_or (enumerate_from 0 (zip asks told)) n (index, (ask, answer))
      → Asks now watches ask answer (index + 1) later → after ≡ (apply_to now ask).1 →
      IsKeptThrough watches.watches.items later.watches.items → AreServedSo s start asks told (n + 1) after later
  one_served index ask answer after later within here asking moved kept =
      let turn = one_turn asks told n index ask answer within here in
      let taken : take (n + 1) asks ≡ take n asks ++ ask ∷ [] = ap (λ k. take k asks) (sym count) ∙ take-suc asks n ask turn.0
      ∙ ap (λ x. take n asks ++ x ∷ []) (sym turn.3) in
      let left : drop n asks ≡ ask ∷ drop (n + 1) asks = drop-cons asks n ask turn.0 ∙ (λ i. sym turn.3 i ∷ drop (count i) asks) in
      record {
        kept = kept_twice start.watches.items watches.watches.items later.watches.items so_far.kept kept;
        world = moved ∙ ap (λ v. (apply_to v ask).1) so_far.world ∙ state_more s (take n asks) ask ∙ ap (state_after_all s) (sym taken);
        watched = λ is watched.
            let told_so = next_answer s.table (world_of s) asks told n ask answer is turn.0 turn.1 turn.3 turn.4 in
            let number : index + 1 ≡ length (take n asks) + 1 = omega (arith, turn.0, turn.2, length-take n asks) in
            let before : AreWatched s.table (world_of s) (take n asks) (ask ∷ drop (n + 1) asks) watches =
            subst (λ more. AreWatched s.table (world_of s) (take n asks) more watches) left (so_far.watched is watched) in
            subst (λ done. AreWatched s.table (world_of s) done (drop (n + 1) asks) later) (sym taken)
            (asking s (take n asks) (drop (n + 1) asks) so_far.world told_so number before);
      }
    where
      count : suc n ≡ n + 1
      count = omega arith

  module _ (ended : n ≡ length (enumerate_from 0 (zip asks told))) (is : told ≡ answers_to s.table (world_of s) asks) where
    all_done : length asks ≤ n
    all_done = omega (
      arith,
      ended,
      length-enumerate_from 0 (zip asks told),
      length-zip asks told,
      ap length is,
      length-answers s.table (world_of s) asks,
    )

    pub all_moved : now ≡ state_after_all s asks
    all_moved = so_far.world ∙ ap (state_after_all s) (take_all n asks all_done)

    pub all_watched : AreWatched s.table (world_of s) [] asks start → AreWatched s.table (world_of s) asks [] watches
    all_watched watched =
        subst (λ done. AreWatched s.table (world_of s) done [] watches) (take_all n asks all_done)
        (subst (λ left. AreWatched s.table (world_of s) (take n asks) left watches) (drop_all n asks all_done) (so_far.watched is watched))
