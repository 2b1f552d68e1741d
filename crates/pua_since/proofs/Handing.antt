-- What is kept of all questions holds behind a further request too.
use Rattle.pua_since.proofs.Common.{◌≡◌, ℕ, zero, suc, ◌<◌, List, [], ◌∷◌, ◌++◌, map, length, true, false, Some, None, Option, refl, sym}
use Rattle.pua_since.proofs.Common.{ap, subst, ◌∙◌, arith, slice_get, false≢true, slice_get_within, CallTable}
use Rattle.pua_since.proofs.Common.{Asked, World, answers_to, apply, world_after, Answer, Okay, Action, Fork, has_changed, has_forked}
use Rattle.pua_since.proofs.Common.{AreServed, AreWatched, IsWatched, fork_seen, forks_done, forks_left, forebear, forebear_by, made_by}
use Rattle.pua_since.proofs.Common.{Question, Watch, Watches, one_request_more}
use Rattle.std.proofs.Common.{◌↔◌}
use Rattle.std.specs.Prelude.{All, IsSome, max, slice_set}
use Rattle.std.specs.Option.{option_to_list}
use Rattle.std.proofs.lemmas.List.{reverse-append}
use Rattle.std.proofs.lemmas.List.Elements.{All-push, All-same, All-set, All-weaker, AllWithin-from_all}
use Rattle.std.proofs.lemmas.Option.{get_or_from_slice_get}
use Rattle.pua_since.specs.Changes.{LeavesAsIs}
use Rattle.pua_since.specs.Watched.{IsAbout, IsBegunIn, fork_told}
use Rattle.pua_since.specs.declared.watches.Fork.{Fork as Made}
use Rattle.pua_since.proofs.Forks.{forebears_tell}
use Rattle.pua_since.proofs.Sparing.{same_told}
use Rattle.pua_since.proofs.Watching.{begun, came_itself, not_forked, stays_spared}

no_fork : (ask : Asked) (answer : Answer) (more : List (ℕ × ℕ)) → has_forked ask.action answer ≡ false → fork_told ask answer more ≡ more
no_fork ask answer more = by answer ask.action
  where
    by : (answer : Answer) (action : Action) → has_forked action answer ≡ false →
        fork_told (record ask { action = action }) answer more ≡ more
    by Okay (Fork new) e = cc
    by Okay _ e = refl
    by _ action e = refl

one_fork : (ask : Asked) (answer : Answer) (more : List (ℕ × ℕ)) → has_forked ask.action answer ≡ true →
    (fork : ℕ × ℕ) × (fork_told ask answer more ≡ fork ∷ more)
one_fork ask answer more = by answer ask.action
  where
    by : (answer : Answer) (action : Action) → has_forked action answer ≡ true →
        (fork : ℕ × ℕ) × (fork_told (record ask { action = action }) answer more ≡ fork ∷ more)
    by Okay (Fork new) e = ((ask.process, new), refl)
    by Okay _ e = absurd (false≢true e)
    by _ action e = absurd (false≢true e)

-- a list from which nothing was taken is empty
pub emptied : (made : Option Made) (n : ℕ) → (IsSome made ↔ (0 < n)) → made ≡ None → n ≡ 0
emptied None zero known is = refl
emptied None (suc n) known is = absurd (false≢true (known.1 (omega arith)))
emptied (Some fork) n known is = cc

-- the first fork that is left is the last one that is kept
popped : (kept : List Made) (made : Option Made) (all : List Made) (first : ℕ × ℕ) (rest : List (ℕ × ℕ)) →
    all ≡ kept ++ option_to_list made → (made ≡ None → length all ≡ 0) → made_by all ≡ first ∷ rest → made_by kept ≡ rest
popped kept None all first rest is none made = absurd (empty all (none refl) made)
  where
    empty : (all : List Made) → length all ≡ 0 → made_by all ≡ first ∷ rest → ⊥
    empty [] none made = cc
    empty (fork ∷ all) none made = absurd (omega (arith, none))
popped kept (Some fork) all first rest is none made =
    let turned : made_by all ≡ fork_seen fork ∷ made_by kept = ap made_by is
    ∙ ap (λ (forks : List Made). map fork_seen forks) (reverse-append kept (fork ∷ [])) in
    let both : (fork_seen fork ∷ made_by kept) ≡ (first ∷ rest) = sym turned ∙ made in
    same (fork_seen fork) first (made_by kept) rest both
  where
    same : (a b : ℕ × ℕ) (more others : List (ℕ × ℕ)) → (a ∷ more) ≡ (b ∷ others) → more ≡ others
    same a b more others e = cc

module _ (table : CallTable) (w : World) (done : List Asked) (ask : Asked) (left : List Asked) (s : Watches)
    (watched : AreWatched table w done (ask ∷ left) s) where
  abbrev Before : World
  Before = world_after table w done

  abbrev Next : World
  Next = (apply table (world_after table w done) ask).1

  abbrev Later : List (ℕ × ℕ)
  Later = forks_done left (answers_to table (apply table (world_after table w done) ask).1 left)

  -- no process was made
  pub stay_served : has_forked ask.action (apply table Before ask).0 ≡ false → AreServed table w done ask left s
  stay_served none = record { forks = watched.forks ∙ no_fork ask (apply table Before ask).0 Later none; each = watched.each }

  -- one was
  pub are_served : (kept : List Made) (made : Option Made) (after : Watches) → has_forked ask.action (apply table Before ask).0 ≡ true
      → s.forks.items ≡ kept ++ option_to_list made → (made ≡ None → length s.forks.items ≡ 0) → after.forks.items ≡ kept →
      after.watches ≡ s.watches → AreServed table w done ask left after
  are_served kept made after forked is none forks same =
      let first = one_fork ask (apply table Before ask).0 Later forked in
      let now : made_by kept ≡ Later = popped kept made s.forks.items first.0 Later is none (watched.forks ∙ first.1) in
      record {
        forks = ap made_by forks ∙ now;
        each = subst (λ watches. All (IsWatched table w done (ask ∷ left)) watches.items) (sym same) watched.each;
      }

  -- nothing was changed
  pub stay_watched : has_changed ask.action (apply table Before ask).0 ≡ false → Next ≡ Before →
      AreWatched table w (done ++ ask ∷ []) left s
  stay_watched none same =
      let alone = not_forked ask.action (apply table Before ask).0 none in
      record {
        forks = (stay_served alone).forks ∙ ap (λ v. forks_done left (answers_to table v left)) (sym (one_request_more table w done ask));
        each = All-weaker (IsWatched table w done (ask ∷ left)) (IsWatched table w (done ++ ask ∷ []) left)
            (λ watch. stays_spared table w done ask left watch (λ process. came_itself table Before ask process alone)
            (same_told table Before Next (forebear table Next left watch.process) watch.question watch.told same))
            s.watches.items watched.each;
      }

-- a question is added at the start
pub one_added : (table : CallTable) (w : World) (left : List Asked) (s after : Watches) (process asker : ℕ) (question : Question)
    (last : ℕ) (watch : Watch) → AreWatched table w [] left s
    → asker ≡ forebear_by (forks_left s) process → IsAbout process question last watch → IsBegunIn table w asker watch →
    after.forks ≡ s.forks → after.watches.items ≡ s.watches.items ++ watch ∷ [] → AreWatched table w [] left after
one_added table w left s after process asker question last watch watched is about at_first forks watches = record {
  forks = ap (λ made. made_by made.items) forks ∙ watched.forks;
  each = All-same (IsWatched table w [] left) after.watches.items (s.watches.items ++ watch ∷ []) watches
      (All-push (IsWatched table w [] left) s.watches.items watch watched.each
      (begun table w left process asker question last watch
      (is ∙ ap (λ made. forebear_by made process) watched.forks ∙ forebears_tell table w left process) about at_first));
}

-- the answer to a question is wanted longer at the start
pub wanted_by_set : (table : CallTable) (w : World) (left : List Asked) (watches : List Watch) (i : ℕ) (old new : Watch) (last : ℕ) →
    slice_get watches i ≡ Some old → new ≡ record old { last = max old.last last } → All (IsWatched table w [] left) watches →
    All (IsWatched table w [] left) (slice_set watches i new)
wanted_by_set table w left watches i old new last here is each =
    let within : i < length watches = slice_get_within watches i old here in
    let was : IsWatched table w [] left old = subst (IsWatched table w [] left) (get_or_from_slice_get watches i old old here)
    (AllWithin-from_all (IsWatched table w [] left) watches each i old (omega arith) within) in
    let longer : IsWatched table w [] left (record old { last = max old.last last }) = record {
      told = λ wanted. was.told (omega arith);
      line = λ wanted. was.line (omega arith);
    } in
    All-set (IsWatched table w [] left) watches i new (subst (IsWatched table w [] left) (sym is) longer) each

-- the same by what is known of an answer
pub told_stay : (action : Action) (answer : Answer) → LeavesAsIs action answer → has_changed action answer ≡ false →
    (table : CallTable) (w : World) (done : List Asked) (ask : Asked) (left : List Asked) (s : Watches) →
    action ≡ ask.action → answer ≡ (apply table (world_after table w done) ask).0 →
    AreWatched table w done (ask ∷ left) s → AreWatched table w (done ++ ask ∷ []) left s
told_stay action answer leaves none table w done ask left s is told watched =
    let here : LeavesAsIs ask.action answer = subst (λ a. LeavesAsIs a answer) is leaves in
    stay_watched table w done ask left s watched ((λ i. has_changed (sym is i) (sym told i)) ∙ none)
    (here table (world_after table w done) ask.process told)
