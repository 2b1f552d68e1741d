-- One question after another is asked again.
use Rattle.pua_since.proofs.Common.{◌≡◌, ℕ, ◌+◌, ◌<◌, ◌≤◌, ◌≢◌, List, [], ◌∷◌, ◌++◌, length, set, get_or, refl, sym, ap, subst, ◌∙◌, arith}
use Rattle.pua_since.proofs.Common.{Asked, World, answers_to, apply, world_after, WorldState, apply_to, state_after_all, world_of}
use Rattle.pua_since.proofs.Common.{TouchesOnly, AreServed}
use Rattle.pua_since.proofs.Common.{AreWatched, forks_done, made_by, IsKeptThrough, IsSameTopic, IsWatched, Touched, Watch}
use Rattle.pua_since.proofs.Common.{Watches, forebear_by, forks_left, one_request_more}
use Rattle.std.specs.List.{AllWithin}
use Rattle.std.proofs.lemmas.List.{length-set, get_or-set_other}
use Rattle.std.proofs.lemmas.List.Elements.{All-same, AllWithin-more_set}
use Rattle.std.proofs.lemmas.Option.{slice_get_read}
use Rattle.pua_since.specs.Watched.{IsAskedOnce}
use Rattle.pua_since.proofs.Forks.{forebears_tell}
use Rattle.pua_since.proofs.Topics.{kept_by_set}
use Rattle.pua_since.proofs.Watching.{asked_or_spared}
use Rattle.pua_since.proofs.Keeping.{kept_twice}

-- the first n were asked again where that may concern them, and the others not yet
pub record AreAsked (now : WorldState) (touched : Touched) (line n : ℕ) (start : Watches) (watches : List Watch) : Type 0 where
  pub kept : IsKeptThrough start.watches.items watches
  pub each : (s : WorldState) (done : List Asked) (ask : Asked) (left : List Asked) →
      now ≡ (apply_to (state_after_all s done) ask).1 → TouchesOnly s.table (world_after s.table (world_of s) done) ask touched →
      line ≡ length done + 1 → AreServed s.table (world_of s) done ask left start →
      AllWithin (IsWatched s.table (world_of s) (done ++ ask ∷ []) left) watches 0 n
      × AllWithin (IsWatched s.table (world_of s) done (ask ∷ left)) watches n (length watches)

-- those behind stay
others : (P : Watch → Type 0) (watches : List Watch) (n : ℕ) (new : Watch) → AllWithin P watches n (length watches) →
    AllWithin P (set watches n new) (n + 1) (length (set watches n new))
others P watches n new each k d low high =
    let past : k ≢ n = omega (arith, low) in
    subst P (sym (get_or-set_other watches n k new d past)) (each k d (omega (arith, low)) (omega (arith, high, length-set watches n new)))

module _ (now : WorldState) (touched : Touched) (line n : ℕ) (start : Watches) (watches : List Watch)
    (so_far : AreAsked now touched line n start watches)
    (within : n < length watches)
    (old new : Watch) (here : old ≡ get_or watches n old) (same : IsSameTopic old new) where
  pub kept_more : IsKeptThrough start.watches.items (set watches n new)
  kept_more = kept_twice start.watches.items watches (set watches n new) so_far.kept
      (kept_by_set watches n old new (slice_get_read watches (length watches) n old refl within here) same)

  pub one_asked : (asker : ℕ) → asker ≡ forebear_by (forks_left start) old.process →
      IsAskedOnce now.table (world_of now) asker touched line old new → AreAsked now touched line (n + 1) start (set watches n new)
  one_asked asker found asked = record {
    kept = kept_more;
    each = λ s done ask left is only number served.
        let w : World = world_of s in
        let next : World = (apply s.table (world_after s.table w done) ask).1 in
        let both = so_far.each s done ask left is only number served in
        let was : IsWatched s.table w done (ask ∷ left) old =
        subst (IsWatched s.table w done (ask ∷ left)) (sym here) (both.1 n old (omega arith) within) in
        let again : IsAskedOnce s.table next asker touched line old new =
        subst (λ v. IsAskedOnce v.table (world_of v) asker touched line old new) is asked in
        let now_is : IsWatched s.table w (done ++ ask ∷ []) left new =
        asked_or_spared s.table w done ask left touched only old new line number was
        (subst (λ who. IsAskedOnce s.table next who touched line old new)
        (found ∙ ap (λ made. forebear_by made old.process) served.forks ∙ forebears_tell s.table next left old.process) again) in (
          AllWithin-more_set watches n new within (IsWatched s.table w (done ++ ask ∷ []) left) both.0 now_is,
          others (IsWatched s.table w done (ask ∷ left)) watches n new both.1,
        );
  }

-- all were asked again
pub all_asked : (now : WorldState) (touched : Touched) (line n : ℕ) (start after : Watches) (watches : List Watch) →
    after.forks ≡ start.forks →
    after.watches.items ≡ watches → AreAsked now touched line n start watches → length watches ≤ n →
    (s : WorldState) (done : List Asked) (ask : Asked) (left : List Asked) →
    now ≡ (apply_to (state_after_all s done) ask).1 → TouchesOnly s.table (world_after s.table (world_of s) done) ask touched →
    line ≡ length done + 1 → AreServed s.table (world_of s) done ask left start →
    AreWatched s.table (world_of s) (done ++ ask ∷ []) left after
all_asked now touched line n start after watches forks is asked all s done ask left at only number served =
    let both = asked.each s done ask left at only number served in
    record {
      forks = ap (λ made. made_by made.items) forks ∙ served.forks
          ∙ ap (λ v. forks_done left (answers_to s.table v left)) (sym (one_request_more s.table (world_of s) done ask));
      each = All-same (IsWatched s.table (world_of s) (done ++ ask ∷ []) left) after.watches.items watches is
          (λ k d within. both.0 k d (omega arith) (omega (arith, within, all)));
    }
