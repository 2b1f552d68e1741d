-- A request is served, and the questions that it may concern are asked again.
use Rattle.pua_since.proofs.Common.{◌≡◌, ℕ, ◌+◌, List, [], ◌∷◌, ◌++◌, length, sym, ap, subst, ◌∙◌, CallTable, Asked, World, apply}
use Rattle.pua_since.proofs.Common.{world_after, WorldState, apply_to, state_after_all, world_of, Answer, TouchesOnly, AreServed, AreWatched}
use Rattle.pua_since.proofs.Common.{Touched, Watches}
use Rattle.pua_since.specs.Concerns.{touched_by}
use Rattle.pua_since.proofs.Touching.{touches_only}

-- what is said of asking again
abbrev AsksAgain : WorldState → Touched → ℕ → Watches → Watches → Type 0
AsksAgain after touched line passed later = (s : WorldState) (done : List Asked) (ask : Asked) (left : List Asked) →
    after ≡ (apply_to (state_after_all s done) ask).1 → TouchesOnly s.table (world_after s.table (world_of s) done) ask touched →
    line ≡ length done + 1 → AreServed s.table (world_of s) done ask left passed →
    AreWatched s.table (world_of s) (done ++ ask ∷ []) left later

-- its fork is passed
abbrev Passes : Asked → Answer → Watches → Watches → Type 0
Passes ask answer watches passed = (table : CallTable) (w : World) (done left : List Asked) →
    answer ≡ (apply table (world_after table w done) ask).0 → AreWatched table w done (ask ∷ left) watches →
    AreServed table w done ask left passed

pub served_watched : (before after : WorldState) (watches passed later : Watches) (ask : Asked) (answer : Answer) (touched : Touched)
    (line : ℕ) → touched ≡ touched_by ask answer → after ≡ (apply_to before ask).1 → Passes ask answer watches passed →
    AsksAgain after touched line passed later →
    (s : WorldState) (done left : List Asked) → before ≡ state_after_all s done → answer ≡ (apply_to (state_after_all s done) ask).0 →
    line ≡ length done + 1 →
    AreWatched s.table (world_of s) done (ask ∷ left) watches → AreWatched s.table (world_of s) (done ++ ask ∷ []) left later
served_watched before after watches passed later ask answer touched line is moved passes asking s done left at told number watched =
    let v : World = world_after s.table (world_of s) done in
    asking s done ask left (moved ∙ ap (λ b. (apply_to b ask).1) at)
    (subst (TouchesOnly s.table v ask) (sym (is ∙ ap (touched_by ask) told)) (touches_only s.table v ask))
    number (passes s.table (world_of s) done left told watched)
