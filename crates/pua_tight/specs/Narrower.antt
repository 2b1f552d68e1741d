-- When a script, and the world that it leaves, has nothing beyond another's: the same requests but for keywords of pledges and
-- letters of unveils that are left out, and processes that keep the same but for what these gave.
use Rattle.std.specs.Prelude.{◌≡◌, ℕ, List, [], ◌∷◌, Option, Some, None, IsTrue}
use Rattle.pua_calls.specs.Promises.{holds}
use Rattle.pua_policy.specs.States.{ProcessState}
use Rattle.pua_policy.specs.declared.place.Place.{Place}
use Rattle.pua_script.specs.Requests.{Asked}
use Rattle.pua_script.specs.Replay.{World}
use Rattle.pua_script.specs.declared.request.Given.{Given}
use Rattle.pua_script.specs.declared.request.Given.TheVariants.{Null, Good, Unknown}
use Rattle.pua_script.specs.declared.request.Action.{Action}
use Rattle.pua_script.specs.declared.request.Action.TheVariants.{Pledge, Unveil}

-- a set that was given, and one that has all of its members
pub data SetWithin : Option ℕ → Option ℕ → Type 0 where
  unset : SetWithin None None
  within : {a b : ℕ} → IsTrue (holds b a) → SetWithin (Some a) (Some b)

-- veils of the same places in one order, each with letters within the other's
pub data VeilsWithin : List (Place × ℕ) → List (Place × ℕ) → Type 0 where
  no_veils : VeilsWithin [] []
  veils_too : {place : Place} {a b : ℕ} {vs ws : List (Place × ℕ)} → IsTrue (holds b a) → VeilsWithin vs ws →
      VeilsWithin ((place, a) ∷ vs) ((place, b) ∷ ws)

-- what a process keeps, and what one keeps that has all of it: fewer promises and letters, and all else the same
pub record StateWithin (tight given : ProcessState) : Type 0 where
  pub promises : SetWithin tight.promises given.promises
  pub execpromises : SetWithin tight.execpromises given.execpromises
  pub veils : VeilsWithin tight.veils given.veils
  pub locked : tight.locked ≡ given.locked
  pub start : tight.start ≡ given.start
  pub ended : tight.ended ≡ given.ended
  pub files : tight.files ≡ given.files

-- processes of the same numbers in one order, each within the other
pub data ProcessesWithin : List (ℕ × ProcessState) → List (ℕ × ProcessState) → Type 0 where
  nobody : ProcessesWithin [] []
  somebody : {process : ℕ} {h k : ProcessState} {hs ks : List (ℕ × ProcessState)} → StateWithin h k → ProcessesWithin hs ks →
      ProcessesWithin ((process, h) ∷ hs) ((process, k) ∷ ks)

-- one tree, and such processes
pub record WorldWithin (tight given : World) : Type 0 where
  pub tree : tight.tree ≡ given.tree
  pub processes : ProcessesWithin tight.processes given.processes

-- an argument of pledge with fewer keywords; NULL and one with an unknown keyword stay
pub data GivenWithin : Given → Given → Type 0 where
  given_none : GivenWithin Null Null
  given_unknown : GivenWithin Unknown Unknown
  given_less : {a b : ℕ} → IsTrue (holds b a) → GivenWithin (Good a) (Good b)

-- a request as it was, or a pledge or an unveil of fewer keywords or letters
pub data ActionWithin : Action → Action → Type 0 where
  as_given : {action : Action} → ActionWithin action action
  less_pledged : {p q e f : Given} → GivenWithin p q → GivenWithin e f → ActionWithin (Pledge p e) (Pledge q f)
  less_unveiled : {path : List ℕ} {a b : ℕ} → IsTrue (holds b a) → ActionWithin (Unveil path (Some a)) (Unveil path (Some b))

pub record AskWithin (tight given : Asked) : Type 0 where
  pub process : tight.process ≡ given.process
  pub action : ActionWithin tight.action given.action

-- request by request
pub data AsksWithin : List Asked → List Asked → Type 0 where
  no_asks : AsksWithin [] []
  asks : {x y : Asked} {xs ys : List Asked} → AskWithin x y → AsksWithin xs ys → AsksWithin (x ∷ xs) (y ∷ ys)
