-- Notes: what a reader of a line adds to the requests before it.
use Rattle.std.specs.Prelude.{◌≡◌, ◌≢◌, ◌∷◌, ◌++◌, [], ℕ, List, Result, Ok, Err, MatchResult, ⊤}
use Rattle.pua_script.specs.Requests.{Asked}
use Rattle.pua_script.specs.declared.request.Action.{Action}
use Rattle.pua_script.specs.declared.fault.ScriptFault.{ScriptFault}
use Rattle.pua_script.specs.declared.fault.ScriptFault.TheVariants.{OutOfMemory}

-- where a request comes from: its line's number, and the process that asks
pub record LineOf : Type 0 where
  pub line : ℕ
  pub process : ℕ

-- a reader adds a request for the action of the definition, unless a growth was refused
abbrev pub IsActionAdded : Result Action ScriptFault → ℕ → List Asked → List Asked → Result ⊤ ScriptFault → Type 0
IsActionAdded rule process before after read = MatchResult read
    (λ _. (action : Action) × (rule ≡ Ok action) × (after ≡ before ++ record { process = process; action = action } ∷ []))
    (λ fault. fault ≢ OutOfMemory → rule ≡ Err fault)

-- the same with the whole request
abbrev pub IsRequestAdded : Result Asked ScriptFault → List Asked → List Asked → Result ⊤ ScriptFault → Type 0
IsRequestAdded rule before after read = MatchResult read
    (λ _. (request : Asked) × (rule ≡ Ok request) × (after ≡ before ++ request ∷ []))
    (λ fault. fault ≢ OutOfMemory → rule ≡ Err fault)
