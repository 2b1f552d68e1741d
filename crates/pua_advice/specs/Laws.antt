-- What is proved of advices.
use Rattle.std.specs.Prelude.{◌≡◌, ◌↔◌, ◌⊎◌, ℕ, List, Some, None, Ok, Err}
use Rattle.pua_calls.specs.declared.rules.Rules.{Rules}
use Rattle.pua_script.specs.Requests.{Asked}
use Rattle.pua_script.specs.Scripts.{form_of, request_by, script_by}
use Rattle.pua_script.specs.declared.fault.ScriptFault.{ScriptFault}
use Rattle.pua_script.specs.declared.fault.ScriptFault.TheVariants.{TooMany}
use Rattle.pua_advice.specs.Advice.{Advised, UnknownCall, advice_of, script_advice}

-- nothing is said of exactly the lines that ask for something
abbrev pub RefusedAreAdvised : Type 0
RefusedAreAdvised =
    (rules : Rules) (n : ℕ) (line : List ℕ) → (advice_of rules line ≡ None) ↔ ((ask : Asked) × (request_by rules n line ≡ Ok ask))

-- something is said of each script that is refused, but for its length
abbrev pub ScriptsAreAdvised : Type 0
ScriptsAreAdvised =
    (rules : Rules) (script : List ℕ) (fault : ScriptFault) → script_by rules script ≡ Err fault →
    (fault ≡ TooMany) ⊎ ((advice : Advised) × (script_advice rules script fault ≡ Some advice))

-- a word that is said to be no call's is none's by these rules, whatever stands behind it
abbrev pub UnknownAreNone : Type 0
UnknownAreNone =
    (rules : Rules) (line word : List ℕ) → advice_of rules line ≡ Some (UnknownCall word) → (arguments : List (List ℕ)) →
    form_of rules word arguments ≡ None
