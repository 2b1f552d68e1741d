-- The requests of a script's first lines are the first of its requests.
use Rattle.pua_tool.proofs.Common.{◌≡◌, ◌∙◌, ◌∷◌, [], ap, Asked, Err, List, Ok, Option, Result, Some, refl, script_by, subst, sym, ℕ, ◌>>=◌}
use Rattle.std.proofs.Common.{◌≤◌, Bool, true, false, arith, length, nat_lt, suc, take, zero, if◌then◌else◌}
use Rattle.std.proofs.lemmas.Bool.{le-ltb, ltb-false}
use Rattle.std.proofs.lemmas.List.{length-take, take_all}
use Rattle.std.specs.Str.Lines.{lines}
use Rattle.pua_calls.specs.declared.rules.Rules.{Rules}
use Rattle.pua_script.specs.Limits.{most_script_lines}
use Rattle.pua_script.specs.Scripts.{request_by, requests_of}
use Rattle.pua_script.specs.declared.fault.ScriptFault.{ScriptFault}
use Rattle.pua_script.specs.declared.fault.ScriptFault.TheVariants.{TooMany}
use Rattle.pua_tool.specs.Fronts.{first_lines}
use Rattle.pua_tool.specs.FrontLaws.{AreFirst}
use Rattle.pua_tool.proofs.FrontLines.{front_is}

module _ (rules : Rules) where
  abbrev read_within : ℕ → List (List ℕ) → Result (List Asked) ScriptFault
  read_within limit all =
      requests_of rules 1 (take limit all) >>= λ read. if nat_lt limit (length all) then Err TooMany else Ok read

  -- there are no more lines than may be, and their requests are those that are read
  within : (limit : ℕ) (all : List (List ℕ)) (requests : List Asked) → read_within limit all ≡ Ok requests
      → (length all ≤ limit) × (requests_of rules 1 all ≡ Ok requests)
  within limit all requests = by (requests_of rules 1 (take limit all)) refl (nat_lt limit (length all)) refl
    where
      by : (r : Result (List Asked) ScriptFault) → requests_of rules 1 (take limit all) ≡ r → (b : Bool) → nat_lt limit (length all) ≡ b →
          (r >>= λ read. if b then Err TooMany else Ok read) ≡ Ok requests → (length all ≤ limit) × (requests_of rules 1 all ≡ Ok requests)
      by (Err fault) read b many e = cc
      by (Ok found) read true many e = cc
      by (Ok found) read false many e =
          let few : length all ≤ limit = ltb-false limit (length all) many in
          (few, sym (ap (requests_of rules 1) (take_all limit all few)) ∙ read ∙ e)

  read_back : (limit : ℕ) (all : List (List ℕ)) (requests : List Asked) → length all ≤ limit → requests_of rules 1 all ≡ Ok requests
      → read_within limit all ≡ Ok requests
  read_back limit all requests few read =
      ap (λ (r : Result (List Asked) ScriptFault). r >>= λ read. if nat_lt limit (length all) then Err TooMany else Ok read)
      (ap (requests_of rules 1) (take_all limit all few) ∙ read)
      ∙ ap (λ (b : Bool). if b then Err TooMany else Ok requests) (le-ltb limit (length all) few)

  first_asks : (n k : ℕ) (texts : List (List ℕ)) (asks : List Asked) → requests_of rules k texts ≡ Ok asks
      → requests_of rules k (take n texts) ≡ Ok (take n asks)
  first_asks zero k texts asks read = refl
  first_asks (suc n) k [] asks read = let none : [] ≡ asks = cc in ap (λ (a : List Asked). Ok (take (suc n) a)) none
  first_asks (suc n) k (text ∷ texts) asks read =
      by (first_asks n (suc k) texts) (request_by rules k text) refl (requests_of rules (suc k) texts) refl read
    where
      by : ((rest : List Asked) → requests_of rules (suc k) texts ≡ Ok rest → requests_of rules (suc k) (take n texts) ≡ Ok (take n rest))
          → (r : Result Asked ScriptFault) → request_by rules k text ≡ r → (s : Result (List Asked) ScriptFault)
          → requests_of rules (suc k) texts ≡ s → (r >>= λ asked. s >>= λ others. Ok (asked ∷ others)) ≡ Ok asks
          → (request_by rules k text >>= λ asked. requests_of rules (suc k) (take n texts) >>= λ others. Ok (asked ∷ others))
          ≡ Ok (take (suc n) asks)
      by further (Err fault) one s others e = cc
      by further (Ok asked) one (Err fault) others e = cc
      by further (Ok asked) one (Ok rest) others e =
          let same : asked ∷ rest ≡ asks = cc in
          ap (λ (r : Result Asked ScriptFault). r >>= λ asked. requests_of rules (suc k) (take n texts) >>= λ others. Ok (asked ∷ others)) one
          ∙ ap (λ (s : Result (List Asked) ScriptFault). s >>= λ others. Ok (asked ∷ others)) (further rest others)
          ∙ ap (λ (a : List Asked). Ok (take (suc n) a)) same

  pub front_requests : (n : ℕ) (bytes front : List ℕ) (asks : List Asked) → script_by rules bytes ≡ Ok asks
      → first_lines n bytes ≡ Some front → script_by rules front ≡ Ok (take n asks)
  front_requests n bytes front asks read is =
      let first = subst (λ (o : Option (List ℕ)). AreFirst n bytes o) is (front_is n bytes) in
      let all = within most_script_lines (lines bytes) asks read in
      ap (read_within most_script_lines) first.1
      ∙ read_back most_script_lines (take n (lines bytes)) (take n asks) (omega (arith, all.0, length-take n (lines bytes)))
      (first_asks n 1 (lines bytes) asks all.1)
