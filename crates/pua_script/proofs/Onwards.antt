-- A script that was read up to some line.
use Rattle.pua_script.proofs.Common.{◌≡◌, ℕ, zero, suc, ◌+◌, ◌<◌, ◌≤◌, Bool, cond, List, [], ◌∷◌, ◌++◌, length, take, refl, sym, ap, ◌∙◌}
use Rattle.pua_script.proofs.Common.{arith, nat_lt, lt-ltb, ◌>>=◌, Asked, request_by}
use Rattle.std.proofs.Common.{◌-◌, Result, Ok, Err}
use Rattle.std.proofs.Common.{append_assoc, append-nil, zero-add}
use Rattle.std.proofs.lemmas.Bool.{le-ltb}
use Rattle.pua_script.specs.declared.fault.ScriptFault.{ScriptFault}
use Rattle.pua_script.specs.declared.fault.ScriptFault.TheVariants.{TooMany}
use Rattle.pua_script.specs.Scripts.{requests_of}
use Rattle.pua_calls.specs.declared.rules.Rules.{Rules}

-- requests, unless there are more lines than may be
abbrev unless_more : Bool → List Asked → Result (List Asked) ScriptFault
unless_more more asks = cond more (Err TooMany) (Ok asks)

module _ (rules : Rules) where
  -- what comes of further lines, after so many of which these requests were read
  abbrev pub onwards : ℕ → ℕ → List Asked → List (List ℕ) → Result (List Asked) ScriptFault
  onwards limit n read texts = requests_of rules (suc n) (take (limit - n) texts) >>= λ more. unless_more (nat_lt limit (n + length texts))
      (read ++ more)

  pub begins : (limit : ℕ) (texts : List (List ℕ)) →
      (requests_of rules 1 (take limit texts) >>= λ requests. unless_more (nat_lt limit (length texts)) requests) ≡ onwards limit 0 [] texts
  begins limit texts = λ i. requests_of rules 1 (take (sym (whole limit) i) texts) >>= λ requests. unless_more
      (nat_lt limit (sym (zero-add (length texts)) i)) requests
    where
      whole : (limit : ℕ) → limit - 0 ≡ limit
      whole limit = omega arith

  pub full : (limit : ℕ) (read : List Asked) (text : List ℕ) (texts : List (List ℕ)) → onwards limit limit read (text ∷ texts) ≡ Err TooMany
  full limit read text texts =
      ap (λ k. requests_of rules (suc limit) (take k (text ∷ texts)) >>= λ more. unless_more (nat_lt limit (limit + suc (length texts)))
      (read ++ more)) (none limit)
      ∙ ap (λ b. unless_more b (read ++ [])) (lt-ltb limit (limit + suc (length texts)) (omega arith))
    where
      none : (limit : ℕ) → limit - limit ≡ 0
      none limit = omega arith

  pub ends : (limit n : ℕ) (read : List Asked) → n ≤ limit → onwards limit n read [] ≡ Ok read
  ends limit n read h =
      ap (λ texts. requests_of rules (suc n) texts >>= λ more. unless_more (nat_lt limit (n + 0)) (read ++ more)) (nothing (limit - n))
      ∙ ap (λ b. unless_more b (read ++ [])) (le-ltb limit (n + 0) (omega (arith, h)))
      ∙ ap Ok (append-nil read)
    where
      nothing : (k : ℕ) → take {A = List ℕ} k [] ≡ []
      nothing zero = refl
      nothing (suc k) = refl

  -- one line, where there may be one more
  one : (limit n : ℕ) (read : List Asked) (text : List ℕ) (texts : List (List ℕ)) → n < limit
      → onwards limit n read (text ∷ texts) ≡ (request_by rules (suc n) text >>= λ ask. requests_of rules (suc (suc n)) (take (limit - suc n) texts) >>=
      λ asks. Ok (ask ∷ asks)) >>= λ more. unless_more (nat_lt limit (n + suc (length texts))) (read ++ more)
  one limit n read text texts h =
      ap (λ k. requests_of rules (suc n) (take k (text ∷ texts)) >>= λ more. unless_more (nat_lt limit (n + suc (length texts))) (read ++ more))
      (less limit n h)
    where
      less : (limit n : ℕ) → n < limit → limit - n ≡ suc (limit - suc n)
      less limit n h = omega arith

  pub refused : (limit n : ℕ) (read : List Asked) (text : List ℕ) (texts : List (List ℕ)) (fault : ScriptFault) → n < limit →
      request_by rules (suc n) text ≡ Err fault → onwards limit n read (text ∷ texts) ≡ Err fault
  refused limit n read text texts fault h is =
      one limit n read text texts h
      ∙ ap (λ r. (r >>= λ ask. requests_of rules (suc (suc n)) (take (limit - suc n) texts) >>= λ asks. Ok (ask ∷ asks)) >>= λ more. unless_more
      (nat_lt limit (n + suc (length texts))) (read ++ more)) is

  pub goes_on : (limit n : ℕ) (read : List Asked) (text : List ℕ) (texts : List (List ℕ)) (ask : Asked) → n < limit →
      request_by rules (suc n) text ≡ Ok ask
      → onwards limit n read (text ∷ texts) ≡ onwards limit (suc n) (read ++ ask ∷ []) texts
  goes_on limit n read text texts ask h is =
      one limit n read text texts h
      ∙ ap (λ r. (r >>= λ ask. requests_of rules (suc (suc n)) (take (limit - suc n) texts) >>= λ asks. Ok (ask ∷ asks)) >>= λ more. unless_more
      (nat_lt limit (n + suc (length texts))) (read ++ more)) is
      ∙ later (requests_of rules (suc (suc n)) (take (limit - suc n) texts)) (n + suc (length texts)) (suc n + length texts) (omega arith)
    where
      later : (r : Result (List Asked) ScriptFault) (a b : ℕ) → a ≡ b
          → ((r >>= λ asks. Ok (ask ∷ asks)) >>= λ more. unless_more (nat_lt limit a) (read ++ more))
          ≡ (r >>= λ more. unless_more (nat_lt limit b) ((read ++ ask ∷ []) ++ more))
      later (Ok asks) a b e = λ i. unless_more (nat_lt limit (e i)) (sym (append_assoc read (ask ∷ []) asks) i)
      later (Err fault) a b e = refl
