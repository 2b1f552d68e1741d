-- What an audit begins with, or the first fault, test by test.
use Rattle.pua_audit.proofs.Common.{◌≡◌, ℕ, suc, ◌+◌, ◌*◌, ◌≤◌, List, Bool, length, sym, ap, subst, ◌∙◌, add-one, Result, Ok, Err}
use Rattle.pua_audit.proofs.Common.{le-leb, ◌>>=◌, Tree, CallTable, ProcessState, Scope, candidates_from, longest, Base, AuditFault}
use Rattle.std.specs.Prelude.{Option, nat_le}
use Rattle.pua_audit.specs.Reach.{alphabet_of}
use Rattle.pua_audit.specs.Begin.{Beginning, fault_unless, beginning}
use Rattle.pua_audit.specs.Starting.{begun_in}
use Rattle.pua_audit.specs.declared.fault.AuditFault.TheVariants.{LimitTooLarge, TooLong, TooManyNames}

module _ (t : Tree) (table : CallTable) (h : ProcessState) (base : Base) (texts : List (List ℕ)) (limit : ℕ) (after : Option (List ℕ)) where
  abbrev scope_of : List (List ℕ) → Scope
  scope_of alphabet = record { tree = t; table = table; process = h; base = base; alphabet = alphabet; limit = limit }

  -- the last two tests
  abbrev ending : List (List ℕ) → Bool → Result Beginning AuditFault
  ending candidates short = fault_unless short TooLong >>= λ _. begun_in (scope_of (alphabet_of t candidates)) after

  abbrev is_short : List (List ℕ) → Bool
  is_short candidates = nat_le (limit * suc (longest (alphabet_of t candidates))) 1023

  -- all tests
  abbrev tested : Bool → Bool → Result (List (List ℕ)) AuditFault → Result Beginning AuditFault
  tested small few read = do
    _ ← fault_unless small LimitTooLarge
    _ ← fault_unless few TooManyNames
    candidates ← read
    ending candidates (is_short candidates)

  module _ (small : limit ≤ 16) (few : length texts ≤ 1024) where
    pub bad_candidate : (fault : AuditFault) → candidates_from 1 texts ≡ Err fault → beginning t table h base texts limit after ≡ Err fault
    bad_candidate fault bad = (λ i. tested (le-leb limit 16 small i) (le-leb (length texts) 1024 few i) (bad i))

    module _ (candidates : List (List ℕ)) (read : candidates_from 1 texts ≡ Ok candidates) where
      pub begun : (letters : List (List ℕ)) → letters ≡ alphabet_of t candidates → limit * suc (longest letters) ≤ 1023 →
          beginning t table h base texts limit after ≡ begun_in (scope_of letters) after
      begun letters same short =
          (λ i. tested (le-leb limit 16 small i) (le-leb (length texts) 1024 few i) (read i))
          ∙ ap (ending candidates) (le-leb _ 1023 (subst (λ l. limit * suc (longest l) ≤ 1023) same short))
          ∙ ap (λ l. begun_in (scope_of l) after) (sym same)

-- the same product, of equal factors
pub same_product : (from limit result most : ℕ) → from ≡ limit → result ≡ most → from * (result + 1) ≡ limit * suc most
same_product from limit result most f r = (λ i. f i * (r i + 1)) ∙ ap (λ n. limit * n) (add-one most)
