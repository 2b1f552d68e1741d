-- What candidates are, as they are read one after another.
use Rattle.pua_audit.proofs.Common.{◌≡◌, ℕ, suc, List, [], ◌∷◌, ◌++◌, refl, sym, ap, ◌∙◌, append_assoc, Result, Ok, Err, result_ok, name_of}
use Rattle.pua_audit.proofs.Common.{◌>>=◌, candidates_from, AuditFault}
use Rattle.std.specs.Prelude.{ok_or}
use Rattle.pua_audit.specs.declared.fault.AuditFault.TheVariants.{BadCandidate}

-- candidates that were read, in front of the further ones
abbrev pub with_read : List (List ℕ) → Result (List (List ℕ)) AuditFault → Result (List (List ℕ)) AuditFault
with_read done (Ok more) = Ok (done ++ more)
with_read done (Err fault) = Err fault

with_read-more : (done : List (List ℕ)) (name : List ℕ) (r : Result (List (List ℕ)) AuditFault) →
    with_read done (r >>= λ names. Ok (name ∷ names)) ≡ with_read (done ++ name ∷ []) r
with_read-more done name (Ok more) = ap Ok (sym (append_assoc done (name ∷ []) more))
with_read-more done name (Err fault) = refl

-- one more candidate spells a name
pub candidate_read : (n : ℕ) (text : List ℕ) (texts done : List (List ℕ)) (name : List ℕ) → name_of text ≡ Ok name
    → with_read done (candidates_from n (text ∷ texts)) ≡ with_read (done ++ name ∷ []) (candidates_from (suc n) texts)
candidate_read n text texts done name e =
    ap (λ r. with_read done (ok_or (result_ok r) (BadCandidate n) >>= λ m. candidates_from (suc n) texts >>= λ names. Ok (m ∷ names))) e
    ∙ with_read-more done name (candidates_from (suc n) texts)
