-- What is told of a script's lines.
use Rattle.pua_script.proofs.Common.{◌≡◌, ℕ, zero, suc, List, [], ◌∷◌, length, refl, arith, Asked}
use Rattle.std.proofs.Common.{drop, min}
use Rattle.pua_script.specs.Replay.{told}
use Rattle.pua_script.specs.declared.answer.Answer.{Answer}

no_answer : (asks : List Asked) → told asks [] ≡ []
no_answer [] = refl
no_answer (ask ∷ asks) = refl

-- behind the last answer nothing is told
pub none_told : (asks : List Asked) (answers : List Answer) (n : ℕ) → n ≡ min (length asks) (length answers) →
    told (drop n asks) (drop n answers) ≡ []
none_told [] answers zero ended = refl
none_told [] answers (suc n) ended = refl
none_told (ask ∷ asks) [] zero ended = refl
none_told (ask ∷ asks) [] (suc n) ended = no_answer (drop n asks)
none_told (ask ∷ asks) (answer ∷ answers) zero ended = absurd (omega (arith, ended))
none_told (ask ∷ asks) (answer ∷ answers) (suc n) ended = none_told asks answers n (omega (arith, ended))
