-- What follows from what an answer or a fault says.
use Rattle.std.specs.Prelude.{◌≡◌, ℕ, List, Result, Ok, Err, OnOk, IfErr, IfOk}
use Rattle.std.proofs.Common.{subst}

-- what follows from what an answer or a fault says is said of it too
pub if_err : {T E : Type 0} {P Q : E → Type 0} (r : Result T E) → ((fault : E) → P fault → Q fault) → IfErr r P → IfErr r Q
if_err (Ok value) so p = p
if_err (Err fault) so p = so fault p

pub if_ok : {T E : Type 0} {P Q : T → Type 0} (r : Result T E) → ((value : T) → P value → Q value) → IfOk r P → IfOk r Q
if_ok (Ok value) so p = so value p
if_ok (Err fault) so p = p

-- a text that an answer tells, told otherwise
pub ok_text : {T E : Type 0} (r : Result T E) (new : List ℕ) {a b : List ℕ} → a ≡ b → OnOk r (new ≡ a) → OnOk r (new ≡ b)
ok_text r new is p = subst (λ t. OnOk r (new ≡ t)) is p
