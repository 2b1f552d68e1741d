-- Which promise opens what is refused without it.
use Rattle.pua_why.proofs.Common.{◌≡◌, refl, ℕ, List, Some, None, Outcome, Fault, refused_by}
use Rattle.std.specs.Prelude.{Ok, Err}
use Rattle.pua_why.specs.Openings.{promise_where}

-- none opens what is let through without it
pub let_through : (promise : List ℕ) (d : Outcome Fault) → None ≡ refused_by d → None ≡ promise_where promise d
let_through promise (Ok _) none = refl
let_through promise (Err fault) none = cc

pub kept_out : (promise : List ℕ) (fault : Fault) (d : Outcome Fault) → Some fault ≡ refused_by d → Some promise ≡ promise_where promise d
kept_out promise fault (Ok _) some = cc
kept_out promise fault (Err other) some = refl
