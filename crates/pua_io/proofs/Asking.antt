-- Which inputs are asked for, one after another.
use Rattle.pua_io.proofs.Common.{◌≡◌}
use Rattle.std.proofs.Common.{ℕ, List, [], ◌∷◌, ◌++◌, Some, None, ◌∙◌, ap, append_assoc, refl, subst}
use Rattle.pua_io.specs.Held.{Asked, AsksFor, AsksForFront}

append_none : (names : List (List ℕ)) → names ≡ names ++ []
append_none [] = refl
append_none (name ∷ names) = ap (λ more. name ∷ more) (append_none names)

pub asks_for_nothing : (a : Asked) → AsksFor a a []
asks_for_nothing None = tt
asks_for_nothing (Some before) = ap (λ names. Some names) (append_none before)

pub asks_then : (a b c : Asked) (first more : List (List ℕ)) → AsksFor a b first → AsksFor b c more → AsksFor a c (first ++ more)
asks_then None b c first more one two = tt
asks_then (Some before) b c first more one two =
    subst (λ (between : Asked). AsksFor between c more) one two ∙ ap (λ names. Some names) (append_assoc before first more)

pub whole_asked : (a b : Asked) (names : List (List ℕ)) → AsksFor a b names → AsksForFront a b names
whole_asked a b names asks = record { front = names; rest = []; parts = append_none names; asks = asks }
